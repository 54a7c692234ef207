-- What each task of an expression leaves to be done.
use Rattle.std.proofs.Common.{◌≡◌, refl, sym, ap, ap₂, ◌∙◌, ℕ, List, [], ◌∷◌, ◌++◌, Bor, Bool}
use Rattle.isp_base.specs.Sets.{flag_of}
use Rattle.isp_typed.specs.declared.expr.TypedExpr.{TypedExpr}
use Rattle.isp_typed.specs.Views.{expr_of, program_of}
use Rattle.isp_meaning.specs.State.{State}
use Rattle.isp_meaning.specs.Payloads.{Payload}
use Rattle.isp_meaning.specs.Outcomes.{Val, Gives, bind}
use Rattle.isp_gang_values.specs.Seen.{payload_of}
use Rattle.isp_gang_run.specs.Seen.{state_seen}
use Rattle.isp_gang_run.specs.Tasks.{Store, Goes, go, given, does, rest, First, FirstValue, Reaches, Comes, Does, finds, value_at, perhaps, join, store_seen, parts_seen, gang_of}
use Rattle.isp_gang_run.specs.declared.counting.Work.{Work}
use Rattle.isp_gang_run.specs.declared.state.Evaluator.{Evaluator}
use Rattle.isp_gang_run.specs.declared.tasks.Joining.{Joining}
use Rattle.isp_gang_run.specs.declared.tasks.Operation.{Operation}
use Rattle.isp_gang_run.specs.declared.tasks.Task.{Task}
use Rattle.isp_gang_run.specs.declared.tasks.Task.TheVariants as task
use Rattle.isp_gang_run.proofs.Counts.{Adds, work_of, counts_same, counts_one}
use Rattle.isp_gang_run.proofs.Steps.{regiven, then_given, then_given_in, later_store, later_rest}
use Rattle.std.proofs.Common.{◌+◌, subst}
use Rattle.std.proofs.Math.Path.{fun_ext}
use Rattle.isp_base.specs.declared.types.Ty.{Ty}
use Rattle.isp_base.specs.declared.types.Rate.{Rate}
use Rattle.isp_typed.specs.Typed.{t_unary, t_binary, t_compare, t_logic, t_choose, type_of}
use Rattle.isp_meaning.specs.State.{Frame, tick}
use Rattle.isp_meaning.specs.Expressions.{value}
use Rattle.isp_meaning.specs.Calls.{calls_at}
use Rattle.isp_meaning.specs.Outcomes.{value_unless_empty}
use Rattle.std.proofs.Common.{Some, None, true, false}
use Rattle.isp_base.specs.Access.{is_zero}
use Rattle.isp_base.specs.Sets.{any}
use Rattle.isp_base.specs.Traps.{trap}
use Rattle.isp_base.specs.Types.{gang_width}
use Rattle.isp_base.specs.Unary.{unary_bits}
use Rattle.isp_base.specs.Values.{op_bits, compare_bits}
use Rattle.isp_base.specs.declared.types.Elem.{Elem}
use Rattle.isp_base.specs.declared.types.Span.{Span}
use Rattle.isp_base.specs.declared.operators.BinOp.{BinOp}
use Rattle.isp_base.specs.declared.operators.Compare.{Compare}
use Rattle.isp_base.specs.declared.operators.UnaryOp.{UnaryOp}
use Rattle.isp_base.specs.declared.trap.TrapKind.TheVariants.{Divide}
use Rattle.isp_typed.specs.Typed.{TExpr}
use Rattle.isp_typed.specs.declared.variable.Logic.{Logic}
use Rattle.isp_meaning.specs.Expressions.{needs, settled}
use Rattle.isp_meaning.specs.Outcomes.{checked, if_so}
use Rattle.isp_meaning.specs.Payloads.{nothing, mapped, converted, joined, selected, offender, kept_by, is_true, is_false}
use Rattle.isp_gang_values.specs.declared.computed.Computed.{Computed}
use Rattle.isp_gang_run.specs.Tasks.{Traps, Trapped}
use Rattle.isp_gang_run.specs.declared.tasks.Joining.TheVariants as joining

module _ (old new : Evaluator) where
  pub right_does : (j : Joining) (y : Bor TypedExpr) (set : List Bool) → First old new (task.Value y set) (task.Join j old.value set) → Does old new (task.Right j y set)
  right_does j y set f =
      record {
        by = λ w. (
          w,
          then_given (store_seen old w) (value_at (program_of old.program.now) old.turns (store_seen old w) (expr_of y.now) (flag_of set) (state_seen old w))
              (λ n s. join (gang_of (program_of old.program.now) old.turns) j (flag_of set) (payload_of old.value) n s) (rest old) ∙ sym (f.by w),
        );
        counts = λ w k. counts_same old new w f.work k;
      }

  -- ---- what is done with a value alone

  pub valued : new ≡ record old { value = new.value } → (m : Payload) → payload_of new.value ≡ m → (w : ℕ) → go (given (store_seen old w) (Gives m (state_seen old w))) (rest old) ≡ rest new (store_seen new w)
  valued same m e w =
      ap (λ n. rest old (record (store_seen old w) { value = n })) (sym e)
      ∙ sym (ap (λ (x : Evaluator). rest x (store_seen x w)) same)

  pub convert_does : (from to : Elem) → new ≡ record old { value = new.value } → payload_of new.value ≡ mapped (converted from to) (payload_of old.value) → Does old new (task.Convert from to)
  convert_does from to same e = record { by = λ w. (w, valued same _ e w); counts = λ w k. counts_same old new w (ap work_of same) k }

  pub unary_does : (op : UnaryOp) (t : Elem) → new ≡ record old { value = new.value } → payload_of new.value ≡ mapped (unary_bits op t) (payload_of old.value) → Does old new (task.Unary op t)
  unary_does op t same e = record { by = λ w. (w, valued same _ e w); counts = λ w k. counts_same old new w (ap work_of same) k }

  pub settle_does : (l : Logic) (m : Computed) (set : List Bool) → new ≡ record old { value = new.value } → payload_of new.value ≡ settled l (flag_of set) (payload_of m) (payload_of old.value) → Does old new (task.Settle l m set)
  settle_does l m set same e = record { by = λ w. (w, valued same _ e w); counts = λ w k. counts_same old new w (ap work_of same) k }

  pub select_does : (k m : Computed) (set : List Bool) → new ≡ record old { value = new.value } → payload_of new.value ≡ selected (flag_of set) (payload_of k) (payload_of m) (payload_of old.value) → Does old new (task.Select k m set)
  select_does k m set same e = record { by = λ w. (w, valued same _ e w); counts = λ w k. counts_same old new w (ap work_of same) k }

  pub compare_does : (c : Compare) (t : Elem) (m : Computed) (set : List Bool) → new ≡ record old { value = new.value }
      → payload_of new.value ≡ joined (compare_bits c t) (flag_of set) (payload_of m) (payload_of old.value)
      → Does old new (task.Join (joining.Compare c t) m set)
  compare_does c t m set same e = record { by = λ w. (w, valued same _ e w); counts = λ w k. counts_same old new w (ap work_of same) k }

  pub operate_does : (op : Operation) (m : Computed) (set : List Bool) → offender (gang_width old.program.now.gang) (is_zero op.operator op.elem) (flag_of set) (payload_of old.value) ≡ None
      → new ≡ record old { value = new.value } → payload_of new.value ≡ joined (op_bits op.operator op.elem) (flag_of set) (payload_of m) (payload_of old.value) → Does old new (task.Join (joining.Operate op) m set)
  operate_does op m set none same e =
      record {
        by = λ w. (
          w,
          ap (λ o. go (given (store_seen old w)
              (checked o Divide op.span (state_seen old w) (joined (op_bits op.operator op.elem) (flag_of set) (payload_of m) (payload_of old.value))))
              (rest old)) none ∙ valued same _ e w,
        );
        counts = λ w k. counts_same old new w (ap work_of same) k;
      }

  pub operate_traps : (op : Operation) (m : Computed) (set : List Bool) (p : ℕ) → offender (gang_width old.program.now.gang) (is_zero op.operator op.elem) (flag_of set) (payload_of old.value) ≡ Some p
      → new ≡ old → Traps old new (task.Join (joining.Operate op) m set) (trap Divide op.span p)
  operate_traps op m set p some same =
      record {
        by = λ w. (
          w,
          ap (λ o. given (store_seen old w)
              (checked o Divide op.span (state_seen old w) (joined (op_bits op.operator op.elem) (flag_of set) (payload_of m) (payload_of old.value))))
              some ∙ sym (ap (λ (x : Evaluator). Trapped (trap Divide op.span p) (state_seen x w)) same),
        );
        counts = λ w k. counts_same old new w
            (ap work_of same) k;
      }

  -- ---- a value over a set that may be empty

  pub some_value : (x : Bor TypedExpr) (set : List Bool) (t : Task) → any (gang_width old.program.now.gang) (flag_of set) ≡ true → First old new (task.Value x set) t → FirstValue old new (expr_of x.now) (flag_of set) t
  some_value x set t is f =
      record {
        by = λ w. f.by w ∙ sym (ap (λ b. go (given (store_seen old w)
            (if_so b (value_at (program_of old.program.now) old.turns (store_seen old w) (expr_of x.now) (flag_of set)) (Gives nothing)
            (state_seen old w))) (λ r. go (does old t r) (rest old))) is);
        work = f.work;
      }

  pub logic_does : (l : Logic) (y : Bor TypedExpr) (set needed : List Bool) → flag_of needed ≡ kept_by (needs l) (flag_of set) (payload_of old.value)
      → FirstValue old new (expr_of y.now) (flag_of needed) (task.Settle l old.value set) → Does old new (task.Logic l y set)
  logic_does l y set needed e f =
      record {
        by = λ w. (
          w,
          then_given (store_seen old w) (perhaps (program_of old.program.now) old.turns (store_seen old w) (expr_of y.now) (kept_by (needs l) (flag_of set) (payload_of old.value)) (state_seen old w))
              (λ n s. Gives (settled l (flag_of set) (payload_of old.value) n) s) (rest old)
              ∙ sym (f.by w ∙ ap (λ a. go (given (store_seen old w) (perhaps (program_of old.program.now) old.turns (store_seen old w) (expr_of y.now) a (state_seen old w))) (λ r. go (does old (task.Settle l old.value set) r) (rest old))) e),
        );
        counts = λ w k. counts_same old new w f.work k;
      }

  pub otherwise_does : (k : Computed) (y : Bor TypedExpr) (set others : List Bool) → flag_of others ≡ kept_by is_false (flag_of set) (payload_of k)
      → FirstValue old new (expr_of y.now) (flag_of others) (task.Select k old.value set) → Does old new (task.Otherwise k y set)
  otherwise_does k y set others e f =
      record {
        by = λ w. (
          w,
          then_given (store_seen old w) (perhaps (program_of old.program.now) old.turns (store_seen old w) (expr_of y.now) (kept_by is_false (flag_of set) (payload_of k)) (state_seen old w))
              (λ n s. Gives (selected (flag_of set) (payload_of k) (payload_of old.value) n) s) (rest old)
              ∙ sym (f.by w ∙ ap (λ a. go (given (store_seen old w) (perhaps (program_of old.program.now) old.turns (store_seen old w) (expr_of y.now) a (state_seen old w))) (λ r. go (does old (task.Select k old.value set) r) (rest old))) e),
        );
        counts = λ w k. counts_same old new w f.work k;
      }

  pub choose_does : (x y : Bor TypedExpr) (set chosen : List Bool) → flag_of chosen ≡ kept_by is_true (flag_of set) (payload_of old.value)
      → FirstValue old new (expr_of x.now) (flag_of chosen) (task.Otherwise old.value y set) → Does old new (task.Choose x y set)
  choose_does x y set chosen e f =
      record {
        by = λ w. (
          w,
          then_given_in (store_seen old w) (perhaps (program_of old.program.now) old.turns (store_seen old w) (expr_of x.now) (kept_by is_true (flag_of set) (payload_of old.value)) (state_seen old w))
              (λ fr l m s1. bind (perhaps (program_of old.program.now) old.turns
              (record { frame = fr; left = l; state = s1; value = m; parts = parts_seen old.sets }) (expr_of y.now)
              (kept_by is_false (flag_of set) (payload_of old.value)) s1) (λ n s2. Gives (selected (flag_of set) (payload_of old.value) m n) s2))
              (rest old)
              ∙ sym (f.by w ∙ ap (λ a. go (given (store_seen old w) (perhaps (program_of old.program.now) old.turns (store_seen old w) (expr_of x.now) a (state_seen old w))) (λ r. go (does old (task.Otherwise old.value y set) r) (rest old))) e),
        );
        counts = λ w k. counts_same old new w f.work k;
      }

-- ---- nodes: each counts, and its first operand comes first

pub node_comes : (old new : Evaluator) (work : Work) (one : Adds old work 1) (y : Bor TypedExpr) (set : List Bool) (after : Task) (n : TExpr) (f : Frame → ℕ → Payload → State → Val Payload)
    → ((q : Store) → does old after q ≡ given q (f q.frame q.left q.value q.state))
    → ((r : Store) (s : State) → value_at (program_of old.program.now) old.turns r n (flag_of set) s ≡ bind (value_at (program_of old.program.now) old.turns r (expr_of y.now) (flag_of set) (tick s)) (f r.frame r.left))
    → First (record old { work = work }) new (task.Value y set) after → Comes old new (finds old n (flag_of set))
node_comes old new work one y set after n f later whole first =
    record {
      by = λ w. (
        w + 1,
        ap (λ v. go (given (store_seen old w) v) (rest old)) (whole (store_seen old w) (state_seen old w))
            ∙ ap (λ g. go g (rest old)) (sym (regiven (store_seen old w) (payload_of old.value) (state_seen old (w + 1))
            (bind (value_at (program_of old.program.now) old.turns (store_seen old w) (expr_of y.now) (flag_of set) (state_seen old (w + 1)))
            (f (store_seen old w).frame (store_seen old w).left))))
            ∙ then_given_in (store_seen old (w + 1)) (value_at (program_of old.program.now) old.turns (store_seen old w) (expr_of y.now) (flag_of set) (state_seen old (w + 1))) f (rest old)
            ∙ ap (λ (h : Store → Goes). go (does old (task.Value y set) (store_seen old (w + 1))) (λ q. go (h q) (rest old))) (sym (fun_ext later))
            ∙ sym (first.by (w + 1)),
      );
      counts = λ w k. counts_one old new work w one first.work k;
    }

module _ (old new : Evaluator) (x y : Bor TypedExpr) (set : List Bool) where
  node : (after : Task) (n : TExpr) (f : Frame → ℕ → Payload → State → Val Payload)
      → ((q : Store) → does old after q ≡ given q (f q.frame q.left q.value q.state))
      → ((r : Store) (s : State) → value_at (program_of old.program.now) old.turns r n (flag_of set) s ≡ bind (value_at (program_of old.program.now) old.turns r (expr_of y.now) (flag_of set) (tick s)) (f r.frame r.left))
      → expr_of x.now ≡ n → Reaches old new (task.Value y set) after → Does old new (task.Value x set)
  node after n f later whole is first =
      let c = node_comes old new new.work first.work y set after n f later whole (record { by = first.by; work = refl }) in
      record { by = λ w. ((c.by w).0, ap (λ m. go (given (store_seen old w) (value_at (program_of old.program.now) old.turns (store_seen old w) m (flag_of set) (state_seen old w))) (rest old)) is ∙ (c.by w).1); counts = c.counts }

  pub unary_node : (op : UnaryOp) (t : Ty) (sp : Span) → expr_of x.now ≡ t_unary op (expr_of y.now) t sp → Reaches old new (task.Value y set) (task.Unary op t.elem) → Does old new (task.Value x set)
  unary_node op t sp is first =
      node (task.Unary op t.elem) (t_unary op (expr_of y.now) t sp) (λ fr l m s. Gives (mapped (unary_bits op t.elem) m) s) (λ q. refl) (λ r s. refl) is first

  pub binary_node : (op : BinOp) (z : Bor TypedExpr) (t : Ty) (sp : Span) → expr_of x.now ≡ t_binary op (expr_of y.now) (expr_of z.now) t sp
      → Reaches old new (task.Value y set) (task.Right (joining.Operate (record { operator = op; elem = t.elem; span = sp })) z set)
      → Does old new (task.Value x set)
  binary_node op z t sp is first =
      node (task.Right (joining.Operate (record { operator = op; elem = t.elem; span = sp })) z set) (t_binary op (expr_of y.now) (expr_of z.now) t sp)
      (λ fr l m s. bind (value (gang_width old.program.now.gang) fr (calls_at (program_of old.program.now) old.turns l) (expr_of z.now) (flag_of set)
      s) (λ n s2. join (gang_width old.program.now.gang) (joining.Operate (record { operator = op; elem = t.elem; span = sp })) (flag_of set) m n
      s2))
      (λ q. refl) (λ r s. refl) is first

  pub compare_node : (o : Compare) (e : Elem) (z : Bor TypedExpr) (k : Rate) (sp : Span) → e ≡ (type_of (expr_of y.now)).elem
      → expr_of x.now ≡ t_compare o (expr_of y.now) (expr_of z.now) k sp → Reaches old new (task.Value y set) (task.Right (joining.Compare o e) z set)
      → Does old new (task.Value x set)
  compare_node o e z k sp typed is first =
      node (task.Right (joining.Compare o (type_of (expr_of y.now)).elem) z set) (t_compare o (expr_of y.now) (expr_of z.now) k sp)
      (λ fr l m s. bind (value (gang_width old.program.now.gang) fr (calls_at (program_of old.program.now) old.turns l) (expr_of z.now) (flag_of set)
      s) (λ n s2. join (gang_width old.program.now.gang) (joining.Compare o (type_of (expr_of y.now)).elem) (flag_of set) m n s2))
      (λ q. refl) (λ r s. refl) is (subst (λ t. Reaches old new (task.Value y set) (task.Right (joining.Compare o t) z set)) typed first)

  pub logic_node : (l : Logic) (z : Bor TypedExpr) (k : Rate) (sp : Span) → expr_of x.now ≡ t_logic l (expr_of y.now) (expr_of z.now) k sp → Reaches old new (task.Value y set) (task.Logic l z set) → Does old new (task.Value x set)
  logic_node l z k sp is first =
      node (task.Logic l z set) (t_logic l (expr_of y.now) (expr_of z.now) k sp)
      (λ fr d m s. bind (value_unless_empty (gang_width old.program.now.gang) (kept_by (needs l) (flag_of set) m) s
      (value (gang_width old.program.now.gang) fr (calls_at (program_of old.program.now) old.turns d) (expr_of z.now)))
      (λ n s2. Gives (settled l (flag_of set) m n) s2))
      (λ q. refl) (λ r s. refl) is first

  pub choose_node : (z u : Bor TypedExpr) (t : Ty) (sp : Span) → expr_of x.now ≡ t_choose (expr_of y.now) (expr_of z.now) (expr_of u.now) t sp → Reaches old new (task.Value y set) (task.Choose z u set) → Does old new (task.Value x set)
  choose_node z u t sp is first =
      node (task.Choose z u set) (t_choose (expr_of y.now) (expr_of z.now) (expr_of u.now) t sp)
      (λ fr d k s. bind (value_unless_empty (gang_width old.program.now.gang) (kept_by is_true (flag_of set) k) s
      (value (gang_width old.program.now.gang) fr (calls_at (program_of old.program.now) old.turns d) (expr_of z.now)))
      (λ m s1. bind (value_unless_empty (gang_width old.program.now.gang) (kept_by is_false (flag_of set) k) s1
      (value (gang_width old.program.now.gang) fr (calls_at (program_of old.program.now) old.turns d) (expr_of u.now)))
      (λ n s2. Gives (selected (flag_of set) k m n) s2)))
      (λ q. refl) (λ r s. refl) is first

pub no_value : (old mid new : Evaluator) (x : TExpr) (set : List Bool) (t : Task) → any (gang_width old.program.now.gang) (flag_of set) ≡ false → mid.tasks.items ≡ old.tasks.items ++ t ∷ [] → mid ≡ record old { tasks = mid.tasks }
    → new ≡ record mid { value = new.value } → payload_of new.value ≡ nothing → FirstValue old new x (flag_of set) t
no_value old mid new x set t isnt i s same e =
    record {
      by = λ w. sym (valued mid new same nothing e w)
          ∙ ap₂ (λ (r : Store) (f : Store → Goes). go (given r (Gives nothing r.state)) f) (later_store old mid t (record { items = i; same = s }) w) (later_rest old mid t (record { items = i; same = s }))
          ∙ sym (ap (λ b. go (given (store_seen old w) (if_so b (value_at (program_of old.program.now) old.turns (store_seen old w) x (flag_of set)) (Gives nothing) (state_seen old w))) (λ r. go (does old t r) (rest old))) isnt);
      work = ap work_of same ∙ ap work_of s;
    }
