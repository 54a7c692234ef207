-- What each task of an assignment or a declaration leaves to be done.
use Rattle.std.proofs.Common.{◌≡◌, refl, sym, ap, ap₂, ◌∙◌, subst, ℕ, ◌+◌, List, [], ◌∷◌, Bor, Bool, Option, Some, None}
use Rattle.isp_base.specs.Access.{is_zero}
use Rattle.isp_base.specs.Sets.{Mask, flag_of}
use Rattle.isp_base.specs.Traps.{trap}
use Rattle.isp_base.specs.Types.{gang_width}
use Rattle.isp_base.specs.Values.{op_bits}
use Rattle.isp_base.specs.declared.trap.TrapKind.TheVariants.{Divide, Index}
use Rattle.isp_base.specs.declared.types.Elem.{Elem}
use Rattle.isp_base.specs.declared.types.Span.{Span}
use Rattle.isp_base.specs.declared.types.Ty.{Ty}
use Rattle.isp_typed.specs.Typed.{TPlace, TItem, TSimple, t_variable, t_element, t_value, t_run, t_with_value, place_span, place_type, type_of}
use Rattle.isp_typed.specs.Views.{expr_of, call_of, place_of, item_of, items_of, simple_of, program_of}
use Rattle.isp_typed.specs.declared.expr.TypedExpr.{TypedExpr}
use Rattle.isp_typed.specs.declared.expr.TypedPlace.{TypedPlace}
use Rattle.isp_typed.specs.declared.expr.TypedCall.{TypedCall}
use Rattle.isp_typed.specs.declared.stmt.TypedItem.{TypedItem}
use Rattle.isp_typed.specs.declared.stmt.TypedSimple.{TypedSimple}
use Rattle.isp_typed.specs.declared.variable.ArrayVariable.{ArrayVariable}
use Rattle.isp_meaning.specs.State.{State}
use Rattle.isp_meaning.specs.Payloads.{Payload, One, mapped, joined, converted, offender}
use Rattle.isp_meaning.specs.Outcomes.{Val, Gives, Fails, Stops, Done, bind, checked}
use Rattle.isp_meaning.specs.Places.{Place, Variable, Element, held, outside, kept, written}
use Rattle.isp_meaning.specs.Expressions.{call, place}
use Rattle.isp_meaning.specs.Simple.{simple, item, items, update}
use Rattle.isp_gang_values.specs.Seen.{payload_of}
use Rattle.isp_gang_values.specs.declared.computed.Computed.TheVariants as computed
use Rattle.isp_gang_run.specs.Seen.{state_seen, frame_seen, place_seen}
use Rattle.isp_gang_run.specs.Tasks.{Store, Goes, Trapped, go, given, done, does, rest, writes, targets, declares, Comes, Does, First, Changes, Halts, refused, trapped, cut, value_at, write, calls_in, store_seen}
use Rattle.isp_gang_run.specs.declared.places.Place as rust_place
use Rattle.isp_gang_run.specs.declared.places.Writing.{Writing}
use Rattle.isp_gang_run.specs.declared.places.Writing.TheVariants as writing
use Rattle.isp_gang_run.specs.declared.counting.Work.{Work}
use Rattle.isp_gang_run.specs.declared.state.Evaluator.{Evaluator}
use Rattle.isp_gang_run.specs.declared.state.Stop.{Stop}
use Rattle.isp_gang_run.specs.declared.state.Stop.TheVariants as stop
use Rattle.isp_gang_run.specs.declared.tasks.Operation.{Operation}
use Rattle.isp_gang_run.specs.declared.tasks.Task.{Task}
use Rattle.isp_gang_run.specs.declared.tasks.Task.TheVariants as task
use Rattle.isp_gang_run.proofs.Counts.{Adds, work_of, counts_same, counts_more, counts_one}
use Rattle.isp_gang_run.proofs.Steps.{Later, later_rest, later_work}
use Rattle.isp_gang_run.proofs.Changes.{changed_rest, changed_store}

-- ---- the state changes, and nothing is kept in the register

pub changed_does : (old mid : Evaluator) (t : Task) (f : State → State) → Changes old mid f → ((w : ℕ) → does old t (store_seen old w) ≡ done (store_seen old w) (Gives tt (f (state_seen old w)))) → Does old (record mid { value = computed.One 0 }) t
changed_does old mid t f c is =
    record {
      by = λ w. (
        w,
        ap (λ g. go g (rest old)) (is w)
            ∙ sym (ap₂ (λ (h : Store → Goes) (r : Store). h (record r { value = One 0 })) (changed_rest old mid f c) (changed_store old mid f c w)),
      );
      counts = λ w k. counts_same old mid w (ap work_of c.same) k;
    }

-- ---- assignments

module _ (old : Evaluator) (q : rust_place.Place) (sp : Span) (set : List Bool) where
  assigns : (w : ℕ) (o : Option ℕ) → outside (gang_width old.program.now.gang) (frame_seen old.here) (place_seen q) (flag_of set) ≡ o
      → does old (task.Assign q sp set) (store_seen old w)
      ≡ done (store_seen old w) (bind (checked o Index sp (state_seen old w) (payload_of old.value))
      (λ n s. Gives tt (kept (gang_width old.program.now.gang) (frame_seen old.here) (place_seen q) (flag_of set) n s)))
  assigns w o e =
      ap (λ k. done (store_seen old w) (bind (checked k Index sp (state_seen old w) (payload_of old.value)) (λ n s. Gives tt (kept (gang_width old.program.now.gang) (frame_seen old.here) (place_seen q) (flag_of set) n s)))) e

  pub assign_does : (mid : Evaluator) → outside (gang_width old.program.now.gang) (frame_seen old.here) (place_seen q) (flag_of set) ≡ None
      → Changes old mid (kept (gang_width old.program.now.gang) (frame_seen old.here) (place_seen q) (flag_of set) (payload_of old.value)) → Does old (record mid { value = computed.One 0 }) (task.Assign q sp set)
  assign_does mid none c = changed_does old mid (task.Assign q sp set) _ c (λ w. assigns w None none)

  pub assign_halts : (new : Evaluator) (e : Stop) (p : ℕ)
      → outside (gang_width old.program.now.gang) (frame_seen old.here) (place_seen q) (flag_of set) ≡ Some p → new ≡ old
      → e ≡ stop.Trapped (trap Index sp p) → Halts old new (does old (task.Assign q sp set)) e
  assign_halts new e p some same is =
      trapped (trap Index sp p) is (λ w. (w, assigns w (Some p) some ∙ sym (ap (λ (x : Evaluator). Trapped (trap Index sp p) (state_seen x w)) same)))
      (λ w k. counts_same old new w (ap work_of same) k)

-- ---- with an operator

module _ (old : Evaluator) (op : Operation) (q : rust_place.Place) (p : Bor TypedPlace) (set : List Bool) where
  updated : (w : ℕ) (o k : Option ℕ) (x : Payload) → outside (gang_width old.program.now.gang) (frame_seen old.here) (place_seen q) (flag_of set) ≡ o
      → offender (gang_width old.program.now.gang) (is_zero op.operator op.elem) (flag_of set) (payload_of old.value) ≡ k → x ≡ held (gang_width old.program.now.gang) (frame_seen old.here) (place_seen q) (flag_of set) (state_seen old w)
      → does old (task.Update op q p set) (store_seen old w)
      ≡ done (store_seen old w) (bind (checked o Index (place_span (place_of p.now)) (state_seen old w) x)
      (λ x1 s1. bind (checked k Divide op.span s1 (joined (op_bits op.operator op.elem) (flag_of set)
      (mapped (converted (place_type (place_of p.now)).elem op.elem) x1) (payload_of old.value)))
      (λ z s2. Gives tt (kept (gang_width old.program.now.gang) (frame_seen old.here) (place_seen q) (flag_of set)
      (mapped (converted op.elem (place_type (place_of p.now)).elem) z) s2))))
  updated w o k x out off is =
      ap (λ h. done (store_seen old w) (bind (checked h Index (place_span (place_of p.now)) (state_seen old w)
      (held (gang_width old.program.now.gang) (frame_seen old.here) (place_seen q) (flag_of set) (state_seen old w)))
      (λ x1 s1. bind (checked (offender (gang_width old.program.now.gang) (is_zero op.operator op.elem) (flag_of set) (payload_of old.value))
      Divide op.span s1 (joined (op_bits op.operator op.elem) (flag_of set) (mapped (converted (place_type (place_of p.now)).elem op.elem) x1)
      (payload_of old.value))) (λ z s2. Gives tt (kept (gang_width old.program.now.gang) (frame_seen old.here) (place_seen q) (flag_of set)
      (mapped (converted op.elem (place_type (place_of p.now)).elem) z) s2))))) out
      ∙ ap₂ (λ h y. done (store_seen old w) (bind (checked o Index (place_span (place_of p.now)) (state_seen old w) y)
      (λ x1 s1. bind (checked h Divide op.span s1 (joined (op_bits op.operator op.elem) (flag_of set)
      (mapped (converted (place_type (place_of p.now)).elem op.elem) x1) (payload_of old.value)))
      (λ z s2. Gives tt (kept (gang_width old.program.now.gang) (frame_seen old.here) (place_seen q) (flag_of set)
      (mapped (converted op.elem (place_type (place_of p.now)).elem) z) s2))))) off (sym is)

  pub update_does : (mid : Evaluator) (x z : Payload) → outside (gang_width old.program.now.gang) (frame_seen old.here) (place_seen q) (flag_of set) ≡ None
      → offender (gang_width old.program.now.gang) (is_zero op.operator op.elem) (flag_of set) (payload_of old.value) ≡ None
      → ((w : ℕ) → x ≡ held (gang_width old.program.now.gang) (frame_seen old.here) (place_seen q) (flag_of set) (state_seen old w))
      → z ≡ mapped (converted op.elem (place_type (place_of p.now)).elem) (joined (op_bits op.operator op.elem) (flag_of set) (mapped (converted (place_type (place_of p.now)).elem op.elem) x) (payload_of old.value))
      → Changes old mid (kept (gang_width old.program.now.gang) (frame_seen old.here) (place_seen q) (flag_of set) z) → Does old (record mid { value = computed.One 0 }) (task.Update op q p set)
  update_does mid x z out off is e c =
      changed_does old mid (task.Update op q p set) _ c
      (λ w. updated w None None x out off (is w) ∙ ap (λ y. done (store_seen old w) (Gives tt (kept (gang_width old.program.now.gang) (frame_seen old.here) (place_seen q) (flag_of set) y (state_seen old w)))) (sym e))

  pub update_halts_outside : (new : Evaluator) (e : Stop) (i : ℕ)
      → outside (gang_width old.program.now.gang) (frame_seen old.here) (place_seen q) (flag_of set) ≡ Some i → new ≡ old
      → e ≡ stop.Trapped (trap Index (place_span (place_of p.now)) i) → Halts old new (does old (task.Update op q p set)) e
  update_halts_outside new e i some same is =
      trapped (trap Index (place_span (place_of p.now)) i) is (λ w. (w, updated w (Some i) _ _ some refl refl ∙ sym (ap (λ (x : Evaluator). Trapped (trap Index (place_span (place_of p.now)) i) (state_seen x w)) same)))
      (λ w k. counts_same old new w (ap work_of same) k)

  pub update_halts_zero : (new : Evaluator) (e : Stop) (i : ℕ)
      → outside (gang_width old.program.now.gang) (frame_seen old.here) (place_seen q) (flag_of set) ≡ None
      → offender (gang_width old.program.now.gang) (is_zero op.operator op.elem) (flag_of set) (payload_of old.value) ≡ Some i
      → new ≡ old → e ≡ stop.Trapped (trap Divide op.span i) → Halts old new (does old (task.Update op q p set)) e
  update_halts_zero new e i out some same is =
      trapped (trap Divide op.span i) is (λ w. (w, updated w None (Some i) _ out some refl ∙ sym (ap (λ (x : Evaluator). Trapped (trap Divide op.span i) (state_seen x w)) same)))
      (λ w k. counts_same old new w (ap work_of same) k)

-- ---- a place is known: the right side comes first

module _ (old new : Evaluator) (p : Bor TypedPlace) (q : rust_place.Place) (set : List Bool) where
  assigned_next : (r : Store) (sp : Span) (v : Val Payload) (next : Store → Goes)
      → go (done r (bind v (λ m s. bind (checked (outside (gang_width old.program.now.gang) r.frame (place_seen q) (flag_of set)) Index sp s m)
      (λ n s1. Gives tt (kept (gang_width old.program.now.gang) r.frame (place_seen q) (flag_of set) n s1))))) next
      ≡ go (given r v) (λ k. go (does old (task.Assign q sp set) k) next)
  assigned_next r sp (Gives m s) next = refl
  assigned_next r sp (Fails t s) next = refl
  assigned_next r sp (Stops s) next = refl

  pub placed_assign : (y : Bor TypedExpr) (sp : Span) (w : Writing) → w ≡ writing.Assign y → sp ≡ place_span (place_of p.now)
      → First old new (task.Value y set) (task.Assign q sp set) → Comes old new (writes old w (place_of p.now) (place_seen q) (flag_of set))
  placed_assign y sp w is e f =
      subst (λ k. Comes old new (writes old k (place_of p.now) (place_seen q) (flag_of set))) (sym is)
      (record {
        by = λ n. (
          n,
          assigned_next (store_seen old n) (place_span (place_of p.now)) (value_at (program_of old.program.now) old.turns (store_seen old n) (expr_of y.now) (flag_of set) (state_seen old n)) (rest old)
              ∙ sym ((subst (λ k. First old new (task.Value y set) (task.Assign q k set)) e f).by n),
        );
        counts = λ n k. counts_same old new n f.work k;
      })

  updated_next : (r : Store) (op : Operation) (v : Val Payload) (next : Store → Goes)
      → go (done r (bind v (λ y s. update (gang_width old.program.now.gang) r.frame (calls_in (program_of old.program.now) old.turns r) op.operator op.elem (place_of p.now) (place_seen q) y op.span (flag_of set) s))) next
      ≡ go (given r v) (λ k. go (does old (task.Update op q p set) k) next)
  updated_next r op (Gives m s) next = refl
  updated_next r op (Fails x s) next = refl
  updated_next r op (Stops s) next = refl

  pub placed_update : (op : Operation) (y : Bor TypedExpr) (w : Writing) → w ≡ writing.Update op y → First old new (task.Value y set) (task.Update op q p set) → Comes old new (writes old w (place_of p.now) (place_seen q) (flag_of set))
  placed_update op y w is f =
      subst (λ k. Comes old new (writes old k (place_of p.now) (place_seen q) (flag_of set))) (sym is)
      (record {
        by = λ n. (
          n,
          updated_next (store_seen old n) op
              (value_at (program_of old.program.now) old.turns (store_seen old n) (expr_of y.now) (flag_of set) (state_seen old n)) (rest old)
              ∙ sym (f.by n),
        );
        counts = λ n k. counts_same old new n f.work k;
      })

  pub placed_step : (op : Operation) (w : Writing) → w ≡ writing.Step op → Does (record old { value = computed.One 1 }) new (task.Update op q p set) → Comes old new (writes old w (place_of p.now) (place_seen q) (flag_of set))
  placed_step op w is d =
      subst (λ k. Comes old new (writes old k (place_of p.now) (place_seen q) (flag_of set))) (sym is) (record { by = λ n. d.by n; counts = λ n k. d.counts n k })

  pub placed_step_halts : (op : Operation) (w : Writing) (e : Stop) → w ≡ writing.Step op
      → Halts (record old { value = computed.One 1 }) new (does old (task.Update op q p set)) e
      → Halts old new (writes old w (place_of p.now) (place_seen q) (flag_of set)) e
  placed_step_halts op w e is h = subst (λ k. Halts old new (writes old k (place_of p.now) (place_seen q) (flag_of set)) e) (sym is) (by h)
    where
      by : Halts (record old { value = computed.One 1 }) new (does old (task.Update op q p set)) e → Halts old new (writes old (writing.Step op) (place_of p.now) (place_seen q) (flag_of set)) e
      by (refused r) = refused r
      by (trapped x i g h) = trapped x i (λ n. g n) (λ n k. h n k)
      by (cut i g h) = cut i (λ n. g n) (λ n k. h n k)

-- ---- the place that is written: its index comes first

-- the registers are not looked at
write_in : (old : Evaluator) (w : Writing) (p : TPlace) (q : Place) (a : Mask) (r : Store) (t : State) (m : Payload) (s : State)
    → write (program_of old.program.now) old.turns w p q a r s
    ≡ write (program_of old.program.now) old.turns w p q a (record r { state = t; value = m }) s
write_in old (writing.Assign x) p q a r t m s = refl
write_in old (writing.Update op x) p q a r t m s = refl
write_in old (writing.Step op) p q a r t m s = refl

pub target_variable : (old new : Evaluator) (work : Work) (one : Adds old work 1) (p : Bor TypedPlace) (set : List Bool) (w : Writing) (v : ℕ)
    (t : Ty) (sp : Span) → place_of p.now ≡ t_variable v t sp
    → Comes (record old { work = work }) new (writes old w (place_of p.now) (Variable v t) (flag_of set))
    → Comes old new (targets old w (place_of p.now) (flag_of set))
target_variable old new work one p set w v t sp is c =
    record {
      by = λ n. (
        (c.by (n + 1)).0,
        ap (λ k. go (done (store_seen old n) (bind (place (gang_width old.program.now.gang) (frame_seen old.here)
            (calls_in (program_of old.program.now) old.turns (store_seen old n)) k (flag_of set) (state_seen old n))
            (λ q s. write (program_of old.program.now) old.turns w (place_of p.now) q (flag_of set) (store_seen old n) s))) (rest old)) is
            ∙ ap (λ u. go (done (store_seen old n) u) (rest old)) (write_in old w (place_of p.now) (Variable v t) (flag_of set) (store_seen old n) (state_seen old (n + 1)) (payload_of old.value) (state_seen old (n + 1)))
            ∙ (c.by (n + 1)).1,
      );
      counts = λ n k. c.counts (n + 1) (counts_more old work 1 n one k);
    }

pub target_variable_halts : (old new : Evaluator) (work : Work) (one : Adds old work 1) (p : Bor TypedPlace) (set : List Bool) (w : Writing) (v : ℕ)
    (t : Ty) (sp : Span) (e : Stop) → place_of p.now ≡ t_variable v t sp
    → Halts (record old { work = work }) new (writes old w (place_of p.now) (Variable v t) (flag_of set)) e
    → Halts old new (targets old w (place_of p.now) (flag_of set)) e
target_variable_halts old new work one p set w v t sp e is h = by h
  where
    step : (n : ℕ) → targets old w (place_of p.now) (flag_of set) (store_seen old n) ≡ writes old w (place_of p.now) (Variable v t) (flag_of set) (store_seen old (n + 1))
    step n =
        ap (λ k. done (store_seen old n) (bind (place (gang_width old.program.now.gang) (frame_seen old.here)
        (calls_in (program_of old.program.now) old.turns (store_seen old n)) k (flag_of set) (state_seen old n))
        (λ q s. write (program_of old.program.now) old.turns w (place_of p.now) q (flag_of set) (store_seen old n) s))) is
        ∙ ap (done (store_seen old n)) (write_in old w (place_of p.now) (Variable v t) (flag_of set) (store_seen old n) (state_seen old (n + 1)) (payload_of old.value) (state_seen old (n + 1)))

    by : Halts (record old { work = work }) new (writes old w (place_of p.now) (Variable v t) (flag_of set)) e → Halts old new (targets old w (place_of p.now) (flag_of set)) e
    by (refused r) = refused r
    by (trapped x i g h) = trapped x i (λ n. ((g (n + 1)).0, step n ∙ (g (n + 1)).1)) (λ n k. h (n + 1) (counts_more old work 1 n one k))
    by (cut i g h) = cut i (λ n. ((g (n + 1)).0, step n ∙ (g (n + 1)).1)) (λ n k. h (n + 1) (counts_more old work 1 n one k))

element_next : (old : Evaluator) (p : Bor TypedPlace) (set : List Bool) (w : Writing) (b : ArrayVariable) (e : Elem) (r : Store) (v : Val Payload) (next : Store → Goes)
    → go (done r (bind (bind v (λ m s1. Gives (Element b e m) s1)) (λ q s. write (program_of old.program.now) old.turns w (place_of p.now) q (flag_of set) r s))) next
    ≡ go (given r v) (λ k. go (does old (task.Indexed p b e w set) k) next)
element_next old p set w b e r (Gives m s) next = by w
  where
    by : (w : Writing) → go (done r (write (program_of old.program.now) old.turns w (place_of p.now) (Element b e m) (flag_of set) r s)) next
        ≡ go (done (record r { state = s; value = m }) (write (program_of old.program.now) old.turns w (place_of p.now) (Element b e m) (flag_of set)
        (record r { state = s; value = m }) s)) next
    by (writing.Assign x) = refl
    by (writing.Update op x) = refl
    by (writing.Step op) = refl
element_next old p set w b e r (Fails x s) next = refl
element_next old p set w b e r (Stops s) next = refl

pub target_element : (old new : Evaluator) (work : Work) (one : Adds old work 1) (p : Bor TypedPlace) (y : Bor TypedExpr) (set : List Bool)
    (w : Writing) (b : ArrayVariable) (e : Elem) (t : Ty) (sp : Span) → e ≡ (type_of (expr_of y.now)).elem
    → place_of p.now ≡ t_element b (expr_of y.now) t sp → First (record old { work = work }) new (task.Value y set) (task.Indexed p b e w set)
    → Comes old new (targets old w (place_of p.now) (flag_of set))
target_element old new work one p y set w b e t sp typed is f =
    record {
      by = λ n. (
        n + 1,
        ap (λ k. go (done (store_seen old n) (bind (place (gang_width old.program.now.gang) (frame_seen old.here)
            (calls_in (program_of old.program.now) old.turns (store_seen old n)) k (flag_of set) (state_seen old n))
            (λ q s. write (program_of old.program.now) old.turns w (place_of p.now) q (flag_of set) (store_seen old n) s))) (rest old)) is
            ∙ by w n
            ∙ sym ((subst (λ k. First (record old { work = work }) new (task.Value y set) (task.Indexed p b k w set)) typed f).by (n + 1)),
      );
      counts = λ n k. counts_one old new work n one f.work k;
    }
  where
    by : (w : Writing) (n : ℕ) → go (done (store_seen old n)
        (bind (place (gang_width old.program.now.gang) (frame_seen old.here) (calls_in (program_of old.program.now) old.turns (store_seen old n))
        (t_element b (expr_of y.now) t sp) (flag_of set) (state_seen old n))
        (λ q s. write (program_of old.program.now) old.turns w (place_of p.now) q (flag_of set) (store_seen old n) s))) (rest old)
        ≡ go (given (store_seen old (n + 1)) (value_at (program_of old.program.now) old.turns (store_seen old (n + 1)) (expr_of y.now) (flag_of set)
        (state_seen old (n + 1)))) (λ k. go (does old (task.Indexed p b (type_of (expr_of y.now)).elem w set) k) (rest old))
    by (writing.Assign x) n = element_next old p set (writing.Assign x) b (type_of (expr_of y.now)).elem (store_seen old (n + 1))
        (value_at (program_of old.program.now) old.turns (store_seen old (n + 1)) (expr_of y.now) (flag_of set) (state_seen old (n + 1))) (rest old)
    by (writing.Update op x) n = element_next old p set (writing.Update op x) b (type_of (expr_of y.now)).elem (store_seen old (n + 1))
        (value_at (program_of old.program.now) old.turns (store_seen old (n + 1)) (expr_of y.now) (flag_of set) (state_seen old (n + 1))) (rest old)
    by (writing.Step op) n = element_next old p set (writing.Step op) b (type_of (expr_of y.now)).elem (store_seen old (n + 1))
        (value_at (program_of old.program.now) old.turns (store_seen old (n + 1)) (expr_of y.now) (flag_of set) (state_seen old (n + 1))) (rest old)

-- ---- what stands before a semicolon

forgotten : (r : Store) (v : Val Payload) (next : Store → Goes) → go (done r (bind v (λ m s. Gives tt s))) next ≡ go (given r v) (λ q. go (done q (Gives tt q.state)) next)
forgotten r (Gives m s) next = refl
forgotten r (Fails t s) next = refl
forgotten r (Stops s) next = refl

module _ (old new : Evaluator) (work : Work) (one : Adds old work 1) (x : Bor TypedSimple) (set : List Bool) where
  abbrev pub simply : TSimple → ℕ → Goes
  simply n w = done (store_seen old w) (simple (gang_width old.program.now.gang) (frame_seen old.here) (calls_in (program_of old.program.now) old.turns (store_seen old w)) n (flag_of set) (state_seen old w))

  pub simple_value : (y : Bor TypedExpr) → simple_of x.now ≡ t_value (expr_of y.now) → First (record old { work = work }) new (task.Value y set) task.Forget → Does old new (task.Simple x set)
  simple_value y is f =
      record {
        by = λ w. (
          w + 1,
          ap (λ n. go (simply n w) (rest old)) is
              ∙ forgotten (store_seen old (w + 1)) (value_at (program_of old.program.now) old.turns (store_seen old (w + 1)) (expr_of y.now) (flag_of set) (state_seen old (w + 1))) (rest old)
              ∙ sym (f.by (w + 1)),
        );
        counts = λ w k. counts_one old new work w one f.work k;
      }

  pub simple_call : (c : Bor TypedCall) → simple_of x.now ≡ t_run (call_of c.now) → First (record old { work = work }) new (task.Call c set) task.Forget → Does old new (task.Simple x set)
  simple_call c is f =
      record {
        by = λ w. (
          w + 1,
          ap (λ n. go (simply n w) (rest old)) is
              ∙ forgotten (store_seen old (w + 1)) (call (gang_width old.program.now.gang) (frame_seen old.here) (calls_in (program_of old.program.now) old.turns (store_seen old w)) (call_of c.now) (flag_of set) (state_seen old (w + 1))) (rest old)
              ∙ sym (f.by (w + 1)),
        );
        counts = λ w k. counts_one old new work w one f.work k;
      }

  targeted : (p : TPlace) (w : Writing) (n : TSimple) → simple_of x.now ≡ n
      → ((k : ℕ) → simply n k ≡ targets old w p (flag_of set) (store_seen old (k + 1))) → (k : ℕ)
      → does old (task.Simple x set) (store_seen old k) ≡ targets old w p (flag_of set) (store_seen old (k + 1))
  targeted p w n is whole k = ap (λ m. simply m k) is ∙ whole k

  pub simple_target : (p : TPlace) (w : Writing) (n : TSimple) → simple_of x.now ≡ n
      → ((k : ℕ) → simply n k ≡ targets old w p (flag_of set) (store_seen old (k + 1)))
      → Comes (record old { work = work }) new (targets old w p (flag_of set)) → Does old new (task.Simple x set)
  simple_target p w n is whole c =
      record { by = λ k. ((c.by (k + 1)).0, ap (λ g. go g (rest old)) (targeted p w n is whole k) ∙ (c.by (k + 1)).1); counts = λ k m. c.counts (k + 1) (counts_more old work 1 k one m) }

  pub simple_target_halts : (p : TPlace) (w : Writing) (n : TSimple) (e : Stop) → simple_of x.now ≡ n
      → ((k : ℕ) → simply n k ≡ targets old w p (flag_of set) (store_seen old (k + 1)))
      → Halts (record old { work = work }) new (targets old w p (flag_of set)) e → Halts old new (does old (task.Simple x set)) e
  simple_target_halts p w n e is whole h = by h
    where
      by : Halts (record old { work = work }) new (targets old w p (flag_of set)) e → Halts old new (does old (task.Simple x set)) e
      by (refused r) = refused r
      by (trapped t i g h) = trapped t i (λ k. ((g (k + 1)).0, targeted p w n is whole k ∙ (g (k + 1)).1)) (λ k m. h (k + 1) (counts_more old work 1 k one m))
      by (cut i g h) = cut i (λ k. ((g (k + 1)).0, targeted p w n is whole k ∙ (g (k + 1)).1)) (λ k m. h (k + 1) (counts_more old work 1 k one m))

-- ---- declared items

pub declared_does : (old mid : Evaluator) (v : ℕ) (t : Ty) (set : List Bool) → Changes old mid (written t.rate v (flag_of set) (payload_of old.value)) → Does old (record mid { value = computed.One 0 }) (task.Declared v t set)
declared_does old mid v t set c = changed_does old mid (task.Declared v t set) _ c (λ w. refl)

pub no_items : (old : Evaluator) (xs : Bor (List TypedItem)) (set : List Bool) → xs.now ≡ [] → Does old (record old { value = computed.One 0 }) (task.Items xs set)
no_items old xs set is =
    record {
      by = λ w. (
        w,
        ap (λ ys. go (done (store_seen old w)
            (items (gang_width old.program.now.gang) (frame_seen old.here) (calls_in (program_of old.program.now) old.turns (store_seen old w))
            (items_of ys) (flag_of set) (state_seen old w))) (rest old)) is,
      );
      counts = λ w k. k;
    }

items_next : (old : Evaluator) (ys : Bor (List TypedItem)) (set : List Bool) (r : Store) (v : Val Done) (next : Store → Goes)
    → go (done r (bind v (λ _ s. items (gang_width old.program.now.gang) r.frame (calls_in (program_of old.program.now) old.turns r) (items_of ys.now) (flag_of set) s))) next ≡ go (done r v) (λ k. go (does old (task.Items ys set) k) next)
items_next old ys set r (Gives x s) next = refl
items_next old ys set r (Fails t s) next = refl
items_next old ys set r (Stops s) next = refl

pub one_item : (old mid new : Evaluator) (xs ys : Bor (List TypedItem)) (x : TypedItem) (set : List Bool) → xs.now ≡ x ∷ ys.now
    → Later old mid (task.Items ys set) → Comes mid new (declares mid (item_of x) (flag_of set)) → Does old new (task.Items xs set)
one_item old mid new xs ys x set is l c =
    record {
      by = λ w. (
        (c.by w).0,
        ap (λ zs. go (done (store_seen old w) (items (gang_width old.program.now.gang) (frame_seen old.here) (calls_in (program_of old.program.now) old.turns (store_seen old w)) (items_of zs) (flag_of set) (state_seen old w))) (rest old)) is
            ∙ items_next old ys set (store_seen old w) (item (gang_width old.program.now.gang) (frame_seen old.here) (calls_in (program_of old.program.now) old.turns (store_seen old w)) (item_of x) (flag_of set) (state_seen old w)) (rest old)
            ∙ sym (ap₂ (λ (g : Goes) (h : Store → Goes). go g h) (ap (λ (e : Evaluator). declares e (item_of x) (flag_of set) (store_seen e w)) l.same) (later_rest old mid (task.Items ys set) l))
            ∙ (c.by w).1,
      );
      counts = λ w k. c.counts w (counts_same old mid w (later_work old mid (task.Items ys set) l) k);
    }

module _ (old : Evaluator) (work : Work) (one : Adds old work 1) (x : TypedItem) (set : List Bool) where
  -- an item that changes the state at once
  pub item_changes : (new : Evaluator) (n : TItem) (f : State → State) → item_of x ≡ n
      → ((w : ℕ) → item (gang_width old.program.now.gang) (frame_seen old.here) (calls_in (program_of old.program.now) old.turns (store_seen old w)) n (flag_of set) (state_seen old w) ≡ Gives tt (f (state_seen old (w + 1))))
      → Changes (record old { work = work }) new f → Comes old (record new { value = computed.One 0 }) (declares old (item_of x) (flag_of set))
  item_changes new n f is whole c =
      record {
        by = λ w. (
          w + 1,
          ap (λ m. go (done (store_seen old w) (item (gang_width old.program.now.gang) (frame_seen old.here) (calls_in (program_of old.program.now) old.turns (store_seen old w)) m (flag_of set) (state_seen old w))) (rest old)) is
              ∙ ap (λ v. go (done (store_seen old w) v) (rest old)) (whole w)
              ∙ sym (ap₂ (λ (h : Store → Goes) (r : Store). h (record r { value = One 0 })) (changed_rest (record old { work = work }) new f c) (changed_store (record old { work = work }) new f c (w + 1))),
        );
        counts = λ w k. counts_one old new work w one (ap work_of c.same) k;
      }

item_valued : (old : Evaluator) (v : ℕ) (t : Ty) (set : List Bool) (r : Store) (m : Val Payload) (next : Store → Goes)
    → go (done r (bind m (λ x s. Gives tt (written t.rate v (flag_of set) x s)))) next
    ≡ go (given r m) (λ k. go (does old (task.Declared v t set) k) next)
item_valued old v t set r (Gives x s) next = refl
item_valued old v t set r (Fails x s) next = refl
item_valued old v t set r (Stops s) next = refl

pub item_with_value : (old new : Evaluator) (work : Work) (one : Adds old work 1) (x : TypedItem) (y : Bor TypedExpr) (set : List Bool) (v : ℕ)
    (t : Ty) (sp : Span) → item_of x ≡ t_with_value v t (expr_of y.now) sp
    → First (record old { work = work }) new (task.Value y set) (task.Declared v t set) → Comes old new (declares old (item_of x) (flag_of set))
item_with_value old new work one x y set v t sp is f =
    record {
      by = λ w. (
        w + 1,
        ap (λ n. go (done (store_seen old w) (item (gang_width old.program.now.gang) (frame_seen old.here) (calls_in (program_of old.program.now) old.turns (store_seen old w)) n (flag_of set) (state_seen old w))) (rest old)) is
            ∙ item_valued old v t set (store_seen old (w + 1)) (value_at (program_of old.program.now) old.turns (store_seen old (w + 1)) (expr_of y.now) (flag_of set) (state_seen old (w + 1))) (rest old)
            ∙ sym (f.by (w + 1)),
      );
      counts = λ w k. counts_one old new work w one f.work k;
    }
