-- What calls leave to be done: their arguments, the function's body, and the caller afterwards.
use Rattle.std.proofs.Common.{◌≡◌, refl, sym, ap, ap₂, ◌∙◌, ℕ, zero, suc, ◌+◌, List, [], ◌∷◌, ◌++◌, map, length, take, Bor, Box, Vec, Global, Bool, Option, Some, None, append_assoc}
use Rattle.std.specs.Prelude.{slice_get, option_map}
use Rattle.std.proofs.Math.Path.{fun_ext}
use Rattle.std.proofs.lemmas.List.{append-nil, map-append}
use Rattle.isp_base.specs.Cross.{or_zero}
use Rattle.isp_base.specs.Sets.{Mask, flag_of, lowest}
use Rattle.isp_base.specs.Traps.{trap}
use Rattle.isp_base.specs.Types.{gang_width}
use Rattle.isp_base.specs.declared.trap.TrapKind.TheVariants.{Depth}
use Rattle.isp_base.specs.declared.types.Span.{Span}
use Rattle.isp_typed.specs.Typed.{TExpr, TPlace, TBase, TArgument, TCall, t_called, t_arguments, t_by_value, t_by_name, Program}
use Rattle.isp_typed.specs.Views.{argument_step, base_step, expr_step, place_step, call_step, argument_of, arguments_of, call_of, expr_of, function_of, block_of, program_of}
use Rattle.isp_typed.specs.declared.expr.TypedArgument.{TypedArgument}
use Rattle.isp_typed.specs.declared.expr.TypedArgument.TheFolds.{fold_out-TypedCall}
use Rattle.isp_typed.specs.declared.expr.TypedCall.{TypedCall}
use Rattle.isp_typed.specs.declared.expr.TypedExpr.{TypedExpr}
use Rattle.isp_typed.specs.declared.function.TypedFunction.{TypedFunction}
use Rattle.isp_typed.specs.declared.variable.ArrayVariable.{ArrayVariable}
use Rattle.isp_meaning.specs.State.{State, Frame, below}
use Rattle.isp_meaning.specs.Payloads.{Payload}
use Rattle.isp_meaning.specs.Outcomes as Outcomes
use Rattle.isp_meaning.specs.Outcomes.{Val, Gives, Fails, Stops, Res, Went, bind}
use Rattle.isp_meaning.specs.Expressions.{Passed, Values, Store as PassedStore, call, arguments}
use Rattle.isp_meaning.specs.Calls.{answer_of, begun, called, calls_at, ended, frame_of}
use Rattle.isp_meaning.specs.Statements.{block}
use Rattle.isp_gang_values.specs.Seen.{payload_of}
use Rattle.isp_gang_values.specs.Growing.{values_of}
use Rattle.isp_gang_values.specs.declared.computed.Computed.{Computed}
use Rattle.isp_gang_run.specs.Passing.{goes_in, does_call}
use Rattle.isp_gang_run.specs.Seen.{answer_in, frame_seen, state_seen, variables_seen, passed_seen}
use Rattle.isp_gang_arrays.specs.Stores.{stores_of}
use Rattle.isp_gang_run.specs.Tasks.{Store, Goes, First, Halts, trapped, cut, Comes, Does, finish, go, given, ran, does, rest, hand, value_at, calls_in, gang_of, store_seen, parts_seen, blocks}
use Rattle.isp_gang_run.specs.declared.activation.Activation.{Activation}
use Rattle.isp_gang_run.specs.declared.counting.Work.{Work}
use Rattle.isp_gang_run.specs.declared.state.Evaluator.{Evaluator}
use Rattle.isp_gang_run.specs.declared.state.Sets.{Sets}
use Rattle.isp_gang_run.specs.declared.state.Stop.{Stop}
use Rattle.isp_gang_run.specs.declared.state.Stop.TheVariants as stop
use Rattle.isp_gang_run.specs.declared.tasks.Passed as rust_passed_type
use Rattle.isp_gang_run.specs.declared.tasks.Passed.TheVariants as rust_passed
use Rattle.isp_gang_run.specs.declared.tasks.Task.TheVariants as task
use Rattle.isp_gang_run.proofs.Begun.{below_taken}
use Rattle.isp_gang_run.proofs.Branching.{comes_same, pushes}
use Rattle.isp_gang_run.proofs.Counts.{Adds, work_of, counts_same, counts_more}
use Rattle.isp_gang_run.proofs.Steps.{pushed, regiven}
use Rattle.isp_gang_run.proofs.Turns.{halts_same}

pub call_view : (c : TypedCall) → call_of c ≡ t_called c.function (t_arguments (arguments_of c.arguments.items)) c.span
call_view c = fold_out-TypedCall TArgument TBase TExpr TPlace TCall argument_step base_step expr_step place_step call_step c

module _ (program : Program) (most : ℕ) where
  -- the arguments that are left, and then the call
  abbrev pub handing : ℕ → Span → List TArgument → List Passed → Mask → Store → Goes
  handing f span xs before a r =
      given r (bind (arguments (gang_of program most) r.frame (calls_in program most r) (t_arguments xs) a r.state) (λ ps s. calls_in program most r f span a (before ++ ps) r.frame s))

  hand_is : (c : TypedCall) (xs : List TArgument) (before : List Passed) (a : Mask) (r : Store) → hand program most (call_of c) xs before a r ≡ handing c.function c.span xs before a r
  hand_is c xs before a r = ap (λ k. hand program most k xs before a r) (call_view c)

  -- one argument is known
  handed : (f : ℕ) (span : Span) (ps : List Passed) (p : Passed) (a : Mask) (r : Store) (m : Payload) (t : State) (v : Val (List Passed))
      → given r (bind (bind v (λ qs s. Gives (p ∷ qs) s)) (λ qs s. calls_in program most r f span a (ps ++ qs) r.frame s))
      ≡ given (record r { state = t; value = m }) (bind v (λ qs s. calls_in program most r f span a ((ps ++ p ∷ []) ++ qs) r.frame s))
  handed f span ps p a r m t (Gives qs s) =
      ap (λ us. given r (calls_in program most r f span a us r.frame s)) (sym (append_assoc ps (p ∷ []) qs))
      ∙ sym (regiven r m t (calls_in program most r f span a ((ps ++ p ∷ []) ++ qs) r.frame s))
  handed f span ps p a r m t (Fails x s) = refl
  handed f span ps p a r m t (Stops s) = refl

  hand_next : (f : ℕ) (span : Span) (xs : List TArgument) (ps : List Passed) (a : Mask) (r : Store) (next : Store → Goes) (v : Val Payload)
      → go (given r (bind (bind (bind v (λ m s1. Gives (Values m) s1))
      (λ p s1. bind (arguments (gang_of program most) r.frame (calls_in program most r) (t_arguments xs) a s1) (λ qs s2. Gives (p ∷ qs) s2)))
      (λ qs s. calls_in program most r f span a (ps ++ qs) r.frame s))) next
      ≡ go (given r v) (λ q. go (handing f span xs (ps ++ Values q.value ∷ []) a q) next)
  hand_next f span xs ps a r next (Gives m s) = ap (λ g. go g next) (handed f span ps (Values m) a r m s (arguments (gang_of program most) r.frame (calls_in program most r) (t_arguments xs) a s))
  hand_next f span xs ps a r next (Fails x s) = refl
  hand_next f span xs ps a r next (Stops s) = refl

module _ (old : Evaluator) (c : Bor TypedCall) (set : List Bool) where
  pub call_does : (new : Evaluator) (work : Work) (one : Adds old work 1) (ys : Bor (List TypedArgument)) (done : Vec rust_passed_type.Passed Global) → ys.now ≡ c.now.arguments.items → done.items ≡ []
      → new.tasks.items ≡ old.tasks.items ++ task.Arguments c ys done set ∷ [] → new ≡ record old { work = work; tasks = new.tasks } → Does old new (task.Call c set)
  call_does new work one ys done all none i s =
      let k = pushes (record old { work = work }) new (task.Arguments c ys done set) i s in
      record {
        by = λ w.
            let r = store_seen old w in
            let r' = store_seen old (w + 1) in
            let a = flag_of set in (
              (k.by (w + 1)).0,
              ap (λ n. go (given r (call (gang_width old.program.now.gang) r.frame (calls_in (program_of old.program.now) old.turns r) n a r.state)) (rest old)) (call_view c.now)
                  ∙ ap (λ g. go g (rest old)) (sym (regiven r r.value (state_seen old (w + 1))
                  (bind (arguments (gang_width old.program.now.gang) r.frame (calls_in (program_of old.program.now) old.turns r)
                  (t_arguments (arguments_of c.now.arguments.items)) a (state_seen old (w + 1)))
                  (λ ps s1. calls_in (program_of old.program.now) old.turns r c.now.function c.now.span a ps r.frame s1))))
                  ∙ sym (ap (λ g. go g (rest old)) (hand_is (program_of old.program.now) old.turns c.now (arguments_of c.now.arguments.items) [] a r'))
                  ∙ sym (ap₂ (λ (xs : List TypedArgument) (ds : List rust_passed_type.Passed). go (hand (program_of old.program.now) old.turns (call_of c.now) (arguments_of xs) (map passed_seen ds) a r') (rest old)) all none)
                  ∙ (k.by (w + 1)).1,
            );
        counts = λ w n. k.counts (w + 1) (counts_more old work 1 w one n);
      }

  module _ (new : Evaluator) (ys : Bor (List TypedArgument)) (done : Vec rust_passed_type.Passed Global) where
    -- no argument is left
    enters : (xs : List rust_passed_type.Passed) → ys.now ≡ [] → xs ≡ done.items → (w : ℕ) → does old (task.Arguments c ys done set) (store_seen old w) ≡ goes_in old c.now.function c.now.span (flag_of set) (map passed_seen xs) (store_seen old w)
    enters xs none is w =
        ap (λ zs. hand (program_of old.program.now) old.turns (call_of c.now) (arguments_of zs) (map passed_seen done.items) (flag_of set) (store_seen old w)) none
        ∙ hand_is (program_of old.program.now) old.turns c.now [] (map passed_seen done.items) (flag_of set) (store_seen old w)
        ∙ ap (λ ps. goes_in old c.now.function c.now.span (flag_of set) ps (store_seen old w)) (append-nil (map passed_seen done.items) ∙ ap (map passed_seen) (sym is))

    pub no_argument : (xs : List rust_passed_type.Passed) → ys.now ≡ [] → xs ≡ done.items → Comes old new (goes_in old c.now.function c.now.span (flag_of set) (map passed_seen xs)) → Does old new (task.Arguments c ys done set)
    no_argument xs none is k =
        let h = comes_same old new (does old (task.Arguments c ys done set)) (goes_in old c.now.function c.now.span (flag_of set) (map passed_seen xs)) (enters xs none is) k in
        record { by = λ w. h.by w; counts = λ w n. h.counts w n }

    pub no_argument_halts : (xs : List rust_passed_type.Passed) (e : Stop) → ys.now ≡ [] → xs ≡ done.items
        → Halts old new (goes_in old c.now.function c.now.span (flag_of set) (map passed_seen xs)) e
        → Halts old new (does old (task.Arguments c ys done set)) e
    no_argument_halts xs e none is h = halts_same old new (does old (task.Arguments c ys done set)) (goes_in old c.now.function c.now.span (flag_of set) (map passed_seen xs)) e (enters xs none is) h

    -- the next argument is a value
    pub one_argument : (zs : Bor (List TypedArgument)) (y : TypedArgument) (x : Bor TypedExpr) → ys.now ≡ y ∷ zs.now
        → argument_of y ≡ t_by_value (expr_of x.now) → First old new (task.Value x set) (task.Argument c zs done set)
        → Does old new (task.Arguments c ys done set)
    one_argument zs y x is seen f =
        record {
          by = λ w.
              let r = store_seen old w in
              let ps = map passed_seen done.items in
              let a = flag_of set in (
                w,
                ap (λ us. go (hand (program_of old.program.now) old.turns (call_of c.now) (arguments_of us) ps a r) (rest old)) is
                    ∙ ap (λ u. go (hand (program_of old.program.now) old.turns (call_of c.now) (u ∷ arguments_of zs.now) ps a r) (rest old)) seen
                    ∙ ap (λ g. go g (rest old)) (hand_is (program_of old.program.now) old.turns c.now (t_by_value (expr_of x.now) ∷ arguments_of zs.now) ps a r)
                    ∙ hand_next (program_of old.program.now) old.turns c.now.function c.now.span (arguments_of zs.now) ps a r (rest old) (value_at (program_of old.program.now) old.turns r (expr_of x.now) a (state_seen old w))
                    ∙ ap (λ (h : Store → Goes). go (does old (task.Value x set) r) h) (fun_ext (λ q. ap (λ g. go g (rest old)) (sym (hand_is (program_of old.program.now) old.turns c.now (arguments_of zs.now) (ps ++ Values q.value ∷ []) a q))))
                    ∙ sym (f.by w),
              );
          counts = λ w n. counts_same old new w f.work n;
        }

    -- the next argument is an array: it counts, and is its store
    pub named_argument : (work : Work) (one : Adds old work 1) (zs : Bor (List TypedArgument)) (y : TypedArgument) (b : ArrayVariable) (sp : Span)
        (n : ℕ) (after : Vec rust_passed_type.Passed Global) → ys.now ≡ y ∷ zs.now → argument_of y ≡ t_by_name b sp
        → n ≡ (frame_seen old.here).named b.number → after.items ≡ done.items ++ rust_passed.Store n ∷ []
        → new.tasks.items ≡ old.tasks.items ++ task.Arguments c zs after set ∷ [] → new ≡ record old { work = work; tasks = new.tasks }
        → Does old new (task.Arguments c ys done set)
    named_argument work one zs y b sp n after is seen store more i s =
        let k = pushes (record old { work = work }) new (task.Arguments c zs after set) i s in
        record {
          by = λ w.
              let r = store_seen old w in
              let r' = store_seen old (w + 1) in
              let ps = map passed_seen done.items in
              let a = flag_of set in (
                (k.by (w + 1)).0,
                ap (λ us. go (hand (program_of old.program.now) old.turns (call_of c.now) (arguments_of us) ps a r) (rest old)) is
                    ∙ ap (λ u. go (hand (program_of old.program.now) old.turns (call_of c.now) (u ∷ arguments_of zs.now) ps a r) (rest old)) seen
                    ∙ ap (λ g. go g (rest old)) (hand_is (program_of old.program.now) old.turns c.now (t_by_name b sp ∷ arguments_of zs.now) ps a r)
                    ∙ ap (λ g. go g (rest old)) (handed (program_of old.program.now) old.turns c.now.function c.now.span ps
                    (PassedStore ((frame_seen old.here).named b.number)) a r r.value (state_seen old (w + 1))
                    (arguments (gang_width old.program.now.gang) r.frame (calls_in (program_of old.program.now) old.turns r)
                    (t_arguments (arguments_of zs.now)) a (state_seen old (w + 1))))
                    ∙ sym (ap (λ g. go g (rest old)) (hand_is (program_of old.program.now) old.turns c.now (arguments_of zs.now) (ps ++ PassedStore ((frame_seen old.here).named b.number) ∷ []) a r'))
                    ∙ ap (λ (qs : List Passed). go (hand (program_of old.program.now) old.turns (call_of c.now) (arguments_of zs.now) qs a r')
                    (rest old)) (ap (λ j. ps ++ PassedStore j ∷ []) (sym store)
                    ∙ sym (ap (map passed_seen) more ∙ map-append passed_seen done.items (rust_passed.Store n ∷ [])))
                    ∙ (k.by (w + 1)).1,
              );
          counts = λ w m. k.counts (w + 1) (counts_more old work 1 w one m);
        }

    -- an argument was found
    pub argument_does : (after : Vec rust_passed_type.Passed Global) → after.items ≡ done.items ++ rust_passed.Value old.value ∷ []
        → new.tasks.items ≡ old.tasks.items ++ task.Arguments c ys after set ∷ [] → new ≡ record old { tasks = new.tasks }
        → Does old new (task.Argument c ys done set)
    argument_does after more i s =
        let k = pushes old new (task.Arguments c ys after set) i s in
        record {
          by = λ w. (
            (k.by w).0,
            ap (λ ps. go (hand (program_of old.program.now) old.turns (call_of c.now) (arguments_of ys.now) ps (flag_of set) (store_seen old w))
                (rest old)) (sym (ap (map passed_seen) more ∙ map-append passed_seen done.items (rust_passed.Value old.value ∷ [])))
                ∙ (k.by w).1,
          );
          counts = k.counts;
        }

-- ---- the function that is called

pub got : (xs : List TypedFunction) (i : ℕ) → slice_get (map function_of xs) i ≡ option_map function_of (slice_get xs i)
got [] i = refl
got (x ∷ xs) zero = refl
got (x ∷ xs) (suc i) = got xs i

module _ (old : Evaluator) (f : ℕ) (span : Span) (set : List Bool) (ps : List Passed) where
  pub no_call_left : (e : Stop) (i : ℕ) → old.left ≡ 0 → i ≡ or_zero (lowest (gang_width old.program.now.gang) (flag_of set)) → e ≡ stop.Trapped (trap Depth span i) → Halts old old (goes_in old f span (flag_of set) ps) e
  no_call_left e i none first is =
      trapped (trap Depth span (or_zero (lowest (gang_width old.program.now.gang) (flag_of set)))) (is ∙ ap (λ j. stop.Trapped (trap Depth span j)) first)
      (λ w. (w, ap (λ n. given (store_seen old w) (calls_at (program_of old.program.now) old.turns n f span (flag_of set) ps (frame_seen old.here) (state_seen old w))) none)) (λ w k. k)

  found : (n : ℕ) (o : Option TypedFunction) → old.left ≡ suc n → slice_get old.program.now.functions.items f ≡ o → (w : ℕ)
      → goes_in old f span (flag_of set) ps (store_seen old w)
      ≡ given (store_seen old w) (called (program_of old.program.now) old.turns (calls_at (program_of old.program.now) old.turns n)
      (option_map function_of o) (flag_of set) ps (frame_seen old.here) (state_seen old w))
  found n o more is w =
      ap (λ k. given (store_seen old w) (calls_at (program_of old.program.now) old.turns k f span (flag_of set) ps (frame_seen old.here) (state_seen old w))) more
      ∙ ap (λ q. given (store_seen old w) (called (program_of old.program.now) old.turns (calls_at (program_of old.program.now) old.turns n) q
      (flag_of set) ps (frame_seen old.here) (state_seen old w))) (got old.program.now.functions.items f ∙ ap (option_map function_of) is)

  pub no_function : (n : ℕ) → old.left ≡ suc n → slice_get old.program.now.functions.items f ≡ None → Halts old old (goes_in old f span (flag_of set) ps) stop.Cut
  no_function n more none = cut refl (λ w. (w, found n None more none w)) (λ w k. k)

  pub function_enters : (new : Evaluator) (n : ℕ) (g : TypedFunction) → old.left ≡ suc n → slice_get old.program.now.functions.items f ≡ Some g
      → Comes old new (does_call old n (function_of g) (flag_of set) ps) → Comes old new (goes_in old f span (flag_of set) ps)
  function_enters new n g more is k = comes_same old new (goes_in old f span (flag_of set) ps) (does_call old n (function_of g) (flag_of set) ps) (found n (Some g) more is) k

-- ---- the body, and then the caller

-- what a body came to goes back to the caller
returned : (e : Evaluator) (b : Box Activation Global) (sets : Sets) (set : List Bool) (r q : Store) (next : Store → Goes) (w : ℕ) (l : ℕ) (v : Res)
    → r ≡ record {
      frame = frame_seen b.value;
      left = l;
      state = variables_seen b.value (stores_of e.stores.items) e.output.items w;
      value =
          payload_of e.value;
      parts = parts_seen sets;
    }
    → go (given r (ended q.frame.answer (frame_seen b.value) (flag_of set) r.state v)) next ≡ go (ran q v) (λ k. go (does e (task.Return b l sets set) k) next)
returned e b sets set r q next w l (Went s g x y z) is =
    ap (λ (u : Store). go (given u (ended q.frame.answer (frame_seen b.value) (flag_of set) u.state (Went s g x y z))) next) is
returned e b sets set r q next w l (Outcomes.Trapped t s) is = refl
returned e b sets set r q next w l (Outcomes.Cut s) is = refl

pub begin_comes : (old p new : Evaluator) (f : Bor TypedFunction) (ps : List Passed) (set : List Bool) (b : Box Activation Global) (h : Activation) (l : ℕ) (st : Vec (Vec ℕ Global) Global)
    → p.tasks.items ≡ old.tasks.items ++ task.Return b old.left old.sets set ∷ [] → p ≡ record old { here = h; left = l; stores = st; tasks = p.tasks } → b.value ≡ old.here → st.items ≡ take (length old.here.sizes.items) old.stores.items
    → frame_seen h ≡ frame_of (function_of f.now) ps (frame_seen old.here)
    → ((s : State) → variables_seen h (below (length old.here.sizes.items) s.arrays) s.out s.work ≡ begun (function_of f.now) ps (frame_seen old.here) (flag_of set) s)
    → Comes p new (blocks p (block_of f.now.body) (flag_of set)) → Comes old new (does_call old l (function_of f.now) (flag_of set) ps)
begin_comes old p new f ps set b h l st i s own cutoff fr state k =
    record {
      by = λ w.
          let r = store_seen old w in
          let a = flag_of set in
          let g = gang_width old.program.now.gang in
          let calls = calls_at (program_of old.program.now) old.turns l in
          let q : Store = record {
            frame = frame_of (function_of f.now) ps (frame_seen old.here);
            left = l;
            state = begun (function_of f.now) ps
                (frame_seen old.here) a (state_seen old w);
            value = payload_of old.value;
            parts = parts_seen old.sets;
          } in
          let after = task.Return b old.left old.sets set in
          let seen : store_seen p w ≡ q =
          ap (λ (e : Evaluator). store_seen e w) s
          ∙ ap₂ (λ (u : Frame) (x : State). record q { frame = u; state = x }) fr
          (ap (λ (t : ℕ → ℕ → ℕ). variables_seen h t old.output.items w)
          (ap stores_of cutoff ∙ below_taken (λ v. values_of v.items) (length old.here.sizes.items) old.stores.items) ∙ state (state_seen old w))
          in (
            (k.by w).0,
            ap (λ (z : Frame). go (given r (ended (function_of f.now).answer z a r.state (block g q.frame calls old.turns (function_of f.now).body a q.state))) (rest old)) (ap frame_seen (sym own))
                ∙ returned old b old.sets set r q (rest old) w old.left (block g q.frame calls old.turns (function_of f.now).body a q.state)
                (ap (λ (z : Activation). record r {
                  frame = frame_seen z;
                  state = variables_seen z (stores_of old.stores.items) old.output.items w;
                }) (sym own))
                ∙ ap₂ (λ (x : Store) (n : Store → Goes). go (blocks old (block_of f.now.body) a x) n) (sym seen)
                (sym (ap (λ ts. finish (program_of old.program.now) old.turns ts) i
                ∙ fun_ext (λ z. pushed (program_of old.program.now) old.turns old.tasks.items after z)))
                ∙ sym (ap (λ (e : Evaluator). go (blocks e (block_of f.now.body) a (store_seen p w)) (finish (program_of e.program.now) e.turns p.tasks.items)) s)
                ∙ (k.by w).1,
          );
      counts = λ w n. k.counts w (counts_same old p w (ap work_of s) n);
    }

pub resume_does : (old : Evaluator) (caller : Box Activation Global) (left : ℕ) (sets : Sets) (set : List Bool) (v : Computed) (h : Activation)
    (st : Vec (Vec ℕ Global) Global) → h ≡ caller.value
    → ((w : ℕ) → payload_of v ≡ answer_of (answer_in old.here.function) (flag_of set) (state_seen old w))
    → st.items ≡ take (length h.sizes.items) old.stores.items → Does old (record old { value = v; sets = sets; here = h; stores = st; left = left }) (task.Return caller left sets set)
resume_does old caller left sets set v h st own answer cutoff =
    record {
      by = λ w.
          let on = λ (z : Activation) (t : ℕ → ℕ → ℕ) (m : Payload). rest old (record { frame = frame_seen z; left = left; state = variables_seen z t old.output.items w; value = m; parts = parts_seen sets }) in (
            w,
            ap (λ (z : Activation). on z (below (length z.sizes.items) (stores_of old.stores.items)) (answer_of (answer_in old.here.function) (flag_of set) (state_seen old w))) (sym own)
                ∙ ap₂ (λ (t : ℕ → ℕ → ℕ) (m : Payload). on h t m) (sym (ap stores_of cutoff ∙ below_taken (λ x. values_of x.items) (length h.sizes.items) old.stores.items)) (sym (answer w)),
          );
      counts = λ w k. k;
    }
