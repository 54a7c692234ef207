-- What calls leave to be done: their arguments, the function's body, and the caller afterwards.
use Rattle.std.proofs.Math.Nat.{add_assoc}
use Rattle.std.proofs.Common.{◌≡◌, refl, sym, ap, ap₂, subst, ◌∙◌, ◌+◌, ◌≤◌, ℕ, zero, suc, List, [], ◌∷◌, ◌++◌, map, Bor, Box, Vec, Global, Option, Some, None, Result, Ok, Err, append_assoc}
use Rattle.std.specs.Prelude.{slice_get, option_map}
use Rattle.std.proofs.lemmas.List.{append-nil, map-append}
use Rattle.isp_base.specs.Traps.{trap}
use Rattle.isp_base.specs.declared.trap.TrapKind.TheVariants.{Depth}
use Rattle.isp_base.specs.declared.types.Span.{Span}
use Rattle.isp_typed.specs.Typed.{TExpr, TPlace, TBase, TArgument, TCall, t_called, t_arguments, t_by_value, t_by_name}
use Rattle.isp_typed.specs.Views.{argument_step, base_step, expr_step, place_step, call_step, argument_of, arguments_of, call_of, expr_of, function_of, block_of, program_of}
use Rattle.isp_typed.specs.declared.expr.TypedArgument.{TypedArgument}
use Rattle.isp_typed.specs.declared.expr.TypedArgument.TheFolds.{fold_out-TypedCall}
use Rattle.isp_typed.specs.declared.expr.TypedCall.{TypedCall}
use Rattle.isp_typed.specs.declared.expr.TypedExpr.{TypedExpr}
use Rattle.isp_typed.specs.declared.function.TypedFunction.{TypedFunction}
use Rattle.isp_typed.specs.declared.variable.ArrayVariable.{ArrayVariable}
use Rattle.isp_meaning.specs.State.{Frame}
use Rattle.isp_meaning.specs.Payloads.{One}
use Rattle.isp_meaning.specs.Expressions.{Passed, Values, Store as PassedStore}
use Rattle.isp_meaning.specs.Calls.{frame_of}
use Rattle.isp_solo_meaning.specs.Alone.{Alone}
use Rattle.isp_solo_meaning.specs.Answers as Answers
use Rattle.isp_solo_meaning.specs.Answers.{Answer, Has, Bad, Long, End, Does, Dies, Lasts, and_then}
use Rattle.isp_solo_meaning.specs.Values.{arguments}
use Rattle.isp_solo_meaning.specs.Calls.{begun, called, ended}
use Rattle.isp_solo_run.specs.Seen.{frame_seen, passed_seen, with_variables}
use Rattle.isp_solo_run.specs.Due.{due, value_due, hand_due, called_due, call_due, body_due, block_due}
use Rattle.isp_solo_run.specs.Most.{one, two, argument_most, function_most}
use Rattle.isp_solo_run.specs.Tasks.{Waits, WaitBoth, Hands, Calls, CallsAndGoes, Enters, DoesCall, RunsBlock, calls_and_goes, due_at, due_now, Store, Goes, On, Trapped, Cut, go, given, ran, calls_on, hands, enters, does_call, blocks, block_in, does_task, does_both, finish, rest, store_seen, state_seen, value_at, bound_in, calls_in, Tells}
use Rattle.isp_solo_run.specs.declared.activation.Activation.{Activation}
use Rattle.isp_solo_run.specs.declared.state.Single.{Single}
use Rattle.isp_solo_run.specs.declared.state.Stop.{Stop}
use Rattle.isp_solo_run.specs.declared.state.Stop.TheVariants as stop
use Rattle.isp_solo_run.specs.declared.tasks.Passed as rust_passed_type
use Rattle.isp_solo_run.specs.declared.tasks.Passed.TheVariants as rust_passed
use Rattle.isp_solo_run.specs.declared.tasks.Task.TheVariants as task
use Rattle.isp_solo_run.proofs.Steps.{pushed, due_pushed, tells_by}

pub call_view : (c : TypedCall) → call_of c ≡ t_called c.function (t_arguments (arguments_of c.arguments.items)) c.span
call_view c = fold_out-TypedCall TArgument TBase TExpr TPlace TCall argument_step base_step expr_step place_step call_step c

module _ (old : Single) (r : Store) (c : TypedCall) where
  -- the arguments that are left, and then the call
  abbrev handing : List TArgument → List Passed → Goes
  handing xs before = given r (and_then (arguments (bound_in old.setting) old.setting.instance r.frame (calls_in old.setting r.left) (t_arguments xs) r.state) (λ ps s. calls_in old.setting r.left c.function c.span (before ++ ps) r.frame s))

  pub hand_is : (xs : List TArgument) (before : List Passed) → hands old (call_of c) xs before r ≡ handing xs before
  hand_is xs before = ap (λ k. hands old k xs before r) (call_view c)

  -- one argument more was found
  one_handed : (before : List Passed) (m : Passed) (v : Answer (List Passed))
      → given r (and_then (and_then v (λ ms s2. Has (m ∷ ms) s2)) (λ ps s. calls_in old.setting r.left c.function c.span (before ++ ps) r.frame s))
      ≡ given r (and_then v (λ ps s. calls_in old.setting r.left c.function c.span ((before ++ m ∷ []) ++ ps) r.frame s))
  one_handed before m (Has ms s) = ap (λ ps. given r (calls_in old.setting r.left c.function c.span ps r.frame s)) (sym (append_assoc before (m ∷ []) ms))
  one_handed before m (Bad t s) = refl
  one_handed before m (Long s) = refl

  -- no argument is left
  pub no_argument : (xs : List TypedArgument) (done ps : List rust_passed_type.Passed) → xs ≡ [] → ps ≡ done → hands old (call_of c) (arguments_of xs) (map passed_seen done) r ≡ enters old c.function c.span (map passed_seen ps) r
  no_argument xs done ps none is =
      ap (λ ys. hands old (call_of c) (arguments_of ys) (map passed_seen done) r) none ∙ hand_is [] (map passed_seen done)
      ∙ ap (λ qs. enters old c.function c.span qs r) (append-nil (map passed_seen done) ∙ ap (map passed_seen) (sym is))

  -- the next is an array
  pub named_argument : (xs : List TypedArgument) (y : TypedArgument) (zs : Bor (List TypedArgument)) (b : ArrayVariable) (sp : Span) (n : ℕ) (done after : List rust_passed_type.Passed) → xs ≡ y ∷ zs.now → argument_of y ≡ t_by_name b sp
      → n ≡ r.frame.named b.number → after ≡ done ++ rust_passed.Store n ∷ [] → hands old (call_of c) (arguments_of xs) (map passed_seen done) r ≡ hands old (call_of c) (arguments_of zs.now) (map passed_seen after) r
  named_argument xs y zs b sp n done after is seen store more =
      ap (λ us. hands old (call_of c) (arguments_of us) (map passed_seen done) r) is
      ∙ ap (λ u. hands old (call_of c) (u ∷ arguments_of zs.now) (map passed_seen done) r) seen
      ∙ hand_is (t_by_name b sp ∷ arguments_of zs.now) (map passed_seen done)
      ∙ one_handed (map passed_seen done) (PassedStore (r.frame.named b.number)) (arguments (bound_in old.setting) old.setting.instance r.frame (calls_in old.setting r.left) (t_arguments (arguments_of zs.now)) r.state)
      ∙ sym (hand_is (arguments_of zs.now) (map passed_seen done ++ PassedStore (r.frame.named b.number) ∷ []))
      ∙ ap (λ qs. hands old (call_of c) (arguments_of zs.now) qs r) (ap (λ j. map passed_seen done ++ PassedStore j ∷ []) (sym store) ∙ sym (ap (map passed_seen) more ∙ map-append passed_seen done (rust_passed.Store n ∷ [])))

-- a call: all arguments are left
pub call_node : (old : Single) (r : Store) (c : TypedCall) (xs : List TypedArgument) (ds : List rust_passed_type.Passed) → xs ≡ c.arguments.items → ds ≡ [] → calls_on old (call_of c) r ≡ hands old (call_of c) (arguments_of xs) (map passed_seen ds) r
call_node old r c xs ds is none =
    ap (λ k. calls_on old k r) (call_view c) ∙ sym (hand_is old r c (arguments_of c.arguments.items) [])
    ∙ ap₂ (λ (ys : List TypedArgument) (es : List rust_passed_type.Passed). hands old (call_of c) (arguments_of ys) (map passed_seen es) r) (sym is) (sym none)

-- the next is a value
module _ (old : Single) (c : Bor TypedCall) (zs : Bor (List TypedArgument)) (done : Vec rust_passed_type.Passed Global) where
  value_found : (r : Store) (v : Answer ℕ)
      → given r (and_then (and_then (and_then v (λ i s. Has (Values (One i)) s))
      (λ m s1. and_then (arguments (bound_in old.setting) old.setting.instance r.frame (calls_in old.setting r.left)
      (t_arguments (arguments_of zs.now)) s1) (λ ms s2. Has (m ∷ ms) s2)))
      (λ qs s. calls_in old.setting r.left c.now.function c.now.span (map passed_seen done.items ++ qs) r.frame s))
      ≡ go (given r v) (does_task old (task.Argument c zs done))
  value_found r (Has i s) =
      let q : Store = record { frame = r.frame; left = r.left; state = s; value = i; how = Answers.Going } in
      one_handed old q c.now (map passed_seen done.items) (Values (One i)) (arguments (bound_in old.setting) old.setting.instance r.frame (calls_in old.setting r.left) (t_arguments (arguments_of zs.now)) s)
      ∙ sym (hand_is old q c.now (arguments_of zs.now) (map passed_seen done.items ++ Values (One i) ∷ []))
  value_found r (Bad t s) = refl
  value_found r (Long s) = refl

  pub value_argument : (r : Store) (xs : List TypedArgument) (y : TypedArgument) (x : Bor TypedExpr) → xs ≡ y ∷ zs.now → argument_of y ≡ t_by_value (expr_of x.now)
      → hands old (call_of c.now) (arguments_of xs) (map passed_seen done.items) r ≡ does_both old (task.Value x) (task.Argument c zs done) r
  value_argument r xs y x is seen =
      ap (λ us. hands old (call_of c.now) (arguments_of us) (map passed_seen done.items) r) is
      ∙ ap (λ u. hands old (call_of c.now) (u ∷ arguments_of zs.now) (map passed_seen done.items) r) seen
      ∙ hand_is old r c.now (t_by_value (expr_of x.now) ∷ arguments_of zs.now) (map passed_seen done.items)
      ∙ value_found r (value_at old.setting r (expr_of x.now) r.state)

-- ---- the function that is called

got : (xs : List TypedFunction) (i : ℕ) → slice_get (map function_of xs) i ≡ option_map function_of (slice_get xs i)
got [] i = refl
got (x ∷ xs) zero = refl
got (x ∷ xs) (suc i) = got xs i

module _ (old : Single) (r : Store) (f : ℕ) (span : Span) (ps : List Passed) where
  pub no_call_left : r.left ≡ 0 → enters old f span ps r ≡ Trapped (trap Depth span old.setting.instance) r.state
  no_call_left none = ap (λ n. given r (calls_in old.setting n f span ps r.frame r.state)) none

  found_in : (n : ℕ) (o : Option TypedFunction) → r.left ≡ suc n → slice_get old.setting.program.now.functions.items f ≡ o
      → enters old f span ps r ≡ given r (called (program_of old.setting.program.now) old.setting.turns (bound_in old.setting) old.setting.instance (calls_in old.setting n) (option_map function_of o) ps r.frame r.state)
  found_in n o more is =
      ap (λ k. given r (calls_in old.setting k f span ps r.frame r.state)) more
      ∙ ap (λ q. given r (called (program_of old.setting.program.now) old.setting.turns (bound_in old.setting) old.setting.instance
      (calls_in old.setting n) q ps r.frame r.state)) (got old.setting.program.now.functions.items f ∙ ap (option_map function_of) is)

  pub no_function : (n : ℕ) → r.left ≡ suc n → slice_get old.setting.program.now.functions.items f ≡ None → enters old f span ps r ≡ Cut r.state
  no_function n more none = found_in n None more none

  pub function_enters : (n : ℕ) (g : TypedFunction) → r.left ≡ suc n → slice_get old.setting.program.now.functions.items f ≡ Some g → enters old f span ps r ≡ does_call old n (function_of g) ps r
  function_enters n g more is = found_in n (Some g) more is

-- ---- the body, and then the caller

-- what a body came to goes back to the caller
returned : (e : Single) (caller : Activation) (q : Store) (l : ℕ) (b : Box Activation Global) (before : Alone) (v : End) → b.value ≡ caller → ((s : Alone) → record before { wrote = s.wrote; read = s.read } ≡ with_variables caller s)
    → given (record q { frame = frame_seen caller; left = l }) (ended before v) ≡ go (ran q v) (does_task e (task.Return b l))
returned e caller q l b before (Does s h) is seen = ap
    (λ (z : Alone). On (record { frame = frame_seen caller; left = l; state = z; value = s.result; how = Answers.Going })) (seen s)
    ∙ ap (λ (a : Activation). On (record { frame = frame_seen a; left = l; state = with_variables a s; value = s.result; how = Answers.Going }))
    (sym is)
returned e caller q l b before (Dies t s) is seen = refl
returned e caller q l b before (Lasts s) is seen = refl

-- the call runs in the place of the caller, whose return waits
module _ (old p : Single) (f : Bor TypedFunction) (ps : List Passed) (b : Box Activation Global) (h : Activation) (l : ℕ)
    (more : p.tasks.items ≡ old.tasks.items ++ task.Return b old.left ∷ []) (same : p ≡ record old { here = h; left = l; tasks = p.tasks }) (own : b.value ≡ old.here)
    (fr : frame_seen h ≡ frame_of (function_of f.now) ps (frame_seen old.here)) (state : (s : Alone) → with_variables h s ≡ begun (function_of f.now) ps s) where
  comes : does_call old l (function_of f.now) ps (store_seen old) ≡ go (blocks p (block_of f.now.body) (store_seen p)) (does_task old (task.Return b old.left))
  comes =
      let at : Store = record { frame = frame_of (function_of f.now) ps (frame_seen old.here); left = l; state = begun (function_of f.now) ps (state_seen old); value = old.value; how = (store_seen old).how } in
      let seen : store_seen p ≡ at = ap store_seen same ∙ ap₂ (λ (u : Frame) (x : Alone). record at { frame = u; state = x }) fr (state (state_seen old)) in
      returned old old.here at old.left b (state_seen old) (block_in old.setting (frame_of (function_of f.now) ps (frame_seen old.here)) l (block_of f.now.body) (begun (function_of f.now) ps (state_seen old))) own (λ s. refl)
      ∙ ap (λ (x : Store). go (blocks old (block_of f.now.body) x) (does_task old (task.Return b old.left))) (sym seen)
      ∙ ap (λ (e : Single). go (blocks e (block_of f.now.body) (store_seen p)) (does_task old (task.Return b old.left))) (sym same)

  todo : (r : Store) → rest p r ≡ go (does_task old (task.Return b old.left) r) (rest old)
  todo r = ap (λ (e : Single). finish e.setting p.tasks.items r) same ∙ ap (λ ts. finish old.setting ts r) more ∙ pushed old.setting old.tasks.items (task.Return b old.left) r

  then_rest : (g : Goes) → go (go g (does_task old (task.Return b old.left))) (rest old) ≡ go g (rest p)
  then_rest (On r) = sym (todo r)
  then_rest (Trapped t s) = refl
  then_rest (Cut s) = refl

  -- the caller waits, and then the body
  todo_due : due_at p p.left ≡ one 0 + due_at old old.left
  todo_due =
      ap (λ (e : Single). due e.setting p.tasks.items e.left) same ∙ ap (λ ts. due old.setting ts l) more ∙ due_pushed old.setting old.tasks.items (task.Return b old.left) l

  body_left : block_due p.setting p.left (block_of f.now.body) ≡ block_due old.setting l (block_of f.now.body)
  body_left = ap (λ (e : Single). block_due e.setting e.left (block_of f.now.body)) same

  pub begin_tells : (q : Result (Unit {0}) Stop) (new : Single) → RunsBlock q p new (block_of f.now.body) → DoesCall q old new l (function_of f.now) ps
  begin_tells (Ok x) new k = (
    ap (λ g. go g (rest old)) comes ∙ then_rest (blocks p (block_of f.now.body) (store_seen p)) ∙ k.0,
    subst (λ (n : ℕ). due_now new ≤ n) (ap₂ (λ (i j : ℕ). i + j) body_left todo_due ∙ sym (add_assoc (block_due old.setting l (block_of f.now.body)) (one 0) (due_at old old.left))) k.1,
  )
  begin_tells (Err stop.Memory) new k = tt
  begin_tells (Err (stop.Trapped t)) new k = comes ∙ ap (λ g. go g (does_task old (task.Return b old.left))) k
  begin_tells (Err stop.Cut) new k = comes ∙ ap (λ g. go g (does_task old (task.Return b old.left))) k

-- ---- how much is left

-- what is left of a call does not look at what was found
module _ (q : Result (Unit {0}) Stop) (old new : Single) where
  pub no_argument_tells : (c : TypedCall) (xs : List TypedArgument) (done ps : List rust_passed_type.Passed) → xs ≡ [] → ps ≡ done → Enters q old new c.function c.span (map passed_seen ps) → Hands q old new (call_of c) (arguments_of xs) (map passed_seen done)
  no_argument_tells c xs done ps none is h =
      subst (λ (n : ℕ). Tells q old new (hands old (call_of c) (arguments_of xs) (map passed_seen done)) n) (sym (ap₂ (λ k ys. hand_due old.setting old.left k (arguments_of ys)) (call_view c) none))
      (tells_by (call_due old.setting old.left c.function) q old new (hands old (call_of c) (arguments_of xs) (map passed_seen done)) (enters old c.function c.span (map passed_seen ps)) (no_argument old (store_seen old) c xs done ps none is) h)

  -- the next is there, and then the others
  hand_next : (c : TypedCall) (y : TArgument) (zs : List TArgument) → hand_due old.setting old.left (call_of c) (y ∷ zs) ≡ argument_most (call_due old.setting old.left) y (hand_due old.setting old.left (call_of c) zs)
  hand_next c y zs =
      ap (λ k. hand_due old.setting old.left k (y ∷ zs)) (call_view c) ∙ sym (ap (λ k. argument_most (call_due old.setting old.left) y (hand_due old.setting old.left k zs)) (call_view c))

  pub named_tells : (c : Bor TypedCall) (xs : List TypedArgument) (y : TypedArgument) (zs : Bor (List TypedArgument)) (b : ArrayVariable) (sp : Span) (n : ℕ) (done : List rust_passed_type.Passed) (after : Vec rust_passed_type.Passed Global) → xs ≡ y ∷ zs.now → argument_of y ≡ t_by_name b sp
      → n ≡ (frame_seen old.here).named b.number → after.items ≡ done ++ rust_passed.Store n ∷ [] → Waits q old new (task.Arguments c zs after) → Hands q old new (call_of c.now) (arguments_of xs) (map passed_seen done)
  named_tells c xs y zs b sp n done after is seen store more h =
      subst (λ (m : ℕ). Tells q old new (hands old (call_of c.now) (arguments_of xs) (map passed_seen done)) m)
      (sym (ap (λ us. hand_due old.setting old.left (call_of c.now) (arguments_of us)) is ∙ ap (λ u. hand_due old.setting old.left (call_of c.now) (u ∷ arguments_of zs.now)) seen ∙ hand_next c.now (t_by_name b sp) (arguments_of zs.now)))
      (tells_by (one (hand_due old.setting old.left (call_of c.now) (arguments_of zs.now))) q old new (hands old (call_of c.now) (arguments_of xs) (map passed_seen done)) (does_task old (task.Arguments c zs after))
      (named_argument old (store_seen old) c.now xs y zs b sp n done after.items is seen store more) h)

  pub value_tells : (c : Bor TypedCall) (zs : Bor (List TypedArgument)) (done : Vec rust_passed_type.Passed Global) (xs : List TypedArgument) (y : TypedArgument) (x : Bor TypedExpr) → xs ≡ y ∷ zs.now → argument_of y ≡ t_by_value (expr_of x.now)
      → WaitBoth q old new (task.Value x) (task.Argument c zs done) → Hands q old new (call_of c.now) (arguments_of xs) (map passed_seen done.items)
  value_tells c zs done xs y x is seen h =
      subst (λ (m : ℕ). Tells q old new (hands old (call_of c.now) (arguments_of xs) (map passed_seen done.items)) m)
      (sym (ap (λ us. hand_due old.setting old.left (call_of c.now) (arguments_of us)) is ∙ ap (λ u. hand_due old.setting old.left (call_of c.now) (u ∷ arguments_of zs.now)) seen ∙ hand_next c.now (t_by_value (expr_of x.now)) (arguments_of zs.now)))
      (tells_by (two (value_due old.setting old.left (expr_of x.now)) (hand_due old.setting old.left (call_of c.now) (arguments_of zs.now))) q old new (hands old (call_of c.now) (arguments_of xs) (map passed_seen done.items)) (does_both old (task.Value x) (task.Argument c zs done))
      (value_argument old c zs done (store_seen old) xs y x is seen) h)

  -- a call: all arguments are left
  called_all : (c : TypedCall) (xs : List TypedArgument) → xs ≡ c.arguments.items → one (hand_due old.setting old.left (call_of c) (arguments_of xs)) ≡ called_due old.setting old.left (call_of c)
  called_all c xs is =
      ap (λ ys. one (hand_due old.setting old.left (call_of c) (arguments_of ys))) is ∙ ap (λ k. one (hand_due old.setting old.left k (arguments_of c.arguments.items))) (call_view c) ∙ sym (ap (called_due old.setting old.left) (call_view c))

  pub call_tells : (c : Bor TypedCall) (xs : Bor (List TypedArgument)) (ds : Vec rust_passed_type.Passed Global) → xs.now ≡ c.now.arguments.items → ds.items ≡ [] → Waits q old new (task.Arguments c xs ds) → Calls q old new (call_of c.now)
  call_tells c xs ds is none h =
      subst (λ (m : ℕ). Tells q old new (calls_on old (call_of c.now)) m) (called_all c.now xs.now is)
      (tells_by (one (hand_due old.setting old.left (call_of c.now) (arguments_of xs.now))) q old new (calls_on old (call_of c.now)) (does_task old (task.Arguments c xs ds)) (call_node old (store_seen old) c.now xs.now ds.items is none) h)

  pub call_goes_tells : (c : Bor TypedCall) (xs : Bor (List TypedArgument)) (ds : Vec rust_passed_type.Passed Global) → xs.now ≡ c.now.arguments.items → ds.items ≡ [] → WaitBoth q old new (task.Arguments c xs ds) task.Go → CallsAndGoes q old new (call_of c.now)
  call_goes_tells c xs ds is none h =
      subst (λ (m : ℕ). Tells q old new (calls_and_goes old (call_of c.now)) (m + one 0)) (called_all c.now xs.now is)
      (tells_by (two (hand_due old.setting old.left (call_of c.now) (arguments_of xs.now)) 0) q old new (calls_and_goes old (call_of c.now)) (does_both old (task.Arguments c xs ds) task.Go)
      (ap (λ g. go g (does_task old task.Go)) (call_node old (store_seen old) c.now xs.now ds.items is none)) h)

  -- the function is there
  pub enter_tells : (f : ℕ) (span : Span) (ps : List Passed) (n : ℕ) (g : TypedFunction) → old.left ≡ suc n → slice_get old.setting.program.now.functions.items f ≡ Some g → DoesCall q old new n (function_of g) ps → Enters q old new f span ps
  enter_tells f span ps n g more is h =
      subst (λ (m : ℕ). Tells q old new (enters old f span ps) m)
      (sym (ap (λ k. call_due old.setting k f) more
      ∙ ap (function_most old.setting.turns (call_due old.setting n)) (got old.setting.program.now.functions.items f ∙ ap (option_map function_of) is)))
      (tells_by (body_due old.setting n (function_of g)) q old new (enters old f span ps) (does_call old n (function_of g) ps) (function_enters old (store_seen old) f span ps n g more is) h)
