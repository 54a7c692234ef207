-- What statements and loops leave to be done.
use Rattle.std.proofs.Common.{◌≡◌, ◌≤◌, arith, refl, sym, ap, subst, ◌∙◌, ℕ, suc, List, [], ◌∷◌, Bool, true, false, Bor, Box, Global, Option, Some, None, Result}
use Rattle.std.specs.Prelude.{option_map, not}
use Rattle.std.proofs.Common.{eq-eqb, ne_eqb}
use Rattle.isp_base.specs.Traps.{trap}
use Rattle.isp_base.specs.declared.types.Span.{Span}
use Rattle.isp_typed.specs.Typed.{TExpr, elem_of, TFirst, t_first_declare, t_first_simple, TStmt, TBlock, t_braces, t_stmts}
use Rattle.isp_typed.specs.Views.{expr_of, items_of, simple_of, stmt_of, stmts_of, block_of, stmt_step, block_step}
use Rattle.isp_typed.specs.declared.expr.TypedExpr.{TypedExpr}
use Rattle.isp_typed.specs.declared.stmt.TypedItem.{TypedItem}
use Rattle.isp_typed.specs.declared.stmt.TypedSimple.{TypedSimple}
use Rattle.isp_typed.specs.declared.stmt.TypedStmt.{TypedStmt}
use Rattle.isp_typed.specs.declared.stmt.TypedBlock.{TypedBlock}
use Rattle.isp_typed.specs.declared.stmt.TypedStmt.TheFolds.{fold_out-TypedBlock}
use Rattle.isp_meaning.specs.Payloads.{is_true, is_false, converted}
use Rattle.isp_base.specs.declared.trap.TrapKind.TheVariants.{Assert}
use Rattle.isp_base.specs.declared.types.Elem.{Elem}
use Rattle.isp_base.specs.declared.types.Rate.TheVariants.{Uniform}
use Rattle.isp_meaning.specs.State.{Frame}
use Rattle.isp_solo_meaning.specs.Alone.{Alone, written}
use Rattle.isp_solo_meaning.specs.Answers as Answers
use Rattle.isp_solo_meaning.specs.Answers.{Answer, Has, Bad, Long, End, Does, Dies, Lasts, Going, Done, and_then, with_answer, unless, choose, then_on, then_always}
use Rattle.isp_solo_meaning.specs.Steps.{items, simple}
use Rattle.isp_solo_meaning.specs.Loops.{turned}
use Rattle.isp_solo_meaning.specs.Does.{goes_on}
use Rattle.isp_solo_run.specs.Seen.{how_seen}
use Rattle.isp_solo_run.specs.Due.{value_due, simple_due, run_due, all_due, turn_due, turns_due, test_due, step_due, first_due, branch_due}
use Rattle.isp_solo_run.specs.Most.{one, two, branch_most}
use Rattle.isp_solo_run.specs.Tasks.{DoesTask, Waits, WaitBoth, both_due, TakesTurn, TurnsByValue, Chooses, RunsAll, RunsBlock, Turns, StepsOn, Tests, Firsts, BranchesOn, Store, Goes, Trapped, Cut, go, given, done, ran, goes, leaves, finds, gathers, runs, blocks, runs_all, chooses, branches_on, follows, tests_on, keeps_on, turned_on}
use Rattle.isp_solo_run.specs.Tasks.{turns_on, steps_on, firsts, takes_turn, turns_by_value, turns_with, turn_in, does_task, does_both, store_seen, state_seen, value_at, values_at, bound_in, calls_in}
use Rattle.isp_solo_run.specs.Tasks.{perhaps_in, run_in, all_in, turns_in, tested_in, stepped_in, turned_in, test_in, body_in, step_in, rest, Changes, Tells}
use Rattle.isp_solo_run.specs.declared.loops.Turning.{Turning}
use Rattle.isp_solo_run.specs.declared.state.Single.{Single}
use Rattle.isp_solo_run.specs.declared.state.How.{How}
use Rattle.isp_solo_run.specs.declared.state.How.TheVariants as how
use Rattle.isp_solo_run.specs.declared.state.Stop.{Stop}
use Rattle.isp_solo_run.specs.declared.tasks.Branches.{Branches}
use Rattle.isp_solo_run.specs.declared.tasks.Gathering.TheVariants as gathering
use Rattle.isp_solo_run.specs.declared.tasks.Statements.{Statements}
use Rattle.isp_solo_run.specs.declared.tasks.Task.TheVariants as task
use Rattle.isp_solo_run.specs.declared.tasks.Unique.{Unique}
use Rattle.isp_solo_run.proofs.Steps.{ran_with, ran_done, ran_then, ran_goes, ran_always, changed_store, tells_by, tells_from, tells_within}

-- the task of a statement, where its tree is known
pub stmt_by : (q : Result (Unit {0}) Stop) (old new : Single) (x : Bor TypedStmt) (n : TStmt) (g : Store → Goes) → stmt_of x.now ≡ n → runs old n (store_seen old) ≡ g (store_seen old)
    → Tells q old new g (run_due old.setting old.left n) → DoesTask q old new (task.Run x)
stmt_by q old new x n g is e h =
    subst (λ (k : TStmt). Tells q old new (runs old k) (run_due old.setting old.left k)) (sym is) (tells_by (run_due old.setting old.left n) q old new (runs old n) g e h)

pub block_view : (b : TypedBlock) → block_of b ≡ t_braces (t_stmts (stmts_of b.statements.items)) b.span
block_view b = fold_out-TypedBlock TStmt TBlock stmt_step block_step b

pub ran_turned : (test : Alone → Answer ℕ) (body : Alone → End) (step : Alone → Answer Done) (r : Store) (e : End) (f : Frame → ℕ → Alone → End)
    → ran r (turned test body step e (f r.frame r.left)) ≡ go (ran r e) (λ q. ran q (turned test body step (Does q.state q.how) (f q.frame q.left)))
ran_turned test body step r (Does s h) f = refl
ran_turned test body step r (Dies t s) f = refl
ran_turned test body step r (Lasts s) f = refl

module _ (old : Single) (r : Store) where
  pub block_is : (b : TypedBlock) (xs : List TypedStmt) → xs ≡ b.statements.items → blocks old (block_of b) r ≡ runs_all old (stmts_of xs) r
  block_is b xs is = ap (λ k. blocks old k r) (block_view b) ∙ ap (λ ys. runs_all old (stmts_of ys) r) (sym is)

  pub none_left : (xs : List TypedStmt) → xs ≡ [] → runs_all old (stmts_of xs) r ≡ leaves how.Going r
  none_left xs none = ap (λ ys. runs_all old (stmts_of ys) r) none

  pub one_next : (xs ys : List TypedStmt) (x : Bor TypedStmt) (b : Box Statements Global) → xs ≡ x.now ∷ ys → b.value.rest.now ≡ ys → runs_all old (stmts_of xs) r ≡ does_both old (task.Run x) (task.Statements b) r
  one_next xs ys x b is others =
      ap (λ zs. runs_all old (stmts_of zs) r) is
      ∙ ran_then r (run_in old.setting r.frame r.left (stmt_of x.now) r.state) (λ fr l. all_in old.setting fr l (stmts_of ys))
      ∙ ap (λ zs. go (runs old (stmt_of x.now) r) (λ q. ran q (then_on (Does q.state q.how) (all_in old.setting q.frame q.left (stmts_of zs))))) (sym others)

  -- ---- if

  pub choice_is : (x : Bor TypedExpr) (b : Branches) (k : Box Branches Global) → k.value ≡ b → chooses old (expr_of x.now) b r ≡ does_both old (task.Value x) (task.Branch k) r
  choice_is x b k is = ap (λ v. chooses old (expr_of x.now) v r) (sym is)

  pub if_is : (x : TExpr) (b : Branches) → b.otherwise ≡ None → ran r (with_answer (value_at old.setting r x r.state) (λ i s1. choose (is_true i) (run_in old.setting r.frame r.left (stmt_of b.then.now)) (λ s2. Does s2 Going) s1)) ≡ chooses old x b r
  if_is x b none = ran_with r (value_at old.setting r x r.state) (λ fr l i s1. choose (is_true i) (run_in old.setting fr l (stmt_of b.then.now)) (λ s2. Does s2 Going) s1)
      ∙ subst (λ (o : Option (Bor TypedStmt)). go (finds old x r)
      (λ q. ran q (choose (is_true q.value) (run_in old.setting q.frame q.left (stmt_of b.then.now)) (λ s2. Does s2 Going) q.state))
      ≡ chooses old x (record b { otherwise = o }) r) (sym none) refl

  pub if_else_is : (x : TExpr) (b : Branches) (y : Bor TypedStmt) → b.otherwise ≡ Some y
      → ran r (with_answer (value_at old.setting r x r.state)
      (λ i s1. choose (is_true i) (run_in old.setting r.frame r.left (stmt_of b.then.now)) (run_in old.setting r.frame r.left (stmt_of y.now)) s1))
      ≡ chooses old x b r
  if_else_is x b y some = ran_with r (value_at old.setting r x r.state) (λ fr l i s1. choose (is_true i) (run_in old.setting fr l (stmt_of b.then.now)) (run_in old.setting fr l (stmt_of y.now)) s1)
      ∙ subst (λ (o : Option (Bor TypedStmt)). go (finds old x r)
      (λ q. ran q (choose (is_true q.value) (run_in old.setting q.frame q.left (stmt_of b.then.now))
      (run_in old.setting q.frame q.left (stmt_of y.now)) q.state)) ≡ chooses old x (record b { otherwise = o }) r) (sym some) refl

  -- ---- return, print, assert

  pub answered_by : (x : Bor TypedExpr) → ran r (with_answer (value_at old.setting r (expr_of x.now) r.state) (λ i s1. Does (record s1 { result = i }) Answers.Returned)) ≡ does_both old (task.Value x) task.Answer r
  answered_by x = ran_with r (value_at old.setting r (expr_of x.now) r.state) (λ fr l i s1. Does (record s1 { result = i }) Answers.Returned)

  pub printed_by : (xs : List TExpr) → ran r (with_answer (values_at old.setting r xs r.state) (λ is s1. Does s1 Going)) ≡ gathers old gathering.Print xs [] r
  printed_by xs = by (values_at old.setting r xs r.state)
    where
      by : (a : Answer (List ℕ)) → ran r (with_answer a (λ is s1. Does s1 Going)) ≡ given r (and_then a (λ is s. Has 0 s))
      by (Has is s) = refl
      by (Bad t s) = refl
      by (Long s) = refl

  pub asserted_by : (x : Bor TypedExpr) (sp : Span) → ran r (with_answer (value_at old.setting r (expr_of x.now) r.state) (λ i s1. goes_on (unless (is_false i) Assert sp old.setting.instance s1 tt))) ≡ does_both old (task.Value x) (task.Assert sp) r
  asserted_by x sp = by (value_at old.setting r (expr_of x.now) r.state)
    where
      by : (a : Answer ℕ) → ran r (with_answer a (λ i s1. goes_on (unless (is_false i) Assert sp old.setting.instance s1 tt))) ≡ go (given r a) (does_task old (task.Assert sp))
      by (Has i s) = ran_goes r (unless (is_false i) Assert sp old.setting.instance s tt)
      by (Bad t s) = refl
      by (Long s) = refl

  -- ---- loops

  pub test_goes : (t : Turning) (b : Box Turning Global) (x : Bor TypedExpr) → b.value ≡ t → t.test ≡ Some x → tests_on old t r ≡ does_both old (task.Value x) (task.Tested b) r
  test_goes t b x is some =
      ap (λ (o : Option (Bor TypedExpr)). tests_on old (record t { test = o }) r) some
      ∙ ran_with r (value_at old.setting r (expr_of x.now) r.state) (λ fr l i s1. choose (is_true i) (turns_in old.setting fr l (record t { test = Some x }) t.left) (λ s2. Does s2 Going) s1)
      ∙ ap (λ (o : Option (Bor TypedExpr)). go (finds old (expr_of x.now) r) (keeps_on old (record t { test = o }))) (sym some)
      ∙ ap (λ (v : Turning). go (finds old (expr_of x.now) r) (keeps_on old v)) (sym is)

  pub no_test : (t : Turning) → t.test ≡ None → tests_on old t r ≡ turns_on old t r
  no_test t none = ap (λ (o : Option (Bor TypedExpr)). tests_on old (record t { test = o }) r) none ∙ ap (λ (o : Option (Bor TypedExpr)). turns_on old (record t { test = o }) r) (sym none)

  pub test_true : (t : Turning) → is_true r.value ≡ true → keeps_on old t r ≡ turns_on old t r
  test_true t h = ap (λ k. ran r (choose k (turns_in old.setting r.frame r.left t t.left) (λ s. Does s Going) r.state)) h

  pub test_false : (t : Turning) → is_true r.value ≡ false → keeps_on old t r ≡ leaves how.Going r
  test_false t h = ap (λ k. ran r (choose k (turns_in old.setting r.frame r.left t t.left) (λ s. Does s Going) r.state)) h

  pub no_turn : (t : Turning) → t.left ≡ 0 → turns_on old t r ≡ Cut r.state
  no_turn t none = ap (λ n. ran r (turns_in old.setting r.frame r.left t n r.state)) none

  pub turn_goes : (t : Turning) (b : Box Turning Global) (n : ℕ) → t.left ≡ suc n → b.value ≡ record t { left = n } → turns_on old t r ≡ does_both old (task.Run t.body) (task.Turned b) r
  turn_goes t b n more is =
      ap (λ k. ran r (turns_in old.setting r.frame r.left t k r.state)) more
      ∙ ran_turned (test_in old.setting r.frame r.left t) (body_in old.setting r.frame r.left t) (step_in old.setting r.frame r.left t) r (body_in old.setting r.frame r.left t r.state)
      (λ fr l. stepped_in old.setting fr l t (turns_in old.setting fr l t n))
      ∙ ap (λ (v : Turning). go (runs old (stmt_of t.body.now) r) (turned_on old v)) (sym is)

  pub step_goes : (t : Turning) (b : Box Turning Global) (x : Bor TypedSimple) → b.value ≡ t → t.step ≡ Some x → steps_on old t r ≡ does_both old (task.Simple x) (task.Test b) r
  step_goes t b x is some =
      ap (λ (o : Option (Bor TypedSimple)). steps_on old (record t { step = o }) r) some
      ∙ ran_done r (simple (bound_in old.setting) old.setting.instance r.frame (calls_in old.setting r.left) (simple_of x.now) r.state)
      (λ fr l s1. tested_in old.setting fr l (record t { step = Some x }) (turns_in old.setting fr l (record t { step = Some x }) t.left) s1)
      ∙ ap (λ (o : Option (Bor TypedSimple)). go (does_task old (task.Simple x) r) (tests_on old (record t { step = o }))) (sym some)
      ∙ ap (λ (v : Turning). go (does_task old (task.Simple x) r) (tests_on old v)) (sym is)

  pub no_step : (t : Turning) (b : Box Turning Global) → b.value ≡ t → t.step ≡ None → steps_on old t r ≡ does_task old (task.Test b) r
  no_step t b is none =
      ap (λ (o : Option (Bor TypedSimple)). steps_on old (record t { step = o }) r) none ∙ ap (λ (o : Option (Bor TypedSimple)). tests_on old (record t { step = o }) r) (sym none) ∙ ap (λ (v : Turning). tests_on old v r) (sym is)

  pub first_items : (t : Turning) (b : Box Turning Global) (xs : Bor (List TypedItem)) (ys : List TypedItem) (o : Option TFirst) (sp : Span)
      → b.value ≡ t → xs.now ≡ ys → o ≡ Some (t_first_declare (items_of ys) sp) → firsts old o t r ≡ does_both old (task.Items xs) (task.Test b) r
  first_items t b xs ys o sp is same some =
      ap (λ k. firsts old k t r) some
      ∙ ap (λ zs. firsts old (Some (t_first_declare (items_of zs) sp)) t r) (sym same)
      ∙ ran_done r (items (bound_in old.setting) old.setting.instance r.frame (calls_in old.setting r.left) (items_of xs.now) r.state) (λ fr l s1. tested_in old.setting fr l t (turns_in old.setting fr l t t.left) s1)
      ∙ ap (λ (v : Turning). go (does_task old (task.Items xs) r) (tests_on old v)) (sym is)

  pub first_simple : (t : Turning) (b : Box Turning Global) (x : Bor TypedSimple) (o : Option TFirst) → b.value ≡ t → o ≡ Some (t_first_simple (simple_of x.now)) → firsts old o t r ≡ does_both old (task.Simple x) (task.Test b) r
  first_simple t b x o is some =
      ap (λ k. firsts old k t r) some
      ∙ ran_done r (simple (bound_in old.setting) old.setting.instance r.frame (calls_in old.setting r.left) (simple_of x.now) r.state) (λ fr l s1. tested_in old.setting fr l t (turns_in old.setting fr l t t.left) s1)
      ∙ ap (λ (v : Turning). go (does_task old (task.Simple x) r) (tests_on old v)) (sym is)

  pub no_first : (t : Turning) (b : Box Turning Global) (o : Option TFirst) → b.value ≡ t → o ≡ None → firsts old o t r ≡ does_task old (task.Test b) r
  no_first t b o is none = ap (λ k. firsts old k t r) none ∙ ap (λ (v : Turning). tests_on old v r) (sym is)

  -- ---- what a register decides

  -- those that are left, where the instance did not go on
  pub others_skipped : (b : Statements) (h : How) → r.how ≡ how_seen h → (h ≡ how.Going → ⊥) → follows old b r ≡ leaves h r
  others_skipped b how.Going is other = absurd (other refl)
  others_skipped b how.Broke is other = ap (λ k. ran r (then_on (Does r.state k) (all_in old.setting r.frame r.left (stmts_of b.rest.now)))) is
  others_skipped b how.Continued is other = ap (λ k. ran r (then_on (Does r.state k) (all_in old.setting r.frame r.left (stmts_of b.rest.now)))) is
  others_skipped b how.Returned is other = ap (λ k. ran r (then_on (Does r.state k) (all_in old.setting r.frame r.left (stmts_of b.rest.now)))) is

  pub others_follow : (b : Statements) → r.how ≡ Going → follows old b r ≡ runs_all old (stmts_of b.rest.now) r
  others_follow b is = ap (λ k. ran r (then_on (Does r.state k) (all_in old.setting r.frame r.left (stmts_of b.rest.now)))) is

  abbrev branch_by : Branches → Bool → Goes
  branch_by b t = ran r (choose t (run_in old.setting r.frame r.left (stmt_of b.then.now)) (perhaps_in old.setting r.frame r.left (option_map (λ (z : Bor TypedStmt). stmt_of z.now) b.otherwise)) r.state)

  pub branch_true : (b : Branches) → is_true r.value ≡ true → branches_on old b r ≡ does_task old (task.Run b.then) r
  branch_true b t = ap (branch_by b) t

  pub branch_other : (b : Branches) (y : Bor TypedStmt) → is_true r.value ≡ false → b.otherwise ≡ Some y → branches_on old b r ≡ does_task old (task.Run y) r
  branch_other b y f is = ap (branch_by b) f ∙ ap (λ (o : Option (Bor TypedStmt)). branch_by (record b { otherwise = o }) false) is

  pub branch_none : (b : Branches) → is_true r.value ≡ false → b.otherwise ≡ None → branches_on old b r ≡ leaves how.Going r
  branch_none b f is = ap (branch_by b) f ∙ ap (λ (o : Option (Bor TypedStmt)). branch_by (record b { otherwise = o }) false) is

  pub assert_stops : (sp : Span) → is_true r.value ≡ false → does_task old (task.Assert sp) r ≡ Trapped (trap Assert sp old.setting.instance) r.state
  assert_stops sp f = ap (λ t. done r (unless (not t) Assert sp old.setting.instance r.state tt)) f

  pub assert_goes : (sp : Span) → is_true r.value ≡ true → does_task old (task.Assert sp) r ≡ goes r
  assert_goes sp t = ap (λ k. done r (unless (not k) Assert sp old.setting.instance r.state tt)) t

  -- the body was run
  abbrev turned_by : Turning → Answers.How → Goes
  turned_by t h = ran r (turned_in old.setting r.frame r.left t (Does r.state h) (stepped_in old.setting r.frame r.left t (turns_in old.setting r.frame r.left t t.left)))

  pub turned_goes : (t : Turning) → r.how ≡ Answers.Going → turned_on old t r ≡ steps_on old t r
  turned_goes t is = ap (turned_by t) is

  pub turned_continues : (t : Turning) → r.how ≡ Answers.Continued → turned_on old t r ≡ steps_on old t r
  turned_continues t is = ap (turned_by t) is

  pub turned_breaks : (t : Turning) → r.how ≡ Answers.Broke → turned_on old t r ≡ leaves how.Going r
  turned_breaks t is = ap (turned_by t) is

  pub turned_returns : (t : Turning) → r.how ≡ Answers.Returned → turned_on old t r ≡ leaves how.Returned r
  turned_returns t is = ap (turned_by t) is

pub true_value : (x : ℕ) → (x ≡ 0 → ⊥) → is_true x ≡ true
true_value x h = ap not (ne_eqb x 0 h)

pub false_value : (x : ℕ) → x ≡ 0 → is_true x ≡ false
false_value x h = ap not (eq-eqb x 0 h)

-- a turn that is taken alone
pub alone_tells : (q : Result (Unit {0}) Stop) (old mid new : Single) (i b : ℕ) (x : Bor TypedStmt) → Changes old mid (written Uniform i b) → WaitBoth q mid new (task.Run x) task.Go → TakesTurn q old new i b (stmt_of x.now)
alone_tells q old mid new i b x c h =
    tells_from old (record old { here = mid.here; arrays = mid.arrays }) mid new (takes_turn old i b (stmt_of x.now)) (λ e. does_both e (task.Run x) task.Go) (λ e. both_due e (task.Run x) task.Go) (λ e. e.left) c.same
    (changed_store old mid (written Uniform i b) (λ fr l s. once old fr l s) c
    ∙ ap (λ (e : Single). once e (store_seen mid).frame mid.left (state_seen mid)) (sym c.same)
    ∙ ran_always (store_seen mid) (run_in mid.setting (store_seen mid).frame mid.left (stmt_of x.now) (state_seen mid)))
    refl q h
  where
    once : Single → Frame → ℕ → Alone → Goes
    once e fr l s = ran (record (store_seen mid) { frame = fr; left = l }) (then_always (run_in e.setting fr l (stmt_of x.now) s) (λ z. Does z Going))

-- and its value first
pub value_tells : (q : Result (Unit {0}) Stop) (old new : Single) (x : Bor TypedExpr) (u : Unique) (k : Box Unique Global) → k.value ≡ u → u.from ≡ elem_of (expr_of x.now) → WaitBoth q old new (task.Value x) (task.Turn k)
    → TurnsByValue q old new u.index u.to (expr_of x.now) (stmt_of u.body.now)
value_tells q old new x u k is of h =
    let r = store_seen old in
    tells_by (two (value_due old.setting old.left (expr_of x.now)) (turn_due old.setting old.left (stmt_of u.body.now))) q old new (turns_by_value old u.index u.to (expr_of x.now) (stmt_of u.body.now)) (does_both old (task.Value x) (task.Turn k))
    (ran_with r (value_at old.setting r (expr_of x.now) r.state) (λ fr l b s. turn_in old.setting fr l u.index (converted (elem_of (expr_of x.now)) u.to b) (stmt_of u.body.now) s)
    ∙ ap (λ (e : Elem). go (finds old (expr_of x.now) r) (turns_with old (record u { from = e }))) (sym of)
    ∙ ap (λ (v : Unique). go (finds old (expr_of x.now) r) (turns_with old v)) (sym is))
    (subst (λ (v : Unique). Tells q old new (does_both old (task.Value x) (task.Turn k)) (two (value_due old.setting old.left (expr_of x.now)) (turn_due old.setting old.left (stmt_of v.body.now)))) is h)

-- ---- how much is left of a statement whose parts stand in a box

module _ (q : Result (Unit {0}) Stop) (old new : Single) where
  pub choice_tells : (x : Bor TypedExpr) (b : Branches) (k : Box Branches Global) → k.value ≡ b → WaitBoth q old new (task.Value x) (task.Branch k) → Chooses q old new (expr_of x.now) b
  choice_tells x b k is h = subst (λ (v : Branches). Chooses q old new (expr_of x.now) v) is h

  -- statements: the first, and then the others
  pub next_tells : (xs ys : List TypedStmt) (x : Bor TypedStmt) (b : Box Statements Global) → xs ≡ x.now ∷ ys → b.value.rest.now ≡ ys → WaitBoth q old new (task.Run x) (task.Statements b) → RunsAll q old new (stmts_of xs)
  next_tells xs ys x b is others h =
      subst (λ zs. RunsAll q old new (stmts_of zs)) (sym is)
      (subst (λ zs. RunsAll q old new (stmt_of x.now ∷ stmts_of zs)) others
      (tells_by (all_due old.setting old.left (stmt_of x.now ∷ stmts_of b.value.rest.now)) q old new (runs_all old (stmt_of x.now ∷ stmts_of b.value.rest.now)) (does_both old (task.Run x) (task.Statements b))
      (one_next old (store_seen old) (x.now ∷ b.value.rest.now) b.value.rest.now x b refl refl) h))

  pub none_tells : (xs : List TypedStmt) → xs ≡ [] → Tells q old new (leaves how.Going) 0 → RunsAll q old new (stmts_of xs)
  none_tells xs none h = subst (λ zs. RunsAll q old new (stmts_of zs)) (sym none) h

  pub block_tells : (b : TypedBlock) (xs : List TypedStmt) → xs ≡ b.statements.items → RunsAll q old new (stmts_of xs) → RunsBlock q old new (block_of b)
  block_tells b xs is h =
      subst (λ k. RunsBlock q old new k) (sym (block_view b)) (subst (λ zs. RunsAll q old new (stmts_of zs)) is h)

  pub turn_tells : (t : Turning) (b : Box Turning Global) (n : ℕ) → t.left ≡ suc n → b.value ≡ record t { left = n } → WaitBoth q old new (task.Run t.body) (task.Turned b) → Turns q old new t
  turn_tells t b n more is h =
      subst (λ k. Turns q old new (record t { left = k })) (sym more)
      (tells_by (turns_due old.setting old.left (record t { left = suc n })) q old new (turns_on old (record t { left = suc n })) (does_both old (task.Run t.body) (task.Turned b))
      (turn_goes old (store_seen old) (record t { left = suc n }) b n refl is)
      (subst (λ (v : Turning). Tells q old new (does_both old (task.Run t.body) (task.Turned b)) (two (run_due old.setting old.left (stmt_of t.body.now)) (step_due old.setting old.left v))) is h))

  pub step_tells : (t : Turning) (b : Box Turning Global) (x : Bor TypedSimple) → b.value ≡ t → t.step ≡ Some x → WaitBoth q old new (task.Simple x) (task.Test b) → StepsOn q old new t
  step_tells t b x is some h =
      subst (λ (o : Option (Bor TypedSimple)). StepsOn q old new (record t { step = o })) (sym some)
      (tells_by (step_due old.setting old.left (record t { step = Some x })) q old new (steps_on old (record t { step = Some x })) (does_both old (task.Simple x) (task.Test b))
      (step_goes old (store_seen old) (record t { step = Some x }) b x (is ∙ ap (λ (o : Option (Bor TypedSimple)). record t { step = o }) some) refl)
      (subst (λ (v : Turning). Tells q old new (does_both old (task.Simple x) (task.Test b)) (two (simple_due old.setting old.left (simple_of x.now)) (test_due old.setting old.left v))) (is ∙ ap (λ (o : Option (Bor TypedSimple)). record t { step = o }) some) h))

  pub no_step_tells : (t : Turning) (b : Box Turning Global) → b.value ≡ t → t.step ≡ None → Waits q old new (task.Test b) → StepsOn q old new t
  no_step_tells t b is none h =
      subst (λ (o : Option (Bor TypedSimple)). StepsOn q old new (record t { step = o })) (sym none)
      (tells_by (step_due old.setting old.left (record t { step = None })) q old new (steps_on old (record t { step = None })) (does_task old (task.Test b))
      (no_step old (store_seen old) (record t { step = None }) b (is ∙ ap (λ (o : Option (Bor TypedSimple)). record t { step = o }) none) refl)
      (subst (λ (v : Turning). Tells q old new (does_task old (task.Test b)) (one (test_due old.setting old.left v))) (is ∙ ap (λ (o : Option (Bor TypedSimple)). record t { step = o }) none) h))

  pub test_tells : (t : Turning) (b : Box Turning Global) (x : Bor TypedExpr) → b.value ≡ t → t.test ≡ Some x → WaitBoth q old new (task.Value x) (task.Tested b) → Tests q old new t
  test_tells t b x is some h =
      subst (λ (o : Option (Bor TypedExpr)). Tests q old new (record t { test = o })) (sym some)
      (tells_by (test_due old.setting old.left (record t { test = Some x })) q old new (tests_on old (record t { test = Some x })) (does_both old (task.Value x) (task.Tested b))
      (test_goes old (store_seen old) (record t { test = Some x }) b x (is ∙ ap (λ (o : Option (Bor TypedExpr)). record t { test = o }) some) refl)
      (subst (λ (v : Turning). Tells q old new (does_both old (task.Value x) (task.Tested b)) (two (value_due old.setting old.left (expr_of x.now)) (turns_due old.setting old.left v))) (is ∙ ap (λ (o : Option (Bor TypedExpr)). record t { test = o }) some) h))

  pub no_test_tells : (t : Turning) → t.test ≡ None → Turns q old new t → Tests q old new t
  no_test_tells t none h =
      subst (λ (o : Option (Bor TypedExpr)). Tests q old new (record t { test = o })) (sym none)
      (subst (λ (o : Option (Bor TypedExpr)). Turns q old new (record t { test = o })) none h)

  pub first_tells : (t : Turning) (b : Box Turning Global) (o : Option TFirst) (g : Store → Goes) → b.value ≡ t → firsts old o t (store_seen old) ≡ g (store_seen old) → Tells q old new g (first_due old.setting old.left o b.value) → Firsts q old new o t
  first_tells t b o g is e h =
      tells_by (first_due old.setting old.left o t) q old new (firsts old o t) g e (subst (λ (v : Turning). Tells q old new g (first_due old.setting old.left o v)) is h)

  pub no_first_tells : (t : Turning) (b : Box Turning Global) (o : Option TFirst) → b.value ≡ t → o ≡ None → Waits q old new (task.Test b) → Firsts q old new o t
  no_first_tells t b o is none h =
      subst (λ k. Firsts q old new k t) (sym none)
      (first_tells t b None (does_task old (task.Test b)) is (no_first old (store_seen old) t b None is refl) h)

  pub first_items_tells : (b : Box Turning Global) (xs : Bor (List TypedItem)) (ys : List TypedItem) (o : Option TFirst) (sp : Span)
      → xs.now ≡ ys → o ≡ Some (t_first_declare (items_of ys) sp) → WaitBoth q old new (task.Items xs) (task.Test b) → Firsts q old new o b.value
  first_items_tells b xs ys o sp same some h =
      subst (λ k. Firsts q old new k b.value) (ap (λ zs. Some (t_first_declare (items_of zs) sp)) same ∙ sym some)
      (first_tells b.value b (Some (t_first_declare (items_of xs.now) sp)) (does_both old (task.Items xs) (task.Test b)) refl (first_items old (store_seen old) b.value b xs xs.now (Some (t_first_declare (items_of xs.now) sp)) sp refl refl refl) h)

  pub first_simple_tells : (b : Box Turning Global) (x : Bor TypedSimple) (o : Option TFirst) → o ≡ Some (t_first_simple (simple_of x.now)) → WaitBoth q old new (task.Simple x) (task.Test b) → Firsts q old new o b.value
  first_simple_tells b x o some h =
      subst (λ k. Firsts q old new k b.value) (sym some)
      (first_tells b.value b (Some (t_first_simple (simple_of x.now))) (does_both old (task.Simple x) (task.Test b)) refl (first_simple old (store_seen old) b.value b x (Some (t_first_simple (simple_of x.now))) refl refl) h)

  -- a branch is no more than both
  then_most : (b : Branches) → one (run_due old.setting old.left (stmt_of b.then.now)) ≤ branch_due old.setting old.left b
  then_most b = by (option_map (λ (z : Bor TypedStmt). run_due old.setting old.left (stmt_of z.now)) b.otherwise)
    where
      by : (o : Option ℕ) → one (run_due old.setting old.left (stmt_of b.then.now)) ≤ branch_most (run_due old.setting old.left (stmt_of b.then.now)) o
      by None = omega arith
      by (Some k) = omega arith

  pub branch_true_tells : (b : Branches) → is_true old.value ≡ true → Waits q old new (task.Run b.then) → BranchesOn q old new b
  branch_true_tells b t h =
      tells_within (one (run_due old.setting old.left (stmt_of b.then.now))) (branch_due old.setting old.left b) q old new (branches_on old b) (then_most b)
      (tells_by (one (run_due old.setting old.left (stmt_of b.then.now))) q old new (branches_on old b) (does_task old (task.Run b.then)) (branch_true old (store_seen old) b t) h)

  pub branch_other_tells : (b : Branches) (y : Bor TypedStmt) → is_true old.value ≡ false → b.otherwise ≡ Some y → Waits q old new (task.Run y) → BranchesOn q old new b
  branch_other_tells b y f is h =
      let both : branch_due old.setting old.left b ≡ two (run_due old.setting old.left (stmt_of b.then.now)) (run_due old.setting old.left (stmt_of y.now)) =
      ap (λ (o : Option (Bor TypedStmt)). branch_due old.setting old.left (record b { otherwise = o })) is in
      tells_within (one (run_due old.setting old.left (stmt_of y.now))) (branch_due old.setting old.left b) q old new (branches_on old b) (omega (arith, both))
      (tells_by (one (run_due old.setting old.left (stmt_of y.now))) q old new (branches_on old b) (does_task old (task.Run y)) (branch_other old (store_seen old) b y f is) h)
