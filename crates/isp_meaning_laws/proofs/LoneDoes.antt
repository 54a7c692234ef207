-- A statement over the set of one instance comes to what that instance does alone. One line a node.
use Rattle.std.proofs.Common.{◌≡◌, ◌∙◌, ℕ, ◌<◌, inl, refl, sym, ap, subst}
use Rattle.std.specs.Prelude.{List, map, Option, Some, None}
use Rattle.isp_base.specs.Maps.{over}
use Rattle.isp_base.specs.Sets.{Mask, nobody, lone}
use Rattle.isp_base.specs.declared.types.Rate.{Rate}
use Rattle.isp_base.specs.declared.types.Rate.TheVariants.{Uniform, Varying}
use Rattle.isp_base.specs.declared.types.Ty.{Ty}
use Rattle.isp_base.specs.declared.trap.TrapKind.TheVariants.{Assert}
use Rattle.isp_tree.specs.declared.stmt.Jump.{Jump}
use Rattle.isp_tree.specs.declared.stmt.Jump.TheVariants.{Break, Continue}
use Rattle.isp_typed.specs.Typed.{TExpr, TSimple, elem_of, rate_of, TFunction, TStmt, t_block, t_declare, t_simple, t_if, t_if_else, t_while, t_do, t_for, t_foreach, t_foreach_active}
use Rattle.isp_typed.specs.Typed.{t_foreach_unique, t_unmasked, t_jump, t_return, t_print, t_assert, TBlock, t_braces, TStmts, t_no_stmts, t_stmt_then}
use Rattle.isp_meaning.specs.State.{State, tick}
use Rattle.isp_meaning.specs.Payloads.{Payload, One, is_false, sole, spread, converted}
use Rattle.isp_meaning.specs.Outcomes.{Val, Res, Went, Trapped, Cut, Done, with_value, went_all, go_on}
use Rattle.isp_meaning.specs.Expressions.{Calls, value}
use Rattle.isp_meaning.specs.Runs.{no_place}
use Rattle.isp_meaning.specs.Simple.{no_step, step_part}
use Rattle.isp_meaning.specs.Loops.{turns}
use Rattle.isp_meaning.specs.Rounds.{rounds, round_of_one, unique_rounds}
use Rattle.isp_meaning.specs.Statements.{all_go, answered, answered_at, jumped, test_part, run, block, run_all}
use Rattle.isp_solo_meaning.specs.Alone.{Alone, written as own_written}
use Rattle.isp_solo_meaning.specs.Answers.{Answer, Has, End, Does, Dies, Lasts, Going, then_always, Done as OwnDone}
use Rattle.isp_solo_meaning.specs.Does.{goes_on, jumped as own_jumped, test_part as own_test_part, does, does_block, does_all}
use Rattle.isp_solo_meaning.specs.Loops.{turns as own_turns}
use Rattle.isp_solo_meaning.specs.Steps.{step_part as own_step_part}
use Rattle.isp_solo_meaning.specs.Values.{OwnCalls, answer}
use Rattle.isp_meaning_laws.specs.Lone.{World, Stands, IsValue, ResultIs, ResultAt}
use Rattle.isp_meaning_laws.proofs.LoneSets.{members_lone}
use Rattle.isp_meaning_laws.proofs.LoneUnique.{unique_lone}
use Rattle.isp_meaning_laws.proofs.LoneSims.{CameTo, Left, Follows, came_has, came_checked, left_with, left_branches, left_then, offender_value, spread_value, uniform_value}
use Rattle.isp_meaning_laws.proofs.LoneFair.{FairReturned, FairStmt, FairBlock, FairStmts}
use Rattle.isp_meaning_laws.proofs.LoneHeld.{over_there, written_stands}
use Rattle.isp_meaning_laws.proofs.LoneValues.{CallsAgree, value_came}
use Rattle.isp_meaning_laws.proofs.LoneSteps.{Anything, simple_came, items_came, first_came, step_came, test_came, test_part_came}
use Rattle.isp_meaning_laws.proofs.LoneLoops.{tested_left, turns_left}

module _ (w : World) (gang : ℕ) (lt : w.instance < gang) (fs : List TFunction) (IsCallable : ℕ → Type 0) (calls : Calls) (own : OwnCalls) (agree : CallsAgree w fs IsCallable calls own) (most : ℕ) where
  abbrev us : Mask
  us = lone (Some w.instance)

  abbrev ran : TStmt → Mask → State → Res
  ran x = run gang w.frame calls most x

  abbrev did : TStmt → Alone → End
  did x = does gang w.begin w.instance w.frame own most x

  abbrev own_value : TExpr → Alone → Answer ℕ
  own_value e = answer w.begin w.instance w.frame own e

  abbrev tested_by : Option TExpr → Mask → State → Val Payload
  tested_by e = test_part gang w.frame calls e

  abbrev own_tested_by : Option TExpr → Alone → Answer ℕ
  own_tested_by e = own_test_part w.begin w.instance w.frame own e

  abbrev stepped_by : Option TSimple → Mask → State → Val Done
  stepped_by p = step_part gang w.frame calls p

  abbrev own_stepped_by : Option TSimple → Alone → Answer OwnDone
  own_stepped_by p = own_step_part w.begin w.instance w.frame own p

  goes : (v : Val Done) (r : Answer OwnDone) → CameTo w Anything v r → Left w (all_go us v) (goes_on r)
  goes v r h = left_with w Anything v r _ _ h (λ x y s t k st. record { by = (refl, st) })

  jumps : (j : Jump) (s : State) (t : Alone) → Stands w s t → Left w (jumped j us s) (Does t (own_jumped j))
  jumps Break s t st = record { by = (refl, st) }
  jumps Continue s t st = record { by = (refl, st) }

  -- what a `return` leaves
  answered_stands : (o : Option Ty) → w.frame.answer ≡ o → (q : Rate) (m : Payload) (y : ℕ) (s : State) (t : Alone) → ((u : Ty) → o ≡ Some u → Follows u.rate q) → IsValue w.instance q m y → Stands w s t
      → Stands w (answered o us m s) (record t { result = y })
  answered_stands None e q m y s t f r st = (st.0, st.1, st.2, subst (λ a. ResultIs a s.result (s.results w.instance) y) (sym e) tt, st.4)
  answered_stands (Some u) e q m y s t f r st = at u.rate refl where
    at : (k : Rate) → u.rate ≡ k → Stands w (answered_at k us m s) (record t { result = y })
    at Uniform d = (st.0, st.1, st.2, subst (λ a. ResultIs a (sole m) (s.results w.instance) y) (sym e) (one d), st.4) where
      one : u.rate ≡ Uniform → ResultAt u.rate (sole m) (s.results w.instance) y
      one d = subst (λ k. ResultAt k (sole m) (s.results w.instance) y) (sym d) (ap sole (uniform_value w.instance q m y (f u refl d) r))
    at Varying d = (st.0, st.1, st.2, subst (λ a. ResultIs a s.result (over (spread us m) s.results w.instance) y) (sym e) (mine d), st.4) where
      mine : u.rate ≡ Varying → ResultAt u.rate s.result (over (spread us m) s.results w.instance) y
      mine d = subst (λ k. ResultAt k s.result (over (spread us m) s.results w.instance) y) (sym d) (over_there w q m y s.results r)

  returns : (o : Option Ty) → w.frame.answer ≡ o → (x : TExpr) → FairReturned w.frame fs IsCallable o (Some x) → (s : State) (t : Alone) → Stands w s t
      → Left w (with_value (value gang w.frame calls x us (tick s)) (λ m s1. Went (answered o us m s1) nobody nobody nobody us)) (does gang w.begin w.instance w.frame own most (t_return no_place (Some x) no_place) t)
  returns None e x f s t st = absurd f
  returns (Some u) e x f s t st =
      left_with w (IsValue w.instance (rate_of x)) _ _ _ _ (value_came w gang lt fs IsCallable calls own agree x f.0 (tick s) t st)
      (λ m y s1 t1 r st1. record { by = (refl, answered_stands (Some u) e (rate_of x) m y s1 t1 (λ v d. same v d f.1) r st1) }) where
        same : (v : Ty) → Some u ≡ Some v → Follows u.rate (rate_of x) → Follows v.rate (rate_of x)
        same v d g = subst (λ (o : Option Ty). by o) d g where
          by : Option Ty → Type 0
          by None = Unit {0}
          by (Some z) = Follows z.rate (rate_of x)

  no_step_came : (s : State) (t : Alone) → Stands w s t → CameTo w Anything (no_step us s) (Has tt t)
  no_step_came s t st = came_has w Anything _ _ _ _ tt st

  -- after its turn it goes on
  always : (v : Res) (r : End) → Left w v r → Left w (go_on v (λ s1 g b c q. went_all us s1)) (then_always r (λ s1. Does s1 Going))
  always (Went s g b c q) (Does t how) h = record { by = (refl, h.by.1) }
  always (Trapped e s) (Dies d t) h = record { by = h.by }
  always (Cut s) (Lasts t) h = record { by = h.by }
  always (Went s g b c q) (Dies d t) h = absurd h.by
  always (Went s g b c q) (Lasts t) h = absurd h.by
  always (Trapped e s) (Does t how) h = absurd h.by
  always (Trapped e s) (Lasts t) h = absurd h.by
  always (Cut s) (Does t how) h = absurd h.by
  always (Cut s) (Dies d t) h = absurd h.by

  mutual
    pub run_left : (x : TStmt) → FairStmt w.frame fs IsCallable x → (s : State) (t : Alone) → Stands w s t → Left w (run gang w.frame calls most x us s) (does gang w.begin w.instance w.frame own most x t)
    run_left (t_block b) f s t st = block_left b f s t st
    run_left (t_declare xs sp) f s t st = goes _ _ (items_came w gang lt fs IsCallable calls own agree xs f (tick s) t st)
    run_left (t_simple x sp) f s t st = goes _ _ (simple_came w gang lt fs IsCallable calls own agree x f s t st)
    run_left (t_if g k e x sp) f s t st =
        left_with w (IsValue w.instance (rate_of e)) _ _ _ _ (value_came w gang lt fs IsCallable calls own agree e f.0 (tick s) t st)
        (λ m y s1 t1 r st1. left_branches w gang lt (rate_of e) m y (ran x) went_all (did x) (λ s2. Does s2 Going) s1 t1 r (run_left x f.1 s1 t1 st1) (record { by = (refl, st1) }))
    run_left (t_if_else g k e x z sp) f s t st =
        left_with w (IsValue w.instance (rate_of e)) _ _ _ _ (value_came w gang lt fs IsCallable calls own agree e f.0 (tick s) t st)
        (λ m y s1 t1 r st1. left_branches w gang lt (rate_of e) m y (ran x) (ran z) (did x) (did z) s1 t1 r (run_left x f.1 s1 t1 st1) (run_left z f.2 s1 t1 st1))
    run_left (t_while g k e x sp) f s t st =
        tested_left w gang lt (value gang w.frame calls e) (own_value e) (ran x) (did x) no_step (Has tt)
        (test_came w gang lt fs IsCallable calls own agree e f.0) (λ s1 t1 st1. run_left x f.1 s1 t1 st1) no_step_came
        (turns gang (value gang w.frame calls e) (ran x) no_step us most) (own_turns (own_value e) (did x) (Has tt) most)
        (λ s2 t2 st2. turns_left w gang lt (value gang w.frame calls e) (own_value e) (ran x) (did x) no_step (Has tt)
        (test_came w gang lt fs IsCallable calls own agree e f.0) (λ s1 t1 st1. run_left x f.1 s1 t1 st1) no_step_came most s2 t2 st2) (tick s) t
        st
    run_left (t_do g k x e sp) f s t st =
        turns_left w gang lt (value gang w.frame calls e) (own_value e) (ran x) (did x) no_step (Has tt) (test_came w gang lt fs IsCallable calls own agree e f.0) (λ s1 t1 st1. run_left x f.1 s1 t1 st1) no_step_came most (tick s) t st
    run_left (t_for g k i e p m x sp) f s t st =
        left_with w Anything _ _ _ _ (first_came w gang lt fs IsCallable calls own agree i f.0 (tick s) t st)
        (λ u v s3 t3 r st3. tested_left w gang lt (tested_by e) (own_tested_by e) (ran x) (did x) (stepped_by p) (own_stepped_by p)
        (test_part_came w gang lt fs IsCallable calls own agree e f.1) (λ s1 t1 st1. run_left x f.3 s1 t1 st1)
        (step_came w gang lt fs IsCallable calls own agree p f.2) (turns gang (tested_by e) (ran x) (stepped_by p) us most)
        (own_turns (own_tested_by e) (did x) (own_stepped_by p) most)
        (λ s2 t2 st2. turns_left w gang lt (tested_by e) (own_tested_by e) (ran x) (did x) (stepped_by p) (own_stepped_by p)
        (test_part_came w gang lt fs IsCallable calls own agree e f.1) (λ s1 t1 st1. run_left x f.3 s1 t1 st1)
        (step_came w gang lt fs IsCallable calls own agree p f.2) most s2 t2 st2) s3 t3 st3)
    run_left (t_foreach g k rs x sp) f s t st = absurd f
    run_left (t_foreach_active g k i x sp) f s t st =
        subst (λ ps. Left w (rounds (ran x) us (map (round_of_one i) ps) (tick s)) (does gang w.begin w.instance w.frame own most (t_foreach_active g k i x sp) t)) (sym (members_lone w.instance gang lt))
        (always _ _ (run_left x f _ _ (written_stands w Uniform Uniform i (One w.instance) w.instance (tick (tick s)) t (λ c. c) (inl refl) st)))
    run_left (t_foreach_unique g k i c e x sp) f s t st =
        left_with w (IsValue w.instance (rate_of e)) _ _ _ _ (value_came w gang lt fs IsCallable calls own agree e f.0 (tick s) t st)
        (λ m y s1 t1 r st1. subst (λ rs. Left w (rounds (ran x) us rs s1) (then_always (did x (own_written Uniform i (converted (elem_of e) c y) t1)) (λ t2. Does t2 Going)))
        (sym (ap (unique_rounds gang (elem_of e) c i) (spread_value w.instance (rate_of e) m y r) ∙ unique_lone w.instance gang lt (elem_of e) c i y))
        (always _ _ (run_left x f.1 _ _ (written_stands w Uniform Uniform i (One (converted (elem_of e) c y)) (converted (elem_of e) c y) (tick s1) t1 (λ z. z) (inl refl) st1))))
    run_left (t_unmasked g b sp) f s t st = absurd f
    run_left (t_jump j g sp) f s t st = jumps j (tick s) t st
    run_left (t_return g None sp) f s t st = record { by = (refl, st) }
    run_left (t_return g (Some x) sp) f s t st = returns w.frame.answer refl x f s t st
    run_left (t_print g text xs sp) f s t st = absurd f
    run_left (t_assert x c sp) f s t st =
        left_with w (IsValue w.instance (rate_of x)) _ _ _ _ (value_came w gang lt fs IsCallable calls own agree x f (tick s) t st)
        (λ m y s1 t1 r st1. goes _ _ (came_checked w Anything _ _ Assert c tt tt s1 t1 (offender_value w.instance gang lt is_false (rate_of x) m y r) tt st1))

    pub block_left : (b : TBlock) → FairBlock w.frame fs IsCallable b → (s : State) (t : Alone) → Stands w s t → Left w (block gang w.frame calls most b us s) (does_block gang w.begin w.instance w.frame own most b t)
    block_left (t_braces xs sp) f s t st = all_left xs f (tick s) t st

    all_left : (xs : TStmts) → FairStmts w.frame fs IsCallable xs → (s : State) (t : Alone) → Stands w s t → Left w (run_all gang w.frame calls most xs us s) (does_all gang w.begin w.instance w.frame own most xs t)
    all_left t_no_stmts f s t st = record { by = (refl, st) }
    all_left (t_stmt_then x xs) f s t st = left_then w gang lt _ _ (run_all gang w.frame calls most xs) (does_all gang w.begin w.instance w.frame own most xs) (run_left x f.0 s t st) (λ s1 t1 st1. all_left xs f.1 s1 t1 st1)
