-- Loops of the set of one instance, and of that instance alone: as many turns, by induction on those that are left.
use Rattle.std.proofs.Common.{ℕ, zero, suc, ◌<◌, Bool, true, false, sym, ap, subst}
use Rattle.std.specs.Prelude.{Some}
use Rattle.isp_base.specs.Sets.{Mask, nobody, union, any, lone}
use Rattle.isp_meaning.specs.State.{State, tick}
use Rattle.isp_meaning.specs.Payloads.{Payload, is_true, kept_by}
use Rattle.isp_meaning.specs.Outcomes.{Val, Res, Went, Trapped, Cut, Done, go_on, if_so}
use Rattle.isp_meaning.specs.Loops.{loop_end, tested, stepped, turns}
use Rattle.isp_solo_meaning.specs.Alone.{Alone}
use Rattle.isp_solo_meaning.specs.Answers.{Answer, How, Going, Broke, Continued, Returned, End, Does, Dies, Lasts, Done as OwnDone, choose}
use Rattle.isp_solo_meaning.specs.Loops.{tested as own_tested, stepped as own_stepped, turned as own_turned, turns as own_turns}
use Rattle.isp_base.specs.declared.types.Rate.TheVariants.{Varying}
use Rattle.isp_meaning_laws.specs.Lone.{World, Stands, left}
use Rattle.isp_meaning_laws.proofs.LoneSets.{any_nobody, any_lone, union_nobody, without_nobody, without_itself, lone_if}
use Rattle.isp_meaning_laws.proofs.LoneSims.{CameTo, Left, left_with, kept_value, any_if}
use Rattle.isp_meaning_laws.proofs.LoneSteps.{Anything, Tests}

module _ (w : World) (gang : ℕ) (lt : w.instance < gang) where
  abbrev us : Mask
  us = lone (Some w.instance)

  -- ---- the test, the body and the step as functions of the state

  module _ (test : Mask → State → Val Payload) (own_test : Alone → Answer ℕ) (body : Mask → State → Res) (own_body : Alone → End) (step : Mask → State → Val Done) (own_step : Alone → Answer OwnDone)
      (tests : (s : State) (t : Alone) → Stands w s t → CameTo w (Tests w.instance) (test us s) (own_test t))
      (does : (s : State) (t : Alone) → Stands w s t → Left w (body us s) (own_body t))
      (steps : (s : State) (t : Alone) → Stands w s t → CameTo w Anything (step us s) (own_step t)) where
    -- it ends
    over : (s : State) (t : Alone) → Stands w s t → Left w (loop_end gang test body step us nobody s) (Does t Going)
    over s t st = record { by = (ap (λ z. Went s z nobody nobody nobody) (without_nobody us), st) }

    over_back : (s : State) (t : Alone) → Stands w s t → Left w (loop_end gang test body step us us s) (Does t Returned)
    over_back s t st = record { by = (ap (λ z. Went s z nobody nobody us) (without_itself us), st) }

    pub tested_left : (turn : Mask → Mask → State → Res) (own : Alone → End) → ((s : State) (t : Alone) → Stands w s t → Left w (turn us nobody s) (own t)) → (s : State) (t : Alone) → Stands w s t
        → Left w (tested gang test body step us turn us nobody s) (own_tested own_test own_body own_step own t)
    tested_left turn own k s t st = left_with w (Tests w.instance) _ _ _ _ (tests s t st) (λ m y s1 t1 r st1. kept m y s1 t1 r (at (is_true y) s1 t1 st1)) where
      at : (b : Bool) (s1 : State) (t1 : Alone) → Stands w s1 t1 → Left w (if_so b (turn (lone_if w.instance b) nobody) (loop_end gang test body step us nobody) s1) (choose b own (λ s2. Does s2 Going) t1)
      at true s1 t1 st1 = k s1 t1 st1
      at false s1 t1 st1 = over s1 t1 st1

      kept : (m : Payload) (y : ℕ) (s1 : State) (t1 : Alone) → Tests w.instance m y
          → Left w (if_so (is_true y) (turn (lone_if w.instance (is_true y)) nobody) (loop_end gang test body step us nobody) s1) (choose (is_true y) own (λ s2. Does s2 Going) t1)
          → Left w (if_so (any gang (kept_by is_true us m)) (turn (kept_by is_true us m) nobody) (loop_end gang test body step us nobody) s1) (choose (is_true y) own (λ s2. Does s2 Going) t1)
      kept m y s1 t1 r h =
          subst (λ z. Left w (if_so (any gang z) (turn z nobody) (loop_end gang test body step us nobody) s1) (choose (is_true y) own (λ s2. Does s2 Going) t1)) (sym (kept_value w.instance is_true Varying m y r))
          (subst (λ b. Left w (if_so b (turn (lone_if w.instance (is_true y)) nobody) (loop_end gang test body step us nobody) s1) (choose (is_true y) own (λ s2. Does s2 Going) t1)) (sym (any_if w.instance gang lt (is_true y))) h)

    stepped_left : (turn : Mask → Mask → State → Res) (own : Alone → End) → ((s : State) (t : Alone) → Stands w s t → Left w (turn us nobody s) (own t)) → (s : State) (t : Alone) → Stands w s t
        → Left w (stepped gang test body step us turn us nobody s) (own_stepped own_test own_body own_step own t)
    stepped_left turn own k s t st = left_with w Anything _ _ _ _ (steps s t st) (λ m y s1 t1 r st1. tested_left turn own k s1 t1 st1)

    -- what follows the body of a turn
    turned_left : (v : Res) (r : End) (turn : Mask → Mask → State → Res) (own : Alone → End) → Left w v r → ((s : State) (t : Alone) → Stands w s t → Left w (turn us nobody s) (own t))
        → Left w (go_on v (λ s1 g b c q. if_so (any gang (union g c)) (turn (union g c) (union nobody q)) (loop_end gang test body step us (union nobody q)) s1)) (own_turned own_test own_body own_step r own)
    turned_left (Went s g b c q) (Does t how) turn own h k =
        subst (λ z. Left w (go_on z (λ s1 g b c q. if_so (any gang (union g c)) (turn (union g c) (union nobody q))
        (loop_end gang test body step us (union nobody q)) s1)) (own_turned own_test own_body own_step (Does t how) own)) (sym h.by.0) (at how)
      where
        goes : (Mask → Mask → State → Res) → Left w (turn us nobody s) (own t) → Left w (if_so (any gang us) (turn us nobody) (loop_end gang test body step us nobody) s) (own t)
        goes f x = subst (λ z. Left w (if_so z (turn us nobody) (loop_end gang test body step us nobody) s) (own t)) (sym (any_lone w.instance gang lt)) x

        at : (how : How) → Left w (go_on (left w.instance how s)
            (λ s1 g b c q. if_so (any gang (union g c)) (turn (union g c) (union nobody q)) (loop_end gang test body step us (union nobody q)) s1))
            (own_turned own_test own_body own_step (Does t how) own)
        at Going = subst (λ z. Left w (if_so (any gang z) (turn z nobody) (loop_end gang test body step us nobody) s) (own t)) (sym (union_nobody us)) (goes turn (k s t h.by.1))
        at Broke = subst (λ z. Left w (if_so z (turn nobody nobody) (loop_end gang test body step us nobody) s) (Does t Going)) (sym (any_nobody gang)) (over s t h.by.1)
        at Continued = goes turn (k s t h.by.1)
        at Returned = subst (λ z. Left w (if_so z (turn nobody us) (loop_end gang test body step us us) s) (Does t Returned)) (sym (any_nobody gang)) (over_back s t h.by.1)
    turned_left (Trapped e s) (Dies d t) turn own h k = record { by = h.by }
    turned_left (Cut s) (Lasts t) turn own h k = record { by = h.by }
    turned_left (Went s g b c q) (Dies d t) turn own h k = absurd h.by
    turned_left (Went s g b c q) (Lasts t) turn own h k = absurd h.by
    turned_left (Trapped e s) (Does t how) turn own h k = absurd h.by
    turned_left (Trapped e s) (Lasts t) turn own h k = absurd h.by
    turned_left (Cut s) (Does t how) turn own h k = absurd h.by
    turned_left (Cut s) (Dies d t) turn own h k = absurd h.by

    pub turns_left : (n : ℕ) (s : State) (t : Alone) → Stands w s t → Left w (turns gang test body step us n us nobody s) (own_turns own_test own_body own_step n t)
    turns_left zero s t st = record { by = st.4 }
    turns_left (suc n) s t st =
        turned_left _ _ (stepped gang test body step us (turns gang test body step us n)) (own_stepped own_test own_body own_step (own_turns own_test own_body own_step n)) (does (tick s) t st)
        (λ s1 t1 st1. stepped_left (turns gang test body step us n) (own_turns own_test own_body own_step n) (λ s2 t2 st2. turns_left n s2 t2 st2) s1 t1 st1)
