-- The code of a loop does what the loop means, where the codes of its parts do what they mean.
use Rattle.std.proofs.Common.{◌≡◌, ℕ, ◌+◌, List, [], ◌∷◌, ◌++◌, length, Bool, false, refl, sym, subst, arith, length-append}
use Rattle.isp_base.specs.Sets.{Mask, nobody}
use Rattle.isp_base.specs.declared.types.Rate.{Rate}
use Rattle.isp_code.specs.Conf.{Conf}
use Rattle.isp_code.specs.declared.instr.Instr.{Instr}
use Rattle.isp_code.specs.declared.instr.Instr.TheVariants as instr
use Rattle.isp_meaning.specs.Loops.{loop_end, tested, turns}
use Rattle.isp_meaning.specs.Outcomes.{Val, Gives, Done, Res, if_so}
use Rattle.isp_meaning.specs.Payloads.{Payload, One}
use Rattle.isp_meaning.specs.Simple.{no_step}
use Rattle.isp_meaning.specs.State.{State, tick}
use Rattle.isp_lower_code.specs.Pieces.{two}
use Rattle.isp_lower_code.specs.Setting.{Setting, IsSettled, gang_of, AreAt}
use Rattle.isp_lower_code.proofs.Lemmas.{are_front, are_back, enters_part}
use Rattle.isp_masks_code.specs.LoopRuns.{TestRuns, BodyRuns, StepRuns, IsBody, AllLoopsRun}
use Rattle.isp_masks_code.specs.Loops.{enter_code, loop_end_code, turn_code, next_code, sift_code, again_code, loop_code, tested_code, no_code, for_code, endless_code}
use Rattle.isp_masks_code.specs.Spots.{Spot}
use Rattle.isp_masks_code.specs.StmtRuns.{AreThree, EntersAt, StmtRuns}
use Rattle.isp_masks_code.specs.declared.exits.Exits.{Exits}
use Rattle.isp_masks_code.proofs.LoopParts.{none_done}
use Rattle.isp_masks_code.proofs.LoopTests.{KeptRuns, tested_runs}
use Rattle.isp_masks_code.proofs.Turns.{TopRuns, kept_runs, step_runs, jump_runs, again_runs, begin_runs}

module _ (w : Setting) (ready : IsSettled w) (e : Exits) (spot : Spot) (three : AreThree spot) (all : Mask) where
  abbrev n : ℕ
  n = spot.slot

  abbrev last : List Instr
  last = loop_end_code e spot.on spot.returned n

  -- a loop begins, and goes on from where its turns begin
  loop_runs : (wide : Bool) (pc q : ℕ) (s : State) (c : Conf) (code : ℕ → List Instr) (value : Mask → Mask → State → Res) → AreAt w.routine.code pc (loop_code e pc spot code) → EntersAt w pc spot all s c (3 + q)
      → ((top : ℕ) → AreAt w.routine.code top (code top) → AreAt w.routine.code (top + length (code top)) last → TopRuns w ready wide e spot three all w.turns top (top + length (code top) + length last) value)
      → StmtRuns w w.turns c (pc + length (loop_code e pc spot code)) spot (1 + q) (value all nobody s)
  loop_runs wide pc q s c code value has b f =
      subst (λ z. StmtRuns w w.turns c z spot (1 + q) (value all nobody s)) ends
      (begin_runs w ready wide e spot three all pc (top + length (code top) + length last) q s c value
      (are_front w.routine.code pc begin (code top ++ last) has) b
      (f top (are_front w.routine.code top (code top) last inside) (are_back w.routine.code top (code top) last inside)))
    where
      begin : List Instr
      begin = enter_code e spot.on n

      top : ℕ
      top = pc + length begin

      inside : AreAt w.routine.code top (code top ++ last)
      inside = are_back w.routine.code pc begin (code top ++ last) has

      ends : top + length (code top) + length last ≡ pc + length (loop_code e pc spot code)
      ends = omega (arith, length-append begin (code top ++ last), length-append (code top) last)

  no_step_runs : StepRuns w n no_code no_step
  no_step_runs T s c pc z has b = none_done w ready pc n (n + 3) z T s c b

  -- a `for` whose test is left out
  endless_runs : (pc q : ℕ) (s : State) (c : Conf) (body_code step_code : ℕ → List Instr) (body : Mask → State → Res) (step : Mask → State → Val Done)
      → BodyRuns w n body_code body → StepRuns w n step_code step → IsBody e body
      → AreAt w.routine.code pc (endless_code e pc spot body_code step_code) → EntersAt w pc spot all s c (3 + q)
      → StmtRuns w w.turns c (pc + length (endless_code e pc spot body_code step_code)) spot (1 + q)
      (tested (gang_of w) (λ l s1. Gives (One 1) s1) body step all (turns (gang_of w) (λ l s1. Gives (One 1) s1) body step all w.turns) all nobody s)
  endless_runs pc q s c body_code step_code body step run_body run_step is has b =
      loop_runs false pc q s c (λ top. two top (turn_code false e top n body_code) (behind top))
      (tested (gang_of w) test body step all (turns_here w.turns)) has b
      (λ top at at_end. from_top top (top + length (turn top top) + length last) w.turns (all_kept top (top + length (turn top top)) at at_end)
      at)
    where
      test : Mask → State → Val Payload
      test l s1 = Gives (One 1) s1

      turns_here : ℕ → Mask → Mask → State → Res
      turns_here = turns (gang_of w) test body step all

      behind : ℕ → ℕ → List Instr
      behind top pc = next_code e n pc step_code (λ pc1. instr.Jump top ∷ [])

      turn : ℕ → ℕ → List Instr
      turn top pc = two pc (turn_code false e pc n body_code) (behind top)

      from_top : (top end t : ℕ) → KeptRuns w ready false e spot three all t (turn top) (top + length (turn top top)) end (turns_here t)
          → AreAt w.routine.code top (turn top top) → TopRuns w ready false e spot three all t top end
          (tested (gang_of w) test body step all (turns_here t))
      from_top top end t f at q1 live returned s1 c1 i inside some used =
          subst (λ z. StmtRuns w t c1 end spot q1 (if_so z (turns_here t live returned) (loop_end (gang_of w) test body step all returned) s1)) (sym some) (f live returned s1 c1 top q1 at refl i some inside used)

      all_kept : (top past : ℕ) → AreAt w.routine.code top (turn top top) → AreAt w.routine.code (top + length (turn top top)) last
          → KeptRuns w ready false e spot three all w.turns (turn top) (top + length (turn top top)) (top + length (turn top top) + length last)
          (turns_here w.turns)
      all_kept top past at at_end =
          let to = top + length (turn top top) in
          kept_runs w ready false e spot three all to (to + length last) body_code (behind top) test body step run_body (λ T s1. (is T s1).0) (λ T s1. (is T s1).1)
          (λ m le f. step_runs w ready false e spot three all m to (to + length last) step_code (λ pc1. instr.Jump top ∷ []) step (tested (gang_of w) test body step all (turns_here m)) le refl at_end run_step
          (jump_runs w ready false e spot three all m top to (to + length last) (tested (gang_of w) test body step all (turns_here m)) (from_top top (to + length last) m f at))) w.turns (omega arith)

  module _ (wide : Bool) (r : Rate) (x : ℕ) (test_code body_code step_code : ℕ → List Instr) (test : Mask → State → Val Payload)
      (body : Mask → State → Res) (step : Mask → State → Val Done) (run_test : TestRuns w n r x test_code test)
      (run_body : BodyRuns w n body_code body) (run_step : StepRuns w n step_code step) (is : IsBody e body) where
    abbrev turns_here : ℕ → Mask → Mask → State → Res
    turns_here = turns (gang_of w) test body step all

    abbrev turns_from : ℕ → List Instr
    turns_from top = tested_code wide e r x n top test_code body_code step_code

    -- turns with the test after each, from one on
    all_kept : (past : ℕ) → AreAt w.routine.code past last → KeptRuns w ready wide e spot three all w.turns turns_from past (past + length last) (turns_here w.turns)
    all_kept past at_end kept returned s c top q has to i some inside used =
        kept_runs w ready wide e spot three all past end body_code behind test body step run_body (λ T s1. (is T s1).0) (λ T s1. (is T s1).1)
        (λ m le f. step_runs w ready wide e spot three all m past end step_code back step (tested (gang_of w) test body step all (turns_here m)) le refl at_end run_step
        (again_runs w ready wide e spot three all m r x top past end test_code turn test (turns_here m) le refl at_end has to run_test f)) w.turns (omega arith) kept returned s c top q has to i some inside used
      where
        end : ℕ
        end = past + length last

        back : ℕ → List Instr
        back pc = test_code pc ++ again_code r x n top

        behind : ℕ → List Instr
        behind pc = next_code e n pc step_code back

        turn : ℕ → List Instr
        turn pc = two pc (turn_code wide e pc n body_code) behind

    -- a loop that begins with a turn
    turned_runs : (pc q : ℕ) (s : State) (c : Conf) → AreAt w.routine.code pc (loop_code e pc spot turns_from) → EntersAt w pc spot all s c (3 + q)
        → StmtRuns w w.turns c (pc + length (loop_code e pc spot turns_from)) spot (1 + q) (turns_here w.turns all nobody s)
    turned_runs pc q s c has b =
        loop_runs wide pc q s c turns_from (turns_here w.turns) has b (λ top at at_end q1 live returned s1 c1 i inside some used. all_kept (top + length (turns_from top)) at_end live returned s1 c1 top q1 at refl i some inside used)

    -- and one that begins with the test
    for_runs : (pc q : ℕ) (s : State) (c : Conf) (entry_code : ℕ → List Instr) → TestRuns w n r x entry_code test
        → AreAt w.routine.code pc (for_code wide e r x pc spot entry_code test_code body_code step_code) → EntersAt w pc spot all s c (3 + q)
        → StmtRuns w w.turns c (pc + length (for_code wide e r x pc spot entry_code test_code body_code step_code)) spot (1 + q)
        (tested (gang_of w) test body step all (turns_here w.turns) all nobody s)
    for_runs pc q s c entry_code run_entry has b =
        loop_runs wide pc q s c (λ top. entry_code top ++ sift top) (tested (gang_of w) test body step all (turns_here w.turns)) has b
        (λ top at at_end q1 live returned s1 c1 i inside some used. tested_runs w ready wide e spot three all w.turns r x top
        (top + length (entry_code top ++ sift top)) q1 live returned s1 c1 entry_code turns_from test (turns_here w.turns) (omega arith)
        (omega (arith, length-append (entry_code top) (sift top))) i inside some used
        (are_front w.routine.code top (entry_code top) (sift top) at) (are_back w.routine.code top (entry_code top) (sift top) at) at_end
        run_entry (all_kept (top + length (entry_code top ++ sift top)) at_end))
      where
        sift : ℕ → List Instr
        sift top = sift_code r x (top + length (entry_code top)) n turns_from

pub loops_run : AllLoopsRun
loops_run w ready wide e spot a three = record {
  while_loop = λ r x pc q s c ec tc bc test body re rt rb is has b. for_runs w ready e spot three a wide r x tc bc no_code test body no_step rt rb
      (no_step_runs w ready e spot three a) is pc q (tick s) c ec re has (enters_part w ready pc spot.on spot.slot (3 + q) q a s c (omega arith) b);
  for_loop = λ r x pc q s c ec tc bc sc test body step re rt rb rs is has b. for_runs w ready e spot three a wide r x tc bc sc test body step rt rb rs is pc q s c ec re has b;
  endless_loop = λ pc q s c bc sc body step rb rs is has b. endless_runs w ready e spot three a pc q s c bc sc body step rb rs is has b;
  do_loop = λ r x pc q s c tc bc test body rt rb is has b. turned_runs w ready e spot three a wide r x tc bc no_code test body no_step rt rb (no_step_runs w ready e spot three a) is pc q s c has b;
}
