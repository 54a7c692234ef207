-- What holds of the code of every loop, by what holds of the codes of its parts.
use Rattle.std.specs.Prelude.{ℕ, ◌+◌, List, length, Bool}
use Rattle.isp_base.specs.Sets.{Mask}
use Rattle.isp_base.specs.declared.types.Rate.{Rate}
use Rattle.isp_code.specs.Conf.{Conf}
use Rattle.isp_code.specs.declared.instr.Instr.{Instr}
use Rattle.isp_meaning.specs.Laws.{Parted}
use Rattle.isp_meaning.specs.Loops.{do_turns, while_turns}
use Rattle.isp_meaning.specs.Outcomes.{Val, Gives, Done, Res}
use Rattle.isp_meaning.specs.Payloads.{Payload, One}
use Rattle.isp_meaning.specs.Simple.{no_step}
use Rattle.isp_meaning.specs.State.{State, tick}
use Rattle.isp_lower_code.specs.Runs.{Enters, Runs, DoneRuns}
use Rattle.isp_lower_code.specs.Setting.{Setting, IsSettled, gang_of, AreAt, Holds}
use Rattle.isp_masks_code.specs.Exits.{Leave}
use Rattle.isp_masks_code.specs.Loops.{while_code, for_code, endless_code, do_code}
use Rattle.isp_masks_code.specs.Spots.{Spot, body_spot}
use Rattle.isp_masks_code.specs.StmtRuns.{AreThree, EntersAt, StmtRuns}
use Rattle.isp_masks_code.specs.declared.exits.Exits.{Exits}

-- ---- what is asked of the parts: each is code that is given where it begins

module _ (w : Setting) (n : ℕ) where
  -- a test under mask n leaves four steps, and its value in register x
  abbrev pub TestRuns : Rate → ℕ → (ℕ → List Instr) → (Mask → State → Val Payload) → Type 0
  TestRuns r x code v =
      (T : Mask) (s : State) (c : Conf) (pc z : ℕ) → AreAt w.routine.code pc (code pc) → Enters w pc n (n + 3) T s c z → Runs w c (pc + length (code pc)) (n + 3) (4 + z) (Holds r T x) (v T s)

  -- a body under masks n, n + 1 and n + 2
  abbrev pub BodyRuns : (ℕ → List Instr) → (Mask → State → Res) → Type 0
  BodyRuns code v =
      (T : Mask) (s : State) (c : Conf) (pc z : ℕ) → AreAt w.routine.code pc (code pc) → EntersAt w pc (body_spot n) T s c z → StmtRuns w w.turns c (pc + length (code pc)) (body_spot n) z (v T s)

  -- a step under mask n
  abbrev pub StepRuns : (ℕ → List Instr) → (Mask → State → Val Done) → Type 0
  StepRuns code v =
      (T : Mask) (s : State) (c : Conf) (pc z : ℕ) → AreAt w.routine.code pc (code pc) → Enters w pc n (n + 3) T s c z → DoneRuns w c (pc + length (code pc)) (n + 3) z (v T s)

-- the four sets of a body make up the set, and nobody leaves it but as its exits say
abbrev pub IsBody : Exits → (Mask → State → Res) → Type 0
IsBody e v = (T : Mask) (s : State) → Parted T (v T s) × Leave e (v T s)

-- ---- the forms

-- From registers that stand for a state, and a mask that stands for a set with members, the code of a loop does what the
-- loop means: its own unit of work pays for its beginning and its end, and each turn's for what a turn needs besides its
-- parts. A step is left.
pub record LoopsRun (w : Setting) (wide : Bool) (e : Exits) (spot : Spot) (a : Mask) : Type 0 where
  pub while_loop : (r : Rate) (x pc q : ℕ) (s : State) (c : Conf) (entry_code test_code body_code : ℕ → List Instr)
      (test : Mask → State → Val Payload) (body : Mask → State → Res) → TestRuns w spot.slot r x entry_code test
      → TestRuns w spot.slot r x test_code test → BodyRuns w spot.slot body_code body → IsBody e body
      → AreAt w.routine.code pc (while_code wide e r x pc spot entry_code test_code body_code) → EntersAt w pc spot a s c q
      → StmtRuns w w.turns c (pc + length (while_code wide e r x pc spot entry_code test_code body_code)) spot (1 + q) (while_turns (gang_of w) test body no_step a w.turns (tick s))
  -- after its first part
  pub for_loop : (r : Rate) (x pc q : ℕ) (s : State) (c : Conf) (entry_code test_code body_code step_code : ℕ → List Instr)
      (test : Mask → State → Val Payload) (body : Mask → State → Res) (step : Mask → State → Val Done) → TestRuns w spot.slot r x entry_code test
      → TestRuns w spot.slot r x test_code test → BodyRuns w spot.slot body_code body → StepRuns w spot.slot step_code step → IsBody e body
      → AreAt w.routine.code pc (for_code wide e r x pc spot entry_code test_code body_code step_code) → EntersAt w pc spot a s c (3 + q)
      → StmtRuns w w.turns c (pc + length (for_code wide e r x pc spot entry_code test_code body_code step_code)) spot (1 + q) (while_turns (gang_of w) test body step a w.turns s)
  -- and with its test left out
  pub endless_loop : (pc q : ℕ) (s : State) (c : Conf) (body_code step_code : ℕ → List Instr) (body : Mask → State → Res) (step : Mask → State → Val Done) → BodyRuns w spot.slot body_code body → StepRuns w spot.slot step_code step → IsBody e body
      → AreAt w.routine.code pc (endless_code e pc spot body_code step_code) → EntersAt w pc spot a s c (3 + q)
      → StmtRuns w w.turns c (pc + length (endless_code e pc spot body_code step_code)) spot (1 + q) (while_turns (gang_of w) (λ l s1. Gives (One 1) s1) body step a w.turns s)
  pub do_loop : (r : Rate) (x pc q : ℕ) (s : State) (c : Conf) (test_code body_code : ℕ → List Instr) (test : Mask → State → Val Payload)
      (body : Mask → State → Res) → TestRuns w spot.slot r x test_code test → BodyRuns w spot.slot body_code body → IsBody e body
      → AreAt w.routine.code pc (do_code wide e r x pc spot test_code body_code) → EntersAt w pc spot a s c (3 + q)
      → StmtRuns w w.turns c (pc + length (do_code wide e r x pc spot test_code body_code)) spot (1 + q) (do_turns (gang_of w) test body no_step a w.turns s)

abbrev pub AllLoopsRun : Type 0
AllLoopsRun = (w : Setting) → IsSettled w → (wide : Bool) (e : Exits) (spot : Spot) (a : Mask) → AreThree spot → LoopsRun w wide e spot a
