-- What holds of the code of every statement that fits.
use Rattle.std.specs.Prelude.{ℕ, ◌+◌, length}
use Rattle.isp_base.specs.Sets.{Mask}
use Rattle.isp_code.specs.Conf.{Conf}
use Rattle.isp_typed.specs.Typed.{TStmt}
use Rattle.isp_meaning.specs.State.{State}
use Rattle.isp_meaning.specs.Statements.{run}
use Rattle.isp_lower_code.specs.Setting.{Setting, IsSettled, gang_of, calls_of, AreAt}
use Rattle.isp_masks_code.specs.Exits.{all_go_on}
use Rattle.isp_masks_code.specs.Fits.{StmtFits}
use Rattle.isp_masks_code.specs.Named.{Named}
use Rattle.isp_masks_code.specs.Spots.{Numbers, Spot}
use Rattle.isp_masks_code.specs.Statements.{stmt_code}
use Rattle.isp_masks_code.specs.StmtRuns.{AreThree, aside, EntersAt, StmtRuns}

-- From registers that stand for a state and a mask that stands for a set with members, the code of a statement leaves
-- registers that stand for the state after it and masks for those that went on, continued and returned; it traps as the
-- statement traps, and goes on where it is cut.
abbrev pub StatementRuns : Type 0
StatementRuns =
    (w : Setting) → IsSettled w → (x : TStmt) (pc : ℕ) (z : Numbers) (spot : Spot) (q : ℕ) (a : Mask) (s : State) (c : Conf)
    → StmtFits w x spot.slot → AreAt w.routine.code pc (stmt_code w.layout w.frame.answer x pc z spot) → Named w z x → AreThree spot → EntersAt w pc spot a s c q
    → StmtRuns w w.turns c (pc + length (stmt_code w.layout w.frame.answer x pc z spot)) spot (aside (all_go_on x) + q) (run (gang_of w) w.frame (calls_of w) w.turns x a s)
