-- From the clauses of an emitter's calls to a law: a tree was written between two states of an emitter, which came to a last one, and
-- `finish` gave the code.
use Rattle.std.specs.Prelude.{◌≡◌, length, Some}
use Rattle.isp_typed.specs.Typed.{TExpr, TSimple}
use Rattle.isp_lower.specs.Adding.{Adds, expr_in, simple_in}
use Rattle.isp_lower.specs.Drafts.{draft_of, finished}
use Rattle.isp_lower.specs.declared.sites.Site.{Site}
use Rattle.isp_lower.specs.declared.types.Emitter.{Emitter}
use Rattle.isp_lower_code.specs.Asks.{expr_asks, simple_asks}
use Rattle.isp_lower_code.specs.FirstRows.{first_rows}
use Rattle.isp_lower_code.specs.Header.{heading_of}
use Rattle.isp_lower_code.specs.Rows.{layout_of}
use Rattle.isp_lower_code.specs.Setting.{Setting, IsSettled}
use Rattle.isp_registers.specs.Growth.{Grows}
use Rattle.isp_registers.specs.Reserved.{Has}
use Rattle.isp_emitter_laws.specs.Finished.{AddsRows}
use Rattle.isp_emitter_laws.specs.Parts.{SamePart}
use Rattle.isp_emitter_laws.specs.Written.{HasExpr, HasSimple}

-- What was added stands in the last code where it stood, and the code of the call is what `finish` gave: its function was at work last.
pub record IsFinished (w : Setting) (old new last : Emitter) : Type 0 where
  pub callees : (draft_of new).callees ≡ w.program.functions
  pub grows : Grows new.reserved.registers last.reserved.registers
  pub code : SamePart (length (draft_of old).code) (length (draft_of new).code) (draft_of new).code (draft_of last).code
  pub places : SamePart (length (draft_of old).places) (length (draft_of new).places) (draft_of new).places (draft_of last).places
  pub heading : (draft_of last).heading ≡ Some (heading_of w.function)
  pub begun : AddsRows (first_rows w.function.variables w.function.answer) (draft_of last).rows
  pub given : w.code ≡ finished (draft_of last)
  pub number : w.home.fn ≡ length (draft_of last).routines
  pub layout : w.layout ≡ layout_of w.layout.rates (draft_of last).rows

-- then it is there as the laws of its code ask
pub record FinishedIsWritten : Type 0 where
  pub exprs : (w : Setting) → IsSettled w → (old new last : Emitter) (x : TExpr) (at : Site) → Adds old new (expr_in new x at)
      → Has new.reserved (expr_asks x at.slot.number) → IsFinished w old new last → HasExpr w old new last x at
  pub simples : (w : Setting) → IsSettled w → (old new last : Emitter) (x : TSimple) (at : Site) → Adds old new (simple_in new x at)
      → Has new.reserved (simple_asks x at.slot.number) → IsFinished w old new last → HasSimple w old new last x at
