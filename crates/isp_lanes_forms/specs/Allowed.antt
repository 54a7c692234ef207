-- Forms that tables allow: a free instruction is one whose lanes that are off nobody reads again, a useless one writes what
-- nobody reads.
use Rattle.std.specs.Prelude.{◌≡◌, ℕ, ◌+◌, Option, Some, None, true, not, ◌&&◌, if◌then◌else◌, slice_get}
use Rattle.isp_code.specs.Listing.{Listing, Routine}
use Rattle.isp_code.specs.declared.instr.Instr.{Instr}
use Rattle.isp_code.specs.declared.instr.Instr.TheVariants as instr
use Rattle.isp_code.specs.declared.instr.VectorInstr.{VectorInstr}
use Rattle.isp_code.specs.declared.register.Register.{Register}
use Rattle.isp_forms.specs.Runs.{Forms}
use Rattle.isp_forms.specs.declared.form.Form.{Form}
use Rattle.isp_forms.specs.declared.form.Form.TheVariants.{Kept, Free, Useless, FreeBy}
use Rattle.isp_constants.specs.Amounts.{AmountsHold}
use Rattle.isp_lanes_read.specs.Free.{is_free, is_useless, is_call}
use Rattle.isp_lanes_read.specs.Laws.{MasksHold, RunsAgree, FreeWrites}
use Rattle.isp_lanes_read.specs.Rows.{Row, Rows, row_at}
use Rattle.isp_lanes_forms.specs.Begins.{BeginHarmless}

-- of an instruction, by the rows before and after it; a call is not free
abbrev pub form_by : Row → Row → Instr → Form
form_by row next i = if is_useless next i then Useless else (if is_free row next i && not (is_call i) then Free else Kept)

abbrev pub form_at : Row → Row → Option Instr → Form
form_at row next None = Kept
form_at row next (Some i) = form_by row next i

abbrev pub form_in : Row → Row → ℕ → Option Routine → Form
form_in row next pc None = Kept
form_in row next pc (Some h) = form_at row next (slice_get h.code pc)

-- of all instructions of some code
abbrev pub forms_of : Listing → Rows → Forms
forms_of code rows f pc = form_in (row_at rows f pc) (row_at rows f (pc + 1)) pc (slice_get code.routines f)

-- what the rows before and after an instruction have to tell for a form
abbrev pub IsAllowed : Row → Row → Instr → Form → Type 0
IsAllowed row next i Free = is_free row next i ≡ true
IsAllowed row next i (FreeBy b) = is_free row next i ≡ true
IsAllowed row next i Useless = is_useless next i ≡ true
IsAllowed row next i form = Unit {0}

-- what tables allow, of each instruction on vectors
abbrev pub AreAllowed : Listing → Rows → Forms → Type 0
AreAllowed code rows forms =
    (f : ℕ) (h : Routine) (pc : ℕ) (d : Register) (i : VectorInstr) → slice_get code.routines f ≡ Some h → slice_get h.code pc ≡ Some (instr.Vector d i)
    → IsAllowed (row_at rows f pc) (row_at rows f (pc + 1)) (instr.Vector d i) (forms f pc)

-- Where the laws of isp_lanes_read hold of tables, forms that they allow are harmless wherever a run begins, if operands that are told as
-- numbers have them; and the tables allow those that they tell.
pub record FormsAreHarmless : Type 0 where
  pub allowed : (code : Listing) (rows : Rows) → MasksHold code rows → RunsAgree code rows → FreeWrites code rows → (forms : Forms) → AreAllowed code rows forms → AmountsHold code forms → BeginHarmless code forms
  pub told : (code : Listing) (rows : Rows) → AreAllowed code rows (forms_of code rows)
