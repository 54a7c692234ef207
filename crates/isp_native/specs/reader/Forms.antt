-- How the code finds the form of an instruction: by tables of isp_lanes_read. No part of a promise.
use Rattle.std.specs.Prelude.{◌+◌, Option, Some, None, not, ◌&&◌, if◌then◌else◌, option_map}
use Rattle.std.specs.Borrow.{Bor}
use Rattle.isp_code.specs.Listing.{Listing}
use Rattle.isp_code.specs.declared.instr.Instr.{Instr}
use Rattle.isp_lanes_read.specs.Free.{is_call, is_free, is_useless}
use Rattle.isp_lanes_read.specs.Laws.{FreeWrites, MasksHold, RunsAgree}
use Rattle.isp_lanes_read.specs.Rows.{Row, Rows, row_at, rows_of}
use Rattle.isp_lanes_read.specs.declared.table.Tables.{Tables}
use Rattle.isp_native.specs.Forms.{Forms}
use Rattle.isp_native.specs.declared.form.Form.{Form}
use Rattle.isp_native.specs.declared.form.Form.TheVariants.{Kept, Free, Useless}

-- by the rows before and after it; a call has no free word
abbrev pub form_by : Row → Row → Instr → Form
form_by row next i = if is_useless next i then Useless else (if is_free row next i && not (is_call i) then Free else Kept)

-- by the rows of all functions; without rows each is kept
abbrev pub form_at : Option Rows → Forms
form_at None f pc i = Kept
form_at (Some rows) f pc i = form_by (row_at rows f pc) (row_at rows f (pc + 1)) i

-- by tables that may be missing
abbrev pub forms_by : Option (Bor Tables) → Forms
forms_by tables = form_at (option_map (λ t. rows_of t.now) tables)

-- the laws of isp_lanes_read hold of rows
pub record HaveLaws (code : Listing) (rows : Rows) : Type 0 where
  pub masks : MasksHold code rows
  pub runs : RunsAgree code rows
  pub writes : FreeWrites code rows

abbrev pub HaveLawsIfAny : Listing → Option Rows → Type 0
HaveLawsIfAny code None = Unit {0}
HaveLawsIfAny code (Some rows) = HaveLaws code rows
