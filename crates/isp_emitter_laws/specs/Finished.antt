-- A call of the function that an emitter was at work on, in the code that was finished then or later.
use Rattle.std.specs.Prelude.{◌≡◌, length, Some}
use Rattle.isp_lower.specs.Drafts.{Draft, all_routines}
use Rattle.isp_lower_code.specs.FirstRows.{Begins, first_rows}
use Rattle.isp_lower_code.specs.Header.{heading_of}
use Rattle.isp_lower_code.specs.Rows.{Rows, layout_of}
use Rattle.isp_lower_code.specs.Setting.{Setting, IsSettled}
use Rattle.isp_emitter_laws.specs.OfRows.{StartsWith, IsOfRows}

-- scalars and vectors are added
pub record AddsRows (old new : Rows) : Type 0 where
  pub scalars : Begins old.scalars new.scalars
  pub vectors : Begins old.vectors new.vectors

-- The draft is the last one of this function: `finished` has its routine, and so has code in which other functions were begun after it.
pub record RunsDraft (w : Setting) (d : Draft) : Type 0 where
  pub heading : d.heading ≡ Some (heading_of w.function)
  pub begun : AddsRows (first_rows w.function.variables w.function.answer) d.rows
  pub routines : StartsWith (all_routines d) w.code.routines
  pub places : StartsWith d.places w.code.places
  pub number : w.home.fn ≡ length d.routines
  pub layout : w.layout ≡ layout_of w.layout.rates d.rows

pub record HasDraft (w : Setting) (d : Draft) : Type 0 where
  pub rows : IsOfRows w d.rows
  pub code : w.routine.code ≡ d.code
  pub places : StartsWith d.places w.code.places

-- the routine of the call has the registers and the code of the draft
abbrev pub FinishedHas : Type 0
FinishedHas = (w : Setting) (d : Draft) → IsSettled w → RunsDraft w d → HasDraft w d
