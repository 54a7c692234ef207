-- That forms in a list are allowed, of the instructions of a function, and of functions. No part of a promise.
use Rattle.std.specs.Prelude.{◌≡◌, ◌<◌, ℕ, ◌+◌, List, [], Some, slice_get, slice_index_or}
use Rattle.isp_code.specs.Listing.{Routine}
use Rattle.isp_code.specs.declared.instr.Instr.{Instr}
use Rattle.isp_forms.specs.Tables.{form_or_kept}
use Rattle.isp_forms.specs.declared.form.Form.{Form}
use Rattle.isp_lanes_read.specs.Rows.{Rows, row_at}
use Rattle.isp_lanes_forms.specs.Allowed.{IsAllowed}

-- those of the first n instructions of function f
abbrev pub FirstAllowed : Rows → ℕ → ℕ → List Instr → List Form → Type 0
FirstAllowed rows f n is forms =
    (k : ℕ) (i : Instr) → k < n → slice_get is k ≡ Some i → IsAllowed (row_at rows f k) (row_at rows f (k + 1)) i (form_or_kept forms k)

-- those of all its instructions
abbrev pub LinesAllowed : Rows → ℕ → List Instr → List Form → Type 0
LinesAllowed rows f is forms = (k : ℕ) (i : Instr) → slice_get is k ≡ Some i → IsAllowed (row_at rows f k) (row_at rows f (k + 1)) i (form_or_kept forms k)

-- those of the first n functions
abbrev pub FunctionsAllowed : Rows → ℕ → List Routine → List (List Form) → Type 0
FunctionsAllowed rows n hs lists = (f : ℕ) (h : Routine) → f < n → slice_get hs f ≡ Some h → LinesAllowed rows f h.code (slice_index_or lists f [])
