-- The forms of instructions as lists: for each function those of its instructions, in order.
use Rattle.std.specs.Prelude.{ℕ, List, [], map, slice_index_or}
use Rattle.isp_forms.specs.Runs.{Forms}
use Rattle.isp_forms.specs.declared.form.Form.{Form}
use Rattle.isp_forms.specs.declared.form.Form.TheVariants.{Kept}
use Rattle.isp_forms.specs.declared.table.FormTable.{FormTable}

abbrev pub lists_of : FormTable → List (List Form)
lists_of t = map (λ v. v.items) t.functions.items

-- an instruction that has none is kept
abbrev pub form_or_kept : List Form → ℕ → Form
form_or_kept forms pc = slice_index_or forms pc Kept

abbrev pub forms_in : List (List Form) → Forms
forms_in lists f pc = form_or_kept (slice_index_or lists f []) pc
