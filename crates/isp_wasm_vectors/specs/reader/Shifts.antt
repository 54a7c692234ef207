-- Shifts of all lanes by one amount.
use Rattle.std.specs.Prelude.{ℕ, Bool, true, false}
use Rattle.isp_code.specs.declared.instr.Plain.{Plain}
use Rattle.isp_code.specs.declared.instr.Plain.TheVariants as plain
use Rattle.isp_code.specs.declared.register.Register.{Register}
use Rattle.isp_forms.specs.declared.form.Form.{Form}
use Rattle.isp_wasm_meaning.specs.Syntax as wasm
use Rattle.isp_wasm_meaning.specs.Syntax.{Expr, Code, Set}
use Rattle.isp_wasm.specs.Places.{Setting, Fresh}
use Rattle.isp_wasm.specs.Rows.{shift_row}
use Rattle.isp_wasm.specs.Words.{right_of}
use Rattle.isp_wasm.specs.Templates.{vector_local, set_lanes}
use Rattle.isp_wasm_vectors.specs.declared.shifts.Shifted.{Shifted}

abbrev pub operator : Bool → Plain
operator true = plain.Shl
operator false = plain.Shr

abbrev pub direction_by : Bool → Shifted → wasm.Shift
direction_by true s = wasm.Shl
direction_by false s = right_of s.elem

abbrev pub direction : Shifted → wasm.Shift
direction s = direction_by s.to_left s

module _ (w : Setting) where
  abbrev pub shifted : Shifted → ℕ → Expr
  shifted s = shift_row (operator s.to_left) s.elem (vector_local w s.value) s.amount

  -- a part is worked out
  abbrev pub worked_part : Shifted → ℕ → Code
  worked_part s j = Set (w.local (Fresh j)) (shifted s j)

  abbrev pub lanes_set : Form → Register → Shifted → Code
  lanes_set form d s = set_lanes w form d s.mask (shifted s)
