-- A lane's value as it is written, without the comma.
use Rattle.std.specs.Prelude.{ℕ}
use Rattle.isp_code.specs.declared.register.Register.{Register}
use Rattle.isp_wasm_meaning.specs.Syntax.{Code, If}
use Rattle.isp_wasm.specs.Places.{Setting, elem}
use Rattle.isp_wasm.specs.Rows.{lane_at}
use Rattle.isp_wasm.specs.Templates.{is_member, vector_local, print_value, print_byte}

abbrev pub print_lane : Setting → Register → Register → ℕ → Code
print_lane w x k p = If (is_member w k p) (print_value w (elem w x) (lane_at (elem w x) (vector_local w x) p)) (print_byte w 95)
