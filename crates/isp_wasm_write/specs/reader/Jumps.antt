-- What is tested where control may jump.
use Rattle.std.specs.Prelude.{◌-◌, ◌^◌}
use Rattle.isp_code.specs.declared.instr.JumpTest.{JumpTest}
use Rattle.isp_code.specs.declared.instr.JumpTest.TheVariants as jump
use Rattle.isp_code.specs.declared.register.Register.{Register}
use Rattle.isp_wasm_meaning.specs.Syntax as wasm
use Rattle.isp_wasm_meaning.specs.Syntax.{Expr, One, Two, Eqz, Eq, Const32}
use Rattle.isp_wasm.specs.Places.{Setting, gang}
use Rattle.isp_wasm.specs.Templates.{scalar_local, lanes_as_bits}

abbrev pub test_expr : Setting → JumpTest → Register → Expr
test_expr w jump.False x = One (Eqz wasm.I32) (scalar_local w x)
test_expr w jump.True x = scalar_local w x
test_expr w jump.Off x = One (Eqz wasm.I32) (lanes_as_bits w x)
test_expr w jump.On x = lanes_as_bits w x
test_expr w jump.All x = Two (wasm.Compare wasm.I32 Eq) (lanes_as_bits w x) (Const32 (2 ^ gang w - 1))
