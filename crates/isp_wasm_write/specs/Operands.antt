-- The expressions that operands are.
use Rattle.std.specs.Prelude.{ℕ}
use Rattle.isp_base.specs.declared.types.Elem.{Elem}
use Rattle.isp_base.specs.declared.types.Elem.TheVariants.{Bool as Truth}
use Rattle.isp_wasm_meaning.specs.Syntax.{I8x16, I32, And, BitsOf, Extract, Expr, Const32, Const128, One, Two}
use Rattle.isp_wasm_meaning.specs.Syntax as wasm
use Rattle.isp_wasm.specs.Places.{size_of, shape_of}
use Rattle.isp_wasm.specs.Words.{constant}
use Rattle.isp_wasm_write.specs.declared.rows.Part.{Part}
use Rattle.isp_wasm_write.specs.declared.rows.Part.TheVariants as parts
use Rattle.isp_wasm_write.specs.declared.operand.Operand.{Operand}
use Rattle.isp_wasm_write.specs.declared.operand.Operand.TheVariants.{Local, Lane, Zero}

-- the value of lane k of a local
abbrev pub lane_expr : Elem → ℕ → ℕ → Expr
lane_expr Truth x k = Two (BitsOf I32 And) (One (Extract I8x16 k) (wasm.Local x)) (Const32 1)
lane_expr t x k = One (Extract (shape_of t) k) (wasm.Local x)

abbrev pub operand_expr : Operand → Expr
operand_expr (Local x) = wasm.Local x
operand_expr (Lane t x k) = lane_expr t x k
operand_expr (Zero t) = constant (size_of t) 0

abbrev pub part_expr : Part → Expr
part_expr (parts.Local x) = wasm.Local x
part_expr parts.Zero = Const128 0
