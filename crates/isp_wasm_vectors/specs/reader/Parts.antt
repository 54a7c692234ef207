-- What is made of parts of vectors, as the code goes about it.
use Rattle.std.specs.Prelude.{ℕ, ◌/◌, Bool, true, false}
use Rattle.isp_base.specs.declared.operators.Compare.TheVariants as compare
use Rattle.isp_base.specs.declared.operators.UnaryOp.{UnaryOp}
use Rattle.isp_base.specs.declared.types.Elem.{Elem}
use Rattle.isp_base.specs.declared.types.Elem.TheVariants.{I8, U8}
use Rattle.isp_code.specs.declared.instr.Plain.{Plain}
use Rattle.isp_code.specs.declared.instr.Plain.TheVariants as plains
use Rattle.isp_code.specs.declared.register.Register.{Register}
use Rattle.isp_wasm_meaning.specs.Syntax.{Shape, I8x16, I16x8, I32x4, I64x2, Binary, Expr, Const128, Two, Bitselect}
use Rattle.isp_wasm.specs.Places.{Setting, elem, shape}
use Rattle.isp_wasm.specs.Rows.{resized_row, widened, present, below_row, compare_row, unary_row, plain_row}
use Rattle.isp_wasm.specs.Templates.{vector_local, mask_local}
use Rattle.isp_wasm_vectors.specs.declared.rows.Row.{Row}
use Rattle.isp_wasm_vectors.specs.declared.rows.Row.TheVariants as row

-- the part of a row of bytes in which a part's lanes lie
abbrev pub byte_part : Shape → ℕ → ℕ
byte_part I8x16 j = j
byte_part I16x8 j = j / 2
byte_part I32x4 j = j / 2 / 2
byte_part I64x2 j = j / 2 / 2 / 2

-- no operator of WebAssembly does it for all lanes of a part
abbrev pub is_lane_by_lane : Plain → Elem → Bool
is_lane_by_lane plains.Mul I8 = true
is_lane_by_lane plains.Mul U8 = true
is_lane_by_lane plains.Shl t = true
is_lane_by_lane plains.Shr t = true
is_lane_by_lane o t = false

-- the register whose type the lanes of a row have
abbrev pub typed_by : Row → Register
typed_by (row.Lanes x) = x
typed_by (row.NotZero x) = x
typed_by (row.Compared o x y) = x

module _ (w : Setting) where
  -- what operators make of registers
  abbrev pub unary : UnaryOp → Elem → Register → ℕ → Expr
  unary o t x = unary_row o t (vector_local w x)

  abbrev pub below : Elem → Register × Register → ℕ → Expr
  below t xs = below_row t (vector_local w xs.0) (vector_local w xs.1)

  abbrev pub plain : Plain → Elem → Register × Register → ℕ → Expr
  plain o t xs = plain_row w o t (vector_local w xs.0) (vector_local w xs.1)

  abbrev pub of_two : Binary → Register × Register → ℕ → Expr
  of_two o xs j = Two o (vector_local w xs.0 j) (vector_local w xs.1 j)

  -- a mask, and bools, as lanes of a shape
  abbrev pub of_mask : Shape → Register → ℕ → Expr
  of_mask s k = widened s (mask_local w k)

  abbrev pub of_bools : Shape → Register → ℕ → Expr
  of_bools s x = widened s (vector_local w x)

  -- of two registers, where a comparison of two others holds, the first
  abbrev pub one_of : Elem → Register × Register → Register × Register → ℕ → Expr
  one_of t ds cs j = Bitselect (vector_local w ds.0 j) (vector_local w ds.1 j) (below t cs j)

  -- a row, with zeros after its parts, and as lanes of a shape
  abbrev pub row_expr : Row → ℕ → Expr
  row_expr (row.Lanes x) = vector_local w x
  row_expr (row.NotZero x) = compare_row compare.NotEqual (elem w x) (vector_local w x) (λ j. Const128 0)
  row_expr (row.Compared o x y) = compare_row o (elem w x) (vector_local w x) (vector_local w y)

  abbrev pub present_row : Row → ℕ → Expr
  present_row r = present w (shape w (typed_by r)) (row_expr r)

  abbrev pub resized : Shape → Row → ℕ → Expr
  resized s r = resized_row (shape w (typed_by r)) s (present_row r)
