-- Vectors as rows of parts of 16 bytes. A lane has as many bits as its type; a bool's are eight, all ones or zeros.
use Rattle.std.specs.Prelude.{ℕ, zero, suc, ◌+◌, ◌-◌, ◌*◌, ◌/◌, ◌%◌, ◌^◌, min, if◌then◌else◌, nat_eq, nat_lt}
use Rattle.isp_base.specs.Values.{width}
use Rattle.isp_base.specs.declared.operators.Compare.{Compare}
use Rattle.isp_base.specs.declared.operators.Compare.TheVariants as compare
use Rattle.isp_base.specs.declared.operators.UnaryOp.{UnaryOp}
use Rattle.isp_base.specs.declared.operators.UnaryOp.TheVariants as unary
use Rattle.isp_base.specs.declared.types.Elem.{Elem}
use Rattle.isp_base.specs.declared.types.Elem.TheVariants.{Bool as Truth, I8, U8, I16, I32, I64, U64}
use Rattle.isp_code.specs.declared.instr.Plain.{Plain}
use Rattle.isp_code.specs.declared.instr.Plain.TheVariants as plain
use Rattle.isp_wasm_meaning.specs.Lists.{evens}
use Rattle.isp_wasm_meaning.specs.Syntax as wasm
use Rattle.isp_wasm_meaning.specs.Syntax.{Shape, I8x16, I16x8, I32x4, I64x2, Add, Sub, Mul, And, Or, Xor, Shl, Eq, LtU, LtS, Splat, Extract, ExtendLow, ExtendHigh, Of, BitsOf, Lanes, CompareLanes, ShiftLanes, Bits, Replace, Shuffle, Expr, Const32, Const128, One, Two, Bitselect}
use Rattle.isp_wasm_meaning.specs.Meaning.{count, of_lanes}
use Rattle.isp_wasm.specs.Places.{Setting, gang, parts, shape_of}
use Rattle.isp_wasm.specs.Words.{plain_expr, less_of, right_of}

-- ---- one lane

-- the bits of a lane that holds this value of a type
abbrev pub cell : Elem → ℕ → ℕ
cell Truth b = b * 255
cell t b = b

abbrev pub as_cell : Elem → Expr → Expr
as_cell Truth x = Two (Of wasm.I32 Sub) (Const32 0) x
as_cell t x = x

-- the value of lane p
abbrev pub lane_at : Elem → (ℕ → Expr) → ℕ → Expr
lane_at Truth e p = Two (BitsOf wasm.I32 And) (One (Extract I8x16 (p % 16)) (e (p / 16))) (Const32 1)
lane_at t e p = One (Extract (shape_of t) (p % count (shape_of t))) (e (p / count (shape_of t)))

-- a vector of n lanes, one by one
abbrev pub built : Shape → ℕ → (ℕ → Expr) → Expr
built s zero f = Const128 0
built s (suc n) f = Two (Replace s n) (built s n f) (f n)

-- ---- lanes of another shape

-- part j of two, the low and the high one, of lanes of half the width
abbrev pub half : Shape → ℕ → Expr → Expr
half s j x = if nat_eq (j % 2) 0 then One (ExtendLow s) x else One (ExtendHigh s) x

-- lanes of half the width as lanes of a shape, with their sign
abbrev pub extended : Shape → (ℕ → Expr) → ℕ → Expr
extended s e j = half s j (e (j / 2))

-- bytes as lanes of a shape, with their sign; ones or zeros stay such
abbrev pub widened : Shape → (ℕ → Expr) → ℕ → Expr
widened I8x16 e = e
widened I16x8 e = extended I16x8 e
widened I32x4 e = extended I32x4 (extended I16x8 e)
widened I64x2 e = extended I64x2 (extended I32x4 (extended I16x8 e))

-- the low halves of the lanes of two parts
abbrev pub joined : Shape → (ℕ → Expr) → ℕ → Expr
joined s e j = Two (Shuffle (evens s)) (e (2 * j)) (e (2 * j + 1))

-- and back, to bytes
abbrev pub narrowed : Shape → (ℕ → Expr) → ℕ → Expr
narrowed I8x16 e = e
narrowed I16x8 e = joined I16x8 e
narrowed I32x4 e = joined I16x8 (joined I32x4 e)
narrowed I64x2 e = joined I16x8 (joined I32x4 (joined I64x2 e))

-- lanes of a shape as lanes of another: their low bits, or with their sign
abbrev pub resized_row : Shape → Shape → (ℕ → Expr) → ℕ → Expr
resized_row s I8x16 e = narrowed s e
resized_row I8x16 s e = widened s e
resized_row I16x8 I32x4 e = extended I32x4 e
resized_row I16x8 I64x2 e = extended I64x2 (extended I32x4 e)
resized_row I32x4 I16x8 e = joined I32x4 e
resized_row I32x4 I64x2 e = extended I64x2 e
resized_row I64x2 I16x8 e = joined I32x4 (joined I64x2 e)
resized_row I64x2 I32x4 e = joined I64x2 e
resized_row s t e = e

-- all ones
abbrev pub ones : Expr
ones = Const128 (2 ^ 128 - 1)

-- ---- operators

-- each lane of 64 bits moved up by 2 ^ 63: there is no lt_u of these
abbrev pub raised_lanes : Expr → Expr
raised_lanes x = Two (Lanes I64x2 Add) x (Const128 (of_lanes I64x2 (λ i. 2 ^ 63)))

abbrev pub below_row : Elem → (ℕ → Expr) → (ℕ → Expr) → ℕ → Expr
below_row U64 x y j = Two (CompareLanes I64x2 LtS) (raised_lanes (x j)) (raised_lanes (y j))
below_row t x y j = Two (CompareLanes (shape_of t) (less_of t)) (x j) (y j)

abbrev pub inverted : (ℕ → Expr) → ℕ → Expr
inverted x j = Two (Bits Xor) (x j) ones

-- of lanes of a type
abbrev pub compare_row : Compare → Elem → (ℕ → Expr) → (ℕ → Expr) → ℕ → Expr
compare_row compare.Equal t x y = λ j. Two (CompareLanes (shape_of t) Eq) (x j) (y j)
compare_row compare.NotEqual t x y = inverted (λ j. Two (CompareLanes (shape_of t) Eq) (x j) (y j))
compare_row compare.Less t x y = below_row t x y
compare_row compare.LessOrEqual t x y = inverted (below_row t y x)
compare_row compare.Greater t x y = below_row t y x
compare_row compare.GreaterOrEqual t x y = inverted (below_row t x y)

abbrev pub unary_row : UnaryOp → Elem → (ℕ → Expr) → ℕ → Expr
unary_row unary.Negate t x j = Two (Lanes (shape_of t) Sub) (Const128 0) (x j)
unary_row unary.Invert t x j = Two (Bits Xor) (x j) ones
unary_row unary.Absolute t x j = Bitselect (Two (Lanes (shape_of t) Sub) (Const128 0) (x j)) (x j) (below_row t x (λ j. Const128 0) j)
unary_row unary.Not t x j = Two (Bits Xor) (x j) ones

-- a shift of each lane by one amount
abbrev pub shift_row : Plain → Elem → (ℕ → Expr) → ℕ → ℕ → Expr
shift_row plain.Shl t x b j = Two (ShiftLanes (shape_of t) Shl) (x j) (Const32 (b % width t))
shift_row o t x b j = Two (ShiftLanes (shape_of t) (right_of t)) (x j) (Const32 (b % width t))

-- lanes of a type as those of another: without the sign that came in, where the type has none
abbrev pub without_sign : Elem → Elem → (ℕ → Expr) → ℕ → Expr
without_sign I8 u e j = e j
without_sign I16 u e j = e j
without_sign I32 u e j = e j
without_sign I64 u e j = e j
without_sign t u e j = if nat_lt (width t) (width u) then Two (Bits And) (e j) (Const128 (of_lanes (shape_of u) (λ i. 2 ^ width t - 1))) else e j

module _ (w : Setting) where
  -- a row, one lane of the gang after the other
  abbrev pub by_lane : Elem → (ℕ → Expr) → ℕ → Expr
  by_lane t f j = built (shape_of t) (min (count (shape_of t)) (gang w - j * count (shape_of t))) (λ i. as_cell t (f (j * count (shape_of t) + i)))

  -- of the parts that there are
  abbrev pub present : Shape → (ℕ → Expr) → ℕ → Expr
  present s e j = if nat_lt j (parts w s) then e j else Const128 0

  -- from a type to another; to a bool whether it is not 0
  abbrev pub convert_row : Elem → Elem → (ℕ → Expr) → ℕ → Expr
  convert_row t Truth e = narrowed (shape_of t) (present (shape_of t) (compare_row compare.NotEqual t e (λ j. Const128 0)))
  convert_row t u e = without_sign t u (resized_row (shape_of t) (shape_of u) (present (shape_of t) e))

  -- there is no product of lanes of 8 bits, nor shifts by a lane's own amount
  abbrev pub plain_row : Plain → Elem → (ℕ → Expr) → (ℕ → Expr) → ℕ → Expr
  plain_row plain.Add t x y j = Two (Lanes (shape_of t) Add) (x j) (y j)
  plain_row plain.Sub t x y j = Two (Lanes (shape_of t) Sub) (x j) (y j)
  plain_row plain.Mul I8 x y j = by_lane I8 (λ p. plain_expr plain.Mul I8 (lane_at I8 x p) (lane_at I8 y p)) j
  plain_row plain.Mul U8 x y j = by_lane U8 (λ p. plain_expr plain.Mul U8 (lane_at U8 x p) (lane_at U8 y p)) j
  plain_row plain.Mul t x y j = Two (Lanes (shape_of t) Mul) (x j) (y j)
  plain_row plain.And t x y j = Two (Bits And) (x j) (y j)
  plain_row plain.Or t x y j = Two (Bits Or) (x j) (y j)
  plain_row plain.Xor t x y j = Two (Bits Xor) (x j) (y j)
  plain_row plain.Shl t x y j = by_lane t (λ p. plain_expr plain.Shl t (lane_at t x p) (lane_at t y p)) j
  plain_row plain.Shr t x y j = by_lane t (λ p. plain_expr plain.Shr t (lane_at t x p) (lane_at t y p)) j
  plain_row plain.Min t x y j = Bitselect (y j) (x j) (below_row t y x j)
  plain_row plain.Max t x y j = Bitselect (x j) (y j) (below_row t y x j)
