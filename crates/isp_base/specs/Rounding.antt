-- What makes a quotient, a remainder and a shift what they are, and what happens at the least value.
use Rattle.std.specs.Prelude.{◌≡◌, ℕ, ◌^◌, ◌<◌, ℤ, pos, negsuc, ◌+ℤ◌, ◌*ℤ◌, ◌≤ℤ◌, unsigned_abs}
use Rattle.isp_base.specs.declared.types.Elem.{Elem}
use Rattle.isp_base.specs.declared.operators.BinOp.TheVariants.{Div, Rem}
use Rattle.isp_base.specs.declared.operators.UnaryOp.TheVariants.{Negate, Absolute}
use Rattle.isp_base.specs.Values.{wrap, op_bits}
use Rattle.isp_base.specs.Unary.{unary_bits}
use Rattle.isp_base.specs.Ranges.{IsValue}

-- x divided by y, rounded toward zero, is q and leaves r
pub record IsQuotient (x y q r : ℤ) : Type 0 where
  pub whole : q *ℤ y +ℤ r ≡ x
  pub small : unsigned_abs r < unsigned_abs y
  pub above : pos 0 ≤ℤ x → pos 0 ≤ℤ r
  pub below : x ≤ℤ pos 0 → r ≤ℤ pos 0

-- x divided by 2 ^ k, rounded down, is q
abbrev pub IsFloor : ℤ → ℕ → ℤ → Type 0
IsFloor x k q = (r : ℕ) × ((r < 2 ^ k) × (q *ℤ pos (2 ^ k) +ℤ pos r ≡ x))

-- no value of the type is less
abbrev pub IsLeast : Elem → ℤ → Type 0
IsLeast t z = IsValue t z × ((y : ℤ) → IsValue t y → z ≤ℤ y)

-- divided by -1, negated and without its sign it is itself; there is no remainder
abbrev pub IsItsNegative : Elem → ℕ → Type 0
IsItsNegative t b =
    (op_bits Div t b (wrap t (negsuc 0)) ≡ b) × (op_bits Rem t b (wrap t (negsuc 0)) ≡ 0)
    × (unary_bits Negate t b ≡ b) × (unary_bits Absolute t b ≡ b)
