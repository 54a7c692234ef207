-- What the calls on lanes and masks answer. A vector is seen as its element type and the list of its lanes' bits, a mask as the
-- list of its lanes.
--     zip2 f xs ys           f of each pair of lanes
--     sel_l mask xs ys       in each lane of the mask the lane of xs, in the others that of ys
use Rattle.std.specs.Prelude.{◌≡◌, ◌<◌, ℕ, List, length, [], ◌∷◌, Bool, true, false, cond, ◌&&◌, ◌==◌, nat_lt, map, get_or, position, Option, None, pos, ◌+ℤ◌, int_lt}
use Rattle.std.specs.List.{range_with_len}
use Rattle.std.specs.Simd.Lanes.{zip2, sel_l}
use Rattle.isp_base.specs.declared.operators.BinOp.{BinOp}
use Rattle.isp_base.specs.declared.types.Elem.TheVariants.{Bool as Truth, I64}
use Rattle.isp_base.specs.Values.{divides, number}
use Rattle.isp_base.specs.Rows.{Row}

-- the row with new values in the lanes of the mask; the others stay
abbrev pub written : List Bool → List ℕ → Row → Row
written mask new old = record { elem = old.elem; bits = sel_l mask new old.bits }

-- a vector of a list by number
abbrev pub no_row : Row
no_row = record { elem = Truth; bits = [] }

abbrev pub vector : List Row → ℕ → Row
vector rs k = get_or rs k no_row

-- two vectors of a list are there, and of one type
pub record AreAlike (rs : List Row) (x y : ℕ) : Type 0 where
  pub first : x < length rs
  pub second : y < length rs
  pub elem : (vector rs y).elem ≡ (vector rs x).elem

-- a bool's bits are not 0 where it is true
abbrev pub is_on : ℕ → Bool
is_on bits = nat_lt 0 bits

-- the lowest lane of the mask whose divisor is zero, if the operator divides
abbrev pub first_zero : BinOp → List Bool → List ℕ → Option ℕ
first_zero op mask divisors = cond (divides op) (position (λ z. z) (zip2 (λ m y. m && y == 0) mask divisors)) None

-- the lowest lane of the mask alone
abbrev pub lowest : List Bool → List Bool
lowest [] = []
lowest (true ∷ mask) = true ∷ map (λ _. false) mask
lowest (false ∷ mask) = false ∷ lowest mask

-- those of n lanes whose number, added to the int64 `start`, is below the int64 `end`, as whole numbers
abbrev pub range : ℕ → ℕ → ℕ → List Bool
range n start end = map (λ p. int_lt (number I64 start +ℤ pos p) (number I64 end)) (range_with_len 0 n)
