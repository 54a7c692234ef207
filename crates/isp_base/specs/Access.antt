-- What an index means, what stores leave in an array, and what divides by zero.
use Rattle.std.specs.Prelude.{ℕ, zero, suc, ◌^◌, ◌%◌, ◌==◌, Option, Some, None, Bool, not, ◌||◌, ◌&&◌, ℤ, pos, int_lt, unsigned_abs}
use Rattle.isp_base.specs.Values.{width, number, divides}
use Rattle.isp_base.specs.declared.types.Elem.{Elem}
use Rattle.isp_base.specs.declared.operators.BinOp.{BinOp}
use Rattle.isp_base.specs.Maps.{Lanes, Map, put}

-- an index of n elements is a whole number from 0 up to n - 1; any other names none
abbrev pub is_beyond : ℕ → ℤ → Bool
is_beyond n z = int_lt z (pos 0) || not (int_lt z (pos n))

abbrev pub is_outside : Elem → ℕ → ℕ → Bool
is_outside t n x = is_beyond n (number t x)

-- the element that an index means
abbrev pub element : Elem → ℕ → ℕ
element t x = unsigned_abs (number t x)

-- the divisor is zero
abbrev pub is_zero : BinOp → Elem → ℕ → Bool
is_zero op t y = divides op && (y % 2 ^ width t) == 0

abbrev pub put_at : Option ℕ → Option ℕ → Lanes → Lanes
put_at None y f = f
put_at (Some x) None f = f
put_at (Some x) (Some y) f = put f x y

-- what the first n instances store at their places, the highest last: where two store at one place, the highest wins
abbrev pub scatter : ℕ → Map → Map → Lanes → Lanes
scatter zero x y f = f
scatter (suc n) x y f = put_at (x n) (y n) (scatter n x y f)
