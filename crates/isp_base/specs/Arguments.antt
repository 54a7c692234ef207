-- The arguments of a run by number, and their arrays: at its start, and as they are now.
--     rows xs            the arrays among the arguments, in order
--     rows_now rs f      the arrays of the types and lengths of rs, with the elements that f gives
use Rattle.std.specs.Prelude.{ℕ, zero, suc, ◌^◌, ◌%◌, ◌<◌, List, [], ◌∷◌, length, All}
use Rattle.isp_base.specs.Values.{width}
use Rattle.isp_base.specs.Rows.{Row}
use Rattle.isp_base.specs.Maps.{Lanes}
use Rattle.isp_base.specs.declared.signature.Argument.{Argument}
use Rattle.isp_base.specs.declared.signature.Argument.TheVariants.{Value as AValue, Array as AnArray}

-- the arrays among the arguments, in order
abbrev pub rows : List Argument → List Row
rows [] = []
rows (AValue v ∷ xs) = rows xs
rows (AnArray a ∷ xs) = a ∷ rows xs

-- the value of the k-th argument, 0 for an array and past the last
abbrev pub argument_bits : List Argument → ℕ → ℕ
argument_bits [] k = 0
argument_bits (AValue v ∷ xs) zero = v.bits % 2 ^ width v.elem
argument_bits (AnArray a ∷ xs) zero = 0
argument_bits (x ∷ xs) (suc k) = argument_bits xs k

-- the elements of the b-th array, none past the last
abbrev pub row_bits : List Row → ℕ → List ℕ
row_bits [] b = []
row_bits (r ∷ rs) zero = r.bits
row_bits (r ∷ rs) (suc b) = row_bits rs b

-- the first n values of a function
abbrev pub tabulate : ℕ → Lanes → List ℕ
tabulate zero f = []
tabulate (suc n) f = f 0 ∷ tabulate n (λ i. f (suc i))

-- the arrays as they are now, with the element types and lengths that they had
abbrev pub rows_now : List Row → (ℕ → Lanes) → List Row
rows_now [] f = []
rows_now (r ∷ rs) f = record { elem = r.elem; bits = tabulate (length r.bits) (f 0) } ∷ rows_now rs (λ b. f (suc b))

-- an int64 can name each element of an array
abbrev pub IsShort : Argument → Type 0
IsShort (AValue v) = Unit {0}
IsShort (AnArray a) = length a.bits < 2 ^ 63

-- true of all arguments that are bound
abbrev pub AreShort : List Argument → Type 0
AreShort xs = All IsShort xs
