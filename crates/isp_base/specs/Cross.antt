-- What the calls across the instances of a gang answer. A value is in each instance of a set and in none outside: a map
-- from the number of an instance to its bits. Where a call gives a value to each instance, the result is a function of
-- its number.
use Rattle.std.specs.Prelude.{ℕ, zero, suc, ◌+◌, ◌-◌, ◌*◌, ◌^◌, Bool, true, false, ◌&&◌, ◌||◌, nat_lt, nat_eq, if◌then◌else◌, Option, Some, None, ℤ, pos, negsuc, ◌+ℤ◌, unsigned_abs}
use Rattle.std.specs.Int.{int_rem_euclid}
use Rattle.isp_base.specs.declared.types.Elem.{Elem}
use Rattle.isp_base.specs.declared.types.Elem.TheVariants.{I32}
use Rattle.isp_base.specs.declared.operators.BinOp.{BinOp}
use Rattle.isp_base.specs.declared.operators.BinOp.TheVariants.{And}
use Rattle.isp_base.specs.Values.{width, number, wrap, op_bits}
use Rattle.isp_base.specs.Ranks.{widened}
use Rattle.isp_base.specs.Sets.{Mask}
use Rattle.isp_base.specs.Access.{is_beyond}
use Rattle.isp_base.specs.Maps.{Map, on}

-- an instance without a value reads as 0
abbrev pub or_zero : Option ℕ → ℕ
or_zero None = 0
or_zero (Some b) = b

-- ---- values that are moved

-- the number of one of n instances: z modulo n, from 0 up
abbrev pub instance : ℕ → ℤ → ℕ
instance n z = unsigned_abs (int_rem_euclid z (pos n))

-- 0 outside 0 .. n - 1
abbrev pub within : ℕ → Map → ℤ → ℕ
within n x (pos p) = if nat_lt p n then or_zero (x p) else 0
within n x (negsuc p) = 0

-- of two maps side by side
abbrev pub of_two : ℕ → Map → Map → ℕ → ℕ
of_two n x y p = if nat_lt p n then or_zero (x p) else or_zero (y (p - n))

abbrev pub extract : ℕ → Map → ℤ → ℕ
extract n x i = or_zero (x (instance n i))

abbrev pub broadcast : ℕ → Map → ℤ → ℕ → ℕ
broadcast n x i p = or_zero (x (instance n i))

abbrev pub rotate : ℕ → Map → ℤ → ℕ → ℕ
rotate n x k p = or_zero (x (instance n (pos p +ℤ k)))

abbrev pub shift : ℕ → Map → ℤ → ℕ → ℕ
shift n x k p = within n x (pos p +ℤ k)

-- i has the bits of an int32 in each instance
abbrev pub shuffle : ℕ → Map → Map → ℕ → ℕ
shuffle n x i p = or_zero (x (instance n (number I32 (or_zero (i p)))))

abbrev pub shuffle_two : ℕ → Map → Map → Map → ℕ → ℕ
shuffle_two n x y i p = of_two n x y (instance (2 * n) (number I32 (or_zero (i p))))

abbrev pub insert : ℕ → Map → ℤ → ℕ → ℕ → ℕ
insert n x i v p = if nat_eq p (instance n i) then v else or_zero (x p)

-- ---- values that are combined

module _ {A : Type 0} (f : A → ℕ → A) where
  abbrev pub and_this : A → Option ℕ → A
  and_this a None = a
  and_this a (Some b) = f a b

  -- f over the values of the instances below n, from the lowest on
  abbrev pub fold_below : A → Map → ℕ → A
  fold_below e x zero = e
  fold_below e x (suc n) = and_this (fold_below e x n) (x n)

-- the bits with which the operator of a scan leaves every value as it is
abbrev pub neutral : BinOp → Elem → ℕ
neutral And t = 2 ^ width t - 1
neutral op t = 0

-- each instance gets what the lower ones give
abbrev pub exclusive_scan : BinOp → Elem → Map → ℕ → ℕ
exclusive_scan op t x p = fold_below (op_bits op t) (neutral op t) x p

-- the sum of whole numbers, wrapped
abbrev pub reduce_add : Elem → ℕ → Map → ℕ
reduce_add t n x = wrap (widened t) (fold_below (λ s b. s +ℤ number t b) (pos 0) x n)

abbrev pub best : (ℕ → ℕ → ℕ) → Option ℕ → ℕ → Option ℕ
best f None b = Some b
best f (Some a) b = Some (f a b)

-- the least or greatest value, by Min or Max; 0 if there is none
abbrev pub reduce_best : BinOp → Elem → ℕ → Map → ℕ
reduce_best op t n x = or_zero (fold_below (best (op_bits op t)) None x n)

-- whether a test holds of a value, and of all
abbrev pub any_of : (ℕ → Bool) → ℕ → Map → Bool
any_of test n x = fold_below (λ a b. a || test b) false x n

abbrev pub all_of : (ℕ → Bool) → ℕ → Map → Bool
all_of test n x = fold_below (λ a b. a && test b) true x n

-- whether there are no two values
abbrev pub reduce_equal : ℕ → Map → Bool
reduce_equal n x = all_of (λ b. nat_eq b (or_zero (fold_below (best (λ a _. a)) None x n))) n x

-- ---- consecutive elements, in the order of the instances

-- how many lower instances are in the set
abbrev pub rank : Mask → ℕ → ℕ
rank a zero = 0
rank a (suc p) = rank a p + (if a p then 1 else 0)

-- the whole number at which a member of the set finds its element, where z is the lowest one's
abbrev pub packed_index : ℤ → Mask → ℕ → ℤ
packed_index z a p = z +ℤ pos (rank a p)

-- the members whose element is not among the first n
abbrev pub packed_outside : ℕ → ℤ → Mask → Mask
packed_outside n z a p = a p && is_beyond n (packed_index z a p)

-- the elements of the members
abbrev pub packed_places : ℤ → Mask → Map
packed_places z a = on a (λ p. unsigned_abs (packed_index z a p))

-- the whole number at which an instance finds its element in a run of elements, where z is that of instance 0
abbrev pub run_index : ℤ → ℕ → ℤ
run_index z p = z +ℤ pos p

-- the instances of a set whose element is not among the first n, and the elements of the others
abbrev pub run_outside : ℕ → ℤ → Mask → Mask
run_outside n z a p = a p && is_beyond n (run_index z p)

abbrev pub run_places : ℤ → Mask → Map
run_places z a = on a (λ p. unsigned_abs (run_index z p))
