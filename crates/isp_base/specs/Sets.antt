-- Sets of instances, or of lanes, by their numbers. The first n are the numbers below n.
use Rattle.std.specs.Prelude.{ℕ, zero, suc, List, get_or, Option, Some, None, Bool, true, false, not, ◌&&◌, ◌||◌, nat_lt, nat_eq}

abbrev pub Mask : Type 0
Mask = ℕ → Bool

abbrev pub nobody : Mask
nobody p = false

-- the instances of a gang of n
abbrev pub everyone : ℕ → Mask
everyone n p = nat_lt p n

abbrev pub union : Mask → Mask → Mask
union a b p = a p || b p

abbrev pub both : Mask → Mask → Mask
both a b p = a p && b p

abbrev pub without : Mask → Mask → Mask
without a b p = a p && not (b p)

-- whether one of the first n is in the set
abbrev pub any : ℕ → Mask → Bool
any zero a = false
any (suc n) a = any n a || a n

-- whether each of the first n is in the set
abbrev pub all : ℕ → Mask → Bool
all zero a = true
all (suc n) a = all n a && a n

abbrev pub or_this : Option ℕ → Bool → ℕ → Option ℕ
or_this (Some p) b n = Some p
or_this None true n = Some n
or_this None false n = None

-- the lowest of the first n that is in the set
abbrev pub lowest : ℕ → Mask → Option ℕ
lowest zero a = None
lowest (suc n) a = or_this (lowest n a) (a n) n

-- the set of one, or of none
abbrev pub lone : Option ℕ → Mask
lone None p = false
lone (Some q) p = nat_eq p q

-- a list's flags by number, false past its end
abbrev pub flag_of : List Bool → Mask
flag_of bs p = get_or bs p false
