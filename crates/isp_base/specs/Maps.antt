-- Bits in each instance, and in each instance of a set.
use Rattle.std.specs.Prelude.{ℕ, List, get_or, Option, Some, None, Bool, false, nat_eq, if◌then◌else◌}
use Rattle.isp_base.specs.Sets.{Mask, lowest}

-- bits in each instance
abbrev pub Lanes : Type 0
Lanes = ℕ → ℕ

-- bits in each instance of a set, and none outside
abbrev pub Map : Type 0
Map = ℕ → Option ℕ

-- a list's elements by number, 0 past its end
abbrev pub lane_of : List ℕ → Lanes
lane_of xs p = get_or xs p 0

-- the bits of the instances of a set
abbrev pub on : Mask → Lanes → Map
on a x p = if a p then Some (x p) else None

abbrev pub or_old : Option ℕ → ℕ → ℕ
or_old None old = old
or_old (Some x) old = x

-- new bits where there are some
abbrev pub over : Map → Lanes → Lanes
over x old p = or_old (x p) (old p)

abbrev pub each1 : (ℕ → ℕ) → Option ℕ → Option ℕ
each1 f None = None
each1 f (Some x) = Some (f x)

abbrev pub each2 : (ℕ → ℕ → ℕ) → Option ℕ → Option ℕ → Option ℕ
each2 f None y = None
each2 f (Some x) None = None
each2 f (Some x) (Some y) = Some (f x y)

-- a function of the bits in each instance
abbrev pub map1 : (ℕ → ℕ) → Map → Map
map1 f x p = each1 f (x p)

abbrev pub map2 : (ℕ → ℕ → ℕ) → Map → Map → Map
map2 f x y p = each2 f (x p) (y p)

abbrev pub holds : (ℕ → Bool) → Option ℕ → Bool
holds f None = false
holds f (Some x) = f x

-- the instances whose bits pass a test
abbrev pub where_true : (ℕ → Bool) → Map → Mask
where_true f x p = holds f (x p)

-- the lowest of the first n instances whose bits fail: where `fails` is true
abbrev pub lowest_failing : ℕ → (ℕ → Bool) → Map → Option ℕ
lowest_failing n fails x = lowest n (where_true fails x)

-- a function changed at one place
abbrev pub put : {A : Type 0} → (ℕ → A) → ℕ → A → ℕ → A
put f d x r = if nat_eq r d then x else f r
