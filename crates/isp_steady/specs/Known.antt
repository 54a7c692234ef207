-- What is known of the varying variables of a `foreach`'s body, by their numbers, and when a state is as known.
use Rattle.std.specs.Prelude.{◌≡◌, ℕ, ◌<◌, List, Option, Some, None, Bool, true, false, pos, ◌+ℤ◌, slice_get}
use Rattle.isp_base.specs.Maps.{Lanes}
use Rattle.isp_base.specs.Sets.{Mask}
use Rattle.isp_base.specs.Values.{number, wrap}
use Rattle.isp_base.specs.declared.types.Elem.{Elem}
use Rattle.isp_base.specs.declared.types.Elem.TheVariants.{I32}
use Rattle.isp_typed.specs.declared.variable.Holds.{Holds}
use Rattle.isp_typed.specs.declared.variable.Holds.TheVariants as holds
use Rattle.isp_typed.specs.declared.variable.Variable.{Variable}
use Rattle.isp_meaning.specs.State.{State}

-- nothing; or that every member has the same value; or that the values count on from member to member
pub data Known : Type 0 where
  Unknown Steady Linear : Known

abbrev pub is_known : Known → Bool
is_known Unknown = false
is_known Steady = true
is_known Linear = true

-- a value of type t counted on from u: member p has the value of u + p
abbrev pub counted_on : Elem → ℕ → ℕ → ℕ
counted_on t u p = wrap t (number t u +ℤ pos p)

-- In the members of a set the values of type t are as known, by one scalar: each has it, or counts on from it.
abbrev pub IsAsKnown : Known → Elem → ℕ → Lanes → Mask → Type 0
IsAsKnown Unknown t u x a = Unit {0}
IsAsKnown Steady t u x a = (p : ℕ) → a p ≡ true → x p ≡ u
IsAsKnown Linear t u x a = (p : ℕ) → a p ≡ true → x p ≡ counted_on t u p

-- the element type of a variable
abbrev pub type_held : Holds → Elem
type_held (holds.Value t) = t.elem
type_held (holds.Given e) = e
type_held (holds.Local t n) = t.elem

abbrev pub type_in : Option Variable → Elem
type_in None = I32
type_in (Some v) = type_held v.holds

abbrev pub elem_at : List Variable → ℕ → Elem
elem_at vars v = type_in (slice_get vars v)

-- of each variable a scalar; where it is known, the members of a set have it so
abbrev pub AreAsKnown : List Variable → (ℕ → Known) → (ℕ → ℕ) → Mask → State → Type 0
AreAsKnown vars known scalars a s = (v : ℕ) → IsAsKnown (known v) (elem_at vars v) (scalars v) (s.varying v) a

-- some of a set
abbrev pub IsPart : Mask → Mask → Type 0
IsPart b a = (p : ℕ) → b p ≡ true → a p ≡ true

-- each member is an instance of the gang
abbrev pub IsInside : ℕ → Mask → Type 0
IsInside gang a = (p : ℕ) → a p ≡ true → p < gang
