-- What steady and linear expressions come to.
--     SteadyGivesOne   a steady expression gives one value to every member, or traps for all alike
--     LinearCountsOn   a linear one counts on from one value, or traps for all alike
use Rattle.std.specs.Prelude.{◌≡◌, ℕ, List, true}
use Rattle.isp_base.specs.Cross.{or_zero}
use Rattle.isp_base.specs.Maps.{on}
use Rattle.isp_base.specs.Sets.{Mask, any, lowest}
use Rattle.isp_base.specs.Traps.{trap}
use Rattle.isp_base.specs.Types.{gang_width}
use Rattle.isp_base.specs.declared.trap.TrapKind.{TrapKind}
use Rattle.isp_base.specs.declared.types.Elem.{Elem}
use Rattle.isp_base.specs.declared.types.Gang.{Gang}
use Rattle.isp_base.specs.declared.types.Span.{Span}
use Rattle.isp_typed.specs.Fine.{FineExpr}
use Rattle.isp_typed.specs.Typed.{TExpr, TFunction, elem_of}
use Rattle.isp_typed.specs.declared.variable.Variable.{Variable}
use Rattle.isp_meaning.specs.State.{State, Frame}
use Rattle.isp_meaning.specs.Payloads.{Payload, One, Each}
use Rattle.isp_meaning.specs.Outcomes.{Val, Gives, Fails}
use Rattle.isp_meaning.specs.Expressions.{Calls, value}
use Rattle.isp_steady.specs.Known.{Known, AreAsKnown, IsInside, IsPart, counted_on}
use Rattle.isp_steady.specs.Steady.{steady}
use Rattle.isp_steady.specs.Linear.{linear}
use Rattle.isp_steady.specs.Alone.{alone, lent}

-- what does not depend on the set: one value, or a trap of a kind at a place, each with the state reached
pub data Sole : Type 0 where
  Comes : (bits : ℕ) (s : State) → Sole
  Traps : (kind : TrapKind) (place : Span) (s : State) → Sole

-- that over a set: a trap names the lowest member
abbrev pub over_set : ℕ → (State → State) → Mask → Sole → Val Payload
over_set gang f a (Comes u s) = Gives (One u) (f s)
over_set gang f a (Traps kind place s) = Fails (trap kind place (or_zero (lowest gang a))) (f s)

-- every member has u: it is one value for the gang, or stands in each of the set
abbrev pub IsOne : Mask → ℕ → Payload → Type 0
IsOne a u (One x) = x ≡ u
IsOne a u (Each x) = x ≡ on a (λ p. u)

-- member p has the value of u + p
abbrev pub IsCounted : Elem → Mask → ℕ → Payload → Type 0
IsCounted t a u m = m ≡ Each (on a (counted_on t u))

-- a value that is so by u, or the trap of the lowest member
abbrev pub ComesTo : ℕ → (Mask → ℕ → Payload → Type 0) → Mask → Sole → Val Payload → Type 0
ComesTo gang Is a (Comes u s) (Gives m s1) = Is a u m × (s1 ≡ s)
ComesTo gang Is a (Comes u s) v = ⊥
ComesTo gang Is a (Traps kind place s) v = v ≡ Fails (trap kind place (or_zero (lowest gang a))) s

-- Over each set of some of the members, the same comes: by the scalar expression, and from it for each member.
abbrev pub SameForAll : ℕ → Frame → Calls → (ℕ → Known) → (ℕ → ℕ) → TExpr → (Mask → ℕ → Payload → Type 0) → Mask → State → Type 0
SameForAll gang frame calls known scalars x Is a s =
    (o : Sole)
    × ((b : Mask) → IsPart b a → any gang b ≡ true → ComesTo gang Is b o (value gang frame calls x b s))
    × ((b : Mask) → any gang b ≡ true → value gang frame calls (alone x) b (lent known scalars s) ≡ over_set gang (lent known scalars) b o)

abbrev pub SteadyGivesOne : Type 0
SteadyGivesOne =
    (gang : ℕ) (vars : List Variable) (frame : Frame) (calls : Calls) (known : ℕ → Known) (scalars : ℕ → ℕ) (x : TExpr) (a : Mask) (s : State)
    → steady known x ≡ true
    → AreAsKnown vars known scalars a s
    → SameForAll gang frame calls known scalars x IsOne a s

-- In a program that names and types accept, over members that are instances of the gang.
abbrev pub LinearCountsOn : Type 0
LinearCountsOn =
    (gang : Gang) (fs : List TFunction) (vars : List Variable) (frame : Frame) (calls : Calls) (known : ℕ → Known) (scalars : ℕ → ℕ) (x : TExpr) (a : Mask) (s : State)
    → FineExpr fs vars x
    → linear known x ≡ true
    → IsInside (gang_width gang) a
    → AreAsKnown vars known scalars a s
    → SameForAll (gang_width gang) frame calls known scalars x (IsCounted (elem_of x)) a s
