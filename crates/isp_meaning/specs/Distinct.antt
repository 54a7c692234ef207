-- The rounds of `foreach_unique`: one for each distinct value.
--     EachValueOnce   who has a value is in exactly one round, with all that hold the same and nobody else; the rounds
--                     come in the order of their lowest members
use Rattle.std.specs.Prelude.{◌≡◌, ℕ, suc, ◌+◌, ◌<◌, ◌≤◌, List, [], ◌∷◌, Option, Some, None, Bool, true, false}
use Rattle.std.specs.List.{All}
use Rattle.isp_base.specs.Cross.{or_zero}
use Rattle.isp_base.specs.Maps.{Map}
use Rattle.isp_base.specs.Sets.{lowest}
use Rattle.isp_base.specs.Values.{number, compare_to}
use Rattle.isp_base.specs.declared.operators.Compare.TheVariants.{Equal}
use Rattle.isp_base.specs.declared.types.Elem.{Elem}
use Rattle.isp_meaning.specs.State.{State}
use Rattle.isp_meaning.specs.Payloads.{bit, converted}
use Rattle.isp_meaning.specs.Rounds.{Round, have, unique_rounds}

-- in how many rounds an instance takes part
abbrev pub rounds_of : ℕ → List Round → ℕ
rounds_of p [] = 0
rounds_of p (r ∷ rs) = bit (r.members p) + rounds_of p rs

-- two values that are the same number
abbrev pub same_value : Elem → Option ℕ → Option ℕ → Bool
same_value u None y = false
same_value u (Some b) None = false
same_value u (Some b) (Some c) = compare_to Equal (number u b) (number u c)

-- the turn of a value: all that hold what a member holds are members, and nobody else; the index is what they hold
pub record IsTurn (u t : Elem) (index : ℕ) (x : Map) (r : Round) : Type 0 where
  pub together : (p q : ℕ) → r.members p ≡ true → r.members q ≡ same_value u (x q) (x p)
  pub index_is : (p : ℕ) (s : State) → r.members p ≡ true → (r.begins s).uniforms index ≡ converted u t (or_zero (x p))

-- each has a lowest member, which is above those of the rounds before it
abbrev pub InOrder : ℕ → ℕ → List Round → Type 0
InOrder gang least [] = Unit {0}
InOrder gang least (r ∷ rs) = (p : ℕ) × (lowest gang r.members ≡ Some p) × (least ≤ p) × InOrder gang (suc p) rs

pub record EachValueOnce : Type 0 where
  pub once : (gang : ℕ) (u t : Elem) (index : ℕ) (x : Map) (p : ℕ) → p < gang → have x p ≡ true → rounds_of p (unique_rounds gang u t index x) ≡ 1
  pub nobody_else : (gang : ℕ) (u t : Elem) (index : ℕ) (x : Map) (p : ℕ) → have x p ≡ false → rounds_of p (unique_rounds gang u t index x) ≡ 0
  pub turns : (gang : ℕ) (u t : Elem) (index : ℕ) (x : Map) → All (IsTurn u t index x) (unique_rounds gang u t index x)
  pub in_order : (gang : ℕ) (u t : Elem) (index : ℕ) (x : Map) → InOrder gang 0 (unique_rounds gang u t index x)
