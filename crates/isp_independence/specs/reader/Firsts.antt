-- The first breach of those to which each number leads. No part of a promise.
use Rattle.std.specs.Prelude.{◌≡◌, ℕ, ◌<◌, ◌≤◌, List, Option, Some, slice_get}
use Rattle.isp_typed.specs.Typed.{TFunction}
use Rattle.isp_independence.specs.declared.dependence.Dependence.{Dependence}
use Rattle.isp_independence.specs.declared.spread.Breach.{Breach}
use Rattle.isp_independence.specs.Dependences.{NotAfter, Answered}
use Rattle.isp_independence.specs.Reaches.{function_calls}
use Rattle.isp_independence.specs.reader.Answers.{entry_answer, first_of, of_each}
use Rattle.isp_independence.specs.reader.Paths.{found_at, Meets}

-- the breaches that stand in a list before place n
pub record IsListed (own : List (Option Dependence)) (n : ℕ) (breaches : List Breach) : Type 0 where
  pub each : (k : ℕ) (b : Breach) → slice_get breaches k ≡ Some b → found_at own b.function ≡ Some b.dependence
  pub all : (h : ℕ) (d : Dependence) → h < n → found_at own h ≡ Some d → (k : ℕ) × (slice_get breaches k ≡ Some (record { function = h; dependence = d }))

-- all of them, the first one first
pub record IsOrdered (own : List (Option Dependence)) (breaches : List Breach) : Type 0 where
  pub each : (k : ℕ) (b : Breach) → slice_get breaches k ≡ Some b → found_at own b.function ≡ Some b.dependence
  pub all : (h : ℕ) (d : Dependence) → found_at own h ≡ Some d → (k : ℕ) × (slice_get breaches k ≡ Some (record { function = h; dependence = d }))
  pub rises : (i j : ℕ) (a b : Breach) → i ≤ j → slice_get breaches i ≡ Some a → slice_get breaches j ≡ Some b → NotAfter a.dependence b.dependence

pub record AreFirst (table : List (List ℕ)) (own least : List (Option Dependence)) : Type 0 where
  pub each : (f : ℕ) → Answered (found_at least f) (Meets table own f)

-- the answer for a function, by what was found for those that it calls
abbrev pub function_answer : List (Option Dependence) → TFunction → Option Dependence
function_answer least g = first_of (entry_answer g) (of_each (found_at least) (function_calls g))
