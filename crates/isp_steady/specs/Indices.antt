-- The indices of a `foreach`, where its body begins: the last one is linear and the outer ones are steady. Nothing else is known there,
-- since in its runs other instances take part than came to it.
use Rattle.std.specs.Prelude.{◌≡◌, ℕ, List, [], ◌∷◌, map, nat_eq, ℤ, if◌then◌else◌}
use Rattle.isp_base.specs.Values.{wrap}
use Rattle.isp_base.specs.declared.types.Elem.TheVariants.{I32}
use Rattle.isp_base.specs.Sets.{Mask}
use Rattle.std.specs.List.{All}
use Rattle.isp_typed.specs.Fine.{FineRange}
use Rattle.isp_typed.specs.Scoped.{Scope, RangesAt}
use Rattle.isp_typed.specs.Typed.{TRange}
use Rattle.isp_typed.specs.declared.variable.Variable.{Variable}
use Rattle.isp_meaning.specs.Outcomes.{Gives}
use Rattle.isp_steady.specs.Code.{Where, gang_of, ranges_of}
use Rattle.isp_meaning.specs.State.{State}
use Rattle.isp_meaning.specs.Rounds.{Range, Run, runs_of, set_indices}
use Rattle.isp_steady.specs.Known.{Known, Unknown, Steady, Linear, AreAsKnown}

-- of the indices of a `foreach`, outer ones first; nothing else is known where its body begins
abbrev pub known_indices : List ℕ → ℕ → Known
known_indices [] v = Unknown
known_indices (i ∷ []) v = if nat_eq v i then Linear else Unknown
known_indices (i ∷ is) v = if nat_eq v i then Steady else known_indices is v

-- their scalars are what instance 0 has
abbrev pub index_scalars : List (ℕ × (ℕ → ℤ)) → ℕ → ℕ
index_scalars [] v = 0
index_scalars (x ∷ xs) v = if nat_eq v x.0 then wrap I32 (x.1 0) else index_scalars xs v

-- each of some runs
abbrev pub EachRun : (Run → Type 0) → List Run → Type 0
EachRun P [] = Unit {0}
EachRun P (x ∷ xs) = P x × EachRun P xs

-- the names of the ranges of a `foreach`
abbrev pub indices_of : List TRange → List ℕ
indices_of rs = map (λ r. r.index) rs

-- In a program that names and types accept: once the bounds have come to ranges, of each of their runs the body begins in a state as known.
abbrev pub IndicesAreKnown : Type 0
IndicesAreKnown =
    (w : Where) (vars : List Variable) (scope : Scope) (n : ℕ) (rs : List TRange) (a : Mask) (s s1 : State) (xs : List Range)
    → All (FineRange w.program.functions vars) rs
    → RangesAt scope n rs
    → ranges_of w rs a s ≡ Gives xs s1
    → EachRun (λ x. (s2 : State) → AreAsKnown vars (known_indices (indices_of rs)) (index_scalars x.indices) x.members (set_indices x.members x.indices s2)) (runs_of (gang_of w) xs)
