-- Short words for what the gang leaves and what its instances leave one by one. The gang has four instances.
use Rattle.std.specs.Prelude.{◌≡◌, ℕ, zero, suc, Bool, List, [], ◌∷◌, None}
use Rattle.isp_base.specs.Arguments.{rows, rows_now}
use Rattle.isp_base.specs.Outcomes.{Outcome, Ends, Traps, GoesOn}
use Rattle.isp_base.specs.Rows.{Row}
use Rattle.isp_base.specs.declared.signature.Argument.{Argument}
use Rattle.isp_base.specs.declared.signature.Argument.TheVariants.{Array as AnArray}
use Rattle.isp_base.specs.declared.types.Elem.TheVariants.{I32}
use Rattle.isp_base.specs.declared.types.Gang.TheVariants.{W4}
use Rattle.isp_typed.specs.Typed.{TFunction, Program}
use Rattle.isp_meaning.specs.Runs.{run_of}
use Rattle.isp_solo_meaning.specs.Answers.{Answer, Has, Bad, Long, reached}
use Rattle.isp_solo_meaning.specs.Runs.{solo_run, bound, after}
use Rattle.isp_solo_meaning.specs.OneByOne.{one_by_one}

abbrev pub gang_of_four : List TFunction → Program
gang_of_four fs = record { gang = W4; functions = fs }

-- an array of int32
abbrev pub row_of : List ℕ → Row
row_of bits = record { elem = I32; bits = bits }

abbrev pub array_of : List ℕ → Argument
array_of bits = AnArray (row_of bits)

-- what instance p comes to alone by the first function, with nine turns
abbrev pub alone : List TFunction → List Argument → ℕ → Answer ℕ
alone fs xs p = solo_run (gang_of_four fs) 0 9 xs (bound xs) p

-- the arrays after these instances, one by one
abbrev pub together : List TFunction → List Argument → List ℕ → List Row
together fs xs ps = rows_now (rows xs) (one_by_one (gang_of_four fs) 0 9 xs ps (bound xs))

-- from the array xs the gang leaves ys and prints text, and one by one the instances leave zs
abbrev pub LeavesFrom : List TFunction → List ℕ → List ℕ → List ℕ → List ℕ → Type 0
LeavesFrom fs xs ys text zs =
    (run_of (gang_of_four fs) 0 9 (array_of xs ∷ []) ≡ Ends (row_of ys ∷ []) None text)
    × (together fs (array_of xs ∷ []) (0 ∷ 1 ∷ 2 ∷ 3 ∷ []) ≡ row_of zs ∷ [])

-- the same from four zeros, where nothing is printed
abbrev pub zeros : List ℕ
zeros = 0 ∷ 0 ∷ 0 ∷ 0 ∷ []

abbrev pub Leaves : List TFunction → List ℕ → List ℕ → Type 0
Leaves fs ys zs = LeavesFrom fs zeros ys [] zs

-- both leave the same, the instances in any of three orders
abbrev pub Agree : List TFunction → List ℕ → List ℕ → Type 0
Agree fs xs ys =
    (run_of (gang_of_four fs) 0 9 (array_of xs ∷ []) ≡ Ends (row_of ys ∷ []) None [])
    × (together fs (array_of xs ∷ []) (0 ∷ 1 ∷ 2 ∷ 3 ∷ []) ≡ row_of ys ∷ [])
    × (together fs (array_of xs ∷ []) (3 ∷ 2 ∷ 1 ∷ 0 ∷ []) ≡ row_of ys ∷ [])
    × (together fs (array_of xs ∷ []) (2 ∷ 0 ∷ 3 ∷ 1 ∷ []) ≡ row_of ys ∷ [])

-- ---- of any program and entry, with so many turns

abbrev left_by : List Argument → Answer ℕ → List Row
left_by xs r = rows_now (rows xs) (after r (bound xs))

abbrev outcome_of : List Argument → Answer ℕ → Outcome
outcome_of xs (Has x s) = Ends (left_by xs (Has x s)) None []
outcome_of xs (Bad t s) = Traps t (left_by xs (Bad t s)) []
outcome_of xs (Long s) = GoesOn []

-- how instance p stands alone: it prints nothing, and its result is left out
abbrev pub outcome_alone : Program → ℕ → ℕ → List Argument → ℕ → Outcome
outcome_alone program f most xs p = outcome_of xs (solo_run program f most xs (bound xs) p)

-- which of the first n elements of array b it reads
abbrev flags : ℕ → (ℕ → Bool) → List Bool
flags zero f = []
flags (suc n) f = f 0 ∷ flags n (λ e. f (suc e))

abbrev pub read_flags : Program → ℕ → ℕ → List Argument → (p b n : ℕ) → List Bool
read_flags program f most xs p b n = flags n ((reached (solo_run program f most xs (bound xs) p)).read b)

-- the arrays after these instances, one by one
abbrev pub arrays_behind : Program → ℕ → ℕ → List Argument → List ℕ → List Row
arrays_behind program f most xs ps = rows_now (rows xs) (one_by_one program f most xs ps (bound xs))
