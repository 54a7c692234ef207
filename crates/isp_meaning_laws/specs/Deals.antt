-- How the runs of a `foreach` deal the tuples of its ranges: each tuple once, to the instance that its number in the last range
-- says, a whole gang of them in a run, outer numbers first.
use Rattle.std.specs.Prelude.{◌≡◌, ◌⊎◌, ℕ, ◌<◌, ◌≤◌, ◌%◌, ◌/◌, List, [], ◌∷◌, length, map, Some, true, slice_get, ℤ, ◌-ℤ◌, ◌≤ℤ◌, ◌<ℤ◌}
use Rattle.isp_base.specs.Sets.{any}
use Rattle.isp_meaning.specs.Rounds.{Range, Run, from_zero, runs_of}

-- a tuple has a number of each range, from its start to below its end
abbrev pub IsTuple : List Range → List ℤ → Type 0
IsTuple [] [] = Unit {0}
IsTuple [] (z ∷ zs) = ⊥
IsTuple (r ∷ rs) [] = ⊥
IsTuple (r ∷ rs) (z ∷ zs) = (r.start ≤ℤ z) × (z <ℤ r.end) × IsTuple rs zs

-- the instance that has it: how far its last number is from the start, by the size of the gang
abbrev pub instance_of : ℕ → List Range → List ℤ → ℕ
instance_of gang (r ∷ []) (z ∷ []) = from_zero (z -ℤ r.start) % gang
instance_of gang (r ∷ rs) (z ∷ zs) = instance_of gang rs zs
instance_of gang rs zs = 0

-- its numbers of the outer ranges
abbrev pub outer : List ℤ → List ℤ
outer [] = []
outer (z ∷ []) = []
outer (z ∷ y ∷ zs) = z ∷ outer (y ∷ zs)

-- how many whole gangs lie before its last number
abbrev pub gangs_before : ℕ → List Range → List ℤ → ℕ
gangs_before gang (r ∷ []) (z ∷ []) = from_zero (z -ℤ r.start) / gang
gangs_before gang (r ∷ rs) (z ∷ zs) = gangs_before gang rs zs
gangs_before gang rs zs = 0

-- outer numbers first
abbrev pub Before : List ℤ → List ℤ → Type 0
Before (x ∷ xs) (y ∷ ys) = (x <ℤ y) ⊎ ((x ≡ y) × Before xs ys)
Before xs ys = ⊥

-- the numbers that the indices have in instance p
abbrev pub tuple_of : Run → ℕ → List ℤ
tuple_of run p = map (λ i. i.1 p) run.indices

-- run number k deals this tuple to instance p
pub record Deals (gang : ℕ) (rs : List Range) (zs : List ℤ) (k p : ℕ) : Type 0 where
  pub run : Run
  pub is : slice_get (runs_of gang rs) k ≡ Some run
  pub on : run.members p ≡ true
  pub tuple : tuple_of run p ≡ zs

pub record AreDealt (gang : ℕ) (rs : List Range) : Type 0 where
  -- each run has a member, and sets the indices of the ranges
  pub some : (k : ℕ) (run : Run) → slice_get (runs_of gang rs) k ≡ Some run → any gang run.members ≡ true
  pub indices : (k : ℕ) (run : Run) → slice_get (runs_of gang rs) k ≡ Some run → map (λ i. i.0) run.indices ≡ map (λ r. r.index) rs
  -- each tuple is dealt to its instance, and nothing else is dealt
  pub each : (zs : List ℤ) → IsTuple rs zs → (k : ℕ) × Deals gang rs zs k (instance_of gang rs zs)
  pub no_other : (zs : List ℤ) (k p : ℕ) → Deals gang rs zs k p → IsTuple rs zs × (p ≡ instance_of gang rs zs)
  -- no tuple twice
  pub once : (zs : List ℤ) (k l p q : ℕ) → Deals gang rs zs k p → Deals gang rs zs l q → (k ≡ l) × (p ≡ q)
  -- A run is a whole gang: two tuples are in one run exactly where their outer numbers are the same, and as many gangs lie before the last.
  pub together : (ys zs : List ℤ) (k l p q : ℕ)
      → Deals gang rs ys k p → Deals gang rs zs l q → outer ys ≡ outer zs → gangs_before gang rs ys ≡ gangs_before gang rs zs → k ≡ l
  pub apart : (ys zs : List ℤ) (k p q : ℕ)
      → Deals gang rs ys k p → Deals gang rs zs k q → (outer ys ≡ outer zs) × (gangs_before gang rs ys ≡ gangs_before gang rs zs)
  -- in order
  pub order : (ys zs : List ℤ) (k l p q : ℕ) → Deals gang rs ys k p → Deals gang rs zs l q → k < l → Before ys zs

-- of every gang and all ranges
abbrev pub DealtOnce : Type 0
DealtOnce = (gang : ℕ) (rs : List Range) → 0 < gang → 1 ≤ length rs → AreDealt gang rs
