-- What a visit of several numbers leaves: those for which nothing was found have found d, and wait. No part of a promise.
use Rattle.std.specs.Prelude.{◌≡◌, ℕ, suc, ◌+◌, ◌<◌, ◌⊎◌, List, [], ◌∷◌, Option, Some, None, Contains, length}
use Rattle.isp_independence.specs.reader.Paths.{found_at, IsFound, Arc, Path}

-- how many have found nothing
abbrev pub without : {D : Type 0} → List (Option D) → ℕ
without [] = 0
without (None ∷ xs) = suc (without xs)
without (Some d ∷ xs) = without xs

pub record Visits {D : Type 0} (row : List ℕ) (d : D) (old new : List (Option D)) (before after : List ℕ) : Type 0 where
  pub long : length new ≡ length old
  -- each that finds something has to be visited from
  pub work : without new + length after ≡ without old + length before
  pub kept : (f : ℕ) (e : D) → found_at old f ≡ Some e → found_at new f ≡ Some e
  pub fresh : (f : ℕ) (e : D) → found_at new f ≡ Some e → (found_at old f ≡ Some e) ⊎ ((e ≡ d) × Contains row f × Contains after f)
  pub all : (f : ℕ) → Contains row f → f < length old → IsFound new f
  pub waits : (f : ℕ) → Contains before f → Contains after f
  pub waited : (f : ℕ) → Contains after f → Contains before f ⊎ Contains row f

-- who calls one that has found something has found something
pub record IsClosed {D : Type 0} (table : List (List ℕ)) (found : List (Option D)) : Type 0 where
  pub callers : (f g : ℕ) → IsFound found f → Arc table g f → IsFound found g

-- who leads to h finds d, where nothing was found
pub record Spreads {D : Type 0} (table : List (List ℕ)) (h : ℕ) (d : D) (old new : List (Option D)) : Type 0 where
  pub long : length new ≡ length old
  pub kept : (f : ℕ) (e : D) → found_at old f ≡ Some e → found_at new f ≡ Some e
  pub fresh : (f : ℕ) (e : D) → found_at new f ≡ Some e → (found_at old f ≡ Some e) ⊎ ((e ≡ d) × (found_at old f ≡ None) × Path table f h)
  pub here : h < length old → IsFound new h
  pub closed : IsClosed table old → IsClosed table new
