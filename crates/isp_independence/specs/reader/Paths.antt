-- Tables of calls: in the row of a function, by its number, stand the functions that it calls. No part of a promise.
use Rattle.std.specs.Prelude.{◌≡◌, ℕ, ◌<◌, ◌⊎◌, List, [], Option, Some, None, length, slice_get, Contains}

-- b stands in the row of a
pub record Arc (table : List (List ℕ)) (a b : ℕ) : Type 0 where
  pub row : List ℕ
  pub there : slice_get table a ≡ Some row
  pub holds : Contains row b

abbrev pub given_row : Option (List ℕ) → List ℕ
given_row None = []
given_row (Some row) = row

-- the row of a number, empty past the end
abbrev pub row_at : List (List ℕ) → ℕ → List ℕ
row_at table a = given_row (slice_get table a)

-- from a, arc by arc, to another
pub data Path (table : List (List ℕ)) (a : ℕ) : ℕ → Type 0 where
  stays : Path table a a
  goes : (b c : ℕ) → Path table a b → Arc table b c → Path table a c

abbrev pub flat : {D : Type 0} → Option (Option D) → Option D
flat None = None
flat (Some o) = o

-- what was found for a number
abbrev pub found_at : {D : Type 0} → List (Option D) → ℕ → Option D
found_at xs f = flat (slice_get xs f)

pub record IsFound {D : Type 0} (xs : List (Option D)) (f : ℕ) : Type 0 where
  pub what : D
  pub is : found_at xs f ≡ Some what

-- d is what stands at a number to which a path leads
pub record Meets {D : Type 0} (table : List (List ℕ)) (own : List (Option D)) (a : ℕ) (d : D) : Type 0 where
  pub at : ℕ
  pub path : Path table a at
  pub is : found_at own at ≡ Some d

-- one table has the arcs of another the other way round, as far as it has rows
pub record IsReversed (table turned : List (List ℕ)) : Type 0 where
  pub long : length turned ≡ length table
  pub there : (a b : ℕ) → b < length table → Arc table a b → Arc turned b a
  pub back : (a b : ℕ) → Arc turned b a → Arc table a b

-- a table with more arcs
pub record Adds (old new : List (List ℕ)) (more : ℕ → ℕ → Type 0) : Type 0 where
  pub long : length new ≡ length old
  pub kept : (a b : ℕ) → Arc old a b → Arc new a b
  pub added : (a b : ℕ) → a < length old → more a b → Arc new a b
  pub only : (a b : ℕ) → Arc new a b → Arc old a b ⊎ more a b
