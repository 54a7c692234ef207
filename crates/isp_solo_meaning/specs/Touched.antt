-- What the run of an instance touches, and when two instances are not apart. The arrays among the entry's arguments are the
-- first stores, in their order: two names for one array in a function that is called are one store.
use Rattle.std.specs.Prelude.{◌≡◌, ℕ, ◌<◌, ◌⊎◌, true, IsSome}
use Rattle.isp_solo_meaning.specs.Answers.{Answer, reached}

-- the elements that a run reads, and those that it stores in, by store and element
abbrev pub Reads : Answer ℕ → ℕ → ℕ → Type 0
Reads r b e = (reached r).read b e ≡ true

abbrev pub Writes : Answer ℕ → ℕ → ℕ → Type 0
Writes r b e = IsSome ((reached r).wrote b e)

-- one instance of the gang stores in this element, and another reads it or stores in it, where each runs over the same arrays
pub record Clash (gang : ℕ) (run : ℕ → Answer ℕ) (b e : ℕ) : Type 0 where
  pub writer : ℕ
  pub other : ℕ
  pub writer_is : writer < gang
  pub other_is : other < gang
  pub two : writer ≡ other → ⊥
  pub writes : Writes (run writer) b e
  pub touches : Reads (run other) b e ⊎ Writes (run other) b e

abbrev pub AreApart : ℕ → (ℕ → Answer ℕ) → Type 0
AreApart gang run = (b e : ℕ) → Clash gang run b e → ⊥
