-- A run beside one with more turns, and whom a trap names.
use Rattle.std.specs.Prelude.{◌≡◌, ℕ, true, IsSome}
use Rattle.isp_solo_meaning.specs.Alone.{Alone}
use Rattle.isp_solo_meaning.specs.Answers.{Answer, Has, Bad, Long, reached}

-- what was read by s was read by t too, and what was stored was stored
pub record Within (s t : Alone) : Type 0 where
  pub read : (b e : ℕ) → s.read b e ≡ true → t.read b e ≡ true
  pub wrote : (b e : ℕ) → IsSome (s.wrote b e) → IsSome (t.wrote b e)

-- an answer with fewer turns, and that with more: one that is there stays as it is, and what a cut one touched is touched
abbrev pub Later : {A : Type 0} → Answer A → Answer A → Type 0
Later (Has x s) r = r ≡ Has x s
Later (Bad t s) r = r ≡ Bad t s
Later (Long s) r = Within s (reached r)

-- a trap is one of instance p
abbrev pub Names : {A : Type 0} → ℕ → Answer A → Type 0
Names p (Has x s) = Unit {0}
Names p (Bad t s) = t.instance ≡ p
Names p (Long s) = Unit {0}
