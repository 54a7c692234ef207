-- A part of a list, from one number on and before another, that a later list has too.
use Rattle.std.specs.Prelude.{◌≡◌, ◌≤◌, ◌<◌, ℕ, List, ◌++◌, length, slice_get}
use Rattle.isp_code.specs.declared.instr.Instr.{Instr}
use Rattle.isp_lower_code.specs.Patched.{patched}

-- from n on and before m the second list has what the first has
abbrev pub SamePart : {A : Type 0} → ℕ → ℕ → List A → List A → Type 0
SamePart n m xs ys = (i : ℕ) → n ≤ i → i < m → slice_get ys i ≡ slice_get xs i

-- so it stays where instructions or places are added
pub record PartsStay (A : Type 0) : Type 0 where
  pub grown : (n m : ℕ) (xs more : List A) → m ≤ length xs → SamePart n m xs (xs ++ more)
  pub on : (n m : ℕ) (xs ys zs : List A) → SamePart n m xs ys → SamePart n m ys zs → SamePart n m xs zs

-- and where a jump outside it is patched
pub record PatchedStays : Type 0 where
  pub before : (n m at to : ℕ) (code : List Instr) → at < n → SamePart n m code (patched code at to)
  pub behind : (n m at to : ℕ) (code : List Instr) → m ≤ at → SamePart n m code (patched code at to)
