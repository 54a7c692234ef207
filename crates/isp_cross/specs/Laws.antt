-- The words in which it is said what the calls come to.
use Rattle.std.specs.Prelude.{◌≡◌, ℕ, ◌^◌, ◌<◌, Some, ◌≤ℤ◌}
use Rattle.isp_base.specs.Maps.{Map}
use Rattle.isp_base.specs.Values.{width, number}
use Rattle.isp_base.specs.declared.types.Elem.{Elem}

-- one of the first n instances has the value
pub record IsThere (n : ℕ) (x : Map) (b : ℕ) : Type 0 where
  pub at : ℕ
  pub below : at < n
  pub is : x at ≡ Some b

-- the bits are values of an element type
abbrev pub AllFit : Elem → Map → Type 0
AllFit t x = (p b : ℕ) → x p ≡ Some b → b < 2 ^ width t

-- it is there, and as good as each that is there
pub record IsBest (good : ℕ → ℕ → Type 0) (n : ℕ) (x : Map) (r : ℕ) : Type 0 where
  pub there : IsThere n x r
  pub best : (b : ℕ) → IsThere n x b → good r b

-- it is one of the values, and none is below it
abbrev pub IsLeast : Elem → ℕ → Map → ℕ → Type 0
IsLeast t = IsBest (λ r b. number t r ≤ℤ number t b)

-- or above it
abbrev pub IsGreatest : Elem → ℕ → Map → ℕ → Type 0
IsGreatest t = IsBest (λ r b. number t b ≤ℤ number t r)
