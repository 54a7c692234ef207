-- A list of values of one element type, as their bits.
use Rattle.std.specs.Prelude.{ℕ, ◌^◌, ◌<◌, List, slice_index}
use Rattle.isp_base.specs.declared.types.Elem.{Elem}
use Rattle.isp_base.specs.Values.{width}

pub record Row : Type 0 where
  pub elem : Elem
  pub bits : List ℕ

-- each is below 2 to the width; past the list's end there is 0
abbrev pub Fit : Elem → List ℕ → Type 0
Fit t bits = (k : ℕ) → slice_index bits k < 2 ^ width t
