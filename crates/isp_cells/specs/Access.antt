-- What lanes find at their indices; the lowest lane whose index is outside.
use Rattle.std.specs.Prelude.{ℕ, List, Bool, Option}
use Rattle.isp_base.specs.Access.{element, is_outside}
use Rattle.isp_base.specs.Maps.{Lanes, Map, each1, lane_of, lowest_failing, on, over}
use Rattle.isp_base.specs.Sets.{flag_of}
use Rattle.isp_base.specs.declared.types.Elem.TheVariants.{I64}

-- the words of the lanes that are on
abbrev pub lanes_on : List Bool → List ℕ → Map
lanes_on mask words = on (flag_of mask) (lane_of words)

-- the lowest lane whose index, an int64, is none of so many elements
abbrev pub lowest_out : ℕ → ℕ → List Bool → List ℕ → Option ℕ
lowest_out n count mask indices = lowest_failing n (is_outside I64 count) (lanes_on mask indices)

-- the words that lanes find at their indices; a lane that is off keeps its own
abbrev pub own_gathered : (ℕ → ℕ → ℕ) → List Bool → List ℕ → List ℕ → Lanes
own_gathered find mask indices old =
    over (λ p. each1 (λ x. find (element I64 x) p) (lanes_on mask indices p)) (lane_of old)
