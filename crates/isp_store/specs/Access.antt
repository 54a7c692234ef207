-- What lanes find in an array that they share, and what they leave there.
use Rattle.std.specs.Prelude.{ℕ, List, Bool, Option, unsigned_abs}
use Rattle.isp_base.specs.Access.{element, scatter}
use Rattle.isp_base.specs.Cross.{packed_index, packed_outside, packed_places, run_index, run_outside, run_places}
use Rattle.isp_base.specs.Maps.{Lanes, lane_of, map1, on, over}
use Rattle.isp_base.specs.Sets.{flag_of, lowest}
use Rattle.isp_base.specs.Values.{number}
use Rattle.isp_base.specs.declared.types.Elem.TheVariants.{I64}
use Rattle.isp_cells.specs.Access.{lanes_on}

-- ---- each lane at an index of its own, an int64

-- the elements there; a lane that is off keeps its word
abbrev pub gathered : Lanes → List Bool → List ℕ → List ℕ → Lanes
gathered elements mask indices old = over (map1 (λ x. elements (element I64 x)) (lanes_on mask indices)) (lane_of old)

-- the elements after the lanes have left their values there, the highest last
abbrev pub scattered : ℕ → List Bool → List ℕ → List ℕ → Lanes → Lanes
scattered n mask indices values = scatter n (map1 (element I64) (lanes_on mask indices)) (lanes_on mask values)

-- ---- the lanes at consecutive elements, from an index on

abbrev pub run_out : ℕ → ℕ → ℕ → List Bool → Option ℕ
run_out n count index mask = lowest n (run_outside count (number I64 index) (flag_of mask))

abbrev pub run_loaded : Lanes → ℕ → List Bool → List ℕ → Lanes
run_loaded elements index mask old =
    over (on (flag_of mask) (λ p. elements (unsigned_abs (run_index (number I64 index) p)))) (lane_of old)

abbrev pub run_stored : ℕ → ℕ → List Bool → List ℕ → Lanes → Lanes
run_stored n index mask values = scatter n (run_places (number I64 index) (flag_of mask)) (lanes_on mask values)

-- ---- the lanes that are on at consecutive elements, from an index on

abbrev pub packed_out : ℕ → ℕ → ℕ → List Bool → Option ℕ
packed_out n count index mask = lowest n (packed_outside count (number I64 index) (flag_of mask))

abbrev pub packed_loaded : Lanes → ℕ → List Bool → List ℕ → Lanes
packed_loaded elements index mask old =
    over (on (flag_of mask) (λ p. elements (unsigned_abs (packed_index (number I64 index) (flag_of mask) p)))) (lane_of old)

abbrev pub packed_stored : ℕ → ℕ → List Bool → List ℕ → Lanes → Lanes
packed_stored n index mask values = scatter n (packed_places (number I64 index) (flag_of mask)) (lanes_on mask values)
