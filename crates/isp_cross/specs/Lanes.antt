-- What the calls read of a vector, and what they leave in one. A vector is seen as its element type and the list of its lanes' bits,
-- a mask as the list of its lanes.
use Rattle.std.specs.Prelude.{List, Bool}
use Rattle.isp_base.specs.Maps.{Lanes, Map, lane_of, on, over}
use Rattle.isp_base.specs.Rows.{Row}
use Rattle.isp_base.specs.Sets.{flag_of}

-- the values in the lanes of a mask
abbrev pub active : List Bool → Row → Map
active mask x = on (flag_of mask) (lane_of x.bits)

-- a vector's bits once the lanes of a mask have new ones; the others keep theirs
abbrev pub renewed : List Bool → Lanes → Row → Lanes
renewed mask new old = over (on (flag_of mask) new) (lane_of old.bits)
