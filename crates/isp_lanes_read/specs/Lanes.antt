-- What the names of sets of lanes mean, and what a row says of them.
use Rattle.std.specs.Prelude.{◌≡◌, ℕ, List, [], ◌∷◌, true, Contains}
use Rattle.isp_base.specs.Sets.{Mask, nobody, everyone}
use Rattle.isp_base.specs.Types.{gang_width}
use Rattle.isp_code.specs.Conf.{Conf, Frame}
use Rattle.isp_code.specs.Listing.{Listing}
use Rattle.isp_lanes_read.specs.Rows.{Row}
use Rattle.isp_lanes_read.specs.declared.table.Inclusion.{Inclusion}
use Rattle.isp_lanes_read.specs.declared.table.LaneSet.{LaneSet}
use Rattle.isp_lanes_read.specs.declared.table.LaneSet.TheVariants as lanes
use Rattle.isp_lanes_read.specs.declared.table.Reading.{Reading}

-- each lane of one set is in another
abbrev pub IsWithin : Mask → Mask → Type 0
IsWithin a b = (p : ℕ) → a p ≡ true → b p ≡ true

-- what each name means
abbrev pub Meaning : Type 0
Meaning = LaneSet → Mask

-- the lanes of a call, by the calls that wait for it: the first is for all lanes
abbrev pub called_for : ℕ → List Frame → Mask
called_for n [] = everyone n
called_for n (fr ∷ rest) = fr.under

-- in a gang of n, with these mask registers, in a call for some lanes
abbrev pub meaning : ℕ → (ℕ → Mask) → Mask → Meaning
meaning n masks call (lanes.Mask k) = masks k
meaning n masks call lanes.Gang = everyone n
meaning n masks call lanes.Call = call
meaning n masks call lanes.Nobody = nobody

-- in the call that runs, and in one that waits with others outside it
abbrev pub sets : Listing → Conf → Meaning
sets code c = meaning (gang_width code.gang) c.masks (called_for (gang_width code.gang) c.waiting)

abbrev pub frame_sets : Listing → Frame → List Frame → Meaning
frame_sets code fr rest = meaning (gang_width code.gang) fr.masks (called_for (gang_width code.gang) rest)

-- what a row says of sets is so
abbrev pub IsTold : Meaning → Row → Type 0
IsTold set row = (x : Inclusion) → Contains row.within x → IsWithin (set x.part) (set x.whole)

-- a row has lane p of vector v among those that may be read
abbrev pub IsRead : Meaning → Row → ℕ → ℕ → Type 0
IsRead set row v p = (r : Reading) × Contains row.read r × (r.vector ≡ v) × (set r.lanes p ≡ true)
