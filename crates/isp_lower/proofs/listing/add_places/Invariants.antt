use Rattle.std.proofs.Common.{◌≡◌, ◌++◌, take}
use Rattle.isp_lower.proofs.listing.add_places.Given as goal

abbrev pub invariant-loop-place : goal.invariant-loop-place
invariant-loop-place l = l.code ≡ record l.initial.code { places = l.initial.code.places ++ take l.place-index l.places }
