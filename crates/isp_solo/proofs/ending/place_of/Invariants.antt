use Rattle.std.proofs.Common.{◌≡◌, ◌+◌, drop}
use Rattle.isp_solo.specs.Places.{array_place}
use Rattle.isp_solo.proofs.ending.place_of.Given as goal

abbrev pub invariant-loop-place : goal.invariant-loop-place
invariant-loop-place l = l.place + array_place (drop l.place l.arguments) l.left ≡ array_place l.arguments l.store
