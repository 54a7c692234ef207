use Rattle.std.proofs.Common.{◌≡◌, take}
use Rattle.isp_solo.proofs.left.copy.Given as goal

abbrev pub invariant-loop-place : goal.invariant-loop-place
invariant-loop-place l = l.copy ≡ record { elem = l.array.elem; bits = take l.place l.array.bits }
