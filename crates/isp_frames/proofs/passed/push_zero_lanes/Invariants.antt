use Rattle.std.proofs.Common.{◌≡◌, ◌++◌, drop, map}
use Rattle.isp_frames.specs.Begun.{seen, zero_seen}
use Rattle.isp_frames.proofs.passed.push_zero_lanes.Given as goal

abbrev pub invariant-loop-elem : goal.invariant-loop-elem
invariant-loop-elem g l = map seen l.initial.vectors.items ++ map zero_seen l.elems ≡ map seen l.vectors.items ++ map zero_seen (drop l.elem-index l.elems)
