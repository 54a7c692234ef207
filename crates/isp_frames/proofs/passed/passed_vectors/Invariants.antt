use Rattle.std.proofs.Common.{◌≡◌, ◌++◌, drop, map}
use Rattle.isp_base.specs.Sets.{flag_of}
use Rattle.isp_code.specs.Calls.{numbers}
use Rattle.isp_code.specs.declared.register.Class.TheVariants as class
use Rattle.isp_frames.specs.Begun.{seen, passed_lanes}
use Rattle.isp_frames.proofs.passed.passed_vectors.Given as goal

abbrev pub invariant-loop-x : goal.invariant-loop-x
invariant-loop-x g l =
    map (passed_lanes l.frame (flag_of l.mask)) (numbers class.Vector l.arguments) ≡ map seen l.vectors.items ++ map (passed_lanes l.frame (flag_of l.mask)) (numbers class.Vector (drop l.x-index l.arguments))
