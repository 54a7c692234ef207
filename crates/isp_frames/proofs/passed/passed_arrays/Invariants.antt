use Rattle.std.proofs.Common.{◌≡◌, ◌++◌, drop, map}
use Rattle.isp_code.specs.Calls.{numbers}
use Rattle.isp_code.specs.declared.register.Class.TheVariants as class
use Rattle.isp_frames.specs.Begun.{seen_array, passed_array}
use Rattle.isp_frames.proofs.passed.passed_arrays.Given as goal

abbrev pub invariant-loop-x : goal.invariant-loop-x
invariant-loop-x g l = map (passed_array l.frame) (numbers class.Array l.arguments) ≡ map seen_array l.arrays.items ++ map (passed_array l.frame) (numbers class.Array (drop l.x-index l.arguments))
