use Rattle.std.proofs.Common.{◌≡◌, ◌++◌, drop, map}
use Rattle.isp_code.specs.Calls.{numbers}
use Rattle.isp_code.specs.declared.register.Class.TheVariants as class
use Rattle.isp_frames.specs.Views.{scalars_at}
use Rattle.isp_frames.proofs.passed.passed_scalars.Given as goal

abbrev pub invariant-loop-x : goal.invariant-loop-x
invariant-loop-x g l = map (scalars_at l.frame) (numbers class.Scalar l.arguments) ≡ l.scalars.items ++ map (scalars_at l.frame) (numbers class.Scalar (drop l.x-index l.arguments))
