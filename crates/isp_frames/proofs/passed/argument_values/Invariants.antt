use Rattle.std.proofs.Common.{◌≡◌, ◌++◌, drop}
use Rattle.isp_code.specs.Machine.{values}
use Rattle.isp_frames.proofs.passed.argument_values.Given as goal

abbrev pub invariant-loop-argument : goal.invariant-loop-argument
invariant-loop-argument l = values l.arguments ≡ l.scalars.items ++ values (drop l.argument-index l.arguments)
