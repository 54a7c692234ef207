use Rattle.std.proofs.Common.{◌≡◌, ◌+◌, length, drop}
use Rattle.isp_base.specs.Arguments.{rows}
use Rattle.isp_machine.proofs.start.places.Given as goal

abbrev pub invariant-loop-argument : goal.invariant-loop-argument
invariant-loop-argument l = length (rows l.arguments) ≡ length l.arrays.items + length (rows (drop l.argument-index l.arguments))
