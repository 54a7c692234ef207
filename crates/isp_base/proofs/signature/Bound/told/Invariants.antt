use Rattle.std.specs.List.{AllWithin}
use Rattle.isp_base.specs.Arguments.{IsShort}
use Rattle.isp_base.proofs.signature.Bound.told.Given as goal

abbrev pub invariant-loop-argument : goal.invariant-loop-argument
invariant-loop-argument l = AllWithin IsShort l.self.arguments.items 0 l.argument-index
