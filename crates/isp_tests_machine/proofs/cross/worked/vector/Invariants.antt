use Rattle.std.proofs.Common.{◌≡◌}
use Rattle.isp_base.specs.declared.types.Elem.TheVariants.{I32}
use Rattle.isp_tests_machine.proofs.cross.worked.vector.Given as goal

abbrev pub invariant-loop-lane : goal.invariant-loop-lane
invariant-loop-lane g l = l.row.elem ≡ I32
