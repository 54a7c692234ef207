-- Who keeps the constants that are left, keeps all.
use Rattle.std.proofs.Common.{drop}
use Rattle.isp_registers.specs.declared.registers.Registers.{Registers}
use Rattle.isp_masks.specs.Kept.{KeepsAll}
use Rattle.isp_masks.proofs.keeping.keep.Given as goal

abbrev pub invariant-loop-x : goal.invariant-loop-x
invariant-loop-x l = (c : Registers) → KeepsAll l.registers c (drop l.x-index l.all) → KeepsAll l.initial.registers c l.all
