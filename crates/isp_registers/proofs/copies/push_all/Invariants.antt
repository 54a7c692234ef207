use Rattle.std.proofs.Common.{◌≡◌, take}
use Rattle.isp_registers.proofs.copies.push_all.Given as goal

abbrev pub invariant-loop-row : goal.invariant-loop-row
invariant-loop-row l = l.all ≡ take l.row-index l.rows
