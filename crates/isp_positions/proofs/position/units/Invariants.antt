use Rattle.std.proofs.Common.{◌≡◌, ◌≤◌, ◌*◌, take}
use Rattle.std.specs.List.{sum_by}
use Rattle.isp_positions.specs.Positions.{units_of}
use Rattle.isp_positions.proofs.position.units.Given as goal

abbrev pub invariant-loop-byte : goal.invariant-loop-byte
invariant-loop-byte l = (l.count ≡ sum_by units_of (take l.byte-index l.bytes)) × (l.count ≤ 2 * l.byte-index)
