use Rattle.std.proofs.Common.{◌≡◌, drop, take, map}
use Rattle.isp_registers.specs.Growth.{row_of}
use Rattle.isp_lower_code.specs.Header.{types_of}
use Rattle.isp_lower.proofs.header.types_behind.Given as goal

abbrev pub invariant-loop-place : goal.invariant-loop-place
invariant-loop-place l = l.types.items ≡ drop l.count (types_of (map row_of (take l.place l.rows)))
