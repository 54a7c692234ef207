-- The operators by which lanes are scanned.
use Rattle.std.specs.Prelude.{Bool, true, false}
use Rattle.isp_base.specs.declared.operators.BinOp.{BinOp}
use Rattle.isp_base.specs.declared.operators.BinOp.TheVariants.{Add, And, Or}

-- a sum, or all or any of the bits
abbrev pub scans : BinOp → Bool
scans Add = true
scans And = true
scans Or = true
scans op = false
