use Rattle.std.proofs.Common.{arith}
use Rattle.isp_base.specs.Cross.{exclusive_scan}
use Rattle.isp_gang_values.specs.Seen.{map_of}
use Rattle.isp_gang_values.proofs.Rows.{begun, on_made}
use Rattle.isp_gang_values.proofs.cross.scanned.Goals as goal

pub loop-instance-init : goal.loop-instance-init
loop-instance-init c = record { so_far = c.neutral-total.ensures; made = begun _ }

pub returns : goal.returns
returns c = let m = c.loop-instance.invariant.made in grind (arith, on_made c.args.set.now (exclusive_scan c.args.operator c.args.elem (map_of c.args.row.now)) c.loop-instance.scan, m)
