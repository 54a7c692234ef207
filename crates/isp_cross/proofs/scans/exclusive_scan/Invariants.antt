use Rattle.std.proofs.Common.{◌≡◌, ℕ, ◌-◌, ◌<◌, slice_index}
use Rattle.isp_base.specs.Cross.{neutral}
use Rattle.isp_base.specs.Maps.{or_old}
use Rattle.isp_base.specs.Values.{op_bits}
use Rattle.isp_cross.specs.Lanes.{active}
use Rattle.isp_cross.proofs.Spans.{window}
use Rattle.isp_cross.proofs.scans.exclusive_scan.Given as goal

abbrev pub invariant-loop-distance : goal.invariant-loop-distance
invariant-loop-distance g l =
    let t = l.fn.x.elem in
    let e = neutral l.fn.op t in
    (0 < l.distance) × (l.sums.elem ≡ t)
    × ((p : ℕ) → p < g.row.N → slice_index l.sums.bits p ≡ window (op_bits l.fn.op t) e (λ q. or_old (active l.fn.mask l.fn.x q) e) l.distance p)

abbrev pub decreases-loop-distance : goal.decreases-loop-distance
decreases-loop-distance g l = g.row.N - l.distance
