use Rattle.std.proofs.Common.{◌≡◌, None}
use Rattle.isp_base.specs.Values.{op_bits}
use Rattle.isp_base.specs.Cross.{best, fold_below}
use Rattle.isp_cross.specs.Lanes.{active}
use Rattle.isp_cross.proofs.reductions.reduce_best.Given as goal

abbrev pub invariant-loop-p : goal.invariant-loop-p
invariant-loop-p g l = l.best ≡ fold_below (best (op_bits l.fn.op l.fn.x.elem)) None (active l.fn.mask l.fn.x) l.p
