use Rattle.std.proofs.Common.{w32, ap, List, Bool}
use Rattle.std.specs.Simd.Lanes.{sel_l}
use Rattle.isp_lanes.proofs.Truths.{cast_truth_of}
use Rattle.isp_lanes.proofs.words.SimdU32Words.over.Goals as goal

pub returns : goal.returns
returns g c = ap (λ (m : List Bool). sel_l m c.args.self c.args.old) (cast_truth_of w32 g.row.N c.args.mask.now c.told-mask)
