use Rattle.std.proofs.Common.{refl}
use Rattle.std.specs.List.{range_with_len}
use Rattle.isp_base.specs.Maps.{on}
use Rattle.isp_lanes.specs.Lanes.{written}
use Rattle.isp_frames.specs.Arrays.{vector_in, mask_in}
use Rattle.isp_frames.specs.Views.{masks_at}
use Rattle.isp_frames.proofs.LaneViews as views
use Rattle.isp_machine.proofs.lanes.number.Goals as goal

pub returns-clause-written : goal.returns-clause-written
returns-clause-written g c =
    let n = g.row.N in
    let h = c.args.here.now.routine in
    let f = c.args.frame.now in
    let ms = mask_in f c.args.target.mask.number in
    let old = vector_in f c.args.target.register.number in
    λ s. record {
      value = written ms (range_with_len 0 n) old;
      elem = refl;
      written = record {
        lanes = on (masks_at f c.args.target.mask.number) (λ p. p);
        value = λ ws out. refl;
        bits = views.numbered n ms old.bits c.mask_told.ensures.long c.vector_told.ensures.long;
      };
      now = c.index.ensures;
    }
