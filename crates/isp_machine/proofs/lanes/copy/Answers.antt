use Rattle.std.proofs.Common.{refl}
use Rattle.isp_base.specs.Maps.{on}
use Rattle.isp_lanes.specs.Lanes.{written}
use Rattle.isp_frames.specs.Arrays.{vector_in, mask_in}
use Rattle.isp_frames.specs.Views.{masks_at, vectors_at}
use Rattle.isp_frames.proofs.LaneViews as views
use Rattle.isp_machine.proofs.lanes.copy.Goals as goal

pub returns-clause-written : goal.returns-clause-written
returns-clause-written g c =
    let n = g.row.N in
    let h = c.args.here.now.routine in
    let f = c.args.frame.now in
    let ms = mask_in f c.args.target.mask.number in
    let old = vector_in f c.args.target.register.number in
    let xs = (vector_in f c.args.x.number).bits in
    λ s. record {
      value = written ms (xs) old;
      elem = refl;
      written = record {
        lanes = on (masks_at f c.args.target.mask.number) (vectors_at f c.args.x.number);
        value = λ ws out. refl;
        bits = views.copied n ms xs old.bits c.mask_told.ensures.long c.vector_told-2.ensures.long c.vector_told.ensures.long;
      };
      now = c.copy.ensures;
    }
