use Rattle.std.proofs.Common.{refl, ◌∙◌, replicate}
use Rattle.isp_base.specs.Maps.{lane_of, on, over}
use Rattle.isp_lanes.specs.Lanes.{written}
use Rattle.isp_frames.specs.Arrays.{vector_in, mask_in}
use Rattle.isp_frames.specs.Views.{masks_at, scalars_at}
use Rattle.isp_frames.proofs.LaneViews as views
use Rattle.isp_machine.proofs.lanes.splat.Goals as goal

pub returns-clause-written : goal.returns-clause-written
returns-clause-written g c =
    let n = g.row.N in
    let h = c.args.here.now.routine in
    let f = c.args.frame.now in
    let ms = mask_in f c.args.target.mask.number in
    let old = vector_in f c.args.target.register.number in
    λ s. record {
      value = written ms (replicate n c.scalar-bits.result) old;
      elem = refl;
      written = record {
        lanes = on (masks_at f c.args.target.mask.number) (λ p. scalars_at f c.args.x.number);
        value = λ ws out. refl;
        bits = views.splatted n c.scalar-bits.result ms old.bits c.mask_told.ensures.long c.vector_told.ensures.long ∙ (λ i. over (on (masks_at f c.args.target.mask.number) (λ p. c.scalar-bits.ensures.value i)) (lane_of old.bits));
      };
      now = c.splat.ensures;
    }
