use Rattle.std.proofs.Common.{refl, ◌∙◌, map}
use Rattle.isp_base.specs.Maps.{lane_of, on, over, map1}
use Rattle.isp_base.specs.Unary.{unary_bits}
use Rattle.isp_code.specs.Registers.{elem_of}
use Rattle.isp_lanes.specs.Lanes.{written}
use Rattle.isp_frames.specs.Arrays.{vector_in, mask_in}
use Rattle.isp_frames.specs.Views.{masks_at, vectors_at}
use Rattle.isp_frames.proofs.LaneViews as views
use Rattle.isp_machine.proofs.lanes.apply.Goals as goal

pub returns-clause-written : goal.returns-clause-written
returns-clause-written g c =
    let n = g.row.N in
    let h = c.args.here.now.routine in
    let f = c.args.frame.now in
    let ms = mask_in f c.args.target.mask.number in
    let old = vector_in f c.args.target.register.number in
    let xs = (vector_in f c.args.x.number).bits in
    let lanes = on (masks_at f c.args.target.mask.number) (vectors_at f c.args.x.number) in
    λ s. record {
      value = written ms (map (unary_bits c.args.op old.elem) xs) old;
      elem = refl;
      written = record {
        lanes = map1 (unary_bits c.args.op (elem_of h c.args.target.register)) lanes;
        value = λ ws out. refl;
        bits = views.mapped n (unary_bits c.args.op old.elem) ms xs old.bits c.mask_told.ensures.long c.vector_told-2.ensures.long
            c.vector_told.ensures.long ∙ (λ i. over (map1 (unary_bits c.args.op (c.vector_told.ensures.elem i)) lanes) (lane_of old.bits));
      };
      now = c.unary.ensures;
    }
