use Rattle.std.proofs.Common.{refl, ◌∙◌}
use Rattle.std.specs.Simd.Lanes.{zip2}
use Rattle.isp_base.specs.Maps.{lane_of, on, over, map2}
use Rattle.isp_base.specs.Values.{compare_bits}
use Rattle.isp_code.specs.Registers.{elem_of}
use Rattle.isp_lanes.specs.Lanes.{written}
use Rattle.isp_frames.specs.Arrays.{vector_in, mask_in}
use Rattle.isp_frames.specs.Views.{masks_at, vectors_at}
use Rattle.isp_frames.proofs.LaneViews as views
use Rattle.isp_machine.proofs.lanes.compare.Goals as goal

pub returns-clause-written : goal.returns-clause-written
returns-clause-written g c =
    let n = g.row.N in
    let h = c.args.here.now.routine in
    let f = c.args.frame.now in
    let ms = mask_in f c.args.target.mask.number in
    let old = vector_in f c.args.target.register.number in
    let xs = (vector_in f c.args.x.number).bits in
    let ys = (vector_in f c.args.y.number).bits in
    let t = (vector_in f c.args.x.number).elem in
    let x = on (masks_at f c.args.target.mask.number) (vectors_at f c.args.x.number) in
    let y = on (masks_at f c.args.target.mask.number) (vectors_at f c.args.y.number) in
    λ s. record {
      value = written ms (zip2 (compare_bits c.args.op t) xs ys) old;
      elem = refl;
      written = record {
        lanes = map2 (compare_bits c.args.op (elem_of h c.args.x)) x y;
        value = λ ws out. refl;
        bits = views.zipped n (compare_bits c.args.op t) ms xs ys old.bits c.mask_told.ensures.long c.vector_told-2.ensures.long
            c.vector_told-3.ensures.long c.vector_told.ensures.long
            ∙ (λ i. over (map2 (compare_bits c.args.op (c.vector_told-2.ensures.elem i)) x y) (lane_of old.bits));
      };
      now = c.compare.ensures;
    }
