use Rattle.std.proofs.Common.{refl, ap, ◌∙◌, Bool, ℕ, map}
use Rattle.std.specs.Prelude.{if◌then◌else◌}
use Rattle.std.specs.Simd.Lanes.{sel_l}
use Rattle.std.proofs.Math.Path.{fun_ext}
use Rattle.isp_base.specs.Maps.{lane_of, on, over}
use Rattle.isp_base.specs.Sets.{flag_of}
use Rattle.isp_base.specs.Truths.{is_true}
use Rattle.isp_lanes.specs.Lanes.{is_on, written}
use Rattle.isp_frames.specs.Arrays.{vector_in, mask_in}
use Rattle.isp_frames.specs.Views.{masks_at, vectors_at}
use Rattle.isp_frames.proofs.LaneViews as views
use Rattle.isp_frames.proofs.MaskViews.{true_is}
use Rattle.isp_machine.proofs.lanes.select.Goals as goal

pub returns-clause-written : goal.returns-clause-written
returns-clause-written g c =
    let n = g.row.N in
    let f = c.args.frame.now in
    let ms = mask_in f c.args.target.mask.number in
    let old = vector_in f c.args.target.register.number in
    let ts = (vector_in f c.args.test.number).bits in
    let xs = (vector_in f c.args.x.number).bits in
    let ys = (vector_in f c.args.y.number).bits in
    λ s. record {
      value = written ms (sel_l (map is_on ts) xs ys) old;
      elem = refl;
      written = record {
        lanes = on (masks_at f c.args.target.mask.number) (λ p. if is_true (vectors_at f c.args.test.number p) then vectors_at f c.args.x.number p else vectors_at f c.args.y.number p);
        value = λ ws out. refl;
        bits = views.selected n is_on ms ts xs ys old.bits c.mask_told.ensures.long c.vector_told-2.ensures.long c.vector_told-3.ensures.long c.vector_told-4.ensures.long c.vector_told.ensures.long
            ∙ ap (λ (t : ℕ → Bool). over (on (flag_of ms) (λ p. if t (lane_of ts p) then lane_of xs p else lane_of ys p)) (lane_of old.bits)) (fun_ext true_is);
      };
      now = c.select.ensures;
    }
