use Rattle.std.proofs.Common.{◌≡◌, refl, sym, ap, ◌∙◌, subst, List, Bool, length}
use Rattle.std.specs.Simd.Lanes.{zip2}
use Rattle.isp_base.specs.Maps.{lane_of, over, map2, on}
use Rattle.isp_base.specs.Rows.{Row, Fit}
use Rattle.isp_base.specs.Values.{op_bits}
use Rattle.isp_base.specs.declared.operators.BinOp.{BinOp}
use Rattle.isp_base.specs.declared.types.Elem.{Elem}
use Rattle.isp_code.specs.Lines.{division_of}
use Rattle.isp_lanes.specs.Lanes.{first_zero, written}
use Rattle.isp_frames.specs.Arrays.{vector_in, mask_in}
use Rattle.isp_frames.specs.Views.{vectors_at, masks_at}
use Rattle.isp_frames.proofs.LaneViews.{zipped}
use Rattle.isp_frames.proofs.MaskViews.{first_divisor, division_divides}
use Rattle.isp_frames.proofs.kernels.divided.Goals as goal

pub returns-in-Ok-clause-none : goal.returns-in-Ok-clause-none
returns-in-Ok-clause-none g c =
    let f = c.args.frame.now in
    let t = (vector_in f c.args.d).elem in
    let ms = mask_in f c.args.k in
    let ys = (vector_in f c.args.y).bits in
    let few = subst (λ (bs : List Bool). length bs ≡ g.row.N) c.mask.ensures c.told.ensures.long in
    let long = subst (λ (r : Row). length r.bits ≡ g.row.N) c.vector-3.ensures c.told-4.ensures.long in
    let fits : Fit t ys = subst (λ (e : Elem). Fit e ys) c.requires.y_elem (subst (λ (r : Row). Fit r.elem r.bits) c.vector-3.ensures c.told-4.ensures.fits) in
    sym (first_divisor g.row.N (division_of c.args.op) t ms ys (division_divides c.args.op) few long fits) ∙ ap (λ (o : BinOp). first_zero o ms ys) (sym c.division_operator.ensures) ∙ c.in-Ok.ensures.divided

pub returns-in-Ok-clause-lanes : goal.returns-in-Ok-clause-lanes
returns-in-Ok-clause-lanes g c =
    let f = c.args.frame.now in
    let ms = mask_in f c.args.k in
    let old = vector_in f c.args.d in
    let xs = (vector_in f c.args.x).bits in
    let ys = (vector_in f c.args.y).bits in
    let few = subst (λ (bs : List Bool). length bs ≡ g.row.N) c.mask.ensures c.told.ensures.long in
    let long_x = subst (λ (r : Row). length r.bits ≡ g.row.N) c.vector-2.ensures c.told-3.ensures.long in
    let long_y = subst (λ (r : Row). length r.bits ≡ g.row.N) c.vector-3.ensures c.told-4.ensures.long in
    let long = subst (λ (r : Row). length r.bits ≡ g.row.N) c.vector.ensures c.told-2.ensures.long in
    record {
      value = written ms (zip2 (op_bits c.division_operator.result old.elem) xs ys) old;
      elem = refl;
      bits = zipped g.row.N (op_bits c.division_operator.result old.elem) ms xs ys old.bits few long_x long_y long
          ∙ ap (λ (o : BinOp). over (map2 (op_bits o old.elem) (on (masks_at f c.args.k) (vectors_at f c.args.x)) (on (masks_at f c.args.k) (vectors_at f c.args.y))) (lane_of old.bits)) c.division_operator.ensures;
      now = c.in-Ok.ensures.value;
    }

pub returns-in-Err-clause-lowest : goal.returns-in-Err-clause-lowest
returns-in-Err-clause-lowest g c =
    let f = c.args.frame.now in
    let t = (vector_in f c.args.d).elem in
    let ms = mask_in f c.args.k in
    let ys = (vector_in f c.args.y).bits in
    let few = subst (λ (bs : List Bool). length bs ≡ g.row.N) c.mask.ensures c.told.ensures.long in
    let long = subst (λ (r : Row). length r.bits ≡ g.row.N) c.vector-3.ensures c.told-4.ensures.long in
    let fits : Fit t ys = subst (λ (e : Elem). Fit e ys) c.requires.y_elem (subst (λ (r : Row). Fit r.elem r.bits) c.vector-3.ensures c.told-4.ensures.fits) in
    sym (first_divisor g.row.N (division_of c.args.op) t ms ys (division_divides c.args.op) few long fits) ∙ ap (λ (o : BinOp). first_zero o ms ys) (sym c.division_operator.ensures) ∙ c.in-Err.ensures.lowest
