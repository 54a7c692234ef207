use Rattle.std.proofs.Common.{◌≡◌, ap, ◌∙◌, ℕ, Bool, List, length, get_or, arith}
use Rattle.std.proofs.lemmas.Simd.{get_or-zip2}
use Rattle.std.specs.Simd.Lanes.{zip2, sel_l}
use Rattle.isp_base.specs.Rows.{Row}
use Rattle.isp_base.specs.Values.{op_bits}
use Rattle.isp_lanes.proofs.Rows.{length_zip2}
use Rattle.isp_cross.proofs.Written.{all_written}
use Rattle.isp_cross.proofs.scans.joined.Goals as goal

pub returns-clause-value : goal.returns-clause-value
returns-clause-value g c p h =
    let n = g.row.N in
    let xs = c.args.x.now.bits in
    let ys = c.args.y.now.bits in
    let f = op_bits c.args.op c.args.y.now.elem in
    let left : length xs ≡ n = c.told.ensures.long in
    let right : length ys ≡ n = c.told-2.ensures.long in
    ap (λ (r : Row). get_or r.bits p 0) c.in-Ok.ensures.value
    ∙ ap (λ (m : List Bool). get_or (sel_l m (zip2 f xs ys) ys) p 0) c.full.ensures
    ∙ ap (λ (zs : List ℕ). get_or zs p 0) (all_written (zip2 f xs ys) ys n (length_zip2 f xs ys n left right) right)
    ∙ get_or-zip2 f xs ys p 0 0 0 (omega (arith, h, left)) (omega (arith, h, right))
