use Rattle.std.proofs.Common.{◌≡◌, sym, ap, ap₂, ◌∙◌, ℕ, ◌+◌, ◌%◌, ◌^◌, List, length, map, replicate, arith}
use Rattle.std.proofs.lemmas.List.{take_all, length-map, length-replicate}
use Rattle.std.proofs.lemmas.Simd.{length-sel_l}
use Rattle.std.specs.Simd.Lanes.{sel_l, fold_l}
use Rattle.isp_base.specs.declared.types.Elem.{Elem}
use Rattle.isp_base.specs.Rows.{Row}
use Rattle.isp_base.specs.Values.{width, number, wrap, convert_bits}
use Rattle.isp_base.specs.Ranks.{widened}
use Rattle.isp_cross.specs.Lanes.{active}
use Rattle.isp_cross.proofs.Sums.{widened_bits, sum_is, get_or-wide}
use Rattle.isp_cross.proofs.reductions.reduce_add.Goals as goal

pub returns-clause-value : goal.returns-clause-value
returns-clause-value g c =
    let t = c.args.x.now.elem in
    let xs = c.args.x.now.bits in
    let mask = c.args.mask.now in
    let n = g.row.N in
    let v = widened t in
    let long : length mask ≡ n = c.told.ensures.long in
    let xs_long : length xs ≡ n = c.told-2.ensures.long in
    let wide_is : c.widened-wide.result ≡ v = c.widened-wide.ensures ∙ ap widened c.elem.ensures in
    let lanes : List ℕ = sel_l mask (map (λ b. wrap v (number t b)) xs) (replicate n 0) in
    let bits_is : c.bits.result ≡ lanes =
    c.bits.ensures.value
    ∙ ap (λ (r : Row). r.bits) c.convert.ensures
    ∙ ap (λ (r : Row). sel_l mask (map (λ b. convert_bits r.elem (number t b)) xs) r.bits) c.zero-lanes.ensures
    ∙ ap (λ (u : Elem). sel_l mask (map (λ b. convert_bits u (number t b)) xs) (replicate n 0)) wide_is
    ∙ ap (λ (f : ℕ → ℕ). sel_l mask (map f xs) (replicate n 0)) (λ i b. widened_bits t (number t b) i) in
    let all : length lanes ≡ n = length-sel_l mask (map (λ b. wrap v (number t b)) xs) (replicate n 0) (long ∙ sym (length-map xs (λ b. wrap v (number t b)) ∙ xs_long)) (long ∙ sym (length-replicate n 0)) ∙ long in
    let sum : List ℕ → ℕ = λ bs. fold_l (λ a b. (a + b) % 2 ^ 64) 0 bs in
    c.low_bits.ensures
    ∙ ap₂ (λ (u : Elem) (bs : List ℕ). sum bs % 2 ^ width u) wide_is bits_is
    ∙ ap (λ (bs : List ℕ). sum bs % 2 ^ width v) (sym (take_all n lanes (omega (arith, all))))
    ∙ sum_is v t lanes (active mask c.args.x.now) n (omega (arith, all)) (λ p h. get_or-wide v t mask xs n long xs_long p)
