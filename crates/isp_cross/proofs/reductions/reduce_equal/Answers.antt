use Rattle.std.proofs.Common.{◌≡◌, ◌<◌, true, false, sym, ap, ◌∙◌, ℕ, List, Bool, length, get_or, replicate, nat_eq}
use Rattle.std.proofs.lemmas.List.{length-replicate}
use Rattle.std.proofs.lemmas.Option.{get_or_from_slice_get}
use Rattle.std.specs.Simd.Lanes.{sel_l, zip2}
use Rattle.isp_base.specs.Cross.{or_zero}
use Rattle.isp_base.specs.Maps.{lane_of}
use Rattle.isp_base.specs.Rows.{Row}
use Rattle.isp_base.specs.Sets.{flag_of}
use Rattle.isp_base.specs.Truths.{is_true}
use Rattle.isp_base.specs.Values.{compare_bits}
use Rattle.isp_base.specs.declared.operators.Compare.TheVariants.{Equal}
use Rattle.isp_cross.specs.Lanes.{active}
use Rattle.isp_cross.proofs.Tests.{all_same, first_is, lowest_of, same_at}
use Rattle.isp_cross.proofs.Written.{all_written}
use Rattle.isp_cross.proofs.reductions.reduce_equal.Goals as goal

pub returns : goal.returns
returns g c =
    let mask = c.args.mask.now in
    let t = c.args.x.now.elem in
    let xs = c.args.x.now.bits in
    let n = g.row.N in
    let v = c.get-lowest.result in
    let long : length mask ≡ n = c.told.ensures.long in
    let wide : length xs ≡ n = c.told-2.ensures.long in
    let firsts : c.splat.new.self.bits ≡ replicate n v =
    ap (λ (r : Row). r.bits) c.splat.ensures
    ∙ ap (λ (m : List Bool). sel_l m (replicate n v) xs) c.full.ensures
    ∙ all_written (replicate n v) xs n (length-replicate n v) wide in
    let same : c.compare.new.self.bits ≡ sel_l mask (zip2 (compare_bits Equal t) xs (replicate n v)) (replicate n 0) =
    ap (λ (r : Row). r.bits) c.compare.ensures
    ∙ ap (λ (bs : List ℕ). sel_l mask (zip2 (compare_bits Equal t) xs bs) c.zero-same.result.bits) firsts
    ∙ ap (λ (r : Row). sel_l mask (zip2 (compare_bits Equal t) xs (replicate n v)) r.bits) c.zero-same.ensures in
    let lowest : (p : ℕ) → p < n → get_or mask p false ≡ true → v ≡ or_zero (lowest_of n (active mask c.args.x.now)) = λ p h on.
    sym (get_or_from_slice_get xs c.first.result v 0 c.get-lowest.ensures.value) ∙ ap (lane_of xs) c.first.ensures ∙ sym (first_is mask (lane_of xs) n p long h on) in
    c.all.ensures
    ∙ all_same is_true (λ b. nat_eq b (or_zero (lowest_of n (active mask c.args.x.now)))) (flag_of mask) (lane_of c.compare.new.self.bits) (lane_of xs) n (λ p h on.
    ap (λ (bs : List ℕ). is_true (get_or bs p 0)) same
    ∙ same_at t mask xs (replicate n 0) n v p long wide (length-replicate n 0) c.told-2.ensures.fits c.get-lowest.ensures.fits h on
    ∙ ap (λ (w : ℕ). nat_eq (get_or xs p 0) w) (lowest p h on))
