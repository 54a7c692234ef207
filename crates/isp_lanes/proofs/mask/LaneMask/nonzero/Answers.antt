use Rattle.std.proofs.Common.{◌≡◌, ap, ◌∙◌, ℕ, ◌<◌, cond, ◌&&◌, arith, bit_and, List, map, length, get_or, lit≤, subst, sym}
use Rattle.std.specs.Simd.Lanes.{zip2}
use lib.Bits.{and_lt}
use Rattle.isp_lanes.specs.Lanes.{is_on}
use Rattle.isp_lanes.proofs.Rows.{row_left, row_map_right, row_op2, length_zip2, each_lane}
use Rattle.isp_lanes.proofs.MaskLanes.{hits_on, flag_lt}
use Rattle.isp_lanes.proofs.mask.LaneMask.nonzero.Goals as goal

pub invariant_of-result : goal.invariant_of-result
invariant_of-result g c =
    let xs = c.self.inside.lanes in
    let ys = g.V.Words.words c.args.words in
    let same : length xs ≡ length ys = omega (arith, c.self.invariant.0, c.requires) in
    let row = row_op2 bit_and (λ a _. a) (λ _ b. cond (is_on b) 1 0) xs ys (row_left xs ys same) (c.flags-flags.ensures ∙ row_map_right _ xs ys same) in (
      ap length row ∙ length_zip2 _ xs ys g.row.N c.self.invariant.0 c.requires,
      λ k. subst (λ (zs : List ℕ). get_or zs k 0 < 2) (sym row)
          (each_lane (λ a. a < 2) (λ _. Unit {0}) 2 (λ a b. bit_and a (cond (is_on b) 1 0)) (lit≤ tt)
          (λ a b p q. and_lt 1 a (cond (is_on b) 1 0) p (flag_lt (is_on b))) xs ys c.self.invariant.1 (λ _. tt) k),
      c.self.invariant.2,
    )

pub returns : goal.returns
returns g c =
    let xs = c.self.inside.lanes in
    let ys = g.V.Words.words c.args.words in
    let same : length xs ≡ length ys = omega (arith, c.self.invariant.0, c.requires) in
    let row = row_op2 bit_and (λ a _. a) (λ _ b. cond (is_on b) 1 0) xs ys (row_left xs ys same) (c.flags-flags.ensures ∙ row_map_right _ xs ys same) in
    ap (map is_on) row ∙ hits_on xs ys c.self.invariant.1 ∙ ap (λ m. zip2 (λ m b. m && is_on b) m ys) c.self.view_is
