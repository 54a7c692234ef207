use Rattle.std.proofs.Common.{◌≡◌, sym, ap, ◌∙◌, ℕ, ◌-◌, ◌/◌, ◌%◌, ◌^◌, ◌<◌, cond, nat_lt, arith, subst, length, List, map, get_or, pow_pos, div-le_self}
use Rattle.std.specs.Simd.Lanes.{zip2, Each2}
use Rattle.isp_base.specs.Values.{width, greatest}
use Rattle.isp_base.specs.Words.{magnitude}
use Rattle.isp_lanes.specs.Lanes.{is_on}
use Rattle.isp_base.proofs.Words.{magnitude_lt}
use Rattle.isp_base.proofs.Signs.{magnitude_pos}
use Rattle.isp_lanes.proofs.CellWords as cell
use Rattle.isp_lanes.proofs.Rows.{row_op1, row_op2, row_select, row_same_in, row_map_left, row_map_right, each_pair, each_lane, length_zip2}
use Rattle.isp_lanes.proofs.kernels.signs.div.Goals as goal

pub quotient-size-requires : goal.quotient-size-requires
quotient-size-requires g c =
    let t = g.T.LaneElem.elem in
    let w = g.V.Words.width in
    let e = c.requires.x_row.wide in
    let xs = g.V.Words.words c.args.x in
    let ys = g.V.Words.words c.args.y in
    let n = g.row.N in
    let same : length xs ≡ length ys = omega (arith, c.requires.x_row.long, c.requires.y_row.long) in
    let left = c.magnitudes.ensures ∙ row_map_left (magnitude (width t) (greatest t)) xs ys same in
    let right = c.magnitudes-2.ensures ∙ row_map_right (magnitude (width t) (greatest t)) xs ys same in
    subst (λ (us : List ℕ). Each2 (λ (a b : ℕ). 0 < b) us (g.V.Words.words c.magnitudes-2.result)) (sym left)
    (subst (λ (vs : List ℕ). Each2 (λ (a b : ℕ). 0 < b) (zip2 (λ a _. magnitude (width t) (greatest t) a) xs ys) vs) (sym right)
    (each_pair (λ _. Unit {0}) (λ b. (b < 2 ^ width t) × (0 < b)) (λ _ b. 0 < b) (λ a _. magnitude (width t) (greatest t) a)
    (λ _ b. magnitude (width t) (greatest t) b) (λ a b p q. magnitude_pos (width t) (greatest t) b q.0 q.1) xs ys (λ k l. tt)
    (λ k l. (c.requires.y_row.fits k, c.requires.divisors k l))))

pub negate-turned-requires : goal.negate-turned-requires
negate-turned-requires g c =
    let t = g.T.LaneElem.elem in
    let w = g.V.Words.width in
    let e = c.requires.x_row.wide in
    let xs = g.V.Words.words c.args.x in
    let ys = g.V.Words.words c.args.y in
    let n = g.row.N in
    let same : length xs ≡ length ys = omega (arith, c.requires.x_row.long, c.requires.y_row.long) in
    let left = c.magnitudes.ensures ∙ row_map_left (magnitude (width t) (greatest t)) xs ys same in
    let right = c.magnitudes-2.ensures ∙ row_map_right (magnitude (width t) (greatest t)) xs ys same in
    let row = c.quotient-size.ensures ∙ row_op2 (λ a b. a / b) (λ a _. magnitude (width t) (greatest t) a) (λ _ b. magnitude (width t) (greatest t) b) xs ys left right in
    record {
      wide = e;
      long = ap length row ∙ length_zip2 _ xs ys n c.requires.x_row.long c.requires.y_row.long;
      fits = λ k. subst
          (λ (zs : List ℕ). get_or zs k 0 < 2 ^ width t) (sym row)
          (each_lane (λ a. a < 2 ^ width t) (λ _. Unit {0}) (2 ^ width t)
          (λ a b. magnitude (width t) (greatest t) a / magnitude (width t) (greatest t) b) (pow_pos (width t))
          (λ a b p q. omega (arith, div-le_self (magnitude (width t) (greatest t) a) (magnitude (width t) (greatest t) b), magnitude_lt t a p)) xs ys
          c.requires.x_row.fits (λ _. tt) k);
    }

pub returns : goal.returns
returns g c =
    let t = g.T.LaneElem.elem in
    let w = g.V.Words.width in
    let e = c.requires.x_row.wide in
    let xs = g.V.Words.words c.args.x in
    let ys = g.V.Words.words c.args.y in
    let n = g.row.N in
    let same : length xs ≡ length ys = omega (arith, c.requires.x_row.long, c.requires.y_row.long) in
    let left = c.magnitudes.ensures ∙ row_map_left (magnitude (width t) (greatest t)) xs ys same in
    let right = c.magnitudes-2.ensures ∙ row_map_right (magnitude (width t) (greatest t)) xs ys same in
    let row = c.quotient-size.ensures ∙ row_op2 (λ a b. a / b) (λ a _. magnitude (width t) (greatest t) a) (λ _ b. magnitude (width t) (greatest t) b) xs ys left right in
    let turned = c.negate-turned.ensures ∙ row_op1 (λ a. (2 ^ width t - a) % 2 ^ width t) (λ a b. magnitude (width t) (greatest t) a / magnitude (width t) (greatest t) b) xs ys row in
    let signs_x = ap (map is_on) c.signs-x_negative.ensures ∙ row_op1 is_on (λ a _. cond (nat_lt (greatest t) a) (2 ^ w - 1) 0) xs ys (row_map_left (λ a. cond (nat_lt (greatest t) a) (2 ^ w - 1) 0) xs ys same) in
    let signs_y = ap (map is_on) c.signs-y_negative.ensures ∙ row_op1 is_on (λ _ b. cond (nat_lt (greatest t) b) (2 ^ w - 1) 0) xs ys (row_map_right (λ a. cond (nat_lt (greatest t) a) (2 ^ w - 1) 0) xs ys same) in
    let one = c.choose-same.ensures ∙ row_select (λ _ b. is_on (cond (nat_lt (greatest t) b) (2 ^ w - 1) 0))
    (λ a b. magnitude (width t) (greatest t) a / magnitude (width t) (greatest t) b)
    (λ a b. (2 ^ width t - magnitude (width t) (greatest t) a / magnitude (width t) (greatest t) b) % 2 ^ width t) xs ys signs_y row turned in
    let two = c.choose-other.ensures ∙ row_select (λ _ b. is_on (cond (nat_lt (greatest t) b) (2 ^ w - 1) 0))
    (λ a b. (2 ^ width t - magnitude (width t) (greatest t) a / magnitude (width t) (greatest t) b) % 2 ^ width t)
    (λ a b. magnitude (width t) (greatest t) a / magnitude (width t) (greatest t) b) xs ys signs_y turned row in
    c.choose.ensures
    ∙ row_select (λ a _. is_on (cond (nat_lt (greatest t) a) (2 ^ w - 1) 0))
    (λ a b. cond (is_on (cond (nat_lt (greatest t) b) (2 ^ w - 1) 0)) (magnitude (width t) (greatest t) a / magnitude (width t) (greatest t) b)
    ((2 ^ width t - magnitude (width t) (greatest t) a / magnitude (width t) (greatest t) b) % 2 ^ width t))
    (λ a b. cond (is_on (cond (nat_lt (greatest t) b) (2 ^ w - 1) 0))
    ((2 ^ width t - magnitude (width t) (greatest t) a / magnitude (width t) (greatest t) b) % 2 ^ width t)
    (magnitude (width t) (greatest t) a / magnitude (width t) (greatest t) b)) xs ys signs_x one two
    ∙ row_same_in (λ a. a < 2 ^ width t) (λ b. (b < 2 ^ width t) × (0 < b)) _ _ (λ a b p q. cell.lane_div w t e a b p q.0 q.1) xs ys (λ k l. c.requires.x_row.fits k) (λ k l. (c.requires.y_row.fits k, c.requires.divisors k l))
