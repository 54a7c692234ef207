use Rattle.std.proofs.Common.{◌≡◌, sym, ap, ◌∙◌, ℕ, ◌-◌, ◌^◌, ◌<◌, ◌==◌, cond, not, nat_lt, arith, length}
use Rattle.std.specs.Simd.Lanes.{zip2}
use Rattle.isp_base.specs.Values.{width, greatest}
use Rattle.isp_base.specs.Words.{turned}
use Rattle.isp_lanes.proofs.CellWords as cell
use Rattle.isp_lanes.proofs.Rows.{row_op1, row_same}
use Rattle.isp_base.specs.Values.{number, compare_to}
use Rattle.isp_lanes.proofs.Flags.{zip2_swap, equal_is, not_equal_is, less_is, greater_is}
use Rattle.isp_lanes.proofs.kernels.order.holds.Goals as goal

pub returns-in-Equal : goal.returns-in-Equal
returns-in-Equal g c =
    let t = g.T.LaneElem.elem in
    let w = g.V.Words.width in
    let e = c.requires.x_row.wide in
    let xs = g.V.Words.words c.args.x in
    let ys = g.V.Words.words c.args.y in
    let n = g.row.N in
    let same : length xs ≡ length ys = omega (arith, c.requires.x_row.long, c.requires.y_row.long) in
    let f : ℕ → ℕ = turned (width t) (greatest t) in
    c.equal.ensures
    ∙ row_same (λ a. a < 2 ^ width t) (λ b. b < 2 ^ width t) _ _ (λ a b p q. ap (λ s. cond s (2 ^ w - 1) 0) (equal_is t a b p q)) xs ys c.requires.x_row.fits c.requires.y_row.fits
    ∙ ap (λ k. zip2 (λ a b. cond (compare_to k (number t a) (number t b)) (2 ^ w - 1) 0) xs ys) (sym c.in-Equal.is)

pub returns-in-NotEqual : goal.returns-in-NotEqual
returns-in-NotEqual g c =
    let t = g.T.LaneElem.elem in
    let w = g.V.Words.width in
    let e = c.requires.x_row.wide in
    let xs = g.V.Words.words c.args.x in
    let ys = g.V.Words.words c.args.y in
    let n = g.row.N in
    let same : length xs ≡ length ys = omega (arith, c.requires.x_row.long, c.requires.y_row.long) in
    let f : ℕ → ℕ = turned (width t) (greatest t) in
    c.inverse.ensures ∙ row_op1 (λ a. 2 ^ w - 1 - a) (λ a b. cond (a == b) (2 ^ w - 1) 0) xs ys (c.equal-in-NotEqual.ensures)
    ∙ row_same (λ a. a < 2 ^ width t) (λ b. b < 2 ^ width t) _ _ (λ a b p q. cell.inverse_truth w (a == b) ∙ ap (λ s. cond s (2 ^ w - 1) 0) (not_equal_is t a b p q)) xs ys c.requires.x_row.fits c.requires.y_row.fits
    ∙ ap (λ k. zip2 (λ a b. cond (compare_to k (number t a) (number t b)) (2 ^ w - 1) 0) xs ys) (sym c.in-NotEqual.is)

pub returns-in-Less : goal.returns-in-Less
returns-in-Less g c =
    let t = g.T.LaneElem.elem in
    let w = g.V.Words.width in
    let e = c.requires.x_row.wide in
    let xs = g.V.Words.words c.args.x in
    let ys = g.V.Words.words c.args.y in
    let n = g.row.N in
    let same : length xs ≡ length ys = omega (arith, c.requires.x_row.long, c.requires.y_row.long) in
    let f : ℕ → ℕ = turned (width t) (greatest t) in
    c.less.ensures
    ∙ row_same (λ a. a < 2 ^ width t) (λ b. b < 2 ^ width t) _ _ (λ a b p q. ap (λ s. cond s (2 ^ w - 1) 0) (less_is t a b p q)) xs ys c.requires.x_row.fits c.requires.y_row.fits
    ∙ ap (λ k. zip2 (λ a b. cond (compare_to k (number t a) (number t b)) (2 ^ w - 1) 0) xs ys) (sym c.in-Less.is)

pub returns-in-LessOrEqual : goal.returns-in-LessOrEqual
returns-in-LessOrEqual g c =
    let t = g.T.LaneElem.elem in
    let w = g.V.Words.width in
    let e = c.requires.x_row.wide in
    let xs = g.V.Words.words c.args.x in
    let ys = g.V.Words.words c.args.y in
    let n = g.row.N in
    let same : length xs ≡ length ys = omega (arith, c.requires.x_row.long, c.requires.y_row.long) in
    let f : ℕ → ℕ = turned (width t) (greatest t) in
    c.inverse-in-LessOrEqual.ensures ∙ row_op1 (λ a. 2 ^ w - 1 - a) (λ a b. cond (nat_lt (f b) (f a)) (2 ^ w - 1) 0) xs ys (c.less-in-LessOrEqual.ensures ∙ zip2_swap (λ a b. cond (nat_lt (f a) (f b)) (2 ^ w - 1) 0) xs ys)
    ∙ row_same (λ a. a < 2 ^ width t) (λ b. b < 2 ^ width t) _ _ (λ a b p q. cell.inverse_truth w _ ∙ ap (λ s. cond s (2 ^ w - 1) 0) (ap not (greater_is t a b p q))) xs ys c.requires.x_row.fits c.requires.y_row.fits
    ∙ ap (λ k. zip2 (λ a b. cond (compare_to k (number t a) (number t b)) (2 ^ w - 1) 0) xs ys) (sym c.in-LessOrEqual.is)

pub returns-in-Greater : goal.returns-in-Greater
returns-in-Greater g c =
    let t = g.T.LaneElem.elem in
    let w = g.V.Words.width in
    let e = c.requires.x_row.wide in
    let xs = g.V.Words.words c.args.x in
    let ys = g.V.Words.words c.args.y in
    let n = g.row.N in
    let same : length xs ≡ length ys = omega (arith, c.requires.x_row.long, c.requires.y_row.long) in
    let f : ℕ → ℕ = turned (width t) (greatest t) in
    c.less-in-Greater.ensures ∙ zip2_swap (λ a b. cond (nat_lt (f a) (f b)) (2 ^ w - 1) 0) xs ys
    ∙ row_same (λ a. a < 2 ^ width t) (λ b. b < 2 ^ width t) _ _ (λ a b p q. ap (λ s. cond s (2 ^ w - 1) 0) (greater_is t a b p q)) xs ys c.requires.x_row.fits c.requires.y_row.fits
    ∙ ap (λ k. zip2 (λ a b. cond (compare_to k (number t a) (number t b)) (2 ^ w - 1) 0) xs ys) (sym c.in-Greater.is)

pub returns-in-GreaterOrEqual : goal.returns-in-GreaterOrEqual
returns-in-GreaterOrEqual g c =
    let t = g.T.LaneElem.elem in
    let w = g.V.Words.width in
    let e = c.requires.x_row.wide in
    let xs = g.V.Words.words c.args.x in
    let ys = g.V.Words.words c.args.y in
    let n = g.row.N in
    let same : length xs ≡ length ys = omega (arith, c.requires.x_row.long, c.requires.y_row.long) in
    let f : ℕ → ℕ = turned (width t) (greatest t) in
    c.inverse-in-GreaterOrEqual.ensures ∙ row_op1 (λ a. 2 ^ w - 1 - a) (λ a b. cond (nat_lt (f a) (f b)) (2 ^ w - 1) 0) xs ys c.less-in-GreaterOrEqual.ensures
    ∙ row_same (λ a. a < 2 ^ width t) (λ b. b < 2 ^ width t) _ _ (λ a b p q. cell.inverse_truth w _ ∙ ap (λ s. cond s (2 ^ w - 1) 0) (ap not (less_is t a b p q))) xs ys c.requires.x_row.fits c.requires.y_row.fits
    ∙ ap (λ k. zip2 (λ a b. cond (compare_to k (number t a) (number t b)) (2 ^ w - 1) 0) xs ys) (sym c.in-GreaterOrEqual.is)
