use Rattle.std.proofs.Common.{sym, ap, ◌∙◌, ℕ, ◌-◌, ◌^◌, ◌<◌, bit_and, map, map-id, replicate, List}
use Rattle.std.specs.Simd.Lanes.{zip2}
use Rattle.std.proofs.lemmas.Simd.{zip2_splat}
use Rattle.isp_base.specs.Values.{width}
use Rattle.isp_lanes.proofs.CellWords.{not_cut, is_the_truth, no_truth}
use Rattle.isp_lanes.proofs.Rows.{map_same}
use Rattle.isp_lanes.proofs.kernels.arithmetic.low.Goals as goal

pub returns-then-is_bool : goal.returns-then-is_bool
returns-then-is_bool g c =
    let n = g.row.N in
    let xs = g.V.Words.words c.args.x in
    c.and.ensures
    ∙ ap (λ (ys : List ℕ). zip2 bit_and xs ys) (c.all.ensures ∙ ap (replicate {A = ℕ} n) g.V.Words.holds_one)
    ∙ zip2_splat bit_and xs n 1 c.requires.long
    ∙ ap (λ v. map (λ a. bit_and a (2 ^ width v - 1)) xs) (sym (is_the_truth g.T.LaneElem.elem (sym c.is_bool.ensures ∙ c.if-is_bool.true)))

pub returns-else-is_bool : goal.returns-else-is_bool
returns-else-is_bool g c =
    let w = g.V.Words.width in
    let xs = g.V.Words.words c.args.x in
    sym (map-id xs) ∙ map_same (λ a. a < 2 ^ w) (λ a. a) _ (λ a p. not_cut w g.T.LaneElem.elem c.requires.wide (no_truth g.T.LaneElem.elem (sym c.is_bool.ensures ∙ c.if-is_bool.false)) a p) xs c.requires.room
