use Rattle.std.proofs.Common.{sym, ap, ◌∙◌, ◌-◌, ◌^◌, bit_and, map}
use Rattle.isp_base.specs.Values.{width}
use Rattle.isp_lanes.proofs.CellWords.{filled, is_the_truth, no_amount, no_truth}
use Rattle.isp_lanes.proofs.kernels.shifts.amounts.Goals as goal

pub returns-then-is_bool : goal.returns-then-is_bool
returns-then-is_bool g c =
    c.all.ensures
    ∙ no_amount (2 ^ g.V.Words.width) g.row.N (g.V.Words.words c.args.y) c.requires.long
    ∙ ap (λ t. map (λ b. bit_and b (width t - 1)) (g.V.Words.words c.args.y)) (sym (is_the_truth g.T.LaneElem.elem (sym c.is_bool.ensures ∙ c.if-is_bool.true)))

pub returns-else-is_bool : goal.returns-else-is_bool
returns-else-is_bool g c =
    c.amounts.ensures ∙ ap (λ w. map (λ b. bit_and b (w - 1)) (g.V.Words.words c.args.y)) (c.requires.wide ∙ filled g.T.LaneElem.elem (no_truth g.T.LaneElem.elem (sym c.is_bool.ensures ∙ c.if-is_bool.false)))
