use Rattle.std.proofs.Common.{◌∙◌, ◌^◌, ◌<◌}
use Rattle.isp_base.specs.Values.{width}
use Rattle.isp_base.proofs.Words.{word_xor}
use Rattle.isp_lanes.proofs.Rows.{row_same}
use Rattle.isp_lanes.proofs.kernels.operators.XorOperator.on.Goals as goal

pub returns : goal.returns
returns g c =
    let t = g.T.LaneElem.elem in
    c.xor.ensures ∙ row_same (λ a. a < 2 ^ width t) (λ b. b < 2 ^ width t) _ _ (word_xor t) (g.V.Words.words c.args.x) (g.V.Words.words c.args.y) c.requires.x_row.fits c.requires.y_row.fits
