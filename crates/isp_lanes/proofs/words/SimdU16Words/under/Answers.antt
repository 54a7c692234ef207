use Rattle.std.proofs.Common.{sym, ◌∙◌, arith}
use Rattle.std.proofs.lemmas.Bool.Decides.{nat_tests}
use Rattle.isp_lanes.proofs.Truths.{all_lanes}
use Rattle.isp_lanes.proofs.words.SimdU16Words.under.Goals.{then-off-eq0, else-off-eq0}
use Rattle.isp_lanes.proofs.words.SimdU16Words.under.Goals as goal

pub returns : goal.returns
returns g c = elim c.if-off-eq0.branch [
  | then-off-eq0 w ↦ w.result-is ∙ sym (all_lanes g.row.N c.args.mask.now c.args.self c.args.old c.told-mask c.fits-self.0 c.fits-old.0 c.requires (grind (arith, nat_tests, w.if-off-eq0)))
  | else-off-eq0 w ↦ w.result-is ∙ w.over.ensures
]
