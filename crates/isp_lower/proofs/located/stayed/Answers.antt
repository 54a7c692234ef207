use Rattle.std.proofs.Common.{◌∙◌}
use Rattle.isp_typed.specs.Views.{expr_of}
use Rattle.isp_lower.specs.Emitted.{layout}
use Rattle.isp_lower_code.proofs.Lemmas.{stays_same}
use Rattle.isp_lower.proofs.located.stayed.Goals as goal

pub returns : goal.returns
returns c = λ n. c.found.ensures ∙ stays_same (layout c.args.on.now) (expr_of c.args.x.now) c.args.slot.number n c.requires.stays
