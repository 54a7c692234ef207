use Rattle.std.proofs.Common.{ap, ◌∙◌}
use Rattle.std.specs.List.{list_any}
use Rattle.isp_cross.proofs.Tests.{any_true}
use Rattle.isp_cross.proofs.reductions.any.Goals as goal

pub returns : goal.returns
returns g c = c.any.ensures ∙ ap (list_any (λ b. b)) c.test.ensures ∙ any_true c.args.mask.now c.args.x.now.bits g.row.N c.told.ensures.long c.told-2.ensures.long
