use Rattle.std.proofs.Common.{ap, ◌∙◌}
use Rattle.isp_base.specs.Sets.{flag_of}
use Rattle.isp_frames.proofs.MaskViews as views
use Rattle.isp_machine.proofs.masks.tested.Goals as goal

pub returns : goal.returns
returns g c = ap flag_of c.test.ensures ∙ views.tested g.row.N c.args.mask.now c.args.x.now.bits c.told-2.ensures.long c.told.ensures.long
