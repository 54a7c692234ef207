use Rattle.std.proofs.Common.{ap, ◌∙◌}
use Rattle.isp_base.specs.Sets.{flag_of}
use Rattle.isp_frames.proofs.MaskViews.{lone_at}
use Rattle.isp_machine.proofs.masks.lowest_alone.Goals as goal

pub returns : goal.returns
returns g c = ap flag_of c.lowest.ensures ∙ lone_at g.row.N c.args.mask.now c.told.ensures.long
