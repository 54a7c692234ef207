use Rattle.std.proofs.Common.{ap, ◌∙◌}
use Rattle.isp_base.specs.Sets.{flag_of}
use Rattle.isp_frames.proofs.MaskViews.{all_on}
use Rattle.isp_machine.proofs.masks.full.Goals as goal

pub returns : goal.returns
returns g c = ap flag_of c.full.ensures ∙ all_on g.row.N
