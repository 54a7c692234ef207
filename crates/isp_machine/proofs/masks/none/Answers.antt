use Rattle.std.proofs.Common.{ap, ◌∙◌}
use Rattle.isp_base.specs.Sets.{flag_of}
use Rattle.isp_frames.proofs.MaskViews.{all_off}
use Rattle.isp_machine.proofs.masks.none.Goals as goal

pub returns : goal.returns
returns g c = ap flag_of c.none.ensures ∙ all_off g.row.N
