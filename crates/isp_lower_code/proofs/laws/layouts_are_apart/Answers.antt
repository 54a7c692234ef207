use Rattle.isp_lower_code.proofs.Rows.{layout_apart}
use Rattle.isp_lower_code.proofs.laws.layouts_are_apart.Goals as goal

pub returns : goal.returns
returns ctx = layout_apart
