use Rattle.isp_solo_meaning.proofs.Orders.{any_order}
use Rattle.isp_solo_meaning.proofs.laws.any_order.Goals as goal

pub returns : goal.returns
returns c = any_order
