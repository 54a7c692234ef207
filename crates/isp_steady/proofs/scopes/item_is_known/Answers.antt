use Rattle.isp_steady.proofs.Declaring.{item_is_known}
use Rattle.isp_steady.proofs.scopes.item_is_known.Goals as goal

pub returns : goal.returns
returns c = item_is_known
