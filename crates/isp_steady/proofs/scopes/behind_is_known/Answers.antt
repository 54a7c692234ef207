use Rattle.isp_steady.proofs.Declaring.{behind_is_known}
use Rattle.isp_steady.proofs.scopes.behind_is_known.Goals as goal

pub returns : goal.returns
returns c = behind_is_known
