use Rattle.isp_steady.proofs.Scoping.{stays_known}
use Rattle.isp_steady.proofs.scopes.stays_known.Goals as goal

pub returns : goal.returns
returns c = stays_known
