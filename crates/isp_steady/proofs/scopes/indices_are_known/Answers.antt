use Rattle.isp_steady.proofs.Scoping.{indices_are_known}
use Rattle.isp_steady.proofs.scopes.indices_are_known.Goals as goal

pub returns : goal.returns
returns c = indices_are_known
