use Rattle.isp_steady.proofs.Untouched.{stays_unset}
use Rattle.isp_steady.proofs.unset.stays_unset.Goals as goal

pub returns : goal.returns
returns c = stays_unset
