use Rattle.isp_meaning_laws.proofs.Stayed.{arrays_stay}
use Rattle.isp_meaning_laws.proofs.stays.arrays_stay.Goals as goal

pub returns : goal.returns
returns c = arrays_stay
