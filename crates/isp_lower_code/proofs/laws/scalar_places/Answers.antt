use Rattle.isp_lower_code.proofs.ScalarPlaces.{scalar_places}
use Rattle.isp_lower_code.proofs.laws.scalar_places.Goals as goal

pub returns : goal.returns
returns c = scalar_places
