use Rattle.isp_type_laws.proofs.Uniform.{uniform_gives_one}
use Rattle.isp_type_laws.proofs.laws.uniform_gives_one.Goals as goal

pub returns : goal.returns
returns c = uniform_gives_one
