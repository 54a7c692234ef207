use Rattle.isp_server.proofs.Libraries.{named_alike}
use Rattle.isp_server.proofs.library.library_law.Goals as goal

pub returns : goal.returns
returns c = named_alike
