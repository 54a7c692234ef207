use Rattle.isp_server.specs.Deeds.{call}
use Rattle.isp_server.proofs.asked.deed_of.Goals as goal

pub returns-in-Some : goal.returns-in-Some
returns-in-Some c = call _ _ _ c.in-Some.ensures.some c.asked.ensures
