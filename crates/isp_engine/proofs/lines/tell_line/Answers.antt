use Rattle.isp_engine.proofs.Told.{told}
use Rattle.isp_engine.proofs.lines.tell_line.Goals as goal

pub returns-then-not-failed : goal.returns-then-not-failed
returns-then-not-failed g c = told _ _ _ _ c.write_line.result c.write_line.ensures
