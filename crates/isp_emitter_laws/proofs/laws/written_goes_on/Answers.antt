use Rattle.isp_emitter_laws.proofs.Written.{written_goes_on}
use Rattle.isp_emitter_laws.proofs.laws.written_goes_on.Goals as goal

pub returns : goal.returns
returns c = written_goes_on c.layouts_are_apart.ensures c.expressions_go_on.ensures c.assignments_go_on.ensures
