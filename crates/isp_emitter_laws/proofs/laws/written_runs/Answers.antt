use Rattle.isp_emitter_laws.proofs.Written.{written_runs}
use Rattle.isp_emitter_laws.proofs.laws.written_runs.Goals as goal

pub returns : goal.returns
returns c = written_runs c.layouts_are_apart.ensures c.expressions_run.ensures c.assignments_run.ensures
