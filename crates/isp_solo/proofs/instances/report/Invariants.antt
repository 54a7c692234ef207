use Rattle.isp_base.specs.Arguments.{rows}
use Rattle.isp_typed.specs.Views.{program_of}
use Rattle.isp_solo_meaning.specs.Runs.{solo_run, bound}
use Rattle.isp_solo.specs.Together.{AreTogether}
use Rattle.isp_solo.proofs.instances.report.Given as goal

abbrev pub invariant-loop-instance : goal.invariant-loop-instance
invariant-loop-instance l = AreTogether (solo_run (program_of l.program) l.function l.turns l.arguments (bound l.arguments)) (rows l.arguments) l.instance l.together
