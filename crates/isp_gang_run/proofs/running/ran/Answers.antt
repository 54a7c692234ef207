use Rattle.std.proofs.Common.{ap, map, ◌∙◌}
use Rattle.isp_typed.specs.Views.{function_of, program_of}
use Rattle.isp_gang_run.specs.Seen.{passed_seen}
use Rattle.isp_gang_run.proofs.Calling.{run_stands}
use Rattle.isp_gang_run.proofs.running.ran.Goals as goal

pub returns-clause-stands : goal.returns-clause-stands
returns-clause-stands c = record {
  by = λ f found.
      run_stands c.in_ok-evaluator.evaluator (program_of c.args.program.now) c.args.turns c.args.arguments.now (function_of c.args.function.now) f (map passed_seen c.as_slice.result.now)
      c.in_ok-evaluator.ensures.starts found (ap (map passed_seen) c.as_slice.ensures.value ∙ c.in_ok-passed.ensures) c.done-ending.new.self c.done-ending.result c.done-ending.ensures.ok c.done-ending.ensures.err;
}
