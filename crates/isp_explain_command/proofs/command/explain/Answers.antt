use Rattle.std.proofs.Common.{subst}
use Rattle.isp_engine.specs.Commands.{RunEnds, job_of_run}
use Rattle.isp_code_commands.specs.Requests.{AnsweredBy}
use Rattle.isp_explain_command.proofs.command.explain.Goals as goal

pub returns-in-None : goal.returns-in-None
returns-in-None g c = rw c.in-None.is c.explain_check.ensures

pub returns-in-Some : goal.returns-in-Some
returns-in-Some g c =
    let holds = g.F.SourceFiles.holds c.args.files.now in
    let old = g.O.Sink.written c.args.out.now in
    let new = g.O.Sink.written c.explain_run.new.out in
    let failed = g.O.Sink.has_failed c.explain_run.new.out in
    rw c.in-Some.is (subst (λ r. AnsweredBy (RunEnds holds (job_of_run r) old new failed) c.explain_run.result) c.as_run.ensures c.explain_run.ensures)
