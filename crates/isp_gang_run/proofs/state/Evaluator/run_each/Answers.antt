use Rattle.isp_gang_run.proofs.Progress.{leaves_ok}
use Rattle.isp_gang_run.proofs.Acting.{comes_ok, refused_err}
use Rattle.isp_gang_run.proofs.state.Evaluator.run_each.Goals as goal

pub returns-in-Start-clause-ok : goal.returns-in-Start-clause-ok
returns-in-Start-clause-ok c = comes_ok c.args.self.now c.start.new.self c.args.task _ c.in-Start.is c.start.result c.start.ensures.ok

pub returns-in-Start-clause-err : goal.returns-in-Start-clause-err
returns-in-Start-clause-err c = refused_err c.args.self.now c.start.new.self c.args.task c.start.result c.start.ensures.err

pub returns-in-End-clause-ok : goal.returns-in-End-clause-ok
returns-in-End-clause-ok c = comes_ok c.args.self.now c.end.new.self c.args.task _ c.in-End.is c.end.result c.end.ensures.ok

pub returns-in-End-clause-err : goal.returns-in-End-clause-err
returns-in-End-clause-err c = refused_err c.args.self.now c.end.new.self c.args.task c.end.result c.end.ensures.err

pub returns-in-Rounds-clause-ok : goal.returns-in-Rounds-clause-ok
returns-in-Rounds-clause-ok c = comes_ok c.args.self.now c.rounds.new.self c.args.task _ c.in-Rounds.is c.rounds.result c.rounds.ensures.ok

pub returns-in-Rounds-clause-err : goal.returns-in-Rounds-clause-err
returns-in-Rounds-clause-err c = refused_err c.args.self.now c.rounds.new.self c.args.task c.rounds.result c.rounds.ensures.err

pub returns-in-Members-clause-ok : goal.returns-in-Members-clause-ok
returns-in-Members-clause-ok c = comes_ok c.args.self.now c.members.new.self c.args.task _ c.in-Members.is c.members.result c.members.ensures.ok

pub returns-in-Members-clause-err : goal.returns-in-Members-clause-err
returns-in-Members-clause-err c = refused_err c.args.self.now c.members.new.self c.args.task c.members.result c.members.ensures.err

pub returns-in-Unique-clause-ok : goal.returns-in-Unique-clause-ok
returns-in-Unique-clause-ok c = comes_ok c.args.self.now c.unique.new.self c.args.task _ c.in-Unique.is c.unique.result c.unique.ensures.ok

pub returns-in-Unique-clause-err : goal.returns-in-Unique-clause-err
returns-in-Unique-clause-err c = refused_err c.args.self.now c.unique.new.self c.args.task c.unique.result c.unique.ensures.err

pub returns-in-Distinct-clause-ok : goal.returns-in-Distinct-clause-ok
returns-in-Distinct-clause-ok c = comes_ok c.args.self.now c.distinct.new.self c.args.task _ c.in-Distinct.is c.distinct.result c.distinct.ensures.ok

pub returns-in-Distinct-clause-err : goal.returns-in-Distinct-clause-err
returns-in-Distinct-clause-err c = refused_err c.args.self.now c.distinct.new.self c.args.task c.distinct.result c.distinct.ensures.err

pub returns-in-Start-clause-fewer : goal.returns-in-Start-clause-fewer
returns-in-Start-clause-fewer c =
    leaves_ok c.args.self.now c.start.new.self c.args.task _ c.in-Start.is c.start.result c.start.ensures.fewer

pub returns-in-End-clause-fewer : goal.returns-in-End-clause-fewer
returns-in-End-clause-fewer c =
    leaves_ok c.args.self.now c.end.new.self c.args.task _ c.in-End.is c.end.result c.end.ensures.fewer

pub returns-in-Rounds-clause-fewer : goal.returns-in-Rounds-clause-fewer
returns-in-Rounds-clause-fewer c =
    leaves_ok c.args.self.now c.rounds.new.self c.args.task _ c.in-Rounds.is c.rounds.result c.rounds.ensures.fewer

pub returns-in-Members-clause-fewer : goal.returns-in-Members-clause-fewer
returns-in-Members-clause-fewer c =
    leaves_ok c.args.self.now c.members.new.self c.args.task _ c.in-Members.is c.members.result c.members.ensures.fewer

pub returns-in-Unique-clause-fewer : goal.returns-in-Unique-clause-fewer
returns-in-Unique-clause-fewer c =
    leaves_ok c.args.self.now c.unique.new.self c.args.task _ c.in-Unique.is c.unique.result c.unique.ensures.fewer

pub returns-in-Distinct-clause-fewer : goal.returns-in-Distinct-clause-fewer
returns-in-Distinct-clause-fewer c =
    leaves_ok c.args.self.now c.distinct.new.self c.args.task _ c.in-Distinct.is c.distinct.result c.distinct.ensures.fewer
