use Rattle.isp_gang_run.proofs.Progress.{leaves_ok}
use Rattle.isp_gang_run.proofs.Acting.{does_ok, refused_err}
use Rattle.isp_gang_run.proofs.state.Evaluator.choose_side.Goals as goal

pub returns-in-Choose-clause-ok : goal.returns-in-Choose-clause-ok
returns-in-Choose-clause-ok c = does_ok c.args.self.now c.choose.new.self c.args.task _ c.in-Choose.is c.choose.result c.choose.ensures.ok

pub returns-in-Choose-clause-err : goal.returns-in-Choose-clause-err
returns-in-Choose-clause-err c = refused_err c.args.self.now c.choose.new.self c.args.task c.choose.result c.choose.ensures.err

pub returns-in-Otherwise-clause-ok : goal.returns-in-Otherwise-clause-ok
returns-in-Otherwise-clause-ok c = does_ok c.args.self.now c.otherwise.new.self c.args.task _ c.in-Otherwise.is c.otherwise.result c.otherwise.ensures.ok

pub returns-in-Otherwise-clause-err : goal.returns-in-Otherwise-clause-err
returns-in-Otherwise-clause-err c = refused_err c.args.self.now c.otherwise.new.self c.args.task c.otherwise.result c.otherwise.ensures.err

pub returns-in-Choose-clause-fewer : goal.returns-in-Choose-clause-fewer
returns-in-Choose-clause-fewer c =
    leaves_ok c.args.self.now c.choose.new.self c.args.task _ c.in-Choose.is c.choose.result c.choose.ensures.fewer

pub returns-in-Otherwise-clause-fewer : goal.returns-in-Otherwise-clause-fewer
returns-in-Otherwise-clause-fewer c =
    leaves_ok c.args.self.now c.otherwise.new.self c.args.task _ c.in-Otherwise.is c.otherwise.result c.otherwise.ensures.fewer
