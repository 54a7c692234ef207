use Rattle.isp_gang_run.proofs.Progress.{leaves_ok}
use Rattle.isp_gang_run.proofs.Acting.{does_ok, halts_err, traps_err}
use Rattle.isp_gang_run.proofs.state.Evaluator.access.Goals as goal

pub returns-in-Load-clause-ok : goal.returns-in-Load-clause-ok
returns-in-Load-clause-ok c = does_ok c.args.self.now c.load.new.self c.args.task _ c.in-Load.is c.load.result c.load.ensures.ok

pub returns-in-Load-clause-err : goal.returns-in-Load-clause-err
returns-in-Load-clause-err c = traps_err c.args.self.now c.load.new.self c.args.task _ c.in-Load.is c.load.result c.load.ensures.err

pub returns-in-Indexed-clause-ok : goal.returns-in-Indexed-clause-ok
returns-in-Indexed-clause-ok c = does_ok c.args.self.now c.indexed.new.self c.args.task _ c.in-Indexed.is c.indexed.result c.indexed.ensures.ok

pub returns-in-Indexed-clause-err : goal.returns-in-Indexed-clause-err
returns-in-Indexed-clause-err c = halts_err c.args.self.now c.indexed.new.self c.args.task _ c.in-Indexed.is c.indexed.result c.indexed.ensures.err

pub returns-in-Update-clause-ok : goal.returns-in-Update-clause-ok
returns-in-Update-clause-ok c = does_ok c.args.self.now c.update.new.self c.args.task _ c.in-Update.is c.update.result c.update.ensures.ok

pub returns-in-Update-clause-err : goal.returns-in-Update-clause-err
returns-in-Update-clause-err c = halts_err c.args.self.now c.update.new.self c.args.task _ c.in-Update.is c.update.result c.update.ensures.err

pub returns-in-Load-clause-fewer : goal.returns-in-Load-clause-fewer
returns-in-Load-clause-fewer c =
    leaves_ok c.args.self.now c.load.new.self c.args.task _ c.in-Load.is c.load.result c.load.ensures.fewer

pub returns-in-Indexed-clause-fewer : goal.returns-in-Indexed-clause-fewer
returns-in-Indexed-clause-fewer c =
    leaves_ok c.args.self.now c.indexed.new.self c.args.task _ c.in-Indexed.is c.indexed.result c.indexed.ensures.fewer

pub returns-in-Update-clause-fewer : goal.returns-in-Update-clause-fewer
returns-in-Update-clause-fewer c =
    leaves_ok c.args.self.now c.update.new.self c.args.task _ c.in-Update.is c.update.result c.update.ensures.fewer
