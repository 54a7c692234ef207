use Rattle.isp_gang_run.proofs.Progress.{leaves_known, leaves_ok}
use Rattle.isp_gang_run.proofs.Acting.{act_does, does_ok, halts_err, refused_err}
use Rattle.isp_gang_run.proofs.state.Evaluator.pass.Goals as goal

pub returns-in-Arguments-clause-ok : goal.returns-in-Arguments-clause-ok
returns-in-Arguments-clause-ok c = does_ok c.args.self.now c.arguments.new.self c.args.task _ c.in-Arguments.is c.arguments.result c.arguments.ensures.ok

pub returns-in-Arguments-clause-err : goal.returns-in-Arguments-clause-err
returns-in-Arguments-clause-err c = halts_err c.args.self.now c.arguments.new.self c.args.task _ c.in-Arguments.is c.arguments.result c.arguments.ensures.err

pub returns-in-Argument-clause-ok : goal.returns-in-Argument-clause-ok
returns-in-Argument-clause-ok c = does_ok c.args.self.now c.argument.new.self c.args.task _ c.in-Argument.is c.argument.result c.argument.ensures.ok

pub returns-in-Argument-clause-err : goal.returns-in-Argument-clause-err
returns-in-Argument-clause-err c = refused_err c.args.self.now c.argument.new.self c.args.task c.argument.result c.argument.ensures.err

pub returns-in-Return-clause-ok : goal.returns-in-Return-clause-ok
returns-in-Return-clause-ok c = act_does c.args.self.now c.resume.new.self c.args.task _ c.in-Return.is c.resume.ensures.comes

pub returns-in-Arguments-clause-fewer : goal.returns-in-Arguments-clause-fewer
returns-in-Arguments-clause-fewer c =
    leaves_ok c.args.self.now c.arguments.new.self c.args.task _ c.in-Arguments.is c.arguments.result c.arguments.ensures.fewer

pub returns-in-Argument-clause-fewer : goal.returns-in-Argument-clause-fewer
returns-in-Argument-clause-fewer c =
    leaves_ok c.args.self.now c.argument.new.self c.args.task _ c.in-Argument.is c.argument.result c.argument.ensures.fewer

pub returns-in-Return-clause-fewer : goal.returns-in-Return-clause-fewer
returns-in-Return-clause-fewer c =
    leaves_known c.args.self.now c.resume.new.self c.args.task _ c.in-Return.is c.resume.ensures.fewer
