use Rattle.isp_gang_run.proofs.Progress.{leaves_ok}
use Rattle.isp_gang_run.proofs.Acting.{does_ok, halts_err, refused_err}
use Rattle.isp_gang_run.proofs.state.Evaluator.gather.Goals as goal

pub returns-in-Values-clause-ok : goal.returns-in-Values-clause-ok
returns-in-Values-clause-ok c = does_ok c.args.self.now c.one_more.new.self c.args.task _ c.in-Values.is c.one_more.result c.one_more.ensures.ok

pub returns-in-Values-clause-err : goal.returns-in-Values-clause-err
returns-in-Values-clause-err c = refused_err c.args.self.now c.one_more.new.self c.args.task c.one_more.result c.one_more.ensures.err

pub returns-in-Packed-clause-ok : goal.returns-in-Packed-clause-ok
returns-in-Packed-clause-ok c = does_ok c.args.self.now c.packed.new.self c.args.task _ c.in-Packed.is c.packed.result c.packed.ensures.ok

pub returns-in-Packed-clause-err : goal.returns-in-Packed-clause-err
returns-in-Packed-clause-err c = halts_err c.args.self.now c.packed.new.self c.args.task _ c.in-Packed.is c.packed.result c.packed.ensures.err

pub returns-in-Values-clause-fewer : goal.returns-in-Values-clause-fewer
returns-in-Values-clause-fewer c =
    leaves_ok c.args.self.now c.one_more.new.self c.args.task _ c.in-Values.is c.one_more.result c.one_more.ensures.fewer

pub returns-in-Packed-clause-fewer : goal.returns-in-Packed-clause-fewer
returns-in-Packed-clause-fewer c =
    leaves_ok c.args.self.now c.packed.new.self c.args.task _ c.in-Packed.is c.packed.result c.packed.ensures.fewer
