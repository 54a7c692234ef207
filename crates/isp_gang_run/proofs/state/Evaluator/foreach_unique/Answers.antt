use Rattle.isp_typed.specs.Views.{expr_of}
use Rattle.isp_gang_run.specs.declared.distinct.Unique.{Unique}
use Rattle.isp_gang_run.specs.Due.{each_due, own, value_due}
use Rattle.isp_gang_run.proofs.Progress.{leaves_as}
use Rattle.isp_gang_run.specs.Most.{two}
use Rattle.std.proofs.Common.{ap, sym}
use Rattle.isp_base.specs.declared.types.Ty.{Ty}
use Rattle.isp_gang_run.proofs.Unique.{unique_comes}
use Rattle.isp_gang_run.proofs.state.Evaluator.foreach_unique.Goals as goal

pub returns-clause-ok : goal.returns-clause-ok
returns-clause-ok c =
    unique_comes c.args.self.now c.both.new.self c.tick.new.self c.tick.ensures c.in_ok-after.after c.args.value c.args.index c.ty.result.elem c.args.elem c.args.body c.args.set c.in_ok-after.ensures.ok
    (ap (λ (t : Ty). t.elem) c.ty.ensures) c.in_ok-both.ensures.ok

pub returns-clause-fewer : goal.returns-clause-fewer
returns-clause-fewer c =
    leaves_as c.args.self.now c.both.new.self c.args.self.now.left (ap (λ (u : Unique). two (own c.args.self.now value_due (expr_of c.args.value.now)) (own c.args.self.now each_due u.body)) (sym c.in_ok-after.ensures.ok)) c.in_ok-both.ensures.fewer
