use Rattle.isp_gang_run.proofs.Progress.{leaves_as}
use Rattle.isp_gang_run.specs.Due.{end_due, own, value_due}
use Rattle.isp_typed.specs.Views.{expr_of}
use Rattle.isp_gang_run.specs.Most.{two}
use Rattle.std.proofs.Common.{ap, sym}
use Rattle.isp_gang_run.specs.declared.rounds.Bounds.{Bounds}
use Rattle.isp_gang_run.proofs.Foreach.{start_goes}
use Rattle.isp_gang_run.proofs.state.Evaluator.start.Goals as goal

pub returns-clause-ok : goal.returns-clause-ok
returns-clause-ok c =
    start_goes c.args.self.now c.both.new.self c.args.bounds _ _ _ c.sole-start.ensures
    (ap (λ (d : Bounds). d.range.now.end) c.deref.ensures) (ap (λ (d : Bounds). d.set) c.deref-2.ensures) c.in_ok-both.ensures.ok

pub returns-clause-fewer : goal.returns-clause-fewer
returns-clause-fewer c =
    leaves_as c.args.self.now c.both.new.self c.args.self.now.left (ap (λ (d : Bounds). two (own c.args.self.now value_due (expr_of d.range.now.end)) (own c.args.self.now end_due c.args.bounds.value)) (sym c.deref.ensures)) c.in_ok-both.ensures.fewer
