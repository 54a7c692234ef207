use Rattle.std.proofs.Common.{ap, sym}
use Rattle.isp_gang_run.proofs.Fewer.{values_fewer}
use Rattle.isp_gang_run.specs.declared.distinct.Unique.{Unique}
use Rattle.isp_gang_run.proofs.Progress.{leaves_as, leaves_within}
use Rattle.isp_gang_run.specs.Due.{distinct_due, each_due, own}
use Rattle.isp_gang_run.proofs.Unique.{value_found}
use Rattle.isp_gang_run.proofs.state.Evaluator.unique.Goals as goal

pub returns-clause-ok : goal.returns-clause-ok
returns-clause-ok c =
    value_found c.args.self.now c.distinct.new.self c.args.unique c.deref.result.now c.spread-row.result c.in_ok-distinct.distinct c.deref.ensures c.spread-row.ensures c.in_ok-distinct.ensures.ok c.in_ok-distinct-2.ensures.ok

pub returns-clause-fewer : goal.returns-clause-fewer
returns-clause-fewer c =
    leaves_as c.args.self.now c.distinct.new.self c.args.self.now.left (ap (λ (u : Unique). own c.args.self.now each_due u.body) (sym c.deref.ensures))
    (leaves_within c.args.self.now c.distinct.new.self c.args.self.now.left (own c.args.self.now each_due c.deref.result.now.body) (own c.args.self.now distinct_due c.in_ok-distinct.distinct.value)
    (values_fewer c.args.self.now c.in_ok-distinct.distinct c.deref.result.now c.spread-row.result c.in_ok-distinct.ensures.ok) c.in_ok-distinct-2.ensures.fewer)
