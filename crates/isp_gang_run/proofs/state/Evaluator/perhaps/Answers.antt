use Rattle.isp_gang_run.specs.declared.state.Evaluator.{Evaluator}
use Rattle.isp_gang_run.specs.Due.{due_now, own, perhaps_due}
use Rattle.isp_gang_run.proofs.Progress.{after_leaves, then_none}
use Rattle.std.proofs.Common.{sym, ap, ◌∙◌}
use Rattle.isp_base.specs.Sets.{any, flag_of}
use Rattle.isp_base.specs.Types.{gang_width}
use Rattle.isp_gang_run.proofs.Branching.{none_then}
use Rattle.isp_gang_run.proofs.state.Evaluator.perhaps.Goals as goal

pub returns-else-some-clause-ok : goal.returns-else-some-clause-ok
returns-else-some-clause-ok c =
    none_then c.args.self.now c.later.new.self c.leave.new.self c.args.statement c.args.set c.all.result c.args.after
    (ap (λ g. any (gang_width g) (flag_of c.args.set)) (sym c.gang.ensures) ∙ sym c.any-some.ensures ∙ c.if-some.false)
    c.in_ok-later.ensures.ok c.in_ok-later.ensures.rest c.all.ensures c.leave.ensures

pub returns-else-some-clause-fewer : goal.returns-else-some-clause-fewer
returns-else-some-clause-fewer c =
    then_none c.args.self.now c.later.new.self c.leave.new.self c.args.after (own c.args.self.now perhaps_due c.args.statement) c.in_ok-later.ensures.fewer (ap (λ (e : Evaluator). due_now e) c.leave.ensures)
