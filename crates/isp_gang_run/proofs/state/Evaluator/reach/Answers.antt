use Rattle.std.proofs.Common.{ap, ◌∙◌}
use Rattle.isp_gang_run.specs.declared.counting.Work.{Work}
use Rattle.isp_gang_run.proofs.state.Evaluator.reach.Goals as goal

pub returns-clause-ok : goal.returns-clause-ok
returns-clause-ok c =
    let f = c.in_ok-both.ensures.ok in
    record { by = f.by; work = ap (λ (x : Work). x.count) f.work ∙ c.tick.ensures }

pub returns-clause-fewer : goal.returns-clause-fewer
returns-clause-fewer c =
    c.in_ok-both.ensures.fewer
