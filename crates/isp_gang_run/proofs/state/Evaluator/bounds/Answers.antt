use Rattle.isp_gang_run.proofs.Progress.{leaves_as}
use Rattle.isp_gang_run.specs.declared.rounds.Bounds.{Bounds}
use Rattle.isp_gang_run.specs.Most.{two}
use Rattle.isp_gang_run.specs.Due.{bounds_due, end_due, own, value_due}
use Rattle.isp_typed.specs.declared.stmt.TypedRange.{TypedRange}
use Rattle.std.proofs.Common.{refl, ap, map, arith, List, sym, ◌∙◌}
use Rattle.isp_typed.specs.Views.{ranges_of, expr_of}
use Rattle.isp_gang_values.specs.Left.{range_seen}
use Rattle.isp_gang_run.proofs.Blocks.{headed}
use Rattle.isp_gang_run.proofs.Foreach.{bounds_end, bounds_next, none_of}
use Rattle.isp_gang_run.proofs.state.Evaluator.bounds.Goals as goal

pub returns-in_ok-begin_rounds-in-empty-clause-ok : goal.returns-in_ok-begin_rounds-in-empty-clause-ok
returns-in_ok-begin_rounds-in-empty-clause-ok c =
    bounds_end c.args.self.now c.begin_rounds.new.self c.args.body c.args.set (ranges_of c.args.rest.now) (map range_seen c.args.done.items) (ap ranges_of (none_of c.args.rest.now c.in-empty.len_below)) c.in_ok-begin_rounds-in-empty.ensures.ok

pub returns-in_ok-both-in-len1-up-clause-ok : goal.returns-in_ok-both-in-len1-up-clause-ok
returns-in_ok-both-in-len1-up-clause-ok c =
    bounds_next c.args.self.now c.both.new.self c.args.body c.args.set c.args.rest.now _ _ c.args.done c.in_ok-bounds-in-len1-up.bounds _
    (headed c.args.rest.now c.range-item.result (omega (arith, c.in-len1-up.len_at_least)) c.range-item.is) c.in_ok-bounds-in-len1-up.ensures.ok
    refl c.in_ok-both-in-len1-up.ensures.ok

pub returns-in_ok-begin_rounds-in-empty-clause-fewer : goal.returns-in_ok-begin_rounds-in-empty-clause-fewer
returns-in_ok-begin_rounds-in-empty-clause-fewer c =
    leaves_as c.args.self.now c.begin_rounds.new.self c.args.self.now.left (ap (λ (rs : List TypedRange). own c.args.self.now bounds_due (ranges_of rs) (map range_seen c.args.done.items) c.args.body) (none_of c.args.rest.now c.in-empty.len_below)) c.in_ok-begin_rounds-in-empty.ensures.fewer

pub returns-in_ok-both-in-len1-up-clause-fewer : goal.returns-in_ok-both-in-len1-up-clause-fewer
returns-in_ok-both-in-len1-up-clause-fewer c =
    leaves_as c.args.self.now c.both.new.self c.args.self.now.left (ap (λ (rs : List TypedRange). own c.args.self.now bounds_due (ranges_of rs) (map range_seen c.args.done.items) c.args.body) (headed c.args.rest.now c.range-item.result (omega (arith, c.in-len1-up.len_at_least)) c.range-item.is)
    ∙ ap (λ (b : Bounds). two (own c.args.self.now value_due (expr_of c.range-item.result.start)) (two (own c.args.self.now value_due (expr_of b.range.now.end)) (own c.args.self.now end_due b))) (sym c.in_ok-bounds-in-len1-up.ensures.ok)) c.in_ok-both-in-len1-up.ensures.fewer
