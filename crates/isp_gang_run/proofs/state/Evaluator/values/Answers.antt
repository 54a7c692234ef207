use Rattle.isp_typed.specs.Views.{exprs_of}
use Rattle.isp_gang_run.proofs.Progress.{leaves_as, leaves_within}
use Rattle.isp_gang_run.specs.Due.{own, values_due}
use Rattle.isp_typed.specs.declared.expr.TypedExpr.{TypedExpr}
use Rattle.std.proofs.Common.{arith, map, subst, List, ap}
use Rattle.isp_base.specs.Sets.{flag_of}
use Rattle.isp_gang_values.specs.Seen.{payload_of}
use Rattle.isp_gang_run.specs.Passing.{gathers_all}
use Rattle.isp_gang_run.specs.Tasks.{Comes}
use Rattle.isp_gang_run.proofs.Blocks.{headed}
use Rattle.isp_gang_run.proofs.Gathers.{nothing_more, one_value}
use Rattle.isp_gang_run.proofs.Lists.{nothing_left}
use Rattle.isp_gang_run.proofs.Results.{on_ok}
use Rattle.isp_gang_run.proofs.state.Evaluator.values.Goals as goal

pub returns-in-empty-clause-ok : goal.returns-in-empty-clause-ok
returns-in-empty-clause-ok c =
    on_ok c.gathered.result
    (λ h. nothing_more c.args.self.now c.gathered.new.self c.args.gathering c.args.rest.now (map payload_of c.args.done.items) (flag_of c.args.set) (nothing_left c.args.rest.now c.in-empty.len_below)
    (subst (λ xs. Comes c.args.self.now c.gathered.new.self (gathers_all c.args.self.now c.args.gathering (flag_of c.args.set) (map payload_of xs))) c.as_slice.ensures.value h))
    c.gathered.ensures.ok

pub returns-in_ok-both-in-len1-up-clause-ok : goal.returns-in_ok-both-in-len1-up-clause-ok
returns-in_ok-both-in-len1-up-clause-ok c =
    one_value c.args.self.now c.both.new.self c.args.gathering c.args.rest.now _ _ c.args.done c.args.set
    (headed c.args.rest.now c.next-item.result (omega (arith, c.in-len1-up.len_at_least)) c.next-item.is) c.in_ok-both-in-len1-up.ensures.ok

pub returns-in-empty-clause-fewer : goal.returns-in-empty-clause-fewer
returns-in-empty-clause-fewer c =
    on_ok c.gathered.result (leaves_within c.args.self.now c.gathered.new.self c.args.self.now.left (own c.args.self.now values_due (exprs_of c.args.rest.now)) 0 (omega arith)) c.gathered.ensures.fewer

pub returns-in_ok-both-in-len1-up-clause-fewer : goal.returns-in_ok-both-in-len1-up-clause-fewer
returns-in_ok-both-in-len1-up-clause-fewer c =
    leaves_as c.args.self.now c.both.new.self c.args.self.now.left (ap (λ (xs : List TypedExpr). own c.args.self.now values_due (exprs_of xs))
    (headed c.args.rest.now c.next-item.result (omega (arith, c.in-len1-up.len_at_least)) c.next-item.is)) c.in_ok-both-in-len1-up.ensures.fewer
