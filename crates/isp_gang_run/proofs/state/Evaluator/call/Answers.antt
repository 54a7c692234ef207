use Rattle.isp_gang_run.proofs.Progress.{leaves_as}
use Rattle.isp_typed.specs.Views.{arguments_of}
use Rattle.isp_typed.specs.Typed.{TCall}
use Rattle.isp_gang_run.specs.Due.{called_due, hand_due, own}
use Rattle.isp_typed.specs.declared.expr.TypedArgument.{TypedArgument}
use Rattle.isp_gang_run.specs.Most.{one}
use Rattle.std.proofs.Common.{List, ap, ap₂, sym, ◌∙◌}
use Rattle.isp_gang_run.proofs.Handing.{call_does, call_view}
use Rattle.isp_gang_run.proofs.state.Evaluator.call.Goals as goal

pub returns-clause-ok : goal.returns-clause-ok
returns-clause-ok c =
    call_does c.args.self.now c.args.call c.args.set c.later.new.self c.tick.new.self c.tick.ensures c.as_slice.result c.new.result c.as_slice.ensures.value c.new.ensures.items c.in_ok-later.ensures.ok c.in_ok-later.ensures.rest

pub returns-clause-fewer : goal.returns-clause-fewer
returns-clause-fewer c =
    leaves_as c.args.self.now c.later.new.self c.args.self.now.left (ap (λ (k : TCall). own c.args.self.now called_due k) (call_view c.args.call.now)
    ∙ ap₂ (λ (k : TCall) (ys : List TypedArgument). one (own c.args.self.now hand_due k (arguments_of ys))) (sym (call_view c.args.call.now)) (sym c.as_slice.ensures.value)) c.in_ok-later.ensures.fewer
