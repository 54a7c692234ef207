use Rattle.isp_exprs.proofs.PassedParts.{arguments_step}
use Rattle.isp_exprs.proofs.calls.arguments_among.Goals as goal

pub loop-part-preserved : goal.loop-part-preserved
loop-part-preserved c = arguments_step c.loop-part.arguments.items c.push_argument.new.arguments.items c.loop-part.yielded c.in-Some.part c.loop-part.invariant c.in_ok-push_argument.ensures
