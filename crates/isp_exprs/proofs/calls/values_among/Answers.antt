use Rattle.isp_exprs.proofs.PassedParts.{values_step}
use Rattle.isp_exprs.proofs.calls.values_among.Goals as goal

pub loop-part-preserved : goal.loop-part-preserved
loop-part-preserved c = values_step c.loop-part.values.items c.push_value.new.values.items c.loop-part.yielded c.in-Some.part c.loop-part.invariant c.in_ok-push_value.ensures
