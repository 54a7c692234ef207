use Rattle.std.proofs.Common.{arith, rules, length-drop}
use Rattle.isp_output.proofs.Written.{adds_more}
use Rattle.isp_output.proofs.sink.write_all.Goals as goal

pub loop-taken-preserved : goal.loop-taken-preserved
loop-taken-preserved g c =
    (grind (arith, length-drop), search rules, adds_more _ _ _ _ _ _ c.loop-taken.invariant.2 c.in_ok-count.ensures.taken)
