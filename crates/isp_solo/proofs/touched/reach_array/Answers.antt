use Rattle.std.proofs.Common.{ap, length, ◌∙◌}
use Rattle.isp_gang_values.proofs.Vectors.{padded_all, longer}
use Rattle.isp_solo_run.specs.declared.touches.Touch.TheVariants.{Nobody}
use Rattle.isp_solo.specs.Touched.{touched_at, touched_seen}
use Rattle.isp_solo.proofs.touched.reach_array.Goals as goal

pub loop-next-preserved : goal.loop-next-preserved
loop-next-preserved c =
    record {
      same = ap touched_seen c.in_ok-push.ensures.items ∙ padded_all touched_at (λ e. Nobody) c.loop-next.touched.items c.new.result c.new.ensures ∙ c.loop-next.invariant.same;
      long = ap length c.in_ok-push.ensures.items ∙ longer c.loop-next.touched.items c.new.result c.loop-next._next c.loop-next.invariant.long;
    }
