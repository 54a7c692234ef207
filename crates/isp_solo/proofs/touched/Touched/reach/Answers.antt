use Rattle.std.proofs.Common.{ap, refl, length, ◌∙◌}
use Rattle.isp_gang_values.specs.Growing.{at_each}
use Rattle.isp_gang_values.proofs.Vectors.{padded_all, longer}
use Rattle.isp_solo_run.specs.declared.touches.Touch.{Touch}
use Rattle.isp_solo.proofs.touched.Touched.reach.Goals as goal

pub loop-next-preserved : goal.loop-next-preserved
loop-next-preserved c =
    record {
      same = ap (at_each (λ (x : Touch). x) c.loop-next.self.others) c.in_ok-push.ensures.items ∙ padded_all (λ x. x) c.loop-next.self.others c.loop-next.self.first.items c.loop-next.self.others refl ∙ c.loop-next.invariant.same;
      others = c.loop-next.invariant.others;
      long = ap length c.in_ok-push.ensures.items ∙ longer c.loop-next.self.first.items c.loop-next.self.others c.loop-next._next c.loop-next.invariant.long;
    }
