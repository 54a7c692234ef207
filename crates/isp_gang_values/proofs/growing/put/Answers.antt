use Rattle.std.proofs.Common.{ap, refl, length, ◌∙◌, arith}
use Rattle.isp_base.specs.Maps.{put}
use Rattle.isp_gang_values.specs.Growing.{values_of}
use Rattle.isp_gang_values.proofs.Vectors.{padded_all, pushed, written, longer}
use Rattle.isp_gang_values.proofs.growing.put.Goals as goal

pub loop-next-preserved : goal.loop-next-preserved
loop-next-preserved c =
    record {
      same = ap values_of c.in_ok-push.ensures.items ∙ padded_all (λ x. x) 0 c.loop-next.values.items 0 refl ∙ c.loop-next.invariant.same;
      long = ap length c.in_ok-push.ensures.items ∙ longer c.loop-next.values.items 0 c.loop-next._next c.loop-next.invariant.long;
    }

pub returns-then-place-len-clause-ok : goal.returns-then-place-len-clause-ok
returns-then-place-len-clause-ok c = written (λ x. x) 0 c.loop-next.values.items c.args.bits c.args.place (omega (arith, c.if-place-len.true, c.len.ensures)) ∙ ap (λ f. put f c.args.place c.args.bits) c.loop-next.invariant.same

pub returns-in_ok-push-2-clause-ok : goal.returns-in_ok-push-2-clause-ok
returns-in_ok-push-2-clause-ok c =
    ap values_of c.in_ok-push-2.ensures.items
    ∙ pushed (λ x. x) 0 c.loop-next.values.items c.args.bits c.args.place (omega (arith, c.loop-next.invariant.long, c.loop-next-test.false, c.if-place-len.false, c.len.ensures))
    ∙ ap (λ f. put f c.args.place c.args.bits) c.loop-next.invariant.same
