use Rattle.std.proofs.Common.{ap, length, ◌∙◌, arith, replicate}
use Rattle.isp_base.specs.Maps.{lane_of, put}
use Rattle.isp_base.specs.Types.{widest}
use Rattle.isp_gang_values.specs.Growing.{lanes_of}
use Rattle.isp_gang_values.proofs.Vectors.{padded_all, pushed, written, longer, zeros}
use Rattle.isp_gang_values.proofs.growing.put_lanes.Goals as goal

pub loop-next-preserved : goal.loop-next-preserved
loop-next-preserved c =
    record {
      same = ap lanes_of c.in_ok-push.ensures.items ∙ padded_all lane_of (λ p. 0) c.loop-next.values.items (replicate widest 0) zeros ∙ c.loop-next.invariant.same;
      long = ap length c.in_ok-push.ensures.items ∙ longer c.loop-next.values.items (replicate widest 0) c.loop-next._next c.loop-next.invariant.long;
    }

pub returns-then-place-len-clause-ok : goal.returns-then-place-len-clause-ok
returns-then-place-len-clause-ok c = written lane_of (λ p. 0) c.loop-next.values.items c.args.lanes.now c.args.place
    (omega (arith, c.if-place-len.true, c.len.ensures)) ∙ ap (λ f. put f c.args.place (lane_of c.args.lanes.now)) c.loop-next.invariant.same

pub returns-in_ok-push-2-clause-ok : goal.returns-in_ok-push-2-clause-ok
returns-in_ok-push-2-clause-ok c =
    ap lanes_of c.in_ok-push-2.ensures.items
    ∙ pushed lane_of (λ p. 0) c.loop-next.values.items c.args.lanes.now c.args.place (omega (arith, c.loop-next.invariant.long, c.loop-next-test.false, c.if-place-len.false, c.len.ensures))
    ∙ ap (λ f. put f c.args.place (lane_of c.args.lanes.now)) c.loop-next.invariant.same
