use Rattle.std.proofs.Common.{ap, length, ◌∙◌, sym, arith}
use Rattle.isp_base.specs.Maps.{put, lane_of}
use Rattle.isp_gang_values.specs.Growing.{lanes_of}
use Rattle.isp_gang_values.proofs.Vectors.{padded_all, pushed, written, longer, at_there, at_past}
use Rattle.isp_gang_arrays.specs.Stores.{own_of}
use Rattle.isp_gang_arrays.proofs.stores.put_own.Goals as goal

pub loop-next-preserved : goal.loop-next-preserved
loop-next-preserved c =
    record {
      same = ap own_of c.in_ok-push.ensures.items ∙ padded_all (λ v. lanes_of v.items) (λ e p. 0) c.loop-next.arrays.items c.new.result (ap lanes_of c.new.ensures.items) ∙ c.loop-next.invariant.same;
      long = ap length c.in_ok-push.ensures.items ∙ longer c.loop-next.arrays.items c.new.result c.loop-next._next c.loop-next.invariant.long;
    }

pub returns-in_ok-put_lanes : goal.returns-in_ok-put_lanes
returns-in_ok-put_lanes c =
    written (λ v. lanes_of v.items) (λ e p. 0) c.loop-next.arrays.items c.put_lanes.new.values c.args.array (omega (arith, c.if-array-len.true, c.len.ensures))
    ∙ ap (put (own_of c.loop-next.arrays.items) c.args.array)
    (c.in_ok-put_lanes.ensures.ok ∙ ap (λ f. put f c.args.place (lane_of c.args.lanes.now))
    (ap (λ v. lanes_of v.items) c.index_mut.ensures.value
    ∙ sym (at_there (λ v. lanes_of v.items) (λ e p. 0) c.loop-next.arrays.items c.args.array c.index_mut.result.now
    (omega (arith, c.if-array-len.true, c.len.ensures)))))
    ∙ ap (λ f. put f c.args.array (put (f c.args.array) c.args.place (lane_of c.args.lanes.now))) c.loop-next.invariant.same

pub returns-in_ok-push-2 : goal.returns-in_ok-push-2
returns-in_ok-push-2 c =
    ap own_of c.in_ok-push-2.ensures.items
    ∙ pushed (λ v. lanes_of v.items) (λ e p. 0) c.loop-next.arrays.items c.put_lanes-else-array-len.new.values c.args.array (omega (arith, c.loop-next.invariant.long, c.loop-next-test.false, c.if-array-len.false, c.len.ensures))
    ∙ ap (put (own_of c.loop-next.arrays.items) c.args.array)
    (c.in_ok-put_lanes-2.ensures.ok ∙ ap (λ f. put f c.args.place (lane_of c.args.lanes.now))
    (ap lanes_of c.new-rows.ensures.items ∙ sym (at_past (λ v. lanes_of v.items) (λ e p. 0) c.loop-next.arrays.items c.args.array
    (omega (arith, c.if-array-len.false, c.len.ensures)))))
    ∙ ap (λ f. put f c.args.array (put (f c.args.array) c.args.place (lane_of c.args.lanes.now))) c.loop-next.invariant.same
