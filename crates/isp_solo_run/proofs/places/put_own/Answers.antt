use Rattle.std.proofs.Common.{◌∙◌, ap, sym, arith, length}
use Rattle.isp_base.specs.Maps.{put}
use Rattle.isp_solo_meaning.specs.Alone.{put_in}
use Rattle.isp_gang_values.specs.Growing.{values_of}
use Rattle.isp_gang_values.proofs.Vectors.{at_there, at_past, longer, padded_all, pushed, written}
use Rattle.isp_solo_run.specs.Seen.{own_of}
use Rattle.isp_solo_run.proofs.Changed.{put_inner}
use Rattle.isp_solo_run.proofs.places.put_own.Goals as goal

pub loop-next-preserved : goal.loop-next-preserved
loop-next-preserved c =
    record {
      same = ap own_of c.in_ok-push.ensures.items ∙ padded_all (λ v. values_of v.items) (λ e. 0) c.loop-next.arrays.items c.new.result (ap values_of c.new.ensures.items) ∙ c.loop-next.invariant.same;
      long = ap length c.in_ok-push.ensures.items ∙ longer c.loop-next.arrays.items c.new.result c.loop-next._next c.loop-next.invariant.long;
    }

pub returns-in_ok-put : goal.returns-in_ok-put
returns-in_ok-put c =
    written (λ v. values_of v.items) (λ e. 0) c.loop-next.arrays.items c.put.new.values c.args.array (omega (arith, c.if-array-len.true, c.len.ensures))
    ∙ ap (put (own_of c.loop-next.arrays.items) c.args.array)
    (c.in_ok-put.ensures.ok ∙ ap (λ f. put f c.args.place c.args.bits)
    (ap (λ v. values_of v.items) c.index_mut.ensures.value
    ∙ sym (at_there (λ v. values_of v.items) (λ e. 0) c.loop-next.arrays.items c.args.array c.index_mut.result.now
    (omega (arith, c.if-array-len.true, c.len.ensures)))))
    ∙ put_inner (own_of c.loop-next.arrays.items) c.args.array c.args.place c.args.bits
    ∙ ap (λ f. put_in f c.args.array c.args.place c.args.bits) c.loop-next.invariant.same

pub returns-in_ok-push-2 : goal.returns-in_ok-push-2
returns-in_ok-push-2 c =
    ap own_of c.in_ok-push-2.ensures.items
    ∙ pushed (λ v. values_of v.items) (λ e. 0) c.loop-next.arrays.items c.put-else-array-len.new.values c.args.array (omega (arith, c.loop-next.invariant.long, c.loop-next-test.false, c.if-array-len.false, c.len.ensures))
    ∙ ap (put (own_of c.loop-next.arrays.items) c.args.array)
    (c.in_ok-put-2.ensures.ok ∙ ap (λ f. put f c.args.place c.args.bits)
    (ap values_of c.new-values.ensures.items ∙ sym (at_past (λ v. values_of v.items) (λ e. 0) c.loop-next.arrays.items c.args.array
    (omega (arith, c.if-array-len.false, c.len.ensures)))))
    ∙ put_inner (own_of c.loop-next.arrays.items) c.args.array c.args.place c.args.bits
    ∙ ap (λ f. put_in f c.args.array c.args.place c.args.bits) c.loop-next.invariant.same
