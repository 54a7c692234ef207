use Rattle.std.proofs.Common.{ap, length, ◌∙◌, sym, arith}
use Rattle.isp_base.specs.Maps.{put}
use Rattle.isp_gang_values.specs.Growing.{values_of}
use Rattle.isp_gang_values.proofs.Vectors.{padded_all, pushed, written, longer, at_there, at_past}
use Rattle.isp_gang_arrays.specs.Stores.{stores_of}
use Rattle.isp_gang_arrays.proofs.stores.put_element.Goals as goal

pub loop-next-preserved : goal.loop-next-preserved
loop-next-preserved c =
    record {
      same = ap stores_of c.in_ok-push.ensures.items ∙ padded_all (λ v. values_of v.items) (λ e. 0) c.loop-next.stores.items c.new.result (ap values_of c.new.ensures.items) ∙ c.loop-next.invariant.same;
      long = ap length c.in_ok-push.ensures.items ∙ longer c.loop-next.stores.items c.new.result c.loop-next._next c.loop-next.invariant.long;
    }

pub returns-in_ok-put : goal.returns-in_ok-put
returns-in_ok-put c =
    written (λ v. values_of v.items) (λ e. 0) c.loop-next.stores.items c.put.new.values c.args.store (omega (arith, c.if-store-len.true, c.len.ensures))
    ∙ ap (put (stores_of c.loop-next.stores.items) c.args.store)
    (c.in_ok-put.ensures.ok ∙ ap (λ f. put f c.args.place c.args.bits)
    (ap (λ v. values_of v.items) c.index_mut.ensures.value
    ∙ sym (at_there (λ v. values_of v.items) (λ e. 0) c.loop-next.stores.items c.args.store c.index_mut.result.now
    (omega (arith, c.if-store-len.true, c.len.ensures)))))
    ∙ ap (λ f. put f c.args.store (put (f c.args.store) c.args.place c.args.bits)) c.loop-next.invariant.same

pub returns-in_ok-push-2 : goal.returns-in_ok-push-2
returns-in_ok-push-2 c =
    ap stores_of c.in_ok-push-2.ensures.items
    ∙ pushed (λ v. values_of v.items) (λ e. 0) c.loop-next.stores.items c.put-else-store-len.new.values c.args.store (omega (arith, c.loop-next.invariant.long, c.loop-next-test.false, c.if-store-len.false, c.len.ensures))
    ∙ ap (put (stores_of c.loop-next.stores.items) c.args.store)
    (c.in_ok-put-2.ensures.ok ∙ ap (λ f. put f c.args.place c.args.bits)
    (ap values_of c.new-values.ensures.items ∙ sym (at_past (λ v. values_of v.items) (λ e. 0) c.loop-next.stores.items c.args.store
    (omega (arith, c.if-store-len.false, c.len.ensures)))))
    ∙ ap (λ f. put f c.args.store (put (f c.args.store) c.args.place c.args.bits)) c.loop-next.invariant.same
