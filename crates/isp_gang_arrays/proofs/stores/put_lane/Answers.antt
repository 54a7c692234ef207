use Rattle.std.proofs.Common.{sym, ap, ◌∙◌, Some, rules}
use Rattle.isp_base.specs.Maps.{put}
use Rattle.isp_gang_arrays.specs.Stores.{own_of, put_own_at}
use Rattle.isp_gang_arrays.proofs.Puts.{lane_set}
use Rattle.isp_gang_arrays.proofs.stores.put_lane.Goals as goal

pub returns-in_ok-put_own-in-Some-Some : goal.returns-in_ok-put_own-in-Some-Some
returns-in_ok-put_own-in-Some-Some c =
    let f = own_of c.args.arrays.now.items in
    c.in_ok-put_own-in-Some-Some.ensures
    ∙ ap (λ z. put f c.args.array (put (f c.args.array) c.in-Some-Some.place z))
    (lane_set c.own_at-lanes.result c.args.instance c.in-Some-Some.bits (search rules)
    ∙ ap (λ z. put z c.args.instance c.in-Some-Some.bits)
    (c.own_at-lanes.ensures ∙ ap (λ xs. own_of xs c.args.array c.in-Some-Some.place) c.as_slice.ensures.value))
    ∙ sym (ap (λ o. put f c.args.array (put_own_at c.args.instance o c.args.bits (f c.args.array))) c.in-Some-Some.is-0 ∙ ap (λ o. put f c.args.array (put_own_at c.args.instance (Some c.in-Some-Some.place) o (f c.args.array))) c.in-Some-Some.is-1)
