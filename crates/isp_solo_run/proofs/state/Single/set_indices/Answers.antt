use Rattle.std.proofs.Common.{◌≡◌, ◌+◌, ◌<◌, ◌∙◌, ap, length, arith}
use Rattle.std.specs.Prelude.{nat_eq}
use Rattle.isp_gang_values.proofs.Indices.{last_place}
use Rattle.isp_solo_run.proofs.Indices.{nothing_set, index_set, all_set}
use Rattle.isp_base.specs.Values.{wrap}
use Rattle.isp_base.specs.declared.types.Elem.TheVariants.{I32}
use Rattle.isp_gang_values.specs.Left.{number_now}
use Rattle.isp_solo_run.specs.declared.state.Single.{Single}
use Rattle.isp_solo_run.proofs.state.Single.set_indices.Goals as goal

pub loop-place-init : goal.loop-place-init
loop-place-init c =
    nothing_set c.args.self.now c.args.self.now.setting.instance c.args.ranges.now.items

pub loop-place-preserved : goal.loop-place-preserved
loop-place-preserved c =
    let rs = c.args.ranges.now.items in
    let k = c.loop-place.place in
    let h : k < length rs = omega (arith, c.loop-place-test.true, c.len-place-end.ensures) in
    let n : c.len.result ≡ length rs = omega (arith, c.len.ensures) in
    index_set c.args.self.now c.loop-place.self c.write.new.self c.args.self.now.setting.instance k rs c.index-range.result.now
    (nat_eq (k + 1) c.len.result) c.index_at-bits.result c.loop-place.invariant h c.index-range.ensures (last_place k c.len.result rs h n)
    (c.index_at-bits.ensures ∙ ap (λ (e : Single). wrap I32
    (number_now c.index-range.result.now.next (nat_eq (k + 1) c.len.result) e.setting.instance)) c.loop-place.invariant.same)
    c.in_ok-write.ensures

pub returns : goal.returns
returns c =
    let all : length c.args.ranges.now.items ≡ c.loop-place.place = omega (arith, c.loop-place-test.false, c.loop-place.auto.place-end, c.len-place-end.ensures) in
    all_set c.args.self.now c.loop-place.self c.args.self.now.setting.instance c.loop-place.place c.args.ranges.now.items all c.loop-place.invariant
