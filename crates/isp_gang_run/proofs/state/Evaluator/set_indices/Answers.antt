use Rattle.std.proofs.Common.{◌≡◌, ◌+◌, ◌<◌, ap, length, arith}
use Rattle.std.specs.Prelude.{nat_eq}
use Rattle.isp_base.specs.Sets.{flag_of}
use Rattle.isp_meaning.specs.Payloads.{Each}
use Rattle.isp_gang_values.specs.Seen.{map_of}
use Rattle.isp_gang_values.proofs.Indices.{last_place}
use Rattle.isp_gang_run.proofs.RunIndices.{nothing_set, index_set, all_set}
use Rattle.isp_gang_run.proofs.state.Evaluator.set_indices.Goals as goal

pub loop-place-init : goal.loop-place-init
loop-place-init c = nothing_set c.args.self.now (flag_of c.args.set.now) c.args.ranges.now.items

pub loop-place-preserved : goal.loop-place-preserved
loop-place-preserved c =
    let rs = c.args.ranges.now.items in
    let k = c.loop-place.place in
    let h : k < length rs = omega (arith, c.loop-place-test.true, c.len-place-end.ensures) in
    let n : c.len.result ≡ length rs = omega (arith, c.len.ensures) in
    index_set c.args.self.now c.loop-place.self c.write.new.self (flag_of c.args.set.now) k rs c.index-range.result.now (nat_eq (k + 1) c.len.result)
    (Each (map_of c.index_row-row.result)) c.loop-place.invariant h c.index-range.ensures (last_place k c.len.result rs h n)
    (ap Each c.index_row-row.ensures) c.in_ok-write.ensures.ok

pub returns-clause-ok : goal.returns-clause-ok
returns-clause-ok c =
    let all : length c.args.ranges.now.items ≡ c.loop-place.place = omega (arith, c.loop-place-test.false, c.loop-place.auto.place-end, c.len-place-end.ensures) in
    all_set c.args.self.now c.loop-place.self (flag_of c.args.set.now) c.loop-place.place c.args.ranges.now.items all c.loop-place.invariant
