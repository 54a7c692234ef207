use Rattle.std.proofs.Common.{◌-◌, ◌*◌, ◌∙◌, refl, ap, get_or, length, pos, arith}
use Rattle.isp_base.specs.Types.{gang_width}
use Rattle.isp_gang_run.specs.Capped.{capped}
use Rattle.isp_gang_values.specs.declared.ranges.Range.{Range}
use Rattle.isp_gang_run.proofs.RangesCounted.{last_counted, more_counted}
use Rattle.isp_gang_run.proofs.counting.counted.Goals as goal

-- what is read where nothing is
abbrev no_range : Range
no_range = record { index = 0; start = pos 0; end = pos 0; next = pos 0 }

pub loop-place-preserved-then-place-ranges : goal.loop-place-preserved-then-place-ranges
loop-place-preserved-then-place-ranges c =
    let rs = c.args.ranges.now in
    let k = c.loop-place.place - 1 in
    record {
      within = omega (arith, c.loop-place.invariant.within);
      count = last_counted (gang_width c.args.gang) rs k c.length-numbers.result (get_or rs k no_range) no_range (omega (arith, c.loop-place.invariant.within, c.loop-place-test.true)) refl c.length-numbers.ensures.is
          c.runs-count.result c.if-place-ranges.true c.runs-count.ensures c.runs-count.type_inv;
    }

pub loop-place-preserved : goal.loop-place-preserved
loop-place-preserved c =
    let rs = c.args.ranges.now in
    let k = c.loop-place.place - 1 in
    record {
      within = omega (arith, c.loop-place.invariant.within);
      count = more_counted (gang_width c.args.gang) rs k c.length-numbers.result (get_or rs k no_range) no_range (omega (arith, c.loop-place.invariant.within, c.loop-place-test.true)) refl c.length-numbers.ensures.is
          c.loop-place.count c.saturating_mul-count.result c.loop-place.place c.if-place-ranges.false c.loop-place.invariant.count (omega (arith, c.loop-place-test.true))
          (c.saturating_mul-count.ensures ∙ ap (λ n. capped (n * c.length-numbers.result)) c.saturating_add.ensures);
    }
