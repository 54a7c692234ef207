use Rattle.std.proofs.Common.{◌≡◌, ◌∙◌, ◌-◌, ◌<◌, ap, length, arith, sym}
use Rattle.isp_base.specs.Sets.{Mask}
use Rattle.isp_base.specs.Types.{gang_width}
use Rattle.isp_gang_values.proofs.Left.{not_on, last_on}
use Rattle.isp_solo_run.proofs.rounds.is_on.Goals as goal

pub returns-then-count-eq0 : goal.returns-then-count-eq0
returns-then-count-eq0 c =
    let h : length c.args.ranges.now.items ≡ 0 = omega (arith, c.if-count-eq0.true, c.len-count.ensures) in
    sym (not_on (gang_width c.args.gang) c.args.instance c.args.ranges.now.items h)

pub returns-else-count-eq0 : goal.returns-else-count-eq0
returns-else-count-eq0 c =
    let xs = c.args.ranges.now.items in
    let h : 0 < length xs = omega (arith, c.if-count-eq0.false, c.len-count.ensures) in
    let e : c.len-count.result - 1 ≡ length xs - 1 = omega (arith, c.len-count.ensures) in
    c.is_below.ensures ∙ ap (λ (f : Mask). f c.args.instance) (last_on (gang_width c.args.gang) (c.len-count.result - 1) xs c.index.result.now h e c.index.ensures)
