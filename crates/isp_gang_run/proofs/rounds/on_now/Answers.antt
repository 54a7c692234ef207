use Rattle.std.proofs.Common.{◌≡◌, ◌∙◌, ◌-◌, ◌<◌, length, arith}
use Rattle.isp_base.specs.Types.{gang_width}
use Rattle.isp_gang_values.proofs.Left.{last_on}
use Rattle.isp_gang_run.proofs.rounds.on_now.Goals as goal

pub returns-else-count-eq0 : goal.returns-else-count-eq0
returns-else-count-eq0 c =
    let xs = c.args.ranges.now.items in
    let h : 0 < length xs = omega (arith, c.if-count-eq0.false, c.len-count.ensures) in
    let e : c.len-count.result - 1 ≡ length xs - 1 = omega (arith, c.len-count.ensures) in
    c.on_below.ensures ∙ last_on (gang_width c.args.gang) (c.len-count.result - 1) xs c.index.result.now h e c.index.ensures
