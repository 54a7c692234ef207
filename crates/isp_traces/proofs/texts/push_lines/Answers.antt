use Rattle.std.proofs.Common.{◌≡◌, ◌∙◌, ◌+◌, ◌≤◌, arith}
use Rattle.isp_traces.specs.Texts.{busy_before}
use Rattle.isp_traces.proofs.Members.{lines_more, none_busy, one_busy}
use Rattle.isp_traces.proofs.texts.push_lines.Goals as goal
use Rattle.isp_traces.proofs.texts.push_lines.Goals.{then-tally_at-gt0, else-tally_at-gt0}

pub loop-line-preserved : goal.loop-line-preserved
loop-line-preserved c =
    let k = c.loop-line.line in
    let busy = c.loop-line.busy in
    let ts = c.args.tallies.now in
    let so = c.loop-line.invariant in
    let text = lines_more k busy ts c.tally_at.result so.1 c.tally_at.ensures c.args.width c.args.text.now.items c.loop-line.text.items c.push_line.new.text.items so.0 c.in_ok-push_line.ensures in
    let again = c.tally_at-in-loop-line in
    let now : (c.if-tally_at-gt0.busy ≡ busy_before ts (k + 1)) × (c.if-tally_at-gt0.busy ≤ k + 1) = elim c.if-tally_at-gt0.branch [
      | then-tally_at-gt0 w ↦ (w.busy-is ∙ one_busy k busy ts again.result so.1 again.ensures (omega (arith, w.if-tally_at-gt0)), omega (arith, w.busy-is, so.2))
      | else-tally_at-gt0 w ↦ (w.busy-is ∙ none_busy k busy ts again.result so.1 again.ensures (omega (arith, w.if-tally_at-gt0)), omega (arith, w.busy-is, so.2))
    ] in
    (text, now.0, now.1)
