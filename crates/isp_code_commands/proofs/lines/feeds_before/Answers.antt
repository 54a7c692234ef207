use Rattle.std.proofs.Common.{rules, ◌≡◌, ◌∙◌, ap, sym, ◌+◌, ◌<◌, ◌≤◌, arith, get_or, length}
use Rattle.std.proofs.lemmas.List.Sums.{count_by_more_no, count_by_more_yes}
use Rattle.isp_places.specs.Lines.{is_feed}
use Rattle.isp_code_commands.proofs.Feeds.{feeds_more, feeds_to, no_feed}
use Rattle.isp_code_commands.proofs.lines.feeds_before.Goals as goal
use Rattle.isp_code_commands.proofs.lines.feeds_before.Goals.{then-byte-eq10, else-byte-eq10}

pub loop-byte-preserved : goal.loop-byte-preserved
loop-byte-preserved c =
    let k = c.loop-byte.byte-index in
    let text = c.args.text.now in
    let so = c.loop-byte.invariant in
    let low : k < length text = search rules in
    let now : (c.if-byte-eq10.count ≡ feeds_to text (k + 1)) × (c.if-byte-eq10.count ≤ k + 1) = elim c.if-byte-eq10.branch [
      | then-byte-eq10 w ↦ (w.count-is ∙ ap (λ n. n + 1) so.1 ∙ sym (count_by_more_yes is_feed text k 0 low (ap is_feed w.if-byte-eq10.true)), omega (arith, w.count-is, so.2))
      | else-byte-eq10 w ↦ (w.count-is ∙ so.1 ∙ sym (count_by_more_no is_feed text k 0 low (no_feed (get_or text k 0) w.if-byte-eq10.false)), omega (arith, w.count-is, so.2))
    ] in
    (feeds_more text k c.if-byte-eq10.count c.loop-byte.feeds.items c.push-in-loop-byte.new.self.items so.0 c.in_ok-push-2.ensures.items now.0, now.0, now.1)
