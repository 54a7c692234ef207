use Rattle.std.proofs.Common.{◌≡◌, ◌++◌, ◌≤◌}
use Rattle.isp_traces.specs.Texts.{busy_before, busy_text}
use Rattle.isp_traces.proofs.texts.push_lines.Given as goal

abbrev pub invariant-loop-line : goal.invariant-loop-line
invariant-loop-line l = (l.text.items ≡ l.fn.text.items ++ busy_text l.width l.tallies l.line) × (l.busy ≡ busy_before l.tallies l.line) × (l.busy ≤ l.line)
