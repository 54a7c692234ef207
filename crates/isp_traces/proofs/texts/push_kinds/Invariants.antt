use Rattle.std.proofs.Common.{◌≡◌, ◌++◌}
use Rattle.isp_traces.specs.Texts.{kind_names, members_text}
use Rattle.isp_traces.proofs.texts.push_kinds.Given as goal

abbrev pub invariant-loop-number : goal.invariant-loop-number
invariant-loop-number l = l.text.items ≡ l.fn.text.items ++ members_text l.width kind_names l.tallies l.number
