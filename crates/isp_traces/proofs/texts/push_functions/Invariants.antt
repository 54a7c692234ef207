use Rattle.std.proofs.Common.{◌≡◌, ◌++◌, map}
use Rattle.isp_code.specs.Listing.{routine_of}
use Rattle.isp_traces.specs.Texts.{members_text, routine_name}
use Rattle.isp_traces.proofs.texts.push_functions.Given as goal

abbrev pub invariant-loop-number : goal.invariant-loop-number
invariant-loop-number l = l.text.items ≡ l.fn.text.items ++ members_text l.width (map routine_name (map routine_of l.functions)) l.tallies l.number
