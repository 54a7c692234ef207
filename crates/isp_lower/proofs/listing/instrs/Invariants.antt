use Rattle.std.proofs.Common.{◌≡◌, ◌++◌, true}
use Rattle.std.specs.List.{list_all}
use Rattle.isp_lower_code.specs.Lines.{has_small_number}
use Rattle.isp_lower.proofs.listing.instrs.Given as goal

abbrev pub invariant-loop-line : goal.invariant-loop-line
invariant-loop-line l = (l.code.items ++ l.line-iterator.rest.items ≡ l.fn.lines.items) × (list_all has_small_number l.line-iterator.rest.items ≡ true)
