use Rattle.std.proofs.Common.{◌≡◌, [], replicate}
use Rattle.isp_independence.specs.Tables.{lists_of}
use Rattle.isp_independence.proofs.callers.nobody.Given as goal

abbrev pub invariant-loop-next : goal.invariant-loop-next
invariant-loop-next l = lists_of l.rows.items ≡ replicate l._next []
