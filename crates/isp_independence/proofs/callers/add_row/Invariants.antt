use Rattle.std.proofs.Common.{◌≡◌, Contains, take}
use Rattle.isp_independence.specs.Tables.{lists_of}
use Rattle.isp_independence.specs.reader.Paths.{Adds}
use Rattle.isp_independence.proofs.callers.add_row.Given as goal

abbrev pub invariant-loop-called : goal.invariant-loop-called
invariant-loop-called l = Adds (lists_of l.initial.callers.items) (lists_of l.callers.items) (λ a b. Contains (take l.called-index l.row) a × (b ≡ l.caller))
