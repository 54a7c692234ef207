use Rattle.std.proofs.Common.{[], ◌<◌, length, replicate}
use Rattle.isp_independence.specs.Tables.{lists_of}
use Rattle.isp_independence.specs.reader.Paths.{Adds, Arc}
use Rattle.isp_independence.proofs.callers.callers.Given as goal

abbrev pub invariant-loop-caller : goal.invariant-loop-caller
invariant-loop-caller l = Adds (replicate (length l.calls) []) (lists_of l.callers.items) (λ a b. (b < l.caller) × Arc (lists_of l.calls) b a)
