use Rattle.std.proofs.Common.{◌≡◌, drop}
use Rattle.isp_typed.specs.Views.{function_of}
use Rattle.isp_independence.specs.reader.Answers.{entry_answer, first_of, of_each}
use Rattle.isp_independence.specs.reader.Paths.{found_at}
use Rattle.isp_independence.proofs.program.of_entry.Given as goal

abbrev pub invariant-loop-called : goal.invariant-loop-called
invariant-loop-called l = first_of l.seen (of_each (found_at l.least) (drop l.called-index l.calls)) ≡ first_of (entry_answer (function_of l.function)) (of_each (found_at l.least) l.calls)
