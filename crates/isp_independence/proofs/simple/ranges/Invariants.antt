use Rattle.std.proofs.Common.{◌≡◌, drop}
use Rattle.isp_typed.specs.Views.{ranges_of}
use Rattle.isp_independence.specs.reader.Answers.{first_of, range_answer, of_each}
use Rattle.isp_independence.proofs.simple.ranges.Given as goal

abbrev pub invariant-loop-r : goal.invariant-loop-r
invariant-loop-r l = first_of l.seen (of_each range_answer (ranges_of (drop l.r-index l.all))) ≡ of_each range_answer (ranges_of l.all)
