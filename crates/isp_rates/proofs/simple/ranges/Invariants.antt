use Rattle.std.proofs.Common.{◌≡◌, drop}
use Rattle.isp_typed.specs.Verdicts.{first_of}
use Rattle.isp_typed.specs.Views.{ranges_of, functions_of}
use Rattle.isp_rates.specs.reader.Faults.{range_fault, of_each}
use Rattle.isp_rates.proofs.simple.ranges.Given as goal

abbrev pub invariant-loop-r : goal.invariant-loop-r
invariant-loop-r l = first_of l.seen (of_each (range_fault (functions_of l.functions)) (ranges_of (drop l.r-index l.all))) ≡ of_each (range_fault (functions_of l.functions)) (ranges_of l.all)
