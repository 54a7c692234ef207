use Rattle.std.proofs.Common.{◌≡◌, drop}
use Rattle.isp_typed.specs.Verdicts.{first_of}
use Rattle.isp_typed.specs.Views.{exprs_of, functions_of}
use Rattle.isp_rates.specs.reader.Faults.{expr_fault, of_each}
use Rattle.isp_rates.proofs.simple.values.Given as goal

abbrev pub invariant-loop-value : goal.invariant-loop-value
invariant-loop-value l = first_of l.seen (of_each (expr_fault (functions_of l.functions)) (exprs_of (drop l.value-index l.all))) ≡ of_each (expr_fault (functions_of l.functions)) (exprs_of l.all)
