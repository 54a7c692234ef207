use Rattle.std.proofs.Common.{◌≡◌, drop}
use Rattle.isp_typed.specs.Verdicts.{first_of}
use Rattle.isp_typed.specs.Views.{items_of, functions_of}
use Rattle.isp_rates.specs.reader.Faults.{item_fault, of_each}
use Rattle.isp_rates.proofs.simple.items.Given as goal

abbrev pub invariant-loop-declared : goal.invariant-loop-declared
invariant-loop-declared l = first_of l.seen (of_each (item_fault (functions_of l.functions)) (items_of (drop l.declared-index l.all))) ≡ of_each (item_fault (functions_of l.functions)) (items_of l.all)
