use Rattle.std.proofs.Common.{◌≡◌, drop}
use Rattle.isp_typed.specs.Views.{items_of}
use Rattle.isp_independence.specs.reader.Answers.{first_of, item_answer, of_each}
use Rattle.isp_independence.proofs.simple.items.Given as goal

abbrev pub invariant-loop-declared : goal.invariant-loop-declared
invariant-loop-declared l = first_of l.seen (of_each item_answer (items_of (drop l.declared-index l.all))) ≡ of_each item_answer (items_of l.all)
