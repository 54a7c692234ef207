use Rattle.std.proofs.Common.{◌≡◌, ◌++◌, drop, map}
use Rattle.isp_typed.specs.Views.{functions_of}
use Rattle.isp_independence.specs.reader.Firsts.{function_answer}
use Rattle.isp_independence.proofs.program.of_each_entry.Given as goal

abbrev pub invariant-loop-number : goal.invariant-loop-number
invariant-loop-number l = l.answers.items ++ map (function_answer l.least) (functions_of (drop l.number l.functions)) ≡ map (function_answer l.least) (functions_of l.functions)
