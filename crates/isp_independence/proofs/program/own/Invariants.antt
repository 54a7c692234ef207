use Rattle.std.proofs.Common.{◌≡◌, ◌++◌, drop, map}
use Rattle.isp_typed.specs.Views.{functions_of}
use Rattle.isp_independence.specs.reader.Answers.{called_answer}
use Rattle.isp_independence.proofs.program.own.Given as goal

abbrev pub invariant-loop-function : goal.invariant-loop-function
invariant-loop-function l = l.own.items ++ map called_answer (functions_of (drop l.function-index l.functions)) ≡ map called_answer (functions_of l.functions)
