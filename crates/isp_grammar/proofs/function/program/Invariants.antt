use Rattle.std.proofs.Common.{◌≡◌, ◌≤◌, ◌<◌, ℕ, length}
use Rattle.isp_tree.specs.Views.{functions_of}
use Rattle.isp_tree.specs.Depth.{limit}
use Rattle.isp_grammar.specs.reader.Programs.{functions_at, program_at}
use Rattle.isp_grammar.proofs.FunctionSteps.{functions_then}
use Rattle.isp_grammar.proofs.function.program.Given as goal

abbrev pub invariant-each : goal.invariant-each
invariant-each l = record {
  rest : length l.rest ≤ length l.tokens;
  value : (f : ℕ) × (length l.rest < f) × (functions_then (functions_of l.all.items) (functions_at limit f l.rest) ≡ program_at limit l.tokens);
}

abbrev pub decreases-each : goal.decreases-each
decreases-each l = length l.rest
