use Rattle.std.proofs.Common.{◌≡◌, ◌≤◌, length}
use Rattle.isp_grammar.specs.reader.Choices.{signs_at}
use Rattle.isp_grammar.specs.reader.Programs.{linkage_of}
use Rattle.isp_grammar.proofs.FunctionSteps.{words_then}
use Rattle.isp_grammar.proofs.function.linkages.Given as goal

abbrev pub invariant-each : goal.invariant-each
invariant-each l = record {
  rest : length l.rest ≤ length l.tokens;
  value : words_then l.all.items (signs_at linkage_of l.rest) ≡ signs_at linkage_of l.tokens;
}

abbrev pub decreases-each : goal.decreases-each
decreases-each l = length l.rest
