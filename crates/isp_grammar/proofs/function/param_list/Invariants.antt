use Rattle.std.proofs.Common.{◌≡◌, ◌≤◌, ◌+◌, ◌<◌, ℕ, length}
use Rattle.std.specs.Prelude.{map}
use Rattle.isp_grammar.specs.reader.Readers.{list_at}
use Rattle.isp_grammar.specs.reader.Programs.{param_at}
use Rattle.isp_tree.specs.Views.{param_of}
use Rattle.isp_grammar.proofs.Loops.{with_front}
use Rattle.isp_grammar.proofs.function.param_list.Given as goal

abbrev pub invariant-each : goal.invariant-each
invariant-each l = record {
  rest : length l.rest ≤ length l.tokens;
  value : (f : ℕ) × (length l.rest < f) × (with_front (map param_of l.all.items) (list_at param_at f l.rest) ≡ list_at param_at (length l.tokens + 1) l.tokens);
}

abbrev pub decreases-each : goal.decreases-each
decreases-each l = length l.rest
