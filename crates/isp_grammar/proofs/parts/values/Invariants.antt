use Rattle.std.proofs.Common.{◌≡◌, ◌≤◌, ◌<◌, ℕ, length}
use Rattle.isp_lex.specs.declared.token.Mark.TheVariants as mark
use Rattle.isp_tree.specs.Views.{exprs_of}
use Rattle.isp_grammar.specs.reader.Readers.{until_at}
use Rattle.isp_grammar.specs.reader.Stmts.{behind_at, values_at}
use Rattle.isp_grammar.proofs.Loops.{with_front}
use Rattle.isp_grammar.proofs.parts.values.Given as goal

abbrev pub invariant-each : goal.invariant-each
invariant-each l = record {
  rest : length l.rest ≤ length l.tokens;
  value : (f : ℕ) × (length l.rest < f) × (with_front (exprs_of l.all.items) (until_at mark.ParenClose (behind_at mark.Comma l.left) f l.rest) ≡ values_at l.left l.tokens);
}

abbrev pub decreases-each : goal.decreases-each
decreases-each l = length l.rest
