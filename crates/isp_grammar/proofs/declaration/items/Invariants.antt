use Rattle.std.proofs.Common.{◌≡◌, ◌≤◌, ◌<◌, ℕ, length}
use Rattle.std.specs.Prelude.{map}
use Rattle.isp_grammar.specs.reader.Readers.{list_at}
use Rattle.isp_grammar.specs.reader.Stmts.{item_at, items_at}
use Rattle.isp_tree.specs.Views.{item_of}
use Rattle.isp_grammar.proofs.Loops.{with_front}
use Rattle.isp_grammar.proofs.declaration.items.Given as goal

abbrev pub invariant-each : goal.invariant-each
invariant-each l = record {
  rest : length l.rest ≤ length l.tokens;
  value : (f : ℕ) × (length l.rest < f) × (with_front (map item_of l.all.items) (list_at (item_at l.left) f l.rest) ≡ items_at l.left l.tokens);
}

abbrev pub decreases-each : goal.decreases-each
decreases-each l = length l.rest
