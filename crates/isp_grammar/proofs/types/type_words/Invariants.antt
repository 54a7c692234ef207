use Rattle.std.proofs.Common.{◌≡◌, ◌<◌, length, ◌≤◌, true}
use Rattle.isp_tree.specs.Tree.{has_sign}
use Rattle.isp_grammar.specs.reader.Types.{type_more, type_at}
use Rattle.isp_grammar.proofs.types.type_words.Given as goal

abbrev pub invariant-each : goal.invariant-each
invariant-each l = record {
  rest : length l.rest ≤ length l.tokens;
  shorter : l.signed ≡ true → length l.rest < length l.tokens;
  signed : has_sign l.qualifiers.items ≡ l.signed;
  value : type_more l.span l.qualifiers.items l.rest ≡ type_at l.tokens;
}

abbrev pub decreases-each : goal.decreases-each
decreases-each l = length l.rest
