use Rattle.std.proofs.Common.{◌≡◌, ◌≤◌, ◌+◌, ◌<◌, ℕ, ◌-◌, ◌*◌, length}
use Rattle.isp_tree.specs.Views.{expr_of, arguments_of}
use Rattle.isp_tree.specs.Depth.{depth, depth_of_all}
use Rattle.isp_grammar.specs.reader.Readers.{list_at}
use Rattle.isp_grammar.specs.reader.Exprs.{argument_at, expr_at, target_at, more_at}
use Rattle.isp_grammar.specs.Signs.{loosest}
use Rattle.isp_grammar.proofs.Loops.{with_front}
use Rattle.isp_grammar.proofs.expr.+expr.Given as goal

abbrev pub decreases-unary : goal.decreases-unary
decreases-unary l = 32 * l.left

abbrev pub decreases-place : goal.decreases-place
decreases-place l = 32 * l.left

abbrev pub decreases-binary : goal.decreases-binary
decreases-binary l = 32 * l.left + l.looseness + 1

abbrev pub decreases-expr : goal.decreases-expr
decreases-expr l = 32 * l.left + 12

abbrev pub decreases-parts : goal.decreases-parts
decreases-parts l = 32 * l.left + 13

abbrev pub decreases-index : goal.decreases-index
decreases-index l = 32 * l.left + 13

abbrev pub decreases-argument : goal.decreases-argument
decreases-argument l = 32 * l.left + 13

abbrev pub decreases-arguments : goal.decreases-arguments
decreases-arguments l = 32 * l.left + 14

abbrev pub decreases-called : goal.decreases-called
decreases-called l = 32 * l.left + 15

abbrev pub decreases-suffix : goal.decreases-suffix
decreases-suffix l = 32 * l.left + 16

abbrev pub decreases-named : goal.decreases-named
decreases-named l = 32 * (l.left - 1) + 17

abbrev pub decreases-cast : goal.decreases-cast
decreases-cast l = 32 * (l.left - 1) + 15

abbrev pub decreases-closed : goal.decreases-closed
decreases-closed l = 32 * (l.left - 1) + 15

abbrev pub decreases-prefixed : goal.decreases-prefixed
decreases-prefixed l = 32 * (l.left - 1) + 15

abbrev pub decreases-unary_from : goal.decreases-unary_from
decreases-unary_from l = 32 * (l.left - 1) + 18

abbrev pub invariant-binary-loop-op : goal.invariant-binary-loop-op
invariant-binary-loop-op l = record {
  rest : length l.rest < length l.tokens;
  height : l.height ≡ depth (expr_of l.found.value);
  bounded : l.height ≤ l.left;
  value : (f : ℕ) × (l.left ≤ f + l.height) × (more_at (expr_at (l.left - 1) (l.looseness - 1)) (l.left - 1) (l.looseness - 1) f (expr_of l.found.value) l.rest ≡ expr_at l.left l.looseness l.tokens);
}

abbrev pub decreases-binary-loop-op : goal.decreases-binary-loop-op
decreases-binary-loop-op l = length l.rest

abbrev pub invariant-arguments-each : goal.invariant-arguments-each
invariant-arguments-each l = record {
  rest : length l.rest ≤ length l.tokens;
  height : l.height ≡ depth_of_all (arguments_of l.all.items);
  bounded : l.height ≤ l.left;
  value : (f : ℕ) × (length l.rest < f) × (with_front (arguments_of l.all.items)
      (list_at (argument_at (expr_at l.left loosest) (target_at l.left)) f l.rest)
      ≡ list_at (argument_at (expr_at l.left loosest) (target_at l.left)) (length l.tokens + 1) l.tokens);
}

abbrev pub decreases-arguments-each : goal.decreases-arguments-each
decreases-arguments-each l = length l.rest
