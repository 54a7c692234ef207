use Rattle.std.proofs.Common.{◌≡◌, ◌≤◌, ◌+◌, ◌<◌, ℕ, ◌*◌, length}
use Rattle.isp_lex.specs.declared.token.Mark.TheVariants as mark
use Rattle.isp_tree.specs.Views.{stmts_of}
use Rattle.isp_grammar.specs.reader.Readers.{until_at}
use Rattle.isp_grammar.specs.reader.Stmts.{stmts_at, stmt_at}
use Rattle.isp_grammar.proofs.Loops.{with_front}
use Rattle.isp_grammar.proofs.stmt.+stmt.Given as goal

abbrev pub decreases-stmt : goal.decreases-stmt
decreases-stmt l = 8 * l.left

abbrev pub decreases-stmt_from : goal.decreases-stmt_from
decreases-stmt_from l = 8 * l.inner + 7

abbrev pub decreases-stmts : goal.decreases-stmts
decreases-stmts l = 8 * l.left + 1

abbrev pub decreases-braced : goal.decreases-braced
decreases-braced l = 8 * l.inner + 2

abbrev pub decreases-block : goal.decreases-block
decreases-block l = 8 * l.left

abbrev pub decreases-block_stmt : goal.decreases-block_stmt
decreases-block_stmt l = 8 * l.inner + 3

abbrev pub decreases-else_branch : goal.decreases-else_branch
decreases-else_branch l = 8 * l.inner + 2

abbrev pub decreases-conditional : goal.decreases-conditional
decreases-conditional l = 8 * l.inner + 3

abbrev pub decreases-loop_stmt : goal.decreases-loop_stmt
decreases-loop_stmt l = 8 * l.inner + 2

abbrev pub decreases-do_loop : goal.decreases-do_loop
decreases-do_loop l = 8 * l.inner + 2

abbrev pub decreases-unmasked : goal.decreases-unmasked
decreases-unmasked l = 8 * l.inner + 3

abbrev pub invariant-stmts-each : goal.invariant-stmts-each
invariant-stmts-each l = record {
  rest : length l.rest ≤ length l.tokens;
  value : (f : ℕ) × (length l.rest < f) × (with_front (stmts_of l.all.items) (until_at mark.BraceClose (stmt_at l.left) f l.rest) ≡ stmts_at (stmt_at l.left) l.tokens);
}

abbrev pub decreases-stmts-each : goal.decreases-stmts-each
decreases-stmts-each l = length l.rest
