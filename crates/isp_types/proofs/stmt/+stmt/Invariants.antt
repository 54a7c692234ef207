-- The recursion goes down the tree. In the loop: what is found so far, joined with what the rest gives, is what all give.
use Rattle.std.proofs.Common.{◌≡◌, ◌+◌, ◌-◌, ◌*◌, drop, take, length}
use Rattle.isp_tree.specs.Nodes.{nodes_of_block, nodes_of_stmt}
use Rattle.isp_tree.specs.Tree.{all}
use Rattle.isp_tree.specs.Views.{block_of as read_block, stmt_of as read_stmt, stmts_of as read_stmts}
use Rattle.isp_typed.specs.Verdicts.{made}
use Rattle.isp_types.specs.Numbering.{stmts_variables}
use Rattle.isp_types.specs.reader.Boxes.{listed_stmts}
use Rattle.isp_types.specs.Statements.{stmts_typing}
use Rattle.isp_types.proofs.StmtSteps.{joined}
use Rattle.isp_types.proofs.stmt.+stmt.Given as goal

abbrev pub decreases-stmt : goal.decreases-stmt
decreases-stmt l = 4 * nodes_of_stmt (read_stmt l.s.now)

abbrev pub decreases-body : goal.decreases-body
decreases-body l = 4 * nodes_of_stmt (read_stmt l.s.now) + 1

abbrev pub decreases-block : goal.decreases-block
decreases-block l = 4 * nodes_of_block (read_block l.b.now) - 2

abbrev pub decreases-inner_block : goal.decreases-inner_block
decreases-inner_block l = 4 * nodes_of_block (read_block l.b.now) - 1

abbrev pub decreases-if_then : goal.decreases-if_then
decreases-if_then l = 4 * nodes_of_stmt (read_stmt l.then.now) + 2

abbrev pub decreases-if_else : goal.decreases-if_else
decreases-if_else l = 4 * (nodes_of_stmt (read_stmt l.then.now) + nodes_of_stmt (read_stmt l.otherwise.now)) + 2

abbrev pub decreases-while_loop : goal.decreases-while_loop
decreases-while_loop l = 4 * nodes_of_stmt (read_stmt l.inner.now) + 2

abbrev pub decreases-do_loop : goal.decreases-do_loop
decreases-do_loop l = 4 * nodes_of_stmt (read_stmt l.inner.now) + 2

abbrev pub decreases-for_loop : goal.decreases-for_loop
decreases-for_loop l = 4 * nodes_of_stmt (read_stmt l.inner.now) + 2

abbrev pub decreases-foreach : goal.decreases-foreach
decreases-foreach l = 4 * nodes_of_stmt (read_stmt l.inner.now) + 2

abbrev pub decreases-foreach_active : goal.decreases-foreach_active
decreases-foreach_active l = 4 * nodes_of_stmt (read_stmt l.inner.now) + 2

abbrev pub decreases-foreach_unique : goal.decreases-foreach_unique
decreases-foreach_unique l = 4 * nodes_of_stmt (read_stmt l.inner.now) + 2

abbrev pub invariant-block-loop-s : goal.invariant-block-loop-s
invariant-block-loop-s l = record {
  names : take (length l.initial.walk.scope) l.walk.scope ≡ l.initial.walk.scope;
  variables : stmts_variables l.context.setting.gang l.context.setting.headers.now l.walk.scope l.walk.variables.items (all (read_stmts (drop l.s-index l.s-items)))
      ≡ stmts_variables l.context.setting.gang l.context.setting.headers.now l.initial.walk.scope l.initial.walk.variables.items (all (read_stmts l.s-items));
  value : joined (made listed_stmts l.done) (stmts_typing l.context.setting.gang l.context.setting.headers.now l.context.answer l.walk.scope l.start l.walk.variables.items (all (read_stmts (drop l.s-index l.s-items)))).verdict
      ≡ (stmts_typing l.context.setting.gang l.context.setting.headers.now l.context.answer l.initial.walk.scope l.start l.initial.walk.variables.items (all (read_stmts l.s-items))).verdict;
}
