-- The recursion goes down the tree. In the loop: what was seen so far, with what the other statements have, is all.
use Rattle.std.proofs.Common.{◌≡◌, ◌*◌, ◌-◌, ◌++◌, drop}
use Rattle.isp_typed.specs.Nodes.{block_nodes, stmt_nodes}
use Rattle.isp_typed.specs.Typed.{t_stmts}
use Rattle.isp_typed.specs.Views.{block_of, stmt_of, stmts_of}
use Rattle.isp_masks_code.specs.Exits.{all_exits, either_leaves}
use Rattle.isp_masks.specs.reader.Seen.{all_seen}
use Rattle.isp_masks.proofs.seen.+stmt.Given as goal

abbrev pub decreases-stmt : goal.decreases-stmt
decreases-stmt l = 3 * stmt_nodes (stmt_of l.x.now)

abbrev pub decreases-parts : goal.decreases-parts
decreases-parts l = 3 * stmt_nodes (stmt_of l.x.now) - 1

abbrev pub decreases-block : goal.decreases-block
decreases-block l = 3 * block_nodes (block_of l.b.now) - 2

abbrev pub invariant-block-loop-x : goal.invariant-block-loop-x
invariant-block-loop-x l =
    (l.seen.items ++ all_seen (t_stmts (stmts_of (drop l.x-index l.x-items))) ≡ l.initial.seen.items ++ all_seen (t_stmts (stmts_of l.x-items)))
    × (either_leaves l.exits (all_exits (t_stmts (stmts_of (drop l.x-index l.x-items)))) ≡ all_exits (t_stmts (stmts_of l.x-items)))
