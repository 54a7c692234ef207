-- The recursion goes down the tree. In the loop: who is given what the statements that are left ask for, is given what all ask
-- for; and their numbers can be had.
use Rattle.std.proofs.Common.{◌+◌, ◌-◌, ◌*◌, drop}
use Rattle.isp_typed.specs.Nodes.{stmt_nodes, block_nodes}
use Rattle.isp_typed.specs.Typed.{t_stmts}
use Rattle.isp_typed.specs.Views.{block_of, stmt_of, stmts_of}
use Rattle.isp_lower_code.specs.Room.{HasNumbers}
use Rattle.isp_registers.specs.Reserved.{Gives}
use Rattle.isp_registers.specs.declared.reserve.Reserve.{Reserve}
use Rattle.isp_masks_code.specs.Asks.{stmts_asks}
use Rattle.isp_masks_reserve.proofs.reserved.+stmt.Given as goal

abbrev pub decreases-stmt : goal.decreases-stmt
decreases-stmt l = 4 * stmt_nodes (stmt_of l.x.now)

abbrev pub decreases-block : goal.decreases-block
decreases-block l = 4 * block_nodes (block_of l.body.now) - 1

abbrev pub decreases-one_side : goal.decreases-one_side
decreases-one_side l = 4 * stmt_nodes (stmt_of l.then.now) + 1

abbrev pub decreases-two_sides : goal.decreases-two_sides
decreases-two_sides l = 4 * (stmt_nodes (stmt_of l.then.now) + stmt_nodes (stmt_of l.otherwise.now)) + 1

abbrev pub decreases-while_loop : goal.decreases-while_loop
decreases-while_loop l = 4 * stmt_nodes (stmt_of l.body.now) + 1

abbrev pub decreases-do_loop : goal.decreases-do_loop
decreases-do_loop l = 4 * stmt_nodes (stmt_of l.body.now) + 1

abbrev pub decreases-unmasked : goal.decreases-unmasked
decreases-unmasked l = 4 * block_nodes (block_of l.body.now)

abbrev pub decreases-active_loop : goal.decreases-active_loop
decreases-active_loop l = 4 * stmt_nodes (stmt_of l.body.now) + 1

abbrev pub decreases-unique_loop : goal.decreases-unique_loop
decreases-unique_loop l = 4 * stmt_nodes (stmt_of l.body.now) + 1

abbrev pub decreases-range_loop : goal.decreases-range_loop
decreases-range_loop l = 4 * stmt_nodes (stmt_of l.body.now) + 1

abbrev pub decreases-turns : goal.decreases-turns
decreases-turns l = 4 * stmt_nodes (stmt_of l.body.now) + 1

abbrev pub invariant-block-loop-x : goal.invariant-block-loop-x
invariant-block-loop-x l =
    ((c : Reserve) → Gives l.r c (stmts_asks l.answer (t_stmts (stmts_of (drop l.x-index l.x-items))) l.slot.number) → Gives l.initial.r c (stmts_asks l.answer (t_stmts (stmts_of l.x-items)) l.slot.number))
    × HasNumbers (stmts_asks l.answer (t_stmts (stmts_of (drop l.x-index l.x-items))) l.slot.number)
