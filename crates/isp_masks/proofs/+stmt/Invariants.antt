-- The recursion goes down the tree, and from a range to those inside. In the loop: the statements so far, with their jumps to the end not written yet, and what
-- the others ask for is there.
use Rattle.std.proofs.Common.{◌≡◌, ◌+◌, ◌-◌, ◌*◌, take, drop, false, length}
use Rattle.isp_typed.specs.Nodes.{stmt_nodes, block_nodes}
use Rattle.isp_typed.specs.Typed.{t_stmts}
use Rattle.isp_typed.specs.Views.{block_of, stmt_of, stmts_of}
use Rattle.isp_lower.specs.Emitted.{Present, layout}
use Rattle.isp_masks_code.specs.Asks.{stmts_asks}
use Rattle.isp_masks.specs.Awaited.{Awaits}
use Rattle.isp_masks.specs.AtWork.{spot_of}
use Rattle.isp_masks_code.specs.Statements.{stmts_places, stmts_texts}
use Rattle.isp_masks.proofs.Lists.{flat, left_after}
use Rattle.isp_masks.specs.reader.Seen.{all_seen}
use Rattle.isp_masks.proofs.+stmt.Given as goal

abbrev pub decreases-statement::stmt : goal.decreases-statement::stmt
decreases-statement::stmt l = 8 * stmt_nodes (stmt_of l.x.stmt.now)

abbrev pub decreases-statement::block : goal.decreases-statement::block
decreases-statement::block l = 8 * block_nodes (block_of l.body.now) - 1

abbrev pub decreases-branches::if_alone : goal.decreases-branches::if_alone
decreases-branches::if_alone l = 8 * stmt_nodes (stmt_of l.then.stmt.now) + 5

abbrev pub decreases-branches::part_by : goal.decreases-branches::part_by
decreases-branches::part_by l = 8 * stmt_nodes (stmt_of l.then.stmt.now) + 4

abbrev pub decreases-branches::part_by_jump : goal.decreases-branches::part_by_jump
decreases-branches::part_by_jump l = 8 * stmt_nodes (stmt_of l.then.stmt.now) + 2

abbrev pub decreases-branches::part_by_mask : goal.decreases-branches::part_by_mask
decreases-branches::part_by_mask l = 8 * stmt_nodes (stmt_of l.then.stmt.now) + 3

abbrev pub decreases-branches::part_kept : goal.decreases-branches::part_kept
decreases-branches::part_kept l = 8 * stmt_nodes (stmt_of l.then.stmt.now) + 2

abbrev pub decreases-branches::part_joined : goal.decreases-branches::part_joined
decreases-branches::part_joined l = 8 * stmt_nodes (stmt_of l.then.stmt.now) + 2

abbrev pub decreases-branches::part_widely : goal.decreases-branches::part_widely
decreases-branches::part_widely l = 8 * stmt_nodes (stmt_of l.then.stmt.now) + 2

abbrev pub decreases-branches::first_widely : goal.decreases-branches::first_widely
decreases-branches::first_widely l = 8 * stmt_nodes (stmt_of l.then.stmt.now) + 1

abbrev pub decreases-branches::under_mask : goal.decreases-branches::under_mask
decreases-branches::under_mask l = 8 * stmt_nodes (stmt_of l.x.stmt.now) + 1

abbrev pub decreases-branches::if_else : goal.decreases-branches::if_else
decreases-branches::if_else l = 8 * (stmt_nodes (stmt_of l.then.stmt.now) + stmt_nodes (stmt_of l.otherwise.stmt.now)) + 5

abbrev pub decreases-branches::parts_by : goal.decreases-branches::parts_by
decreases-branches::parts_by l = 8 * (stmt_nodes (stmt_of l.then.stmt.now) + stmt_nodes (stmt_of l.otherwise.stmt.now)) + 4

abbrev pub decreases-branches::one_of : goal.decreases-branches::one_of
decreases-branches::one_of l = 8 * (stmt_nodes (stmt_of l.then.stmt.now) + stmt_nodes (stmt_of l.otherwise.stmt.now)) + 2

abbrev pub decreases-branches::parted : goal.decreases-branches::parted
decreases-branches::parted l = 8 * (stmt_nodes (stmt_of l.then.stmt.now) + stmt_nodes (stmt_of l.otherwise.stmt.now)) + 3

abbrev pub decreases-branches::both_kept : goal.decreases-branches::both_kept
decreases-branches::both_kept l = 8 * (stmt_nodes (stmt_of l.then.stmt.now) + stmt_nodes (stmt_of l.otherwise.stmt.now)) + 2

abbrev pub decreases-branches::both_joined : goal.decreases-branches::both_joined
decreases-branches::both_joined l = 8 * (stmt_nodes (stmt_of l.then.stmt.now) + stmt_nodes (stmt_of l.otherwise.stmt.now)) + 2

abbrev pub decreases-branches::parted_widely : goal.decreases-branches::parted_widely
decreases-branches::parted_widely l = 8 * (stmt_nodes (stmt_of l.then.stmt.now) + stmt_nodes (stmt_of l.otherwise.stmt.now)) + 3

abbrev pub decreases-branches::others : goal.decreases-branches::others
decreases-branches::others l = 8 * stmt_nodes (stmt_of l.x.stmt.now) + 2

abbrev pub decreases-statement::turn : goal.decreases-statement::turn
decreases-statement::turn l = 8 * stmt_nodes (stmt_of l.body.stmt.now) + 1

abbrev pub decreases-statement::turning : goal.decreases-statement::turning
decreases-statement::turning l = 8 * stmt_nodes (stmt_of l.body.stmt.now) + 2

abbrev pub decreases-statement::do_loop : goal.decreases-statement::do_loop
decreases-statement::do_loop l = 8 * stmt_nodes (stmt_of l.body.stmt.now) + 3

abbrev pub decreases-statement::unmasked : goal.decreases-statement::unmasked
decreases-statement::unmasked l = 8 * block_nodes (block_of l.body.now)

abbrev pub decreases-statement::active_loop : goal.decreases-statement::active_loop
decreases-statement::active_loop l = 8 * stmt_nodes (stmt_of l.body.stmt.now) + 1

abbrev pub decreases-statement::unique_loop : goal.decreases-statement::unique_loop
decreases-statement::unique_loop l = 8 * stmt_nodes (stmt_of l.body.stmt.now) + 1

abbrev pub decreases-statement::passed : goal.decreases-statement::passed
decreases-statement::passed l = 8 * stmt_nodes (stmt_of l.body.stmt.now) + 3

abbrev pub decreases-statement::entered : goal.decreases-statement::entered
decreases-statement::entered l = 8 * stmt_nodes (stmt_of l.body.stmt.now) + 4

abbrev pub decreases-statement::turns : goal.decreases-statement::turns
decreases-statement::turns l = 8 * stmt_nodes (stmt_of l.body.stmt.now) + 5

abbrev pub decreases-statement::foreach : goal.decreases-statement::foreach
decreases-statement::foreach l = 8 * (stmt_nodes (stmt_of l.body.stmt.now) + length l.all.now) + 6

abbrev pub decreases-statement::ranges : goal.decreases-statement::ranges
decreases-statement::ranges l = 8 * (stmt_nodes (stmt_of l.body.stmt.now) + length l.all.now) + 5

abbrev pub decreases-statement::outer_range : goal.decreases-statement::outer_range
decreases-statement::outer_range l = 8 * (stmt_nodes (stmt_of l.body.stmt.now) + length l.all.now) + 4

abbrev pub decreases-statement::outer_turn : goal.decreases-statement::outer_turn
decreases-statement::outer_turn l = 8 * (stmt_nodes (stmt_of l.body.stmt.now) + length l.all.now) + 3

abbrev pub decreases-statement::last_range : goal.decreases-statement::last_range
decreases-statement::last_range l = 8 * stmt_nodes (stmt_of l.body.stmt.now) + 4

abbrev pub decreases-statement::full_runs : goal.decreases-statement::full_runs
decreases-statement::full_runs l = 8 * stmt_nodes (stmt_of l.body.stmt.now) + 2

abbrev pub decreases-statement::rest_run : goal.decreases-statement::rest_run
decreases-statement::rest_run l = 8 * stmt_nodes (stmt_of l.body.stmt.now) + 2

abbrev pub invariant-statement::block-loop-x : goal.invariant-statement::block-loop-x
invariant-statement::block-loop-x l =
    Awaits l.initial.b l.b l.jumps.items l.spot.masks.on.number
    (λ t pc z. flat l.on.answer (spot_of l.spot) t (layout l.on) false (stmts_of (take l.x-index l.x-items)) pc z)
    (stmts_places (layout l.on) (t_stmts (stmts_of (take l.x-index l.x-items)))) (stmts_texts (t_stmts (stmts_of (take l.x-index l.x-items))))
    × (l.left ≡ left_after false (stmts_of (take l.x-index l.x-items)))
    × Present l.on (stmts_asks l.on.answer (t_stmts (stmts_of (drop l.x-index l.x-items))) l.spot.slot.number)
    × (l.rest ≡ all_seen (t_stmts (stmts_of (drop l.x-index l.x-items))))
