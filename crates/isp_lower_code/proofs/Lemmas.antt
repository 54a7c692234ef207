-- What layers above may cite of the proofs of this crate; they name no other module of them.

-- ---- steps of the machine, and how they are put together

pub use Rattle.isp_lower_code.proofs.Base.{not_both, are_front, are_back, put_same, put_other, comes_none, comes_on, step_by, step_is, step_go, step_fail, next_at, at_to, spares_all, spares_less, spares_on}
pub use Rattle.isp_lower_code.proofs.Combine.{bind_runs, runs_after, failed_after, stopped_after, failed_less, stopped_less, set_comes, set_goes, set_masks, set_spares, set_stands}
pub use Rattle.isp_lower_code.proofs.Jumps.{jumped, jump_comes, jump_at, masked, masked_at, where_comes, others_comes}
pub use Rattle.isp_lower_code.proofs.Lines.{set_at, copy_line, place_named}
pub use Rattle.isp_lower_code.proofs.Logic.{any_nobody, where_inside}
pub use Rattle.isp_lower_code.proofs.Rates.{at_kept}
pub use Rattle.isp_lower_code.proofs.Constants.{scalar_put, vector_put}
pub use Rattle.isp_lower_code.proofs.Values.{wrap_bits}
pub use Rattle.isp_lower_code.proofs.Writes.{written_stands}
pub use Rattle.isp_lower_code.proofs.Done.{variable_spares}
pub use Rattle.isp_lower_code.proofs.Consecutive.{none_holds, run_place, run_each, counts_part}
-- ---- what code of values, assignments and declarations does, and what it asks of the trees

pub use Rattle.isp_lower_code.proofs.Exprs.{expr_runs}
pub use Rattle.isp_lower_code.proofs.Leaving.{RunsLeaving, values_leave}
pub use Rattle.isp_lower_code.proofs.InRow.{AllHold}
pub use Rattle.isp_lower_code.proofs.LibraryTypes.{count_of}
pub use Rattle.isp_lower_code.proofs.Nodes.{enters_less, enters_part, operand_runs}
pub use Rattle.isp_lower_code.proofs.Updates.{simple_runs}
pub use Rattle.isp_lower_code.proofs.Items.{items_run}
pub use Rattle.isp_lower_code.proofs.Found.{constant_is_one, few, found_typed, operand_typed}
pub use Rattle.isp_lower_code.proofs.Scalar.{scalar_runs}
pub use Rattle.isp_lower_code.proofs.ScalarPlaces.{scalar_places}
pub use Rattle.isp_lower_code.proofs.RowAccess.{row_reads, row_writes}
pub use Rattle.isp_lower_code.proofs.KnownRows.{known_rows}
pub use Rattle.isp_lower_code.proofs.KnownTables.{granted_known, named_known, table_known}
pub use Rattle.isp_lower_code.proofs.RowSound.{rows_sound}
pub use Rattle.isp_lower_code.proofs.Stayed.{stays_same}
pub use Rattle.isp_lower_code.proofs.Parts.{IsHeldIn, OperandFits, Owned, OwnTable, ExprParts, ValuesParts, SimpleParts, ItemsParts}
pub use Rattle.isp_lower_code.proofs.Fixed.{FixedConstant, fixed_by, fixed_constant, known_on, known_put, knows_nothing, no_run, none_fixed, none_known, uniform_known, unknown_holds, within_fixed}
pub use Rattle.isp_lower_code.proofs.Fitting.{AreFine, expr_fits, operand_fits, owned, values_fit, simple_fits, simple_other, items_fit}
-- ---- its instructions have their operands

pub use Rattle.isp_lower_code.proofs.Trees.{OperandTree, ExprTree, ValuesTree, SimpleTree, ItemsTree}
pub use Rattle.isp_lower_code.proofs.Rated.{expr_tree, operand_tree, simple_tree, items_tree}
pub use Rattle.isp_lower_code.proofs.SoundLines.{sound_both, compare_sound, constant_sound, convert_sound, copy_sound, splat_sound}
pub use Rattle.isp_lower_code.proofs.SoundParts.{here_then}
pub use Rattle.isp_lower_code.proofs.SoundFound.{found_there, operand_there}
pub use Rattle.isp_lower_code.proofs.SoundExprs.{value_sound, values_sound, part_sound}
pub use Rattle.isp_lower_code.proofs.SoundSimples.{simple_sound, items_sound}
pub use Rattle.isp_lower_code.proofs.InRows.{counts, expr_in_rows, in_rows, many, simple_in_rows, with_places, with_rows}
-- ---- registers: those of rows, those with which a function begins, and those that are the function's own

pub use Rattle.isp_lower_code.proofs.Rows.{few_ranks, kept_of, kept_row, kept_there, layout_apart, register_there, row_typed, rows_stay}
pub use Rattle.isp_lower_code.proofs.Begins.{all_grow, begins_self, begins_then, stays_in}
pub use Rattle.isp_lower_code.proofs.FirstRows.{array_at, none_kept, result_at, value_at}
pub use Rattle.isp_lower_code.proofs.Own.{all_held, expr_own, operand_own, simple_own, items_own}
-- ---- what the text of code can have

pub use Rattle.isp_lower_code.proofs.Writable.{all_at, all_both, differ, no_room}
pub use Rattle.isp_lower_code.proofs.SmallNumbers.{numbers_small}
pub use Rattle.isp_lower_code.proofs.SoundConstants.{constants_fit}
pub use Rattle.isp_lower_code.proofs.Spans.{Placed, placed_both, placed_one, expr_placed, shown_placed, simple_placed, items_placed}
-- ---- how long code is, and how many places it names

pub use Rattle.isp_lower_code.proofs.CodeLengths.{expr_long, operand_long, index_long, values_long, simple_long, items_long}
pub use Rattle.isp_lower_code.specs.RowLayout.{RowsShort}
pub use Rattle.isp_lower_code.proofs.PlaceCounts.{expr_places_few, values_places_few, simple_places_few, items_places_few}
-- ---- no number that is asked for is too great, and there are few registers

pub use Rattle.isp_lower_code.proofs.AskNumbers.{expr_some, test_numbers, expr_numbers, operand_numbers, index_numbers, values_numbers, shown_numbers, simple_numbers, item_numbers}
pub use Rattle.isp_lower_code.proofs.AskNumbers.{test_none, expr_registers, operand_registers, index_registers, values_registers, simple_registers, item_registers}
