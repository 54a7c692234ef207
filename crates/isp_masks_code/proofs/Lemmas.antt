-- What layers above may cite of the proofs of this crate; they name no other module of them.

-- ---- the code of a program agrees with it, and its text can be written

pub use Rattle.isp_masks_code.proofs.Lowers.{lowered_agrees, numbers_fit, routines_fit}
pub use Rattle.isp_masks_code.proofs.Spans.{block_placed, block_told}
pub use Rattle.isp_masks_code.proofs.CodeLengths.{block_places_few, block_texts_few}
-- ---- what a body asks for is the function's own, and no number of it is too great

pub use Rattle.isp_masks_code.proofs.Own.{body_own, heading_fits, result_own}
pub use Rattle.isp_masks_code.proofs.AskNumbers.{constants_numbers, constants_registers}
pub use Rattle.isp_masks_code.proofs.FewVariables.{ranges_low}
pub use Rattle.isp_masks_code.proofs.ListsAsked.{asked, asked_end, asked_more, left_of, nodes_low, numbers_more, ranges_end, ranges_more, stmts_end, stmts_more}
pub use Rattle.isp_masks_code.proofs.SmallFunctions.{functions_small}
-- ---- the views of trees at a node

pub use Rattle.isp_masks_code.proofs.Views.{block_view, part_is}
-- ---- a longer run ends as a shorter one, and has written as much at least

pub use Rattle.isp_masks_code.proofs.Endings.{longer, grows}
