use Rattle.std.proofs.Common.{arith}
use Rattle.std.proofs.lemmas.Result.{on_ok_weaker}
use Rattle.isp_typed.specs.Views.{function_of}
use Rattle.isp_lower_code.specs.Asks.{Both}
use Rattle.isp_registers.proofs.Lemmas.{all_there, both_given}
use Rattle.isp_masks_code.specs.Asks.{block_asks, result_asks}
use Rattle.isp_masks_code.specs.Keeping.{constants_asks}
use Rattle.isp_masks_code.proofs.Lemmas.{constants_numbers, result_own}
use Rattle.isp_masks.proofs.ConstantRows.{constants_own}
use Rattle.isp_masks.proofs.Routines.{result_reserved}
use Rattle.isp_masks.proofs.routine.reserve.Goals as goal

pub returns-clause-rows : goal.returns-clause-rows
returns-clause-rows c = on_ok_weaker c.block.result (λ g. (both_given c.args.asked.now c.reserved.new.r c.block.new.r _ _ c.in_ok-reserved.ensures g).rows) c.block.ensures

pub returns-clause-masks : goal.returns-clause-masks
returns-clause-masks c = on_ok_weaker c.block.result (λ g. (both_given c.args.asked.now c.reserved.new.r c.block.new.r _ _ c.in_ok-reserved.ensures g).masks) c.block.ensures

pub returns-clause-body : goal.returns-clause-body
returns-clause-body c =
    let h = function_of c.args.f.now in
    on_ok_weaker c.block.result
    (λ g.
    let both = both_given c.args.asked.now c.reserved.new.r c.block.new.r _ _ c.in_ok-reserved.ensures g in
    all_there h.variables h.answer c.args.asked.now.registers c.requires.first c.block.new.r both.rows
    (Both (constants_asks 3 c.args.kept.now) (block_asks h.answer h.body 3)) both.has
    (constants_own h.variables h.answer 3 c.args.kept.now, c.requires.own))
    c.block.ensures

pub returns-clause-result : goal.returns-clause-result
returns-clause-result c =
    let h = function_of c.args.f.now in
    on_ok_weaker c.block.result
    (λ g.
    let both = both_given c.args.asked.now c.reserved.new.r c.block.new.r _ _ c.in_ok-reserved.ensures g in
    all_there h.variables h.answer c.args.asked.now.registers c.requires.first c.block.new.r both.rows (result_asks h.answer) (result_reserved c.block.new.r h.answer) (result_own h.variables h.answer))
    c.block.ensures

pub returns-clause-few : goal.returns-clause-few
returns-clause-few c =
    on_ok_weaker c.block.result
    (λ g.
    let both = both_given c.args.asked.now c.reserved.new.r c.block.new.r _ _ c.in_ok-reserved.ensures g in
    both.few)
    c.block.ensures

pub returns-clause-masks_are : goal.returns-clause-masks_are
returns-clause-masks_are c =
    on_ok_weaker c.block.result (λ g. (both_given c.args.asked.now c.reserved.new.r c.block.new.r _ _ c.in_ok-reserved.ensures g).masks_are) c.block.ensures

pub reserved-requires : goal.reserved-requires
reserved-requires c = constants_numbers 3 c.args.kept.now (omega arith)
