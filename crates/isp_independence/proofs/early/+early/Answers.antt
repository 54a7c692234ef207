use Rattle.std.proofs.Common.{◌≤◌, length, sym, ap, ◌∙◌, arith, drop_of_length-le}
use Rattle.isp_independence.specs.Independent.{leaves_early_block}
use Rattle.isp_independence.proofs.Steps.{or_none}
use Rattle.isp_independence.proofs.Views.{block_view}
use Rattle.isp_independence.proofs.early.+early.Goals as goal

pub leaves_block_early-returns : goal.leaves_block_early-returns
leaves_block_early-returns t c =
    let over : length c.deref-s-items.result.now ≤ c.loop-s.s-index = omega arith in
    let j = rw (drop_of_length-le c.deref-s-items.result.now over) at c.loop-s.invariant in
    sym (or_none c.loop-s.found) ∙ j ∙ (rw c.deref-s-items.ensures.value (sym (ap (leaves_early_block c.args.control) (block_view c.args.b.now))))
