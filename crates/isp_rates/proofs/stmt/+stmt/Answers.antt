use Rattle.std.proofs.Common.{◌≤◌, length, sym, ap, ◌∙◌, refl, arith, drop_of_length-le}
use Rattle.std.specs.Prelude.{List}
use Rattle.isp_typed.specs.declared.stmt.TypedStmt as rust
use Rattle.isp_typed.specs.Typed.{t_stmts}
use Rattle.isp_typed.specs.Views.{functions_of, stmt_of, stmts_of}
use Rattle.isp_typed.proofs.Order.{first_none}
use Rattle.isp_rates.specs.reader.Faults.{block_fault, stmt_fault, stmts_fault}
use Rattle.isp_rates.proofs.Steps.{each_step}
use Rattle.isp_rates.proofs.Views.{block_view}
use Rattle.isp_rates.proofs.stmt.+stmt.Goals as goal

pub block-loop-s-preserved : goal.block-loop-s-preserved
block-loop-s-preserved t c =
    let fs = functions_of c.args.functions.now in
    rw (c.first-seen.ensures, c.stmt.ensures)
    (each_step (λ (xs : List rust.TypedStmt). stmts_fault fs c.args.answer c.args.within (t_stmts (stmts_of xs)))
    (λ (x : rust.TypedStmt). stmt_fault fs c.args.answer c.args.within (stmt_of x)) (λ x xs. refl)
    c.deref-s-items.result.now c.loop-s.s-index c.s-item.result c.loop-s.seen _ c.loop-s-test.true c.s-item.is c.loop-s.invariant)

pub block-returns : goal.block-returns
block-returns t c =
    let fs = functions_of c.args.functions.now in
    let over : length c.deref-s-items.result.now ≤ c.loop-s.s-index = omega arith in
    let j = rw (drop_of_length-le c.deref-s-items.result.now over) at c.loop-s.invariant in
    sym (first_none c.loop-s.seen) ∙ j ∙ (rw c.deref-s-items.ensures.value (sym (ap (block_fault fs c.args.answer c.args.within) (block_view c.args.b.now))))
