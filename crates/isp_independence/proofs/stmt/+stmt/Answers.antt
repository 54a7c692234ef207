use Rattle.std.proofs.Common.{◌≤◌, length, sym, ap, ◌∙◌, refl, arith, drop_of_length-le}
use Rattle.std.specs.Prelude.{List}
use Rattle.isp_typed.specs.declared.stmt.TypedStmt as rust
use Rattle.isp_typed.specs.Typed.{t_stmts}
use Rattle.isp_typed.specs.Views.{stmt_of, stmts_of}
use Rattle.isp_independence.specs.reader.Answers.{block_answer, stmt_answer, stmts_answer}
use Rattle.isp_independence.proofs.Order.{first_none}
use Rattle.isp_independence.proofs.Steps.{each_step}
use Rattle.isp_independence.proofs.Views.{block_view, for_view}
use Rattle.isp_independence.proofs.stmt.+stmt.Goals as goal

pub block-loop-s-preserved : goal.block-loop-s-preserved
block-loop-s-preserved t c =
    rw (c.first-seen.ensures, c.stmt.ensures)
    (each_step (λ (xs : List rust.TypedStmt). stmts_answer c.args.control (t_stmts (stmts_of xs)))
    (λ (x : rust.TypedStmt). stmt_answer c.args.control (stmt_of x)) (λ x xs. refl)
    c.deref-s-items.result.now c.loop-s.s-index c.s-item.result c.loop-s.seen _ c.loop-s-test.true c.s-item.is c.loop-s.invariant)

pub block-returns : goal.block-returns
block-returns t c =
    let over : length c.deref-s-items.result.now ≤ c.loop-s.s-index = omega arith in
    let j = rw (drop_of_length-le c.deref-s-items.result.now over) at c.loop-s.invariant in
    sym (first_none c.loop-s.seen) ∙ j ∙ (rw c.deref-s-items.ensures.value (sym (ap (block_answer c.args.control) (block_view c.args.b.now))))

pub stmt-returns-in-For : goal.stmt-returns-in-For
stmt-returns-in-For t c =
    rw (
      c.first-in-For-3.ensures,
      c.first-in-For-2.ensures,
      c.first-in-For.ensures,
      c.beginning-begun.ensures,
      c.given-asked.ensures,
      c.step-after.ensures,
      c.stmt-inner-in-For.ensures,
      c.turn-in-For.ensures,
      c.of_loop-around-in-For.ensures,
      c.test_rate.ensures,
      c.deref-in-For.ensures,
      c.deref-in-For-2.ensures,
      c.deref-in-For-3.ensures,
      c.in-For.is,
    )
    (sym (ap (stmt_answer c.args.control) (for_view c.in-For.form c.in-For.before c.in-For.part c.in-For.test c.in-For.last c.in-For.inside c.in-For.body c.in-For.span)))
