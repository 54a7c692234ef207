use Rattle.std.proofs.Common.{◌≡◌, suc, ◌∙◌, ap, sym, subst, arith}
use Rattle.std.specs.Prelude.{option_map}
use Rattle.std.proofs.lemmas.Result.{on_ok_weaker}
use Rattle.isp_typed.specs.Nodes.{stmts_nodes, block_nodes}
use Rattle.isp_typed.specs.Typed.{TStmt, t_for, t_stmts}
use Rattle.isp_typed.proofs.StmtViews.{for_view}
use Rattle.isp_typed.specs.Views.{block_of, expr_of, first_of, simple_of, stmt_of, stmts_of}
use Rattle.isp_base.specs.declared.types.Elem.TheVariants.{I64}
use Rattle.isp_base.specs.declared.types.Rate.TheVariants.{Uniform}
use Rattle.isp_lower_code.specs.Room.{HasNumbers}
use Rattle.isp_registers.specs.Reserved.{Gives}
use Rattle.isp_registers.proofs.Lemmas.{both_given, gives_none}
use Rattle.isp_masks_reserve.proofs.Reserving.{variable_reserved}
use Rattle.isp_masks_code.specs.Asks.{block_asks, stmt_asks, stmts_asks}
use Rattle.isp_masks_code.proofs.Lemmas.{block_view, nodes_low, stmts_more, stmts_end}
use Rattle.isp_masks_reserve.proofs.reserved.+stmt.Goals as goal

pub one_side-returns : goal.one_side-returns
one_side-returns t c =
    rw (← c.ty-rate.ensures, ← c.part-next.ensures.number) (both_given _ _ _ _ _ c.in_ok-expr.ensures (both_given _ _ _ _ _ c.part-next.ensures.gives c.in_ok-stmt.ensures))

pub two_sides-returns : goal.two_sides-returns
two_sides-returns t c =
    rw (← c.ty-rate.ensures, ← c.part-next.ensures.number)
    (both_given _ _ _ _ _ c.in_ok-expr.ensures (both_given _ _ _ _ _ c.part-next.ensures.gives (both_given _ _ _ _ _ c.in_ok-stmt.ensures c.in_ok-stmt-2.ensures)))

pub block-stmt-requires : goal.block-stmt-requires
block-stmt-requires t c =
    let low = nodes_low c.deref-x-items.result.now c.loop-x.x-index c.x-item.result c.loop-x-test.true c.x-item.is in
    let all : block_nodes (block_of c.args.body.now) ≡ suc (stmts_nodes (t_stmts (stmts_of c.deref-x-items.result.now))) =
    ap block_nodes (block_view c.args.body.now) ∙ ap (λ zs. suc (stmts_nodes (t_stmts (stmts_of zs)))) (sym c.deref-x-items.ensures.value) in
    let more = stmts_more c.args.answer c.args.slot.number c.deref-x-items.result.now c.loop-x.x-index c.x-item.result c.loop-x-test.true c.x-item.is in
    (omega (arith, low, all, c.decreases), (subst HasNumbers more c.loop-x.invariant.1).0)

pub block-loop-x-preserved : goal.block-loop-x-preserved
block-loop-x-preserved t c =
    let more = stmts_more c.args.answer c.args.slot.number c.deref-x-items.result.now c.loop-x.x-index c.x-item.result c.loop-x-test.true c.x-item.is in (
      λ k g. c.loop-x.invariant.0 k (subst (λ a. Gives c.loop-x.r k a) (sym more) (both_given c.loop-x.r c.stmt.new.r k _ _ c.in_ok-stmt.ensures g)),
      (subst HasNumbers more c.loop-x.invariant.1).1,
    )

pub block-loop-x-init : goal.block-loop-x-init
block-loop-x-init t c =
    let n = c.args.slot.number in
    let whole = subst (λ z. HasNumbers (block_asks c.args.answer z n)) (block_view c.args.body.now) c.requires in
    (λ k g. g, subst (λ zs. HasNumbers (stmts_asks c.args.answer (t_stmts (stmts_of zs)) n)) (sym c.deref-x-items.ensures.value) whole)

pub block-returns : goal.block-returns
block-returns t c =
    let items = c.deref-x-items.result.now in
    let has = c.loop-x.invariant.0 c.loop-x.r (subst (λ a. Gives c.loop-x.r c.loop-x.r a) (sym (stmts_end c.args.answer c.args.slot.number items c.loop-x.x-index c.loop-x-test.false)) (gives_none c.loop-x.r)) in
    subst (λ z. Gives c.args.r.now c.loop-x.r (block_asks c.args.answer z c.args.slot.number)) (sym (block_view c.args.body.now))
    (subst (λ zs. Gives c.args.r.now c.loop-x.r (stmts_asks c.args.answer (t_stmts (stmts_of zs)) c.args.slot.number)) c.deref-x-items.ensures.value has)

pub while_loop-returns : goal.while_loop-returns
while_loop-returns t c =
    both_given _ _ _ _ _ c.own-parts.ensures.gives (both_given _ _ _ _ _ (rw c.own-parts.ensures.number at c.in_ok-expr.ensures) (rw c.own-parts.ensures.number at c.in_ok-stmt.ensures))

pub do_loop-returns : goal.do_loop-returns
do_loop-returns t c =
    both_given _ _ _ _ _ c.own-parts.ensures.gives (both_given _ _ _ _ _ (rw c.own-parts.ensures.number at c.in_ok-stmt.ensures) (rw c.own-parts.ensures.number at c.in_ok-expr.ensures))

pub unmasked-returns : goal.unmasked-returns
unmasked-returns t c = both_given _ _ _ _ _ c.own-parts.ensures.gives (rw c.own-parts.ensures.number at c.in_ok-block.ensures)

pub active_loop-returns : goal.active_loop-returns
active_loop-returns t c =
    let index = variable_reserved c.args.r.now Uniform c.args.index I64 in
    both_given _ _ _ _ _
    (both_given _ _ _ _ _ index (both_given _ _ _ _ _ (rw c.next-one.ensures.number at c.next-one.ensures.gives) (both_given _ _ _ _ _ c.mask.ensures (rw c.next-one.ensures.number at c.own-parts.ensures.gives))))
    (rw (c.own-parts.ensures.number, c.next-one.ensures.number) at c.in_ok-stmt.ensures)

pub unique_loop-returns : goal.unique_loop-returns
unique_loop-returns t c = both_given _ _ _ _ _ c.in_ok-parts.ensures.gives (rw c.in_ok-parts.ensures.number at c.in_ok-stmt.ensures)

pub range_loop-returns : goal.range_loop-returns
range_loop-returns t c = both_given _ _ _ _ _ c.in_ok-parts.ensures.gives (rw c.in_ok-parts.ensures.number at c.in_ok-stmt.ensures)

pub turns-returns : goal.turns-returns
turns-returns t c =
    both_given _ _ _ _ _ c.own-parts.ensures.gives
    (both_given _ _ _ _ _ (rw c.own-parts.ensures.number at c.in_ok-test_part.ensures) (both_given _ _ _ _ _ (rw c.own-parts.ensures.number at c.in_ok-step_part.ensures) (rw c.own-parts.ensures.number at c.in_ok-stmt.ensures)))

pub stmt-returns-in_ok-first_part-in-For : goal.stmt-returns-in_ok-first_part-in-For
stmt-returns-in_ok-first_part-in-For t c =
    let a = c.args in
    let e = c.in-For in
    let so = λ (z : TStmt). Gives a.r.now c.turns.new.r (stmt_asks a.answer z a.slot.number) in
    on_ok_weaker c.turns.result
    (λ w. subst so (sym (ap stmt_of e.is ∙ for_view e.form e.before e.first e.test e.step e.inside e.body e.span))
    (subst (λ z. so (t_for e.form e.before (option_map first_of e.first) (option_map expr_of e.test) (option_map simple_of e.step) e.inside (stmt_of z) e.span)) c.deref-in-For.ensures
    (both_given _ _ _ _ _ c.in_ok-first_part-in-For.ensures w)))
    c.turns.ensures
