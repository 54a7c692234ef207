use Rattle.std.proofs.Common.{refl, ◌≡◌, ◌≤◌, List, [], ◌∷◌, ◌++◌, length, sym, ap, subst, ◌∙◌, arith, false, not, suc, take, take_all, drop, ◌<◌, ◌+◌, ◌-◌, Bool, Bor, Option}
use Rattle.std.specs.Prelude.{option_map, slice_set}
use Rattle.isp_code.specs.declared.instr.Instr.{Instr}
use Rattle.isp_code.specs.declared.instr.JumpTest.TheVariants as jump
use Rattle.isp_lower_code.specs.Instructions.{jump_off, jump_on, the_others, where_so}
use Rattle.isp_lower_code.specs.Pieces.{guard, two}
use Rattle.isp_lower.specs.Emitted.{Appends, Present, layout}
use Rattle.isp_lower.specs.declared.sites.Site.{Site}
use Rattle.isp_typed.specs.Nodes.{block_nodes, stmts_nodes, range_nodes, stmt_nodes, typed_nodes}
use Rattle.isp_typed.specs.Typed.{TBlock, TExpr, TSimple, TStmt, elem_of, t_braces, t_if, t_if_else, t_while, t_for, t_stmts, t_foreach, t_foreach_unique}
use Rattle.isp_typed.specs.Views.{block_of, expr_of, first_of, simple_of, stmt_of, stmts_of, range_of, ranges_of}
use Rattle.isp_typed.specs.declared.expr.TypedExpr.{TypedExpr}
use Rattle.isp_typed.specs.declared.stmt.TypedRange.{TypedRange}
use Rattle.isp_typed.specs.declared.stmt.TypedSimple.{TypedSimple}
use Rattle.isp_typed.proofs.StmtViews.{if_view, if_else_view, while_view, for_view, foreach_view, unique_view}
use Rattle.isp_tree.specs.Nodes.{nodes_of_all}
use Rattle.std.proofs.lemmas.List.{drop_all, drop_more}
use Rattle.std.proofs.lemmas.Result.{on_ok_weaker}
use Rattle.isp_masks.specs.Awaited.{AreBelow, Awaits, set_all}
use Rattle.isp_masks_code.specs.Exits.{all_go_on, nobody_leaves}
use Rattle.isp_masks_code.specs.Fors.{first_code, first_places}
use Rattle.isp_masks_code.specs.Loops.{copy_mask, jump_all, sift_jump}
use Rattle.isp_masks_code.specs.Sets.{unite}
use Rattle.isp_masks_code.specs.Rounds.{fill_mask, value_code, values_of}
use Rattle.isp_masks_code.specs.Spots.{Numbers, widely}
use Rattle.isp_masks.specs.AtWork.{next_of, own_spot, spot_of}
use Rattle.isp_masks_code.specs.Statements.{behind, left_code, run_bodies, stmt_code, stmt_places, stmt_texts, stmts_code, stmts_places, stmts_texts, body_code, body_layout}
use Rattle.isp_masks.specs.Written.{Piece, Writes, block_at, guarded_at, kept_at, next_at, step_in, stmt_at, test_in, turn_at, turning_at, turns_at, first_sweep, index_codes, outer_turn_at, place_test, range_begin, range_step, ranges_at, full_at, indices_at, rest_at, runs_begin}
use Rattle.isp_masks.proofs.Awaiting.{awaits_end}
use Rattle.isp_masks.proofs.Forms.{list_step}
use Rattle.isp_masks.proofs.JumpsWritten.{left_written}
use Rattle.isp_masks.proofs.WidelyWritten.{first_widely_written}
use Rattle.isp_masks.proofs.Lists.{flat, flat_is}
use Rattle.isp_masks.proofs.Splits.{seen_begins, seen_rest}
use Rattle.isp_masks.proofs.Sifting.{for_written, sifted, turns_written}
use Rattle.isp_masks_code.proofs.Lemmas.{block_view, part_is, ranges_low, nodes_low, stmts_more}
use Rattle.isp_masks.proofs.Writing.{chosen_of, landed_over, rounds_written, writes_adding, writes_back, writes_past}
use Rattle.isp_base.specs.declared.types.Rate.TheVariants.{Uniform}
use Rattle.isp_code.specs.declared.instr.Instr.TheVariants as instr
use Rattle.isp_masks_code.specs.Ranges.{bounds_code, full_back, full_code, refill, measures_code, range_mask, ranges_places, rest_run, run_place, runs_slot, test, wide}
use Rattle.isp_masks.proofs.RangesWritten.{foreach_written, full_written, goes_on_codes, rest_written, last_written, outer_written, ranges_count, ranges_outer, sweep_there, sweep_written}
use Rattle.isp_masks_code.specs.Asks.{stmt_asks}
use Rattle.isp_lower_code.specs.Layout.{Layout, mask_register, register, within}
use Rattle.isp_base.specs.declared.types.Ty.{Ty}
use Rattle.isp_masks.specs.declared.masks.Spot.{Spot}
use Rattle.isp_registers.specs.declared.numbered.MaskNumber.{MaskNumber}
use Rattle.isp_registers.specs.declared.numbered.Slot.{Slot}
use Rattle.isp_masks.specs.declared.ranges.OuterIndex.{OuterIndex}
use Rattle.isp_masks.specs.declared.ranges.Sweep.{Sweep}
use Rattle.isp_masks.proofs.+stmt.Goals as goal

pub statement::stmt-returns-in-If : goal.statement::stmt-returns-in-If
statement::stmt-returns-in-If t c =
    let a = c.args in
    let l = layout a.on.now in
    let h = a.on.now.answer in
    let e = c.in-If in
    let so = λ (z : TStmt). Writes a.b.now c.if_alone.new.b (stmt_at a.on.now z a.spot) in
    on_ok_weaker c.if_alone.result
    (λ w. subst so (sym (ap stmt_of e.is ∙ if_view e.form e.before e.test e.then e.span)) (subst (λ y. so (t_if e.form e.before (expr_of e.test) (stmt_of y) e.span)) (c.only.ensures ∙ c.deref-in-If.ensures) w))
    c.if_alone.ensures

pub statement::stmt-returns-in-IfElse : goal.statement::stmt-returns-in-IfElse
statement::stmt-returns-in-IfElse t c =
    let a = c.args in
    let l = layout a.on.now in
    let h = a.on.now.answer in
    let e = c.in-IfElse in
    let so = λ (z : TStmt). Writes a.b.now c.if_else.new.b (stmt_at a.on.now z a.spot) in
    on_ok_weaker c.if_else.result
    (λ w. subst so (sym (ap stmt_of e.is ∙ if_else_view e.form e.before e.test e.then e.otherwise e.span))
    (subst (λ y. so (t_if_else e.form e.before (expr_of e.test) (stmt_of y) (stmt_of e.otherwise.value) e.span)) (c.two.ensures.first ∙ c.deref-in-IfElse.ensures)
    (subst (λ y. so (t_if_else e.form e.before (expr_of e.test) (stmt_of c.two.result.0.stmt.now) (stmt_of y) e.span)) (c.two.ensures.second ∙ c.deref-in-IfElse-2.ensures) w)))
    c.if_else.ensures

pub branches::under_mask-returns : goal.branches::under_mask-returns
branches::under_mask-returns t c =
    let a = c.args in
    let l = layout a.on.now in
    let x = stmt_of a.x.stmt.now in
    landed_over a.b.now c.push.new.self c.stmt.new.b c.land.new.self c.len-at.result _ (jump_off a.site.mask.number)
    (record { code = λ pc z. stmt_code l a.on.now.answer x pc z (record (spot_of a.spot) { on = a.site.mask.number; slot = a.site.slot.number }); places = stmt_places l x; texts = stmt_texts x })
    (c.len-at.ensures ∙ a.b.now.code.ok.0) c.in_ok-push.ensures c.in_ok-stmt.ensures (cc) c.land.ensures.places c.land.ensures.texts

pub branches::part_by_mask-returns-in-Always : goal.branches::part_by_mask-returns-in-Always
branches::part_by_mask-returns-in-Always t c =
    let a = c.args in
    let x = stmt_of a.then.stmt.now in
    let j = c.in-Always.jump in
    let to = λ (k : MaskNumber). Appends a.b.now c.leave_by.new.b (λ pc p. left_code j a.tested.number a.spot.masks.on.number a.spot.masks.continued.number k.number) [] in
    on_ok_weaker c.leave_by.result (λ w. left_written a.on.now a.b.now c.leave_by.new.b x a.spot a.tested.number j (sym c.leaving.ensures ∙ c.in-Always.is) (subst to c.mask.ensures w)) c.leave_by.ensures

pub branches::first_widely-returns : goal.branches::first_widely-returns
branches::first_widely-returns t c =
    let a = c.args in
    let x = stmt_of a.then.stmt.now in
    let l = layout a.on.now in
    let k = a.spot.masks.on.number in
    let n = a.spot.slot.number in
    let tested = c.push.new.self in
    let set = c.set_apart_unless_all.new.b in
    let passed : c.mask-passed.result.number ≡ n = ap (λ (m : MaskNumber). m.number) c.mask-passed.ensures in
    let beside : c.next-beside.result.number ≡ n + 1 = ap (λ (s : Slot). s.number) c.next-beside.ensures in
    let others : c.mask-others.result.number ≡ n + 1 = ap (λ (m : MaskNumber). m.number) c.mask-others.ensures ∙ beside in
    let slot : c.next-slot.result.number ≡ n + 1 + 1 = ap (λ (s : Slot). s.number) c.next-slot.ensures ∙ ap (λ i. i + 1) beside in
    let first = subst (λ (i : Instr). Appends a.b.now tested (λ pc p. i ∷ []) []) c.where_so.ensures c.in_ok-push.ensures in
    let test = subst (λ i. Appends a.b.now tested (λ pc p. where_so i a.tested.number k ∷ []) []) passed first in
    let asked = subst (λ i. Appends tested set (λ pc p. guard (jump_all i) pc (λ pc1. the_others c.mask-others.result.number k i ∷ copy_mask k i ∷ instr.Jump 0 ∷ [])) []) passed c.in_ok-at.ensures.adds in
    let apart = subst (λ i. Appends tested set (λ pc p. guard (jump_all n) pc (λ pc1. the_others i k n ∷ copy_mask k n ∷ instr.Jump 0 ∷ [])) []) others asked in
    let inside = subst (λ i. Writes set c.stmt.new.b (record { code = λ pc z. stmt_code l a.on.now.answer x pc z (record (spot_of a.spot) { slot = i }); places = stmt_places l x; texts = stmt_texts x })) slot c.in_ok-stmt.ensures in
    first_widely_written a.b.now tested set c.stmt.new.b c.land.new.self c.in_ok-at.at n a.tested.number k (λ pc z. stmt_code l a.on.now.answer x pc z (widely k (spot_of a.spot))) (stmt_places l x) (stmt_texts x)
    c.in_ok-at.ensures.room test apart inside (cc) c.land.ensures.places c.land.ensures.texts

pub branches::part_by_jump-returns : goal.branches::part_by_jump-returns
branches::part_by_jump-returns t c =
    let a = c.args in
    landed_over a.b.now c.push.new.self c.stmt.new.b c.land.new.self c.len-at.result _ (jump_on jump.False a.tested.number) (stmt_at a.on.now (stmt_of a.then.stmt.now) a.spot)
    (c.len-at.ensures ∙ a.b.now.code.ok.0) c.in_ok-push.ensures c.in_ok-stmt.ensures (cc) c.land.ensures.places c.land.ensures.texts

pub branches::one_of-returns : goal.branches::one_of-returns
branches::one_of-returns t c =
    let a = c.args in
    chosen_of a.b.now c.push.new.self c.stmt.new.b c.push-2.new.self c.land.new.self c.stmt-2.new.b c.land_always.new.self c.len-at.result c.len-over.result _ _ (jump_on jump.False a.tested.number)
    (stmt_at a.on.now (stmt_of a.then.stmt.now) a.spot) (stmt_at a.on.now (stmt_of a.otherwise.stmt.now) a.spot)
    (c.len-at.ensures ∙ a.b.now.code.ok.0) c.in_ok-push.ensures c.in_ok-stmt.ensures (c.len-over.ensures ∙ c.stmt.new.b.code.ok.0) c.in_ok-push-2.ensures
    (cc) c.land.ensures.places c.land.ensures.texts c.in_ok-stmt-2.ensures c.land_always.ensures.code c.land_always.ensures.places c.land_always.ensures.texts

pub branches::others-returns : goal.branches::others-returns
branches::others-returns t c =
    let a = c.args in
    let all = a.spot.masks.on.number in
    let k = a.site.mask.number in
    let part = guarded_at a.on.now (stmt_of a.x.stmt.now) a.spot k a.site.slot.number in
    let both = writes_back c.push.new.self c.under_mask.new.b c.join_where.new.b part (λ pc p. unite all all k ∷ []) c.in_ok-under_mask.ensures c.in_ok-join_where.ensures in
    let whole : Piece = record { code = λ pc z. part.code pc z ++ unite all all k ∷ []; places = part.places; texts = part.texts } in
    landed_over a.b.now c.push.new.self c.join_where.new.b c.land.new.self c.len-at.result _ (jump_all a.passed.number) whole
    (c.len-at.ensures ∙ a.b.now.code.ok.0) c.in_ok-push.ensures both (cc) c.land.ensures.places c.land.ensures.texts

pub statement::block-stmt-requires : goal.statement::block-stmt-requires
statement::block-stmt-requires t c =
    let a = c.args in
    let items = c.deref-x-items.result.now in
    let low = nodes_low items c.loop-x.x-index c.x-item.result c.loop-x-test.true c.x-item.is in
    let all : block_nodes (block_of a.body.now) ≡ suc (stmts_nodes (t_stmts (stmts_of items))) =
    ap block_nodes (block_view a.body.now) ∙ ap (λ zs. suc (stmts_nodes (t_stmts (stmts_of zs)))) (sym c.deref-x-items.ensures.value) in
    let asked = subst (Present a.on.now) (stmts_more a.on.now.answer a.spot.slot.number items c.loop-x.x-index c.x-item.result c.loop-x-test.true c.x-item.is) c.loop-x.invariant.2 in
    let same = ap (λ z. stmt_nodes (stmt_of z)) c.split.ensures.part in
    (omega (arith, low, all, same, c.decreases), subst (λ z. Present a.on.now (stmt_asks a.on.now.answer (stmt_of z) a.spot.slot.number)) (sym c.split.ensures.part) asked.0)

pub statement::block-split-requires : goal.statement::block-split-requires
statement::block-split-requires t c =
    seen_begins c.deref-x-items.result.now c.loop-x.x-index c.x-item.result c.loop-x.rest.now c.loop-x-test.true c.x-item.is c.loop-x.invariant.3

pub statement::block-land_all-requires : goal.statement::block-land_all-requires
statement::block-land_all-requires t c = subst (AreBelow (length c.loop-x.b.code.items)) (sym c.as_slice.ensures.value) c.loop-x.invariant.0.low

pub statement::block-loop-x-preserved : goal.statement::block-loop-x-preserved
statement::block-loop-x-preserved t c =
    let a = c.args in
    let items = c.deref-x-items.result.now in
    let part = c.split.ensures.part in
    let wrote = subst (λ z. Writes c.leave_room.new.b c.stmt.new.b (stmt_at a.on.now (stmt_of z) a.spot)) part c.in_ok-stmt.ensures in
    let gone = ap not (c.all_go_on-left.ensures ∙ ap (λ z. all_go_on (stmt_of z)) part) in
    let step = list_step a.on.now.answer (spot_of a.spot) (layout a.on.now) a.b.now c.loop-x.b c.leave_room.new.b c.stmt.new.b c.loop-x.jumps.items c.leave_room.new.jumps.items c.loop-x.left _ items c.loop-x.x-index c.x-item.result
    c.loop-x-test.true c.x-item.is c.loop-x.invariant.0 c.loop-x.invariant.1 c.in_ok-leave_room.ensures wrote gone in
    let asked = subst (Present a.on.now) (stmts_more a.on.now.answer a.spot.slot.number items c.loop-x.x-index c.x-item.result c.loop-x-test.true c.x-item.is) c.loop-x.invariant.2 in
    (step.0, step.1, asked.1, seen_rest items c.loop-x.x-index c.x-item.result c.loop-x.rest.now c.split.result.1.now c.loop-x-test.true c.x-item.is c.loop-x.invariant.3 c.split.ensures.rest)

pub statement::block-returns : goal.statement::block-returns
statement::block-returns t c =
    let a = c.args in
    let s = spot_of a.spot in
    let l = layout a.on.now in
    let h = a.on.now.answer in
    let items = c.deref-x-items.result.now in
    let xs = stmts_of items in
    let over : length items ≤ c.loop-x.x-index = omega arith in
    let seen : block_of a.body.now ≡ t_braces (t_stmts xs) a.body.now.span = block_view a.body.now ∙ ap (λ zs. t_braces (t_stmts (stmts_of zs)) a.body.now.span) (sym c.deref-x-items.ensures.value) in
    subst (λ (z : TBlock). Writes a.b.now c.land_all.new.b (block_at a.on.now z a.spot)) (sym seen)
    (awaits_end a.b.now c.loop-x.b c.land_all.new.b c.loop-x.jumps.items s.on (λ t pc z. flat h s t l false xs pc z) (stmts_places l (t_stmts xs)) (stmts_texts (t_stmts xs)) (λ pc z. stmts_code l h (t_stmts xs) pc z s)
    (subst (λ zs. Awaits a.b.now c.loop-x.b c.loop-x.jumps.items s.on (λ t pc z. flat h s t l false (stmts_of zs) pc z)
    (stmts_places l (t_stmts (stmts_of zs))) (stmts_texts (t_stmts (stmts_of zs)))) (take_all c.loop-x.x-index items over) c.loop-x.invariant.0)
    (c.land_all.ensures.code ∙ ap (λ js. set_all c.loop-x.b.code.items js (jump_off s.on (length c.loop-x.b.code.items))) c.as_slice.ensures.value)
    c.land_all.ensures.places c.land_all.ensures.texts
    (λ t pc z e. flat_is h s t l xs pc z e))

pub statement::stmt-returns-in-While : goal.statement::stmt-returns-in-While
statement::stmt-returns-in-While t c =
    let a = c.args in
    let e = c.in-While in
    let so = λ (z : TStmt). Writes a.b.now c.turns.new.b (stmt_at a.on.now z a.spot) in
    on_ok_weaker c.turns.result
    (λ w. subst so (sym (ap stmt_of e.is ∙ while_view e.form e.before e.test e.body e.span)) (subst (λ y. so (t_while e.form e.before (expr_of e.test) (stmt_of y) e.span)) (c.only-in-While.ensures ∙ c.deref-in-While.ensures) w))
    c.turns.ensures

pub statement::turning-returns : goal.statement::turning-returns
statement::turning-returns t c =
    let a = c.args in
    let back = next_at a.on.now (nobody_leaves a.it.exits) (test_in a.by) (step_in a.by) a.it.slot.number c.next-top.result in
    let all = writes_adding a.b.now c.turn.new.b c.next_turn.new.b (turn_at a.on.now (stmt_of a.body.stmt.now) a.it) back.code back.places c.in_ok-turn.ensures c.in_ok-next_turn.ensures in
    turns_written a.on.now a.b.now c.next_turn.new.b (test_in a.by) (step_in a.by) (stmt_of a.body.stmt.now) a.it c.next-top.result c.next-top.ensures all

pub statement::passed-returns : goal.statement::passed-returns
statement::passed-returns t c =
    let a = c.args in
    let n = a.it.slot.number in
    let turns = turning_at a.on.now (test_in a.by) (step_in a.by) (stmt_of a.body.stmt.now) a.it in
    sifted a.b.now c.sift.new.b c.land_sift.new.b a.test.rate a.test.register.number n turns c.in_ok-sift.ensures
    (landed_over c.sift.new.b c.push.new.self c.turning.new.b c.land_sift.new.b c.len-at.result _ (sift_jump a.test.rate a.test.register.number n) turns
    (c.len-at.ensures ∙ c.sift.new.b.code.ok.0) c.in_ok-push.ensures c.in_ok-turning.ensures (cc) c.land_sift.ensures.places c.land_sift.ensures.texts)

pub statement::stmt-returns-in_ok-first_part-in-For : goal.statement::stmt-returns-in_ok-first_part-in-For
statement::stmt-returns-in_ok-first_part-in-For t c =
    let a = c.args in
    let s = spot_of a.spot in
    let l = layout a.on.now in
    let h = a.on.now.answer in
    let e = c.in-For in
    let first = option_map first_of e.first in
    let o = option_map (λ (v : Bor TypedExpr). expr_of v.now) c.as_ref-in-For.result in
    let y = option_map (λ (v : Bor TypedSimple). simple_of v.now) c.as_ref.result in
    let x = stmt_of c.only-in-For.result.stmt.now in
    let begun = subst (λ (z : Site). Appends a.b.now c.first_part.new.b (λ pc p. first_code l first pc p z.mask.number z.slot.number) (first_places l first)) c.site-in-For.ensures c.in_ok-first_part-in-For.ensures in
    let so = λ (z : TStmt). Writes a.b.now c.turns-in-For.new.b (stmt_at a.on.now z a.spot) in
    let seen = λ (f : Option TExpr) (p : Option TSimple). so (t_for e.form e.before first f p e.inside (stmt_of e.body.value) e.span) in
    on_ok_weaker c.turns-in-For.result
    (λ w. subst so (sym (ap stmt_of e.is ∙ for_view e.form e.before e.first e.test e.step e.inside e.body e.span))
    (subst (λ f. seen f (option_map simple_of e.step)) (sym (part_is expr_of e.test c.as_ref-in-For.result c.as_ref-in-For.ensures.value))
    (subst (λ p. seen o p) (sym (part_is simple_of e.step c.as_ref.result c.as_ref.ensures.value))
    (subst (λ z. so (t_for e.form e.before first o y e.inside (stmt_of z) e.span)) (c.only-in-For.ensures ∙ c.deref-in-For.ensures)
    (for_written a.b.now c.turns-in-For.new.b l h e.form e.before first o y e.inside x e.span s
    (writes_past a.b.now c.first_part.new.b c.turns-in-For.new.b (λ pc p. first_code l first pc p s.on s.slot) (first_places l first) (turns_at a.on.now e.form o y x a.spot) begun w))))))
    c.turns-in-For.ensures

pub statement::stmt-foreach-requires : goal.statement::stmt-foreach-requires
statement::stmt-foreach-requires t c =
    let a = c.args in
    let e = c.in-Foreach in
    let rs = ranges_of c.deref-in-Foreach.result.now in
    let x = stmt_of c.only-in-Foreach.result.stmt.now in
    let seen : stmt_of a.x.stmt.now ≡ t_foreach e.keyword e.before rs x e.span =
    ap stmt_of e.is ∙ foreach_view e.keyword e.before e.ranges e.body e.span ∙ ap (λ zs. t_foreach e.keyword e.before (ranges_of zs) (stmt_of e.body.value) e.span) (sym c.deref-in-Foreach.ensures.value)
    ∙ ap (λ z. t_foreach e.keyword e.before rs (stmt_of z) e.span) (sym (c.only-in-Foreach.ensures ∙ c.deref-in-Foreach-2.ensures)) in
    let asked = subst (λ z. Present a.on.now (stmt_asks a.on.now.answer z a.spot.slot.number)) seen c.requires.there in
    let size : stmt_nodes (stmt_of a.x.stmt.now) ≡ suc (nodes_of_all range_nodes rs + stmt_nodes x) = ap stmt_nodes seen in
    let many = ranges_count c.deref-in-Foreach.result.now in
    let low = ranges_low rs in
    (omega (arith, size, many, low, c.decreases), (asked.0, asked.1))

pub statement::stmt-returns-in-Foreach : goal.statement::stmt-returns-in-Foreach
statement::stmt-returns-in-Foreach t c =
    let a = c.args in
    let e = c.in-Foreach in
    let so = λ (z : TStmt). Writes a.b.now c.foreach.new.b (stmt_at a.on.now z a.spot) in
    on_ok_weaker c.foreach.result
    (λ w. subst so (sym (ap stmt_of e.is ∙ foreach_view e.keyword e.before e.ranges e.body e.span))
    (subst (λ zs. so (t_foreach e.keyword e.before (ranges_of zs) (stmt_of e.body.value) e.span)) c.deref-in-Foreach.ensures.value
    (subst (λ y. so (t_foreach e.keyword e.before (ranges_of c.deref-in-Foreach.result.now) (stmt_of y) e.span)) (c.only-in-Foreach.ensures ∙ c.deref-in-Foreach-2.ensures) w)))
    c.foreach.ensures

pub statement::foreach-returns : goal.statement::foreach-returns
statement::foreach-returns t c =
    let a = c.args in
    let l = layout a.on.now in
    let rs = ranges_of a.all.now in
    let x = stmt_of a.body.stmt.now in
    let n = a.spot.slot.number in
    let k = a.spot.masks.on.number in
    let h = runs_slot n rs in
    let top : c.mask.result.number ≡ h = ap (λ (s : MaskNumber). s.number) c.mask.ensures ∙ ap (λ (s : Sweep). s.masks.number) c.first-it.ensures in
    let begun = subst (λ j. Appends a.b.now c.measures.new.b (λ pc p. measures_code l n j) []) top c.in_ok-measures.ensures in
    let bound = subst (λ (s : Sweep). Appends c.measures.new.b c.bounds.new.b (λ pc p. bounds_code l rs pc p k s.bounds.number) (ranges_places l rs)) c.first-it.ensures c.in_ok-bounds.ensures in
    let swept = subst (λ (s : Sweep). Writes c.bounds.new.b c.ranges-2.new.b (ranges_at a.on.now rs x c.new-none.result.items s)) c.first-it.ensures c.in_ok-ranges.ensures in
    let none = subst (λ (xs : List OuterIndex). Writes c.bounds.new.b c.ranges-2.new.b (ranges_at a.on.now rs x xs (first_sweep a.spot.slot rs))) c.new-none.ensures.items swept in
    let px = stmt_places (body_layout l rs) x in
    foreach_written l a.b.now c.measures.new.b c.bounds.new.b c.ranges-2.new.b rs k n (λ z. run_bodies (body_layout l rs) a.on.now.answer x h z) (px ++ px) (stmt_texts x ++ stmt_texts x) begun bound none

pub statement::ranges-outer_range-requires : goal.statement::ranges-outer_range-requires
statement::ranges-outer_range-requires t c =
    let a = c.args in
    let rs = ranges_of a.all.now in
    let count = ranges_count a.all.now in
    let least = c.in_default.len_at_least in
    let long : 1 < length a.all.now = omega (arith, least) in
    let some : 0 < length rs = omega (arith, long, count) in
    (omega (arith, c.decreases), (long, (sweep_there a.on.now a.it rs some c.requires.ranges, (c.requires.ranges, c.requires.body))))

pub statement::full_runs-returns : goal.statement::full_runs-returns
statement::full_runs-returns t c =
    let a = c.args in
    let l = layout a.on.now in
    let lb = within l a.variable in
    let h = a.it.masks.number in
    let n = a.it.measures.number in
    let m = a.it.place.number in
    let x = stmt_of a.body.stmt.now in
    let place = run_place l (l.loaded a.variable) m in
    let own = indices_at l a.variable a.set.now a.it in
    let piece : Layout → Option Ty → Spot → Piece = λ la an s. record { code = λ pc z. stmt_code la an x pc z (spot_of s); places = stmt_places la x; texts = stmt_texts x } in
    let all : c.mask-all.result.number ≡ h = ap (λ (k : MaskNumber). k.number) c.mask-all.ensures in
    let filled = subst (λ i. Appends a.b.now c.push.new.self (λ pc p. i ∷ []) []) (c.fill_mask.ensures ∙ ap fill_mask all) c.in_ok-push.ensures in
    let bare = subst (λ la. Writes c.step_index.new.b c.stmt.new.b (piece la c.within-inner.result.answer c.own.result)) c.within-inner.ensures.layout c.in_ok-stmt.ensures in
    let told = subst (λ an. Writes c.step_index.new.b c.stmt.new.b (piece lb an c.own.result)) c.within-inner.ensures.answer bare in
    let part = subst (λ s. Writes c.step_index.new.b c.stmt.new.b (piece lb a.on.now.answer s)) c.own.ensures told in
    let again = subst (λ g. Appends c.stmt.new.b c.fill_again.new.b (λ pc p. refill g c.mask-all.result.number) []) c.all_go_on.ensures c.in_ok-fill_again.ensures in
    let refilled = subst (λ k. Appends c.stmt.new.b c.fill_again.new.b (λ pc p. refill (all_go_on x) k) []) all again in
    let back = subst (λ y. Appends c.fill_again.new.b c.next_full.new.b (λ pc p. full_back l y m n c.in_ok-to.to) []) c.run_place-place.ensures c.in_ok-next_full.ensures in
    subst (λ (g : Bool). Writes a.b.now c.next_full.new.b
    (record {
      code = λ pc z. full_code l g (all_go_on x) own a.variable place m n h (body_code lb a.on.now.answer x h z) pc;
      places = stmt_places lb x;
      texts = stmt_texts x;
    })) c.goes_on-alone.ensures
    (full_written l a.b.now c.push.new.self c.indices.new.b c.step_index.new.b c.stmt.new.b c.fill_again.new.b c.next_full.new.b c.goes_on-alone.result (all_go_on x) own a.variable place m n h c.next-first.result c.in_ok-to.to
    (piece lb a.on.now.answer (own_spot h)) filled c.next-first.ensures c.in_ok-indices.ensures c.in_ok-to.ensures.from c.in_ok-to.ensures.added part refilled back)

pub statement::rest_run-returns : goal.statement::rest_run-returns
statement::rest_run-returns t c =
    let a = c.args in
    let l = layout a.on.now in
    let lb = within l a.variable in
    let h = a.it.masks.number in
    let e = a.it.bounds.number in
    let x = stmt_of a.body.stmt.now in
    let place = run_place l (l.loaded a.variable) a.it.place.number in
    let own = indices_at l a.variable a.set.now a.it in
    let piece : Layout → Option Ty → Spot → Piece = λ la an s. record { code = λ pc z. stmt_code la an x pc z (spot_of s); places = stmt_places la x; texts = stmt_texts x } in
    let all : c.mask-lanes.result.number ≡ h = ap (λ (k : MaskNumber). k.number) c.mask-lanes.ensures in
    let end : c.wide-end.result.number ≡ wide l (e + 1) = c.wide-end.ensures ∙ ap (λ (s : Slot). wide l s.number) c.next.ensures in
    let mask : c.range_mask.result ≡ range_mask h place (wide l (e + 1)) =
    c.range_mask.ensures ∙ ap (λ k. range_mask k c.run_place.result.number c.wide-end.result.number) all ∙ ap (λ y. range_mask h y c.wide-end.result.number) c.run_place.ensures ∙ ap (range_mask h place) end in
    let lanes = subst (λ i. Appends a.b.now c.push.new.self (λ pc p. i ∷ []) []) mask c.in_ok-push.ensures in
    let bare = subst (λ la. Writes c.indices.new.b c.stmt.new.b (piece la c.within-inner.result.answer c.own.result)) c.within-inner.ensures.layout c.in_ok-stmt.ensures in
    let told = subst (λ an. Writes c.indices.new.b c.stmt.new.b (piece lb an c.own.result)) c.within-inner.ensures.answer bare in
    let part = subst (λ s. Writes c.indices.new.b c.stmt.new.b (piece lb a.on.now.answer s)) c.own.ensures told in
    let after = c.stmt.new.b.code.items in
    let code = ap (λ r. slice_set after c.len-at.result (instr.JumpIf jump.Off r (length after))) (c.mask.ensures ∙ ap (λ (k : MaskNumber). mask_register k.number) c.mask-lanes.ensures) in
    rest_written l a.b.now c.push.new.self c.push-2.new.self c.indices.new.b c.stmt.new.b c.land.new.self own place e h (instr.Jump 0) (piece lb a.on.now.answer (own_spot h)) c.len-at.result
    lanes (c.len-at.ensures ∙ c.push.new.self.code.ok.0) c.in_ok-push-2.ensures c.in_ok-indices.ensures part (c.land.ensures.code ∙ code) c.land.ensures.places c.land.ensures.texts

pub statement::last_range-returns : goal.statement::last_range-returns
statement::last_range-returns t c =
    let a = c.args in
    let l = layout a.on.now in
    let h = a.it.masks.number in
    let n = a.it.measures.number in
    let m = a.it.place.number in
    let e = a.it.bounds.number in
    let i = a.variable in
    let x = stmt_of a.body.stmt.now in
    let set = a.set.items in
    let lb = within l i in
    let place = run_place l (l.loaded i) m in
    let begun = subst (λ y. Appends a.b.now c.begin_runs.new.b (λ pc p. runs_begin l a.it y) []) c.run_place-place.ensures c.in_ok-begin_runs.ensures in
    let after = c.full_runs.new.b.code.items in
    let code = ap (λ r. slice_set after c.len-at.result (instr.JumpIf jump.False r (length after))) (c.scalar.ensures ∙ ap (register Uniform) (c.tested.ensures ∙ ap (λ (s : Slot). test l s.number) c.next.ensures)) in
    let own = indices_at l i set a.it in
    let full = subst (λ (zs : List OuterIndex). Writes c.push.new.self c.full_runs.new.b (full_at a.on.now i x zs a.it)) c.deref.ensures.value c.in_ok-full_runs.ensures in
    let rest = subst (λ (zs : List OuterIndex). Writes c.land.new.self c.rest_run.new.b (rest_at a.on.now i x zs a.it)) c.deref-2.ensures.value c.in_ok-rest_run.ensures in
    subst (λ (g : Bool). Writes a.b.now c.rest_run.new.b
    (record {
      code = λ pc z. runs_begin l a.it place ++ two (pc + 1 + 1 + 1) (guard (jump_on jump.False (test l (m + 1))) (pc + 1 + 1 + 1) (full_code l g (all_go_on x) own i place m n h (body_code lb a.on.now.answer x h z)))
          (rest_run l own place e h (body_code lb a.on.now.answer x h (behind lb x z)));
      places = stmt_places lb x ++ stmt_places lb x;
      texts =
          stmt_texts x ++ stmt_texts x;
    })) (sym (goes_on_codes (l.loaded i) h set))
    (last_written a.b.now c.begin_runs.new.b c.push.new.self c.full_runs.new.b c.land.new.self c.rest_run.new.b (runs_begin l a.it place) (instr.Jump 0) (jump_on jump.False (test l (m + 1))) (full_at a.on.now i x set a.it) (rest_at a.on.now i x set a.it) c.len-at.result
    begun refl (c.len-at.ensures ∙ c.begin_runs.new.b.code.ok.0) c.in_ok-push.ensures full (c.land.ensures.code ∙ code) c.land.ensures.places c.land.ensures.texts rest)

pub statement::outer_range-returns : goal.statement::outer_range-returns
statement::outer_range-returns t c =
    let a = c.args in
    let l = layout a.on.now in
    let h = a.it.masks.number in
    let m = a.it.place.number in
    let e = a.it.bounds.number in
    let n = a.it.measures.number in
    let rs = ranges_of a.all.now in
    let x = stmt_of a.body.stmt.now in
    let set = index_codes h a.set.items in
    let body = λ (z : Numbers). run_bodies (body_layout l rs) a.on.now.answer x h z in
    let many : 1 < length rs = subst (λ i. 1 < i) (sym (ranges_count a.all.now)) c.requires.many in
    let after = c.go_on.new.b.code.items in
    let code = ap (λ r. slice_set after c.len-at.result (instr.JumpIf jump.False r (length after))) (c.scalar.ensures ∙ ap (register Uniform) (c.tested.ensures ∙ ap (λ (s : Slot). test l s.number) c.next-2.ensures)) in
    let on = subst (λ (s : Slot). Appends c.outer_turn.new.b c.go_on.new.b (λ pc p. range_step l a.it s.number ∷ instr.Jump c.next-top.result ∷ []) []) c.next.ensures c.in_ok-go_on.ensures in
    let z = sweep_written a.b.now c.begin.new.b c.test_place.new.b c.push.new.self c.outer_turn.new.b c.go_on.new.b c.land.new.self
    (range_begin l a.it) (place_test l a.it) (instr.Jump 0) (range_step l a.it (n + 1)) (jump_on jump.False (test l (m + 1)))
    (outer_turn_at a.on.now rs x a.set.items a.it) c.next-top.result c.len-at.result
    c.in_ok-begin.ensures c.next-top.ensures c.in_ok-test_place.ensures (c.len-at.ensures ∙ c.test_place.new.b.code.ok.0) c.in_ok-push.ensures c.in_ok-outer_turn.ensures on (c.land.ensures.code ∙ code) c.land.ensures.places c.land.ensures.texts in
    record {
      code = z.code ∙ ap (λ is. a.b.now.code.items ++ is) (ranges_outer l n h (body (next_of a.b.now)) rs set e m (length a.b.now.code.items) many);
      places = z.places;
      texts = z.texts;
    }

pub statement::stmt-unique_loop-requires : goal.statement::stmt-unique_loop-requires
statement::stmt-unique_loop-requires t c =
    let a = c.args in
    let e = c.in-ForeachUnique in
    let v = expr_of e.value in
    let x = stmt_of c.only-in-ForeachUnique.result.stmt.now in
    let seen : stmt_of a.x.stmt.now ≡ t_foreach_unique e.keyword e.before e.index e.elem v x e.span =
    ap stmt_of e.is ∙ unique_view e.keyword e.before e.index e.elem e.value e.body e.span
    ∙ ap (λ z. t_foreach_unique e.keyword e.before e.index e.elem v (stmt_of z) e.span) (sym (c.only-in-ForeachUnique.ensures ∙ c.deref-in-ForeachUnique.ensures)) in
    let asked = subst (λ z. Present a.on.now (stmt_asks a.on.now.answer z a.spot.slot.number)) seen c.requires.there in
    let size : stmt_nodes (stmt_of a.x.stmt.now) ≡ suc (typed_nodes v + stmt_nodes x) = ap stmt_nodes seen in
    (omega (arith, size, c.decreases), (asked.0.1.1.1.1.1.1.0, (asked.0, asked.1)))

pub statement::unique_loop-returns : goal.statement::unique_loop-returns
statement::unique_loop-returns t c =
    let a = c.args in
    let e = expr_of a.it.value.now in
    let x = stmt_of a.body.stmt.now in
    let n = a.spot.slot.number in
    let kept = kept_at a.on.now e a.spot.masks.on.number n in
    let begin = value_code (values_of (layout a.on.now) (elem_of e) a.it.index n) n in
    let spot = c.own.ensures ∙ ap (λ (s : Slot). own_spot s.number) c.next.ensures in
    let inside = subst (λ s. Writes c.take_value.new.b c.stmt.new.b (stmt_at a.on.now x s)) spot c.in_ok-stmt.ensures in
    let back = c.where_some.ensures ∙ ap (λ (k : MaskNumber). instr.JumpIf jump.On (mask_register k.number) c.next-top.result) c.mask.ensures in
    let jumped = subst (λ i. Appends c.stmt.new.b c.add.new.self (λ pc p. i ∷ []) []) back c.in_ok-add.ensures in
    rounds_written a.b.now c.keep_values.new.b c.take_value.new.b c.stmt.new.b c.add.new.self kept.code kept.places begin n c.next-top.result (stmt_at a.on.now x (own_spot (n + 1)))
    c.in_ok-keep_values.ensures c.next-top.ensures c.in_ok-take_value.ensures inside jumped

pub statement::ranges-returns-in-len1 : goal.statement::ranges-returns-in-len1
statement::ranges-returns-in-len1 t c =
    let a = c.args in
    let r = c.last-item.result in
    let least = c.in-len1.len_at_least in
    let below = c.in-len1.len_below in
    let is : a.all.now ≡ r ∷ [] = drop_more a.all.now 0 r (omega (arith, least)) ∙ ap (λ z. z ∷ drop 1 a.all.now) (sym c.last-item.is) ∙ ap (λ rs. r ∷ rs) (drop_all 1 a.all.now (omega (arith, below))) in
    on_ok_weaker c.last_range.result
    (λ w. subst (λ (rs : List TypedRange). Writes a.b.now c.last_range.new.b (ranges_at a.on.now (ranges_of rs) (stmt_of a.body.stmt.now) a.set.items a.it)) (sym is) w)
    c.last_range.ensures

pub statement::outer_turn-returns : goal.statement::outer_turn-returns
statement::outer_turn-returns t c =
    let a = c.args in
    let x = stmt_of a.body.stmt.now in
    let r = c.range-item.result in
    let inner = drop 1 a.all.now in
    let least = c.in-len1-up.len_at_least in
    let is : a.all.now ≡ r ∷ inner = drop_more a.all.now 0 r (omega (arith, least)) ∙ ap (λ z. z ∷ inner) (sym c.range-item.is) in
    let long = ap length is in
    let count = ranges_count inner in
    let many = c.requires.many in
    let some : 0 < length (ranges_of inner) = omega (arith, long, count, many) in
    let one : OuterIndex = record { index = c.index.result; value = c.in_ok-value.value } in
    let whole : take (length a.all.now - 1) inner ≡ inner = take_all (length a.all.now - 1) inner (omega (arith, long)) in
    let told = subst (λ (rs : List TypedRange). Writes c.outer_value.new.b c.ranges-2.new.b (ranges_at a.on.now (ranges_of rs) x c.push.new.self.items c.inner.result)) whole c.in_ok-ranges.ensures in
    let rest = subst (λ (zs : List OuterIndex). Writes c.outer_value.new.b c.ranges-2.new.b (ranges_at a.on.now (ranges_of inner) x zs c.inner.result)) c.in_ok-push.ensures.items told in
    subst (λ (rs : List TypedRange). Writes a.b.now c.ranges-2.new.b (outer_turn_at a.on.now (ranges_of rs) x a.set.items a.it)) (sym is)
    (outer_written a.on.now a.b.now c.outer_value.new.b c.ranges-2.new.b (range_of r) (ranges_of inner) x a.set.items a.it c.inner.result one some c.inner.ensures c.index.ensures c.in_ok-value.ensures.number c.in_ok-value.ensures.added rest)
