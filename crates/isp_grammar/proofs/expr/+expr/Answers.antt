use Rattle.std.proofs.Common.{◌≡◌, ◌+◌, ◌-◌, List, ◌∷◌, true, false, length, refl, sym, ap, subst, ◌∙◌, arith, rules, length-drop}
use Rattle.std.specs.Prelude.{Ok}
use Rattle.isp_lex.specs.declared.token.Token.{Token}
use Rattle.isp_lex.specs.declared.token.Mark.TheVariants as mark
use Rattle.isp_base.specs.Types.{span_to}
use Rattle.isp_tree.specs.Depth.{depth}
use Rattle.isp_tree.specs.Tree.{span_of}
use Rattle.isp_grammar.specs.Signs.{loosest}
use Rattle.isp_tree.specs.Views.{expr_of, argument_of, arguments_of}
use Rattle.isp_grammar.specs.reader.Readers.{Fails, list_at, optional}
use Rattle.isp_grammar.specs.reader.Exprs.{argument_at, joined, begins_expr, start_of, operand_from, parts_of, parts_at, expr_at, target_at, bracketed_at, arguments_at, named_at, cast_at, closed_at, place_at, index_at, suffix_at}
use Rattle.std.proofs.lemmas.Result.{err_from_is_err_and}
use Rattle.isp_grammar.proofs.Basics.{head_none, head_some}
use Rattle.isp_grammar.proofs.Loops.{list_fails, list_last, list_step, listed_none, listed_some}
use Rattle.isp_grammar.proofs.SimpleSteps.{fails_then, made_gives, shorter_found, shorter_made, height_made, bounded_made}
use Rattle.isp_grammar.proofs.ExprSteps.{atom_depth, depth_pos, arguments_past, depth_past, first_fails, loop_begins, loop_ends, loop_deep, loop_fails, loop_step, test_fails, test_alone, test_deep, parts_fail}
use Rattle.isp_grammar.proofs.ExprSteps.{parts_made, operand_step, target_step, target_at_limit, expr_off, expr_deep, bracket_typed, bracket_closed, argument_referred, argument_valued}
use Rattle.isp_grammar.proofs.Views.{brackets_view, cast_view, prefix_view, variable_view, element_view, value_view, reference_view}
use Rattle.isp_grammar.proofs.expr.+expr.Goals as goal

-- ---- arguments

pub argument-returns-in_err-place : goal.argument-returns-in_err-place
argument-returns-in_err-place t c =
    let p = err_from_is_err_and c.from_residual.result c.from_residual.ensures.1 in
    record {
      value = rw (
        p.1,
        p.2,
        argument_referred (expr_at c.args.left loosest) (target_at c.args.left) c.args.tokens.now
            (sym c.starts_with.ensures ∙ c.if-starts_with.true),
        sym c.tail.ensures,
      )
          (fails_then c.in_err-place.field-0.0 _ _ c.in_err-place.ensures.value);
      height = rw p.1 tt;
      rest = rw p.1 tt;
      bounded = rw p.1 tt;
    }

pub argument-returns-then-starts_with-clause-value : goal.argument-returns-then-starts_with-clause-value
argument-returns-then-starts_with-clause-value t c =
    rw (
      argument_referred (expr_at c.args.left loosest) (target_at c.args.left) c.args.tokens.now (sym c.starts_with.ensures ∙ c.if-starts_with.true),
      sym c.tail.ensures,
      c.in_ok-place.ensures.value,
      reference_view c.in_ok-place.place c.to-span.result,
      c.to-span.ensures,
      c.first_span.ensures,
      c.span.ensures,
    ) refl

pub argument-returns-in_err-value : goal.argument-returns-in_err-value
argument-returns-in_err-value t c =
    let p = err_from_is_err_and c.from_residual-in_err-value.result c.from_residual-in_err-value.ensures.1 in
    record {
      value = rw (p.1, p.2, argument_valued (expr_at c.args.left loosest) (target_at c.args.left) c.args.tokens.now (sym c.starts_with.ensures ∙ c.if-starts_with.false)) (fails_then c.in_err-value.field-0.0 _ _ c.in_err-value.ensures.value);
      height = rw p.1 tt;
      rest = rw p.1 tt;
      bounded = rw p.1 tt;
    }

pub argument-returns-clause-value : goal.argument-returns-clause-value
argument-returns-clause-value t c =
    rw (argument_valued (expr_at c.args.left loosest) (target_at c.args.left) c.args.tokens.now (sym c.starts_with.ensures ∙ c.if-starts_with.false), c.in_ok-value.ensures.value, value_view c.into_inner.result, c.into_inner.ensures) refl

pub arguments-returns-then-starts_with-clause-value : goal.arguments-returns-then-starts_with-clause-value
arguments-returns-then-starts_with-clause-value t c =
    let one = argument_at (expr_at c.args.left loosest) (target_at c.args.left) in
    rw c.new-all.ensures.items (listed_none mark.ParenClose one c.args.tokens.now (sym c.starts_with.ensures ∙ c.if-starts_with.true))

pub arguments-returns-in_err-next : goal.arguments-returns-in_err-next
arguments-returns-in_err-next t c =
    let v = c.each.invariant.value in
    let one = argument_at (expr_at c.args.left loosest) (target_at c.args.left) in
    let p = err_from_is_err_and c.from_residual.result c.from_residual.ensures.1 in
    let w = listed_some mark.ParenClose one c.args.tokens.now (sym c.starts_with.ensures ∙ c.if-starts_with.false) in
    record {
      value = rw (p.1, p.2, w) (list_fails c.in_err-next.field-0.0 one v.0 (arguments_of c.each.all.items) c.each.rest.now (list_at one (length c.args.tokens.now + 1) c.args.tokens.now) v.1 c.in_err-next.ensures.value v.2);
      height = rw p.1 tt;
      rest = rw p.1 tt;
      bounded = rw p.1 tt;
    }

pub arguments-returns-in_err-all : goal.arguments-returns-in_err-all
arguments-returns-in_err-all t c =
    let p = err_from_is_err_and c.from_residual-in_err-all.result c.from_residual-in_err-all.ensures.1 in
    record {
      value = rw (p.1, p.2, c.in_err-all.ensures.memory) tt;
      height = rw p.1 tt;
      rest = rw p.1 tt;
      bounded = rw p.1 tt;
    }

pub arguments-returns-then-not-starts_with-clause-value : goal.arguments-returns-then-not-starts_with-clause-value
arguments-returns-then-not-starts_with-clause-value t c =
    let v = c.each.invariant.value in
    let one = argument_at (expr_at c.args.left loosest) (target_at c.args.left) in
    let w = listed_some mark.ParenClose one c.args.tokens.now (sym c.starts_with.ensures ∙ c.if-starts_with.false) in
    rw (w, c.in_ok-all.ensures.items, arguments_past c.each.all.items c.in_ok-next.next)
    (list_last one v.0 (arguments_of c.each.all.items) c.each.rest.now (argument_of c.in_ok-next.next) c.in_ok-next.after.now
    (list_at one (length c.args.tokens.now + 1) c.args.tokens.now) v.1 c.in_ok-next.ensures.value
    (sym c.starts_with-in-each.ensures ∙ c.if-not-starts_with.true) v.2)

pub arguments-returns-then-not-starts_with-clause-height : goal.arguments-returns-then-not-starts_with-clause-height
arguments-returns-then-not-starts_with-clause-height t c =
    rw (c.in_ok-all.ensures.items, depth_past c.each.all.items c.in_ok-next.next) (omega (arith, c.larger-height.ensures, c.each.invariant.height, c.in_ok-next.ensures.height))

pub arguments-each-preserved : goal.arguments-each-preserved
arguments-each-preserved t c =
    let v = c.each.invariant.value in
    let one = argument_at (expr_at c.args.left loosest) (target_at c.args.left) in
    let s = list_step one v.0 (arguments_of c.each.all.items) c.each.rest.now (argument_of c.in_ok-next.next) c.in_ok-next.after.now
    (list_at one (length c.args.tokens.now + 1) c.args.tokens.now) v.1 (omega (arith, c.in_ok-next.ensures.rest)) c.in_ok-next.ensures.value
    (sym c.starts_with-in-each.ensures ∙ c.if-not-starts_with.false) v.2 in
    record {
      rest = omega (arith, c.each.invariant.rest, c.in_ok-next.ensures.rest, ap length c.tail-rest.ensures, length-drop 1 c.in_ok-next.after.now);
      height = rw (c.in_ok-all.ensures.items, depth_past c.each.all.items c.in_ok-next.next) (omega (arith, c.larger-height.ensures, c.each.invariant.height, c.in_ok-next.ensures.height));
      bounded = omega (arith, c.larger-height.ensures, c.each.invariant.bounded, c.in_ok-next.ensures.bounded);
      value = rw (c.in_ok-all.ensures.items, arguments_past c.each.all.items c.in_ok-next.next, c.tail-rest.ensures) s;
    }

-- ---- operators

pub binary-returns-in_err-found : goal.binary-returns-in_err-found
binary-returns-in_err-found t c =
    let p = err_from_is_err_and c.from_residual.result c.from_residual.ensures.1 in
    record {
      value = rw (p.1, p.2) (first_fails c.in_err-found.field-0.0 c.args.left c.args.looseness c.args.tokens.now (omega arith) c.requires.level c.in_err-found.ensures.value);
      height = rw p.1 tt;
      rest = rw p.1 tt;
      bounded = rw p.1 tt;
    }

pub binary-loop-op-init : goal.binary-loop-op-init
binary-loop-op-init t c = record {
  rest = c.in_ok-found.ensures.rest;
  height = c.in_ok-found.ensures.height;
  bounded = c.in_ok-found.ensures.bounded;
  value = (
    c.args.left - 1,
    omega (arith, depth_pos (expr_of c.in_ok-found.found.value), c.in_ok-found.ensures.height),
    loop_begins c.args.left
        c.args.looseness c.args.tokens.now (expr_of c.in_ok-found.found.value) c.in_ok-found.rest.now (omega arith) c.requires.level
        c.in_ok-found.ensures.value,
  );
}

pub binary-returns-then-height-left-clause-value : goal.binary-returns-then-height-left-clause-value
binary-returns-then-height-left-clause-value t c =
    let v = c.loop-op.invariant.value in
    rw c.refuse.ensures (loop_deep c.args.left c.args.looseness v.0 (expr_of c.loop-op.found.value) c.loop-op.rest.now c.in-Some.op
    (expr_at c.args.left c.args.looseness c.args.tokens.now) (omega arith) (sym c.operator_at.ensures ∙ c.in-Some.is)
    (omega (arith, c.loop-op.invariant.height)) v.2)

pub binary-returns-in_err-right : goal.binary-returns-in_err-right
binary-returns-in_err-right t c =
    let v = c.loop-op.invariant.value in
    let p = err_from_is_err_and c.from_residual-in_err-right.result c.from_residual-in_err-right.ensures.1 in
    record {
      value = rw (p.1, p.2) (loop_fails c.in_err-right.field-0.0 c.args.left c.args.looseness v.0 (expr_of c.loop-op.found.value) c.loop-op.rest.now
          c.in-Some.op (expr_at c.args.left c.args.looseness c.args.tokens.now) (omega arith) (sym c.operator_at.ensures ∙ c.in-Some.is)
          (omega (arith, c.loop-op.invariant.height)) (omega (arith, c.loop-op.invariant.height, v.1))
          (subst (λ (l : List Token). Fails c.in_err-right.field-0.0 (expr_at (c.args.left - 1) (c.args.looseness - 1) l)) c.tail.ensures
          c.in_err-right.ensures.value) v.2);
      height = rw p.1 tt;
      rest = rw p.1 tt;
      bounded = rw p.1 tt;
    }

pub binary-returns-then-looseness-eq0-clause-value : goal.binary-returns-then-looseness-eq0-clause-value
binary-returns-then-looseness-eq0-clause-value t c = rw c.if-looseness-eq0.true c.unary.ensures.value

pub binary-returns-in_err-found-2 : goal.binary-returns-in_err-found-2
binary-returns-in_err-found-2 t c =
    let p = err_from_is_err_and c.from_residual-in_err-found-2.result c.from_residual-in_err-found-2.ensures.1 in
    record {
      value = rw (p.1, p.2, c.in_err-found-2.ensures.memory) tt;
      height = rw p.1 tt;
      rest = rw p.1 tt;
      bounded = rw p.1 tt;
    }

pub binary-loop-op-preserved : goal.binary-loop-op-preserved
binary-loop-op-preserved t c =
    let v = c.loop-op.invariant.value in
    let m = c.in_ok-found-2.ensures in
    let e : expr_of c.in_ok-found-2.field-0-0.value ≡ joined (expr_of c.loop-op.found.value) c.in-Some.op (expr_of c.in_ok-right.right.value) = m.value ∙ c.join.ensures in
    let w = subst (λ (l : List Token). expr_at (c.args.left - 1) (c.args.looseness - 1) l ≡ Ok (expr_of c.in_ok-right.right.value, c.in_ok-right.after.now)) c.tail.ensures c.in_ok-right.ensures.value in
    let s = loop_step c.args.left c.args.looseness v.0 (expr_of c.loop-op.found.value) c.loop-op.rest.now c.in-Some.op
    (expr_of c.in_ok-right.right.value) c.in_ok-right.after.now (expr_at c.args.left c.args.looseness c.args.tokens.now) (omega arith)
    (sym c.operator_at.ensures ∙ c.in-Some.is) (omega (arith, c.loop-op.invariant.height)) (omega (arith, c.loop-op.invariant.height, v.1)) w
    v.2 in
    let h : c.in_ok-found-2.field-0-1 ≡ depth (joined (expr_of c.loop-op.found.value) c.in-Some.op (expr_of c.in_ok-right.right.value)) = omega (arith, m.height, c.loop-op.invariant.height, c.in_ok-right.ensures.height, c.larger-deeper.ensures) in
    record {
      rest = omega (arith, ap length m.rest, c.loop-op.invariant.rest, c.in_ok-right.ensures.rest, ap length c.tail.ensures, length-drop 1 c.loop-op.rest.now);
      height = rw e h;
      bounded = omega (arith, m.height, c.in_ok-right.ensures.bounded, c.larger-deeper.ensures);
      value = rw (e, m.rest) (s.0, omega (arith, h, s.1), s.2);
    }

pub binary-returns-clause-value : goal.binary-returns-clause-value
binary-returns-clause-value t c =
    let v = c.loop-op.invariant.value in
    loop_ends c.args.left c.args.looseness v.0 (expr_of c.loop-op.found.value) c.loop-op.rest.now (expr_at c.args.left c.args.looseness c.args.tokens.now) (omega arith) (sym c.operator_at.ensures ∙ c.in_default.is) v.2

-- ---- a choice

pub expr-returns-in_err-test : goal.expr-returns-in_err-test
expr-returns-in_err-test t c =
    let p = err_from_is_err_and c.from_residual.result c.from_residual.ensures.1 in
    record {
      value = rw (p.1, p.2) (test_fails c.in_err-test.field-0.0 c.args.left c.args.tokens.now c.in_err-test.ensures.value);
      height = rw p.1 tt;
      rest = rw p.1 tt;
      bounded = rw p.1 tt;
    }

pub expr-returns-then-not-starts_with-clause-value : goal.expr-returns-then-not-starts_with-clause-value
expr-returns-then-not-starts_with-clause-value t c =
    test_alone c.args.left c.args.tokens.now (expr_of c.in_ok-test.test.value) c.in_ok-test.rest.now c.in_ok-test.ensures.value (sym c.starts_with.ensures ∙ c.if-not-starts_with.true)

pub expr-returns-then-height-left-clause-value : goal.expr-returns-then-height-left-clause-value
expr-returns-then-height-left-clause-value t c =
    rw c.refuse.ensures (test_deep c.args.left c.args.tokens.now (expr_of c.in_ok-test.test.value) c.in_ok-test.rest.now c.in_ok-test.ensures.value (sym c.starts_with.ensures ∙ c.if-not-starts_with.false) (omega (arith, c.in_ok-test.ensures.height)))

pub expr-returns-in_err-parts : goal.expr-returns-in_err-parts
expr-returns-in_err-parts t c =
    let p = err_from_is_err_and c.from_residual-in_err-parts.result c.from_residual-in_err-parts.ensures.1 in
    record {
      value = rw (p.1, p.2) (parts_fail c.in_err-parts.field-0.0 c.args.left c.args.tokens.now (expr_of c.in_ok-test.test.value) c.in_ok-test.rest.now
          c.in_ok-test.ensures.value (sym c.starts_with.ensures ∙ c.if-not-starts_with.false) (omega (arith, c.in_ok-test.ensures.height))
          (subst (λ (l : List Token). Fails c.in_err-parts.field-0.0 (parts_at (expr_at (c.args.left - 1) loosest) l)) c.tail.ensures c.in_err-parts.ensures.value));
      height = rw p.1 tt;
      rest = rw p.1 tt;
      bounded = rw p.1 tt;
    }

pub expr-returns-clause-value : goal.expr-returns-clause-value
expr-returns-clause-value t c =
    let w = subst (λ (l : List Token). parts_at (expr_at (c.args.left - 1) loosest) l ≡ Ok ((parts_of c.in_ok-parts.parts), c.in_ok-parts.rest.now)) c.tail.ensures c.in_ok-parts.ensures.value in
    rw (
      parts_made c.args.left c.args.tokens.now (expr_of c.in_ok-test.test.value) c.in_ok-test.rest.now (parts_of c.in_ok-parts.parts)
          c.in_ok-parts.rest.now c.in_ok-test.ensures.value (sym c.starts_with.ensures ∙ c.if-not-starts_with.false)
          (omega (arith, c.in_ok-test.ensures.height)) w,
      sym c.choose.ensures,
    )
    (made_gives expr_of c.made.result _ _ c.made.ensures.value c.made.ensures.rest c.made.ensures.memory)

-- ---- names and places

pub place-returns-clause-rest : goal.place-returns-clause-rest
place-returns-clause-rest t c = omega (arith, c.in_ok-word.ensures.rest, c.in_ok-index.ensures.rest, ap length c.tail.ensures, length-drop 1 c.in_ok-word.rest.now)

pub place-returns-then-left-eq0-clause-value : goal.place-returns-then-left-eq0-clause-value
place-returns-then-left-eq0-clause-value t c = rw (c.refuse_at_limit.ensures, c.names.ensures, c.if-left-eq0.true) (target_at_limit c.args.tokens.now)

pub place-returns-in_err-word : goal.place-returns-in_err-word
unfolding place_at
place-returns-in_err-word t c =
    let p = err_from_is_err_and c.from_residual.result c.from_residual.ensures.1 in
    record {
      value = rw (p.1, p.2, target_step c.args.left c.args.tokens.now (omega arith)) (fails_then c.in_err-word.field-0.0 _ _ (fails_then c.in_err-word.field-0.0 _ _ c.in_err-word.ensures.value));
      height = rw p.1 tt;
      rest = rw p.1 tt;
      bounded = rw p.1 tt;
    }

pub place-returns-then-not-starts_with-clause-value : goal.place-returns-then-not-starts_with-clause-value
unfolding place_at index_at optional
place-returns-then-not-starts_with-clause-value t c = rw (target_step c.args.left c.args.tokens.now (omega arith), c.in_ok-word.ensures.value, sym c.starts_with.ensures ∙ c.if-not-starts_with.true, variable_view c.in_ok-word.word) refl

pub place-returns-in_err-index : goal.place-returns-in_err-index
unfolding place_at index_at optional
place-returns-in_err-index t c =
    let p = err_from_is_err_and c.from_residual-in_err-index.result c.from_residual-in_err-index.ensures.1 in
    record {
      value = rw (
        p.1,
        p.2,
        target_step c.args.left c.args.tokens.now (omega arith),
        c.in_ok-word.ensures.value,
        sym c.starts_with.ensures
            ∙ c.if-not-starts_with.false,
        sym c.tail.ensures,
      )
          (fails_then c.in_err-index.field-0.0 _ _ (fails_then c.in_err-index.field-0.0 _ _
          (fails_then c.in_err-index.field-0.0 _ _ c.in_err-index.ensures.value)));
      height = rw p.1 tt;
      rest = rw p.1 tt;
      bounded = rw p.1 tt;
    }

pub place-returns-clause-value : goal.place-returns-clause-value
unfolding place_at index_at optional
place-returns-clause-value t c = rw (
  target_step c.args.left c.args.tokens.now (omega arith),
  c.in_ok-word.ensures.value,
  sym c.starts_with.ensures
      ∙ c.if-not-starts_with.false,
  sym c.tail.ensures,
  c.in_ok-index.ensures.value,
  element_view c.in_ok-word.word c.in_ok-index.index
      c.to-span.result,
  c.to-span.ensures,
) refl

pub suffix-returns-in_err-value : goal.suffix-returns-in_err-value
unfolding suffix_at
suffix-returns-in_err-value t c =
    let p = err_from_is_err_and c.from_residual.result c.from_residual.ensures.1 in
    record {
      value = rw (p.1, p.2, sym c.starts_with.ensures ∙ c.if-starts_with.true, sym c.tail.ensures) (fails_then c.in_err-value.field-0.0 _ _ c.in_err-value.ensures.value);
      height = rw p.1 tt;
      rest = rw p.1 tt;
      bounded = rw p.1 tt;
    }

pub suffix-returns-then-starts_with-clause-value : goal.suffix-returns-then-starts_with-clause-value
unfolding suffix_at
suffix-returns-then-starts_with-clause-value t c = rw (sym c.starts_with.ensures ∙ c.if-starts_with.true, sym c.tail.ensures, c.in_ok-value.ensures.value) refl

pub suffix-returns-in_err-all : goal.suffix-returns-in_err-all
unfolding suffix_at
suffix-returns-in_err-all t c =
    let p = err_from_is_err_and c.from_residual-in_err-all.result c.from_residual-in_err-all.ensures.1 in
    record {
      value = rw (p.1, p.2, sym c.starts_with.ensures ∙ c.if-starts_with.false, sym c.starts_with-2.ensures ∙ c.if-starts_with-2.true, sym c.tail-then-starts_with-2.ensures) (fails_then c.in_err-all.field-0.0 _ _ c.in_err-all.ensures.value);
      height = rw p.1 tt;
      rest = rw p.1 tt;
      bounded = rw p.1 tt;
    }

pub suffix-returns-then-starts_with-2-clause-value : goal.suffix-returns-then-starts_with-2-clause-value
unfolding suffix_at
suffix-returns-then-starts_with-2-clause-value t c = rw (sym c.starts_with.ensures ∙ c.if-starts_with.false, sym c.starts_with-2.ensures ∙ c.if-starts_with-2.true, sym c.tail-then-starts_with-2.ensures, c.in_ok-all.ensures.value) refl

pub suffix-returns-clause-value : goal.suffix-returns-clause-value
unfolding suffix_at
suffix-returns-clause-value t c = rw (sym c.starts_with.ensures ∙ c.if-starts_with.false, sym c.starts_with-2.ensures ∙ c.if-starts_with-2.false) refl

pub called-returns-in_err-inside : goal.called-returns-in_err-inside
unfolding arguments_at
called-returns-in_err-inside t c =
    let p = err_from_is_err_and c.from_residual.result c.from_residual.ensures.1 in
    record {
      value = rw (p.1, p.2) (fails_then c.in_err-inside.field-0.0 _ _ c.in_err-inside.ensures.value);
      height = rw p.1 tt;
      rest = rw p.1 tt;
      bounded = rw p.1 tt;
    }

pub called-returns-in_err-all : goal.called-returns-in_err-all
unfolding arguments_at
called-returns-in_err-all t c =
    let p = err_from_is_err_and c.from_residual-in_err-all.result c.from_residual-in_err-all.ensures.1 in
    record {
      value = rw (p.1, p.2, c.in_ok-inside.ensures.value) (fails_then c.in_err-all.field-0.0 _ _ c.in_err-all.ensures.sign);
      height = rw p.1 tt;
      rest = rw p.1 tt;
      bounded = rw p.1 tt;
    }

pub called-returns-clause-value : goal.called-returns-clause-value
unfolding arguments_at
called-returns-clause-value t c = rw (c.in_ok-inside.ensures.value, c.in_ok-all.ensures.sign, c.in_ok-all.ensures.value) refl

pub called-returns-clause-height : goal.called-returns-clause-height
called-returns-clause-height t c = rw c.in_ok-all.ensures.value c.in_ok-inside.ensures.height

-- ---- operands

pub unary-returns-in_default-clause-value : goal.unary-returns-in_default-clause-value
unary-returns-in_default-clause-value t c =
    rw c.refuse.ensures (expr_off c.args.left 0 c.args.tokens.now (head_none false begins_expr c.args.tokens.now c.in_default.ensures.cases))

pub unary-returns-then-not-begins_expr-clause-value : goal.unary-returns-then-not-begins_expr-clause-value
unary-returns-then-not-begins_expr-clause-value t c =
    let w : c.args.tokens.now ≡ c.in-Some.first.now ∷ c.in-Some.rest.now = search rules in
    rw c.refuse-then-not-begins_expr.ensures (expr_off c.args.left 0 c.args.tokens.now (head_some false begins_expr c.args.tokens.now c.in-Some.first.now c.in-Some.rest.now false w (sym c.begins_expr.ensures ∙ c.if-not-begins_expr.true)))

pub unary-returns-then-left-eq0-clause-value : goal.unary-returns-then-left-eq0-clause-value
unary-returns-then-left-eq0-clause-value t c =
    let w : c.args.tokens.now ≡ c.in-Some.first.now ∷ c.in-Some.rest.now = search rules in
    rw (c.refuse-then-left-eq0.ensures, c.if-left-eq0.true) (expr_deep 0 c.args.tokens.now (head_some false begins_expr c.args.tokens.now c.in-Some.first.now c.in-Some.rest.now true w (sym c.begins_expr.ensures ∙ c.if-not-begins_expr.false)))

pub unary-returns-clause-value : goal.unary-returns-clause-value
unary-returns-clause-value t c =
    let w : c.args.tokens.now ≡ c.in-Some.first.now ∷ c.in-Some.rest.now = search rules in
    let p : expr_at c.args.left 0 c.args.tokens.now ≡ operand_from (expr_at (c.args.left - 1)) (target_at (c.args.left - 1))
    (start_of c.in-Some.first.now.kind) c.in-Some.first.now c.in-Some.rest.now = rw w
    (operand_step c.args.left c.in-Some.first.now c.in-Some.rest.now (omega arith)) in
    rw p c.unary_from.ensures.value

pub unary_from-returns-in-Atom-clause-value : goal.unary_from-returns-in-Atom-clause-value
unary_from-returns-in-Atom-clause-value t c = rw (sym c.start_of.ensures ∙ c.in-Atom.is, sym c.atom_of.ensures) (made_gives expr_of c.made.result _ _ c.made.ensures.value c.made.ensures.rest c.made.ensures.memory)

pub unary_from-returns-in-Word-clause-value : goal.unary_from-returns-in-Word-clause-value
unary_from-returns-in-Word-clause-value t c = rw (sym c.start_of.ensures ∙ c.in-Word.is, sym c.requires.whole) c.named.ensures.value

pub unary_from-returns-in-Bracket-clause-value : goal.unary_from-returns-in-Bracket-clause-value
unary_from-returns-in-Bracket-clause-value t c = rw (sym c.start_of.ensures ∙ c.in-Bracket.is, bracket_typed (expr_at (c.args.left - 1)) c.args.first.now.span c.args.rest.now (sym c.begins_type.ensures ∙ c.if-begins_type.true)) c.cast.ensures.value

pub unary_from-returns-in-Bracket-2-clause-value : goal.unary_from-returns-in-Bracket-2-clause-value
unary_from-returns-in-Bracket-2-clause-value t c = rw (
  sym c.start_of.ensures ∙ c.in-Bracket-2.is,
  bracket_closed (expr_at (c.args.left - 1)) c.args.first.now.span c.args.rest.now
      (sym c.begins_type.ensures ∙ c.if-begins_type.false),
) c.closed.ensures.value

pub unary_from-returns-in-Prefix-clause-value : goal.unary_from-returns-in-Prefix-clause-value
unary_from-returns-in-Prefix-clause-value t c = rw (sym c.start_of.ensures ∙ c.in-Prefix.is) c.prefixed.ensures.value

pub unary_from-returns-in-Nothing-clause-value : goal.unary_from-returns-in-Nothing-clause-value
unary_from-returns-in-Nothing-clause-value t c = rw (sym c.start_of.ensures ∙ c.in-Nothing.is, c.refuse.ensures, c.requires.whole) refl

-- ---- parts in turn

pub index-returns-in_err-value : goal.index-returns-in_err-value
unfolding bracketed_at
index-returns-in_err-value t c =
    let p = err_from_is_err_and c.from_residual.result c.from_residual.ensures.1 in
    record {
      value = rw (p.1, p.2) (fails_then c.in_err-value.field-0.0 _ _ c.in_err-value.ensures.value);
      height = rw p.1 tt;
      rest = rw p.1 tt;
      bounded = rw p.1 tt;
    }

pub index-returns-in_err-close : goal.index-returns-in_err-close
unfolding bracketed_at
index-returns-in_err-close t c =
    let p = err_from_is_err_and c.from_residual-in_err-close.result c.from_residual-in_err-close.ensures.1 in
    record {
      value = rw (p.1, p.2, c.in_ok-value.ensures.value) (fails_then c.in_err-close.field-0.0 _ _ c.in_err-close.ensures.value);
      height = rw p.1 tt;
      rest = rw p.1 tt;
      bounded = rw p.1 tt;
    }

pub index-returns-clause-value : goal.index-returns-clause-value
unfolding bracketed_at
index-returns-clause-value t c = rw (c.in_ok-value.ensures.value, c.in_ok-close.ensures.value) refl

pub named-returns-in_err-word : goal.named-returns-in_err-word
unfolding named_at
named-returns-in_err-word t c =
    let p = err_from_is_err_and c.from_residual.result c.from_residual.ensures.1 in
    record {
      value = rw (p.1, p.2) (fails_then c.in_err-word.field-0.0 _ _ (fails_then c.in_err-word.field-0.0 _ _ c.in_err-word.ensures.value));
      height = rw p.1 tt;
      rest = rw p.1 tt;
      bounded = rw p.1 tt;
    }

pub named-returns-in_err-suffix : goal.named-returns-in_err-suffix
unfolding named_at
named-returns-in_err-suffix t c =
    let p = err_from_is_err_and c.from_residual-in_err-suffix.result c.from_residual-in_err-suffix.ensures.1 in
    record {
      value = rw (p.1, p.2, c.in_ok-word.ensures.value) (fails_then c.in_err-suffix.field-0.0 _ _ (fails_then c.in_err-suffix.field-0.0 _ _ c.in_err-suffix.ensures.value));
      height = rw p.1 tt;
      rest = rw p.1 tt;
      bounded = rw p.1 tt;
    }

pub named-returns-clause-value : goal.named-returns-clause-value
unfolding named_at
named-returns-clause-value t c = rw (c.in_ok-word.ensures.value, c.in_ok-suffix.ensures.value, sym c.with_suffix.ensures) (made_gives expr_of c.made.result _ _ c.made.ensures.value c.made.ensures.rest c.made.ensures.memory)

pub cast-returns-in_err-ty : goal.cast-returns-in_err-ty
unfolding cast_at
cast-returns-in_err-ty t c =
    let p = err_from_is_err_and c.from_residual.result c.from_residual.ensures.1 in
    record {
      value = rw (p.1, p.2) (fails_then c.in_err-ty.field-0.0 _ _ (fails_then c.in_err-ty.field-0.0 _ _ c.in_err-ty.ensures.value));
      height = rw p.1 tt;
      rest = rw p.1 tt;
      bounded = rw p.1 tt;
    }

pub cast-returns-in_err-_close : goal.cast-returns-in_err-_close
unfolding cast_at
cast-returns-in_err-_close t c =
    let p = err_from_is_err_and c.from_residual-in_err-_close.result c.from_residual-in_err-_close.ensures.1 in
    record {
      value = rw (p.1, p.2, c.in_ok-ty.ensures.value) (fails_then c.in_err-_close.field-0.0 _ _ (fails_then c.in_err-_close.field-0.0 _ _ (fails_then c.in_err-_close.field-0.0 _ _ c.in_err-_close.ensures.value)));
      height = rw p.1 tt;
      rest = rw p.1 tt;
      bounded = rw p.1 tt;
    }

pub cast-returns-in_err-operand : goal.cast-returns-in_err-operand
unfolding cast_at
cast-returns-in_err-operand t c =
    let p = err_from_is_err_and c.from_residual-in_err-operand.result c.from_residual-in_err-operand.ensures.1 in
    record {
      value = rw (p.1, p.2, c.in_ok-ty.ensures.value, c.in_ok-_close.ensures.value) (fails_then c.in_err-operand.field-0.0 _ _ (fails_then c.in_err-operand.field-0.0 _ _ (fails_then c.in_err-operand.field-0.0 _ _ c.in_err-operand.ensures.value)));
      height = rw p.1 tt;
      rest = rw p.1 tt;
      bounded = rw p.1 tt;
    }

pub cast-returns-clause-value : goal.cast-returns-clause-value
unfolding cast_at
cast-returns-clause-value t c =
    let e : c.to-span.result ≡ span_to c.args.opening (span_of (expr_of c.in_ok-operand.operand.value)) = cc in
    rw (
      c.in_ok-ty.ensures.value,
      c.in_ok-_close.ensures.value,
      c.in_ok-operand.ensures.value,
      sym e,
      sym
          (cast_view c.in_ok-ty.ty c.in_ok-operand.operand c.to-span.result),
    )
    (made_gives expr_of c.made.result _ _ c.made.ensures.value c.made.ensures.rest c.made.ensures.memory)

pub closed-returns-in_err-inside : goal.closed-returns-in_err-inside
unfolding closed_at
closed-returns-in_err-inside t c =
    let p = err_from_is_err_and c.from_residual.result c.from_residual.ensures.1 in
    record {
      value = rw (p.1, p.2) (fails_then c.in_err-inside.field-0.0 _ _ (fails_then c.in_err-inside.field-0.0 _ _ c.in_err-inside.ensures.value));
      height = rw p.1 tt;
      rest = rw p.1 tt;
      bounded = rw p.1 tt;
    }

pub closed-returns-in_err-close : goal.closed-returns-in_err-close
unfolding closed_at
closed-returns-in_err-close t c =
    let p = err_from_is_err_and c.from_residual-in_err-close.result c.from_residual-in_err-close.ensures.1 in
    record {
      value = rw (p.1, p.2, c.in_ok-inside.ensures.value) (fails_then c.in_err-close.field-0.0 _ _ (fails_then c.in_err-close.field-0.0 _ _ c.in_err-close.ensures.value));
      height = rw p.1 tt;
      rest = rw p.1 tt;
      bounded = rw p.1 tt;
    }

pub closed-returns-clause-value : goal.closed-returns-clause-value
unfolding closed_at
closed-returns-clause-value t c = rw (
  c.in_ok-inside.ensures.value,
  c.in_ok-close.ensures.value,
  sym c.to-span.ensures,
  sym
      (brackets_view c.in_ok-inside.inside c.to-span.result),
)
    (made_gives expr_of c.made.result _ _ c.made.ensures.value c.made.ensures.rest c.made.ensures.memory)

pub prefixed-returns-in_err-operand : goal.prefixed-returns-in_err-operand
prefixed-returns-in_err-operand t c =
    let p = err_from_is_err_and c.from_residual.result c.from_residual.ensures.1 in
    record {
      value = rw (p.1, p.2) (fails_then c.in_err-operand.field-0.0 _ _ c.in_err-operand.ensures.value);
      height = rw p.1 tt;
      rest = rw p.1 tt;
      bounded = rw p.1 tt;
    }

pub prefixed-returns-clause-value : goal.prefixed-returns-clause-value
prefixed-returns-clause-value t c =
    let e : c.to-span.result ≡ span_to c.args.place (span_of (expr_of c.in_ok-operand.operand.value)) = cc in
    rw (c.in_ok-operand.ensures.value, sym e, sym (prefix_view c.args.operator c.in_ok-operand.operand c.to-span.result)) (made_gives expr_of c.made.result _ _ c.made.ensures.value c.made.ensures.rest c.made.ensures.memory)

pub parts-returns-in_err-then : goal.parts-returns-in_err-then
unfolding parts_at
parts-returns-in_err-then t c =
    let p = err_from_is_err_and c.from_residual.result c.from_residual.ensures.1 in
    record {
      value = rw (p.1, p.2) (fails_then c.in_err-then.field-0.0 _ _ c.in_err-then.ensures.value);
      height = rw p.1 tt;
      rest = rw p.1 tt;
      bounded = rw p.1 tt;
    }

pub parts-returns-in_err-colon : goal.parts-returns-in_err-colon
unfolding parts_at
parts-returns-in_err-colon t c =
    let p = err_from_is_err_and c.from_residual-in_err-colon.result c.from_residual-in_err-colon.ensures.1 in
    record {
      value = rw (p.1, p.2, c.in_ok-then.ensures.value) (fails_then c.in_err-colon.field-0.0 _ _ (fails_then c.in_err-colon.field-0.0 _ _ c.in_err-colon.ensures.value));
      height = rw p.1 tt;
      rest = rw p.1 tt;
      bounded = rw p.1 tt;
    }

pub parts-returns-in_err-otherwise : goal.parts-returns-in_err-otherwise
unfolding parts_at
parts-returns-in_err-otherwise t c =
    let p = err_from_is_err_and c.from_residual-in_err-otherwise.result c.from_residual-in_err-otherwise.ensures.1 in
    record {
      value = rw (p.1, p.2, c.in_ok-then.ensures.value, c.in_ok-colon.ensures.value) (fails_then c.in_err-otherwise.field-0.0 _ _ (fails_then c.in_err-otherwise.field-0.0 _ _ c.in_err-otherwise.ensures.value));
      height = rw p.1 tt;
      rest = rw p.1 tt;
      bounded = rw p.1 tt;
    }

pub parts-returns-clause-value : goal.parts-returns-clause-value
unfolding parts_at
parts-returns-clause-value t c = rw (c.in_ok-then.ensures.value, c.in_ok-colon.ensures.value, c.in_ok-otherwise.ensures.value) refl

-- ---- what is left behind the first token of an operand, and its depth

pub unary_from-returns-in-Atom-clause-height : goal.unary_from-returns-in-Atom-clause-height
unary_from-returns-in-Atom-clause-height t c = height_made expr_of depth c.made.result _ _ (ap depth c.atom_of.ensures ∙ atom_depth c.in-Atom.atom c.args.first.now.span) c.made.ensures.value c.made.ensures.height

pub unary_from-returns-in-Atom-clause-rest : goal.unary_from-returns-in-Atom-clause-rest
unary_from-returns-in-Atom-clause-rest t c = shorter_made c.made.result c.args.first.now c.args.rest.now c.args.tokens.now c.requires.whole c.made.ensures.rest

pub unary_from-returns-in-Atom-clause-bounded : goal.unary_from-returns-in-Atom-clause-bounded
unary_from-returns-in-Atom-clause-bounded t c = bounded_made c.made.result 1 c.args.left (omega arith) c.made.ensures.height

pub unary_from-returns-in-Word-clause-height : goal.unary_from-returns-in-Word-clause-height
unary_from-returns-in-Word-clause-height t c = c.named.ensures.height

pub unary_from-returns-in-Word-clause-rest : goal.unary_from-returns-in-Word-clause-rest
unary_from-returns-in-Word-clause-rest t c = c.named.ensures.rest

pub unary_from-returns-in-Word-clause-bounded : goal.unary_from-returns-in-Word-clause-bounded
unary_from-returns-in-Word-clause-bounded t c = c.named.ensures.bounded

pub unary_from-returns-in-Bracket-clause-height : goal.unary_from-returns-in-Bracket-clause-height
unary_from-returns-in-Bracket-clause-height t c = c.cast.ensures.height

pub unary_from-returns-in-Bracket-clause-rest : goal.unary_from-returns-in-Bracket-clause-rest
unary_from-returns-in-Bracket-clause-rest t c = shorter_found c.cast.result c.args.first.now c.args.rest.now c.args.tokens.now c.requires.whole c.cast.ensures.rest

pub unary_from-returns-in-Bracket-clause-bounded : goal.unary_from-returns-in-Bracket-clause-bounded
unary_from-returns-in-Bracket-clause-bounded t c = c.cast.ensures.bounded

pub unary_from-returns-in-Bracket-2-clause-height : goal.unary_from-returns-in-Bracket-2-clause-height
unary_from-returns-in-Bracket-2-clause-height t c = c.closed.ensures.height

pub unary_from-returns-in-Bracket-2-clause-rest : goal.unary_from-returns-in-Bracket-2-clause-rest
unary_from-returns-in-Bracket-2-clause-rest t c = shorter_found c.closed.result c.args.first.now c.args.rest.now c.args.tokens.now c.requires.whole c.closed.ensures.rest

pub unary_from-returns-in-Bracket-2-clause-bounded : goal.unary_from-returns-in-Bracket-2-clause-bounded
unary_from-returns-in-Bracket-2-clause-bounded t c = c.closed.ensures.bounded

pub unary_from-returns-in-Prefix-clause-height : goal.unary_from-returns-in-Prefix-clause-height
unary_from-returns-in-Prefix-clause-height t c = c.prefixed.ensures.height

pub unary_from-returns-in-Prefix-clause-rest : goal.unary_from-returns-in-Prefix-clause-rest
unary_from-returns-in-Prefix-clause-rest t c = shorter_found c.prefixed.result c.args.first.now c.args.rest.now c.args.tokens.now c.requires.whole c.prefixed.ensures.rest

pub unary_from-returns-in-Prefix-clause-bounded : goal.unary_from-returns-in-Prefix-clause-bounded
unary_from-returns-in-Prefix-clause-bounded t c = c.prefixed.ensures.bounded
