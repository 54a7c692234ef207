use Rattle.std.proofs.Common.{◌≡◌, ◌-◌, ◌∷◌, ◌++◌, [], suc, length, refl, sym, ◌∙◌, arith, rules}
use Rattle.std.proofs.lemmas.Result.{err_from_is_err_and}
use Rattle.std.proofs.lemmas.List.{map_push}
use Rattle.isp_lex.specs.declared.token.Mark.TheVariants as mark
use Rattle.isp_tree.specs.Views.{stmt_of, stmts_of}
use Rattle.isp_grammar.specs.reader.Readers.{optional}
use Rattle.isp_grammar.specs.reader.Starts.{start_of}
use Rattle.isp_grammar.specs.reader.Stmts.{stmts_at, braced_at, block_stmt_at, if_at, do_at, unmasked_at, loop_at, stmt_from, stmt_at, block_at}
use Rattle.isp_grammar.proofs.Loops.{until_fails, until_end, until_step, until_begins}
use Rattle.isp_grammar.proofs.SimpleSteps.{fails_then, boxed_made, shorter}
use Rattle.isp_grammar.proofs.StmtSteps.{loop_headed, stmt_at_limit, stmt_none, stmt_step, block_at_limit, block_step}
use Rattle.isp_grammar.proofs.stmt.+stmt.Goals as goal

-- ---- one statement

pub stmt-returns-then-left-eq0-clause-value : goal.stmt-returns-then-left-eq0-clause-value
stmt-returns-then-left-eq0-clause-value t c = rw (c.refuse_at_limit.ensures, c.begins_stmt.ensures, c.if-left-eq0.true) (stmt_at_limit c.args.tokens.now)

pub stmt-returns-in_default-clause-value : goal.stmt-returns-in_default-clause-value
stmt-returns-in_default-clause-value t c = rw c.refuse.ensures (stmt_none c.args.left c.args.tokens.now c.in_default.ensures.cases)

pub stmt-returns-clause-value : goal.stmt-returns-clause-value
stmt-returns-clause-value t c =
    let w : c.args.tokens.now ≡ c.in-Some.first.now ∷ c.in-Some.rest.now = search rules in
    let p : stmt_at c.args.left c.args.tokens.now ≡ stmt_from (stmt_at (c.args.left - 1)) (block_at (c.args.left - 1)) (c.args.left - 1)
    (start_of c.in-Some.first.now.kind) c.in-Some.first.now c.in-Some.rest.now = rw w
    (stmt_step c.args.left c.in-Some.first.now c.in-Some.rest.now (omega arith)) in
    rw p c.stmt_from.ensures.value

-- ---- blocks

pub block-returns-then-left-eq0-clause-value : goal.block-returns-then-left-eq0-clause-value
block-returns-then-left-eq0-clause-value t c = rw (c.refuse_at_limit.ensures, c.starts_with.ensures, c.if-left-eq0.true) (block_at_limit c.args.tokens.now)

pub block-returns-clause-value : goal.block-returns-clause-value
block-returns-clause-value t c = rw (block_step c.args.left c.args.tokens.now (omega arith)) c.braced.ensures.value

-- ---- statements up to a brace

pub stmts-each-init : goal.stmts-each-init
unfolding stmts_at
stmts-each-init t c = record {
  rest = omega arith;
  value = (suc (length c.args.tokens.now), omega arith, rw c.new-all.ensures.items (until_begins mark.BraceClose (stmt_at c.args.left) (suc (length c.args.tokens.now)) c.args.tokens.now));
}

pub stmts-returns-in_err-next : goal.stmts-returns-in_err-next
stmts-returns-in_err-next t c =
    let v = c.each.invariant.value in
    let p = err_from_is_err_and c.from_residual.result c.from_residual.ensures.1 in
    record {
      value = rw (p.1, p.2) (until_fails mark.BraceClose c.in_err-next.field-0.0 (stmt_at c.args.left) v.0 (stmts_of c.each.all.items) c.each.rest.now
          (stmts_at (stmt_at c.args.left) c.args.tokens.now) v.1 (sym c.starts_with.ensures ∙ c.each-test.true) c.in_err-next.ensures.value v.2);
      rest = rw p.1 tt;
    }

pub stmts-each-preserved : goal.stmts-each-preserved
stmts-each-preserved t c =
    let v = c.each.invariant.value in
    let e : stmts_of c.in_ok-all.all.items ≡ stmts_of c.each.all.items ++ stmt_of c.in_ok-next.next.value ∷ [] = rw c.in_ok-all.ensures.items (map_push _ c.each.all.items c.in_ok-next.next.value) in
    let s = until_step mark.BraceClose (stmt_at c.args.left) v.0 (stmts_of c.each.all.items) c.each.rest.now (stmt_of c.in_ok-next.next.value)
    c.in_ok-next.after.now (stmts_at (stmt_at c.args.left) c.args.tokens.now) v.1 c.in_ok-next.ensures.rest
    (sym c.starts_with.ensures ∙ c.each-test.true) c.in_ok-next.ensures.value v.2 in
    record {
      rest = omega (arith, c.each.invariant.rest, c.in_ok-next.ensures.rest);
      value = rw e s;
    }

pub stmts-returns-clause-value : goal.stmts-returns-clause-value
stmts-returns-clause-value t c =
    let v = c.each.invariant.value in
    until_end mark.BraceClose (stmt_at c.args.left) v.0 (stmts_of c.each.all.items) c.each.rest.now (stmts_at (stmt_at c.args.left) c.args.tokens.now) v.1 (sym c.starts_with.ensures ∙ c.each-test.false) v.2

-- ---- statements with statements in them

pub braced-returns-in_err-brace : goal.braced-returns-in_err-brace
unfolding braced_at
braced-returns-in_err-brace t c =
    let p = err_from_is_err_and c.from_residual.result c.from_residual.ensures.1 in
    record {
      value = rw (p.1, p.2) (fails_then c.in_err-brace.field-0.0 _ _ (fails_then c.in_err-brace.field-0.0 _ _ c.in_err-brace.ensures.value));
      rest = rw p.1 tt;
    }

pub braced-returns-in_err-inside : goal.braced-returns-in_err-inside
unfolding braced_at
braced-returns-in_err-inside t c =
    let p = err_from_is_err_and c.from_residual-in_err-inside.result c.from_residual-in_err-inside.ensures.1 in
    record {
      value = rw (p.1, p.2, c.in_ok-brace.ensures.value) (fails_then c.in_err-inside.field-0.0 _ _ (fails_then c.in_err-inside.field-0.0 _ _ (fails_then c.in_err-inside.field-0.0 _ _ c.in_err-inside.ensures.value)));
      rest = rw p.1 tt;
    }

pub braced-returns-in_err-statements : goal.braced-returns-in_err-statements
unfolding braced_at
braced-returns-in_err-statements t c =
    let p = err_from_is_err_and c.from_residual-in_err-statements.result c.from_residual-in_err-statements.ensures.1 in
    record {
      value = rw (p.1, p.2, c.in_ok-brace.ensures.value, c.in_ok-inside.ensures.value)
          (fails_then c.in_err-statements.field-0.0 _ _ (fails_then c.in_err-statements.field-0.0 _ _
          (fails_then c.in_err-statements.field-0.0 _ _ c.in_err-statements.ensures.sign)));
      rest = rw p.1 tt;
    }

pub block_stmt-returns-in_err-block : goal.block_stmt-returns-in_err-block
unfolding block_stmt_at
block_stmt-returns-in_err-block t c =
    let p = err_from_is_err_and c.from_residual.result c.from_residual.ensures.1 in
    record {
      value = rw (p.1, p.2) (fails_then c.in_err-block.field-0.0 _ _ c.in_err-block.ensures.value);
      rest = rw p.1 tt;
    }

pub else_branch-returns-then-not-starts_with-clause-value : goal.else_branch-returns-then-not-starts_with-clause-value
unfolding optional
else_branch-returns-then-not-starts_with-clause-value t c = rw (sym c.starts_with.ensures ∙ c.if-not-starts_with.true) refl

pub else_branch-returns-in_err-other : goal.else_branch-returns-in_err-other
unfolding optional
else_branch-returns-in_err-other t c =
    let p = err_from_is_err_and c.from_residual.result c.from_residual.ensures.1 in
    record {
      value = rw (p.1, p.2, sym c.starts_with.ensures ∙ c.if-not-starts_with.false, sym c.tail.ensures) (fails_then c.in_err-other.field-0.0 _ _ c.in_err-other.ensures.value);
      rest = rw p.1 tt;
    }

pub else_branch-returns-clause-value : goal.else_branch-returns-clause-value
unfolding optional
else_branch-returns-clause-value t c = rw (sym c.starts_with.ensures ∙ c.if-not-starts_with.false, sym c.tail.ensures, c.in_ok-other.ensures.value) refl

pub conditional-returns-in_err-test : goal.conditional-returns-in_err-test
unfolding if_at
conditional-returns-in_err-test t c =
    let p = err_from_is_err_and c.from_residual.result c.from_residual.ensures.1 in
    record {
      value = rw (p.1, p.2) (fails_then c.in_err-test.field-0.0 _ _ (fails_then c.in_err-test.field-0.0 _ _ c.in_err-test.ensures.value));
      rest = rw p.1 tt;
    }

pub conditional-returns-in_err-then : goal.conditional-returns-in_err-then
unfolding if_at
conditional-returns-in_err-then t c =
    let p = err_from_is_err_and c.from_residual-in_err-then.result c.from_residual-in_err-then.ensures.1 in
    record {
      value = rw (p.1, p.2, c.in_ok-test.ensures.value) (fails_then c.in_err-then.field-0.0 _ _ (fails_then c.in_err-then.field-0.0 _ _ (fails_then c.in_err-then.field-0.0 _ _ c.in_err-then.ensures.value)));
      rest = rw p.1 tt;
    }

pub conditional-returns-in_err-other : goal.conditional-returns-in_err-other
unfolding if_at
conditional-returns-in_err-other t c =
    let p = err_from_is_err_and c.from_residual-in_err-other.result c.from_residual-in_err-other.ensures.1 in
    record {
      value = rw (p.1, p.2, c.in_ok-test.ensures.value, c.in_ok-then.ensures.value) (fails_then c.in_err-other.field-0.0 _ _ (fails_then c.in_err-other.field-0.0 _ _ (fails_then c.in_err-other.field-0.0 _ _ c.in_err-other.ensures.value)));
      rest = rw p.1 tt;
    }

pub conditional-returns-clause-value : goal.conditional-returns-clause-value
unfolding if_at
conditional-returns-clause-value t c = rw (c.in_ok-test.ensures.value, c.in_ok-then.ensures.value, c.in_ok-other.ensures.value, sym c.if_of.ensures)
    (boxed_made stmt_of c.boxed.result _ _ c.boxed.ensures.value c.boxed.ensures.rest c.boxed.ensures.memory)

pub loop_stmt-returns-in_err-head : goal.loop_stmt-returns-in_err-head
loop_stmt-returns-in_err-head t c =
    let p = err_from_is_err_and c.from_residual.result c.from_residual.ensures.1 in
    record {
      value = rw (p.1, p.2, loop_headed (stmt_at c.args.inner) c.args.inner c.args.which c.args.keyword c.args.tokens.now) (fails_then c.in_err-head.field-0.0 _ _ (fails_then c.in_err-head.field-0.0 _ _ c.in_err-head.ensures.value));
      rest = rw p.1 tt;
    }

pub loop_stmt-returns-in_err-body : goal.loop_stmt-returns-in_err-body
loop_stmt-returns-in_err-body t c =
    let p = err_from_is_err_and c.from_residual-in_err-body.result c.from_residual-in_err-body.ensures.1 in
    record {
      value = rw (p.1, p.2, loop_headed (stmt_at c.args.inner) c.args.inner c.args.which c.args.keyword c.args.tokens.now, c.in_ok-head.ensures.value)
          (fails_then c.in_err-body.field-0.0 _ _ (fails_then c.in_err-body.field-0.0 _ _ c.in_err-body.ensures.value));
      rest = rw p.1 tt;
    }

pub loop_stmt-returns-clause-value : goal.loop_stmt-returns-clause-value
loop_stmt-returns-clause-value t c = rw (
  loop_headed (stmt_at c.args.inner) c.args.inner c.args.which c.args.keyword c.args.tokens.now,
  c.in_ok-head.ensures.value,
  c.in_ok-body.ensures.value,
  sym c.loop_of.ensures,
)
    (boxed_made stmt_of c.boxed.result _ _ c.boxed.ensures.value c.boxed.ensures.rest c.boxed.ensures.memory)

pub do_loop-returns-in_err-body : goal.do_loop-returns-in_err-body
unfolding do_at
do_loop-returns-in_err-body t c =
    let p = err_from_is_err_and c.from_residual.result c.from_residual.ensures.1 in
    record {
      value = rw (p.1, p.2) (fails_then c.in_err-body.field-0.0 _ _ (fails_then c.in_err-body.field-0.0 _ _ c.in_err-body.ensures.value));
      rest = rw p.1 tt;
    }

pub do_loop-returns-in_err-test : goal.do_loop-returns-in_err-test
unfolding do_at
do_loop-returns-in_err-test t c =
    let p = err_from_is_err_and c.from_residual-in_err-test.result c.from_residual-in_err-test.ensures.1 in
    record {
      value = rw (p.1, p.2, c.in_ok-body.ensures.value) (fails_then c.in_err-test.field-0.0 _ _ (fails_then c.in_err-test.field-0.0 _ _ c.in_err-test.ensures.value));
      rest = rw p.1 tt;
    }

pub do_loop-returns-clause-value : goal.do_loop-returns-clause-value
unfolding do_at
do_loop-returns-clause-value t c = rw (c.in_ok-body.ensures.value, c.in_ok-test.ensures.value, sym c.do_of.ensures) (boxed_made stmt_of c.boxed.result _ _ c.boxed.ensures.value c.boxed.ensures.rest c.boxed.ensures.memory)

pub unmasked-returns-in_err-body : goal.unmasked-returns-in_err-body
unfolding unmasked_at
unmasked-returns-in_err-body t c =
    let p = err_from_is_err_and c.from_residual.result c.from_residual.ensures.1 in
    record {
      value = rw (p.1, p.2) (fails_then c.in_err-body.field-0.0 _ _ c.in_err-body.ensures.value);
      rest = rw p.1 tt;
    }

pub unmasked-returns-clause-value : goal.unmasked-returns-clause-value
unfolding unmasked_at
unmasked-returns-clause-value t c = rw (c.in_ok-body.ensures.value, sym c.unmasked_of.ensures) (boxed_made stmt_of c.boxed.result _ _ c.boxed.ensures.value c.boxed.ensures.rest c.boxed.ensures.memory)

-- ---- by the first token

pub stmt_from-returns-in-Block-clause-value : goal.stmt_from-returns-in-Block-clause-value
stmt_from-returns-in-Block-clause-value t c = rw (sym c.stmt_start.ensures ∙ c.in-Block.is, sym c.requires.whole) c.block_stmt.ensures.value

pub stmt_from-returns-in-Declare-clause-value : goal.stmt_from-returns-in-Declare-clause-value
stmt_from-returns-in-Declare-clause-value t c = rw (sym c.stmt_start.ensures ∙ c.in-Declare.is, sym c.requires.whole) c.declare_stmt.ensures.value

pub stmt_from-returns-in-Simple-clause-value : goal.stmt_from-returns-in-Simple-clause-value
stmt_from-returns-in-Simple-clause-value t c = rw (sym c.stmt_start.ensures ∙ c.in-Simple.is, sym c.requires.whole) c.simple_stmt.ensures.value

pub stmt_from-returns-in-If-clause-value : goal.stmt_from-returns-in-If-clause-value
stmt_from-returns-in-If-clause-value t c = rw (sym c.stmt_start.ensures ∙ c.in-If.is) c.conditional.ensures.value

pub stmt_from-returns-in-While-clause-value : goal.stmt_from-returns-in-While-clause-value
unfolding loop_at
stmt_from-returns-in-While-clause-value t c = rw (sym c.stmt_start.ensures ∙ c.in-While.is) c.loop_stmt.ensures.value

pub stmt_from-returns-in-Do-clause-value : goal.stmt_from-returns-in-Do-clause-value
stmt_from-returns-in-Do-clause-value t c = rw (sym c.stmt_start.ensures ∙ c.in-Do.is) c.do_loop.ensures.value

pub stmt_from-returns-in-For-clause-value : goal.stmt_from-returns-in-For-clause-value
unfolding loop_at
stmt_from-returns-in-For-clause-value t c = rw (sym c.stmt_start.ensures ∙ c.in-For.is) c.loop_stmt-in-For.ensures.value

pub stmt_from-returns-in-Foreach-clause-value : goal.stmt_from-returns-in-Foreach-clause-value
unfolding loop_at
stmt_from-returns-in-Foreach-clause-value t c = rw (sym c.stmt_start.ensures ∙ c.in-Foreach.is) c.loop_stmt-in-Foreach.ensures.value

pub stmt_from-returns-in-ForeachActive-clause-value : goal.stmt_from-returns-in-ForeachActive-clause-value
unfolding loop_at
stmt_from-returns-in-ForeachActive-clause-value t c = rw (sym c.stmt_start.ensures ∙ c.in-ForeachActive.is) c.loop_stmt-in-ForeachActive.ensures.value

pub stmt_from-returns-in-ForeachUnique-clause-value : goal.stmt_from-returns-in-ForeachUnique-clause-value
unfolding loop_at
stmt_from-returns-in-ForeachUnique-clause-value t c = rw (sym c.stmt_start.ensures ∙ c.in-ForeachUnique.is) c.loop_stmt-in-ForeachUnique.ensures.value

pub stmt_from-returns-in-Unmasked-clause-value : goal.stmt_from-returns-in-Unmasked-clause-value
stmt_from-returns-in-Unmasked-clause-value t c = rw (sym c.stmt_start.ensures ∙ c.in-Unmasked.is) c.unmasked.ensures.value

pub stmt_from-returns-in-Jump-clause-value : goal.stmt_from-returns-in-Jump-clause-value
stmt_from-returns-in-Jump-clause-value t c = rw (sym c.stmt_start.ensures ∙ c.in-Jump.is) c.jump_stmt.ensures.value

pub stmt_from-returns-in-Return-clause-value : goal.stmt_from-returns-in-Return-clause-value
stmt_from-returns-in-Return-clause-value t c = rw (sym c.stmt_start.ensures ∙ c.in-Return.is) c.return_stmt.ensures.value

pub stmt_from-returns-in-Print-clause-value : goal.stmt_from-returns-in-Print-clause-value
stmt_from-returns-in-Print-clause-value t c = rw (sym c.stmt_start.ensures ∙ c.in-Print.is) c.print_stmt.ensures.value

pub stmt_from-returns-in-Assert-clause-value : goal.stmt_from-returns-in-Assert-clause-value
stmt_from-returns-in-Assert-clause-value t c = rw (sym c.stmt_start.ensures ∙ c.in-Assert.is) c.assert_stmt.ensures.value

pub stmt_from-returns-in-Nothing-clause-value : goal.stmt_from-returns-in-Nothing-clause-value
stmt_from-returns-in-Nothing-clause-value t c = rw (sym c.stmt_start.ensures ∙ c.in-Nothing.is, c.refuse.ensures, c.requires.whole) refl

-- ---- what is left behind the first token

pub stmt_from-returns-in-Block-clause-rest : goal.stmt_from-returns-in-Block-clause-rest
stmt_from-returns-in-Block-clause-rest t c = c.block_stmt.ensures.rest

pub stmt_from-returns-in-Declare-clause-rest : goal.stmt_from-returns-in-Declare-clause-rest
stmt_from-returns-in-Declare-clause-rest t c = c.declare_stmt.ensures.rest

pub stmt_from-returns-in-Simple-clause-rest : goal.stmt_from-returns-in-Simple-clause-rest
stmt_from-returns-in-Simple-clause-rest t c = c.simple_stmt.ensures.rest

pub stmt_from-returns-in-If-clause-rest : goal.stmt_from-returns-in-If-clause-rest
stmt_from-returns-in-If-clause-rest t c = shorter c.conditional.result c.args.first.now c.args.rest.now c.args.tokens.now c.requires.whole c.conditional.ensures.rest

pub stmt_from-returns-in-While-clause-rest : goal.stmt_from-returns-in-While-clause-rest
stmt_from-returns-in-While-clause-rest t c = shorter c.loop_stmt.result c.args.first.now c.args.rest.now c.args.tokens.now c.requires.whole c.loop_stmt.ensures.rest

pub stmt_from-returns-in-Do-clause-rest : goal.stmt_from-returns-in-Do-clause-rest
stmt_from-returns-in-Do-clause-rest t c = shorter c.do_loop.result c.args.first.now c.args.rest.now c.args.tokens.now c.requires.whole c.do_loop.ensures.rest

pub stmt_from-returns-in-For-clause-rest : goal.stmt_from-returns-in-For-clause-rest
stmt_from-returns-in-For-clause-rest t c = shorter c.loop_stmt-in-For.result c.args.first.now c.args.rest.now c.args.tokens.now c.requires.whole c.loop_stmt-in-For.ensures.rest

pub stmt_from-returns-in-Foreach-clause-rest : goal.stmt_from-returns-in-Foreach-clause-rest
stmt_from-returns-in-Foreach-clause-rest t c = shorter c.loop_stmt-in-Foreach.result c.args.first.now c.args.rest.now c.args.tokens.now c.requires.whole c.loop_stmt-in-Foreach.ensures.rest

pub stmt_from-returns-in-ForeachActive-clause-rest : goal.stmt_from-returns-in-ForeachActive-clause-rest
stmt_from-returns-in-ForeachActive-clause-rest t c = shorter c.loop_stmt-in-ForeachActive.result c.args.first.now c.args.rest.now c.args.tokens.now c.requires.whole c.loop_stmt-in-ForeachActive.ensures.rest

pub stmt_from-returns-in-ForeachUnique-clause-rest : goal.stmt_from-returns-in-ForeachUnique-clause-rest
stmt_from-returns-in-ForeachUnique-clause-rest t c = shorter c.loop_stmt-in-ForeachUnique.result c.args.first.now c.args.rest.now c.args.tokens.now c.requires.whole c.loop_stmt-in-ForeachUnique.ensures.rest

pub stmt_from-returns-in-Unmasked-clause-rest : goal.stmt_from-returns-in-Unmasked-clause-rest
stmt_from-returns-in-Unmasked-clause-rest t c = shorter c.unmasked.result c.args.first.now c.args.rest.now c.args.tokens.now c.requires.whole c.unmasked.ensures.rest

pub stmt_from-returns-in-Jump-clause-rest : goal.stmt_from-returns-in-Jump-clause-rest
stmt_from-returns-in-Jump-clause-rest t c = shorter c.jump_stmt.result c.args.first.now c.args.rest.now c.args.tokens.now c.requires.whole c.jump_stmt.ensures.rest

pub stmt_from-returns-in-Return-clause-rest : goal.stmt_from-returns-in-Return-clause-rest
stmt_from-returns-in-Return-clause-rest t c = shorter c.return_stmt.result c.args.first.now c.args.rest.now c.args.tokens.now c.requires.whole c.return_stmt.ensures.rest

pub stmt_from-returns-in-Print-clause-rest : goal.stmt_from-returns-in-Print-clause-rest
stmt_from-returns-in-Print-clause-rest t c = shorter c.print_stmt.result c.args.first.now c.args.rest.now c.args.tokens.now c.requires.whole c.print_stmt.ensures.rest

pub stmt_from-returns-in-Assert-clause-rest : goal.stmt_from-returns-in-Assert-clause-rest
stmt_from-returns-in-Assert-clause-rest t c = shorter c.assert_stmt.result c.args.first.now c.args.rest.now c.args.tokens.now c.requires.whole c.assert_stmt.ensures.rest
