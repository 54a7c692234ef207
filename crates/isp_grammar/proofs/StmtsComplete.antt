-- What is a statement is read.
use Rattle.std.proofs.Common.{◌≡◌, ℕ, zero, suc, ◌≤◌, ◌<◌, Bool, true, false, List, [], ◌∷◌, ◌++◌, Option, Some, None, Ok, refl, sym, ap, subst, ◌∙◌, append_assoc, arith, inl, inr}
use Rattle.std.specs.Prelude.{option_map}
use Rattle.std.proofs.lemmas.List.{append-nil}
use Rattle.isp_base.specs.Types.{span_to}
use Rattle.isp_base.specs.declared.types.Span.{Span}
use Rattle.isp_lex.specs.Tokens.{at, starts_with}
use Rattle.isp_lex.specs.declared.token.Mark.TheVariants as mark
use Rattle.isp_lex.specs.declared.token.TokenKind.{TokenKind}
use Rattle.isp_lex.specs.declared.token.Token.{Token}
use Rattle.isp_grammar.proofs.Basics.{starts_same, starts_is}
use Rattle.isp_grammar.proofs.Declarations.{Declaring, declaration_complete}
use Rattle.isp_grammar.proofs.Forms.{IsComplete, One, one_complete, Free, both_complete, is_behind, is_before, made_complete}
use Rattle.isp_grammar.proofs.FormsComplete.{EndsByHead, optional_complete, Stands, until_complete}
use Rattle.isp_grammar.proofs.Ranges.{RangesHead, ranges_head_complete, ActiveHead, active_head_complete, UniqueHead, unique_head_complete, Texts, text_complete, Values, values_complete}
use Rattle.isp_grammar.proofs.Simples.{SimpleTree, SimpleParts, simple_complete, simple_unmakes, simple_deep, simple_starts}
use Rattle.isp_grammar.proofs.Starts.{expr_start, type_start}
use Rattle.isp_grammar.proofs.StmtParts.{declaration_starts, Test, test_complete, ClosedTest, closed_test_complete, MaybeTest, maybe_test_complete, is_change_start, FirstTree}
use Rattle.isp_grammar.proofs.StmtParts.{MaybeFirst, MaybeStep, HeadStep, HeadTest, HeadFirst, HeadParts, head_complete, first_tree, first_unmakes}
use Rattle.isp_grammar.proofs.StmtReads.{production_complete, block_stmt_of, block_production, empty_production, if_production, while_production, do_production, for_production, foreach_production, active_production}
use Rattle.isp_grammar.proofs.StmtReads.{unique_production, unmasked_production, jump_production, return_production, print_production, assert_production, declare_reads, simple_stmt_reads, empty_of}
use Rattle.isp_grammar.proofs.Stmts.{head_regroup, EndsStmt, Statement, Nothing, Several, are_all, BraceEnd, brace_then, block_deep, Braced, braced_of, BlockForm, block_reads, Else, FitsElse, Branches, Conditional}
use Rattle.isp_grammar.proofs.Stmts.{if_of, Looping, while_of, Tested, DoEnd, Doing, do_of, ForLoop, for_of, Spreading, foreach_of, Activity, active_of, Distinction, unique_of, unmasked_of, DeclareStmt, declare_of}
use Rattle.isp_grammar.proofs.Stmts.{SimpleStmt, simple_of, jump_of, Returning, return_of, PrintEnd, PrintValues, PrintText, Printing, print_of, Asserting, assert_of}
use Rattle.isp_grammar.proofs.StmtsSound.{then_else, branches_then, body_then, tested_then, some_tested, do_then, for_then, foreach_then, active_then, unique_then, declare_then, simple_then, return_then}
use Rattle.isp_grammar.proofs.StmtsSound.{print_behind, text_then, values_then, print_end_behind, brace_close_foreign, else_foreign, asserted_then, brace_behind, stmt_off_mark}
use Rattle.isp_grammar.proofs.Wrapped.{after_complete}
use Rattle.isp_tree.specs.Depth.{depth_of_stmt, depth_of_block}
use Rattle.isp_grammar.proofs.Exprs.{Exprs, Closed}
use Rattle.isp_grammar.specs.Grammar.{IsMaybe, IsExpr, IsFirst, IsSimple, IsDeclaration, IsBlock, is_braces, IsStmt, is_block, is_empty, is_declare, is_simple, is_if, is_if_else, is_while}
use Rattle.isp_grammar.specs.Grammar.{is_do, is_for, is_foreach, is_foreach_active, is_foreach_unique, is_unmasked, is_jump, is_return, is_print, is_assert}
use Rattle.isp_grammar.specs.reader.Readers.{◌>>=◌, head, on_head}
use Rattle.isp_grammar.specs.reader.Choices.{begins_with}
use Rattle.isp_grammar.specs.reader.Starts.{start_of}
use Rattle.isp_grammar.specs.reader.Stmts.{simple_from, block_at, stmt_at}
use Rattle.isp_grammar.specs.reader.Types.{begins_type}
use Rattle.isp_grammar.specs.Signs.{word, preposition, textual, loosest, if_mark, while_mark, do_mark, for_mark, foreach_mark, jump_mark}
use Rattle.isp_tree.specs.Tree.{Expr, Simple, First, Declaration, Stmt, block, empty, declare, simple, if_then, if_else, loop_while, loop_do, loop_for, foreach, foreach_active}
use Rattle.isp_tree.specs.Tree.{foreach_unique, unmasked, jump, returning, print, assert, Block, braces, span_of_simple, span_of_stmt}
use Rattle.isp_grammar.specs.declared.start.Start.{Start}
use Rattle.isp_grammar.specs.declared.start.Start.TheVariants as by
use Rattle.isp_tree.specs.declared.stmt.Form.{Form as Shape}

depth_of_block_pos : (b : Block) → 0 < depth_of_block b
depth_of_block_pos (braces ss s) = omega arith

depth_of_stmt_pos : (s : Stmt) → 0 < depth_of_stmt s
depth_of_stmt_pos (block b) = depth_of_block_pos b
depth_of_stmt_pos (empty s) = omega arith
depth_of_stmt_pos (declare d s) = omega arith
depth_of_stmt_pos (simple p s) = omega arith
depth_of_stmt_pos (if_then f x a s) = omega arith
depth_of_stmt_pos (if_else f x a b s) = omega arith
depth_of_stmt_pos (loop_while f x a s) = omega arith
depth_of_stmt_pos (loop_do f a x s) = omega arith
depth_of_stmt_pos (loop_for f i x p a s) = omega arith
depth_of_stmt_pos (foreach t w rs a s) = omega arith
depth_of_stmt_pos (foreach_active w i a s) = omega arith
depth_of_stmt_pos (foreach_unique w i x a s) = omega arith
depth_of_stmt_pos (unmasked w a s) = omega arith
depth_of_stmt_pos (jump j w s) = omega arith
depth_of_stmt_pos (returning w x s) = omega arith
depth_of_stmt_pos (print w t p xs s) = omega arith
depth_of_stmt_pos (assert x c s) = omega arith

-- ---- lists of statements

-- no `else` begins what stands after a statement of a list
pub stmt_stands : Stands Statement mark.BraceClose
stmt_stands = record {
  first = λ a s rest i. stmt_off_mark mark.BraceClose brace_close_foreign i rest;
  next = λ x y b rest i. λ o. stmt_off_mark mark.Else else_foreign i rest;
  last = λ x rest h. λ o. let c = starts_is mark.BraceClose rest h in subst (λ (l : List Token). starts_with mark.Else l ≡ false) (sym c.2) refl;
}

pub several_by_head : EndsByHead Several
several_by_head x a b e h = sym (starts_same mark.BraceClose a b e) ∙ h

-- ---- the forms of statements

module _ (n : ℕ) (ih : IsComplete Statement n) where
  pub several_complete : IsComplete Several n
  several_complete = until_complete Statement mark.BraceClose stmt_stands n ih

  pub brace_end_complete : IsComplete BraceEnd n
  brace_end_complete = both_complete Several (One mark.BraceClose) Free brace_then n several_complete (one_complete mark.BraceClose n)

  pub branches_complete : IsComplete Branches n
  branches_complete = both_complete Statement Else FitsElse then_else n ih (optional_complete mark.Else Statement n ih)

  pub conditional_complete : IsComplete Conditional n
  conditional_complete = both_complete Test Branches Free branches_then n (test_complete n) branches_complete

  pub looping_complete : IsComplete Looping n
  looping_complete = both_complete Test Statement Free body_then n (test_complete n) ih

  pub tested_complete : IsComplete Tested n
  tested_complete = both_complete Test (One mark.Semicolon) Free tested_then n (test_complete n) (one_complete mark.Semicolon n)

  pub doing_complete : IsComplete Doing n
  doing_complete = both_complete Statement DoEnd Free do_then n ih (after_complete mark.While Tested some_tested n tested_complete)

  pub for_loop_complete : IsComplete ForLoop n
  for_loop_complete = both_complete HeadParts Statement Free for_then n (head_complete n) ih

  pub spreading_complete : IsComplete Spreading n
  spreading_complete = both_complete RangesHead Statement Free foreach_then n (ranges_head_complete n) ih

  pub activity_complete : IsComplete Activity n
  activity_complete = both_complete ActiveHead Statement Free active_then n (active_head_complete n) ih

  pub distinction_complete : IsComplete Distinction n
  distinction_complete = both_complete UniqueHead Statement Free unique_then n (unique_head_complete n) ih

  pub nothing_complete : IsComplete Nothing n
  nothing_complete used x rest i le h = rw i refl

  pub braced_complete : IsComplete Braced n
  braced_complete = both_complete (One mark.BraceOpen) BraceEnd Free brace_behind n (one_complete mark.BraceOpen n) brace_end_complete

  braces_again : {used : List Token} {b : Block} → IsBlock used b → depth_of_block b ≤ suc n → (rest : List Token) → block_at (suc n) (used ++ rest) ≡ Ok (b, rest)
  braces_again (is_braces o c ts ss i) le rest =
      made_complete Braced BlockForm braced_of [] n (block_at (suc n)) (at mark.BraceOpen o ∷ (ts ++ at mark.BraceClose c ∷ [])) (o, (ss, c)) rest (block_reads n (at mark.BraceOpen o ∷ ((ts ++ at mark.BraceClose c ∷ []) ++ rest))) braced_complete
      (is_behind mark.BraceOpen BraceEnd o (ts ++ at mark.BraceClose c ∷ []) (ss, c) (is_before Several mark.BraceClose ts ss c (are_all i))) (omega (arith, le, block_deep o (ss, c))) tt

  pub next_block_complete : IsComplete BlockForm (suc n)
  next_block_complete used b rest i le h = braces_again i le rest

pub asserting_complete : (n : ℕ) → IsComplete Asserting n
asserting_complete n = both_complete ClosedTest (One mark.Semicolon) Free asserted_then n (closed_test_complete n) (one_complete mark.Semicolon n)

pub declare_stmt_complete : (n : ℕ) → IsComplete DeclareStmt n
declare_stmt_complete n = both_complete Declaring (One mark.Semicolon) Free declare_then n (declaration_complete n) (one_complete mark.Semicolon n)

pub simple_stmt_complete : (n : ℕ) → IsComplete SimpleStmt n
simple_stmt_complete n = both_complete SimpleParts (One mark.Semicolon) Free simple_then n (simple_complete n) (one_complete mark.Semicolon n)

pub returning_complete : (n : ℕ) → IsComplete Returning n
returning_complete n = both_complete MaybeTest (One mark.Semicolon) Free return_then n (maybe_test_complete n) (one_complete mark.Semicolon n)

pub print_end_complete : (n : ℕ) → IsComplete PrintEnd n
print_end_complete n = both_complete (One mark.ParenClose) (One mark.Semicolon) Free print_end_behind n (one_complete mark.ParenClose n) (one_complete mark.Semicolon n)

pub print_values_complete : (n : ℕ) → IsComplete PrintValues n
print_values_complete n = both_complete Values PrintEnd Free values_then n (values_complete n) (print_end_complete n)

pub print_text_complete : (n : ℕ) → IsComplete PrintText n
print_text_complete n = both_complete Texts PrintValues Free text_then n (text_complete n) (print_values_complete n)

pub printing_complete : (n : ℕ) → IsComplete Printing n
printing_complete n = both_complete (One mark.ParenOpen) PrintText Free print_behind n (one_complete mark.ParenOpen n) (print_text_complete n)

-- ---- the parts of each statement

maybe_test_of : (ts : List Token) (x : Option Expr) → IsMaybe (IsExpr loosest) ts x → MaybeTest.is ts x
maybe_test_of ts None i = i
maybe_test_of ts (Some x) i = i

maybe_first_of : (ts : List Token) (x : Option First) → IsMaybe IsFirst ts x → (p : Option FirstTree) × MaybeFirst.is ts p × (option_map first_tree p ≡ x)
maybe_first_of ts None i = (None, i, refl)
maybe_first_of ts (Some x) i = let p = first_unmakes i in (Some p.0, p.1, ap Some p.2)

maybe_step_of : (ts : List Token) (x : Option Simple) → IsMaybe IsSimple ts x → (p : Option SimpleTree) × MaybeStep.is ts p × (option_map simple_from p ≡ x)
maybe_step_of ts None i = (None, i, refl)
maybe_step_of ts (Some x) i = let p = simple_unmakes i in (Some p.0, p.1, ap Some p.2)

closed_split : (o c : Span) (ts b : List Token) → at mark.ParenOpen o ∷ (ts ++ at mark.ParenClose c ∷ b) ≡ (at mark.ParenOpen o ∷ (ts ++ at mark.ParenClose c ∷ [])) ++ b
closed_split o c ts b = ap (λ (l : List Token). at mark.ParenOpen o ∷ l) (sym (append_assoc ts (at mark.ParenClose c ∷ []) b))

abbrev closed : Span → Span → List Token → List Token
closed o c ts = at mark.ParenOpen o ∷ (ts ++ at mark.ParenClose c ∷ [])

head_of : (o d e c : Span) (is ts us : List Token) (i : Option FirstTree) (x : Option Expr) (p : Option SimpleTree) → MaybeFirst.is is i → MaybeTest.is ts x → MaybeStep.is us p
    → HeadParts.is (at mark.ParenOpen o ∷ (is ++ at mark.Semicolon d ∷ (ts ++ at mark.Semicolon e ∷ (us ++ at mark.ParenClose c ∷ [])))) (o, (i, (d, (x, (e, (p, c))))))
head_of o d e c is ts us i x p a b f =
    let step = is_before MaybeStep mark.ParenClose us p c f in
    let behind = is_behind mark.Semicolon HeadStep e (us ++ at mark.ParenClose c ∷ []) (p, c) step in
    let test : HeadTest.is (ts ++ at mark.Semicolon e ∷ (us ++ at mark.ParenClose c ∷ [])) (x, (e, (p, c))) = (ts, at mark.Semicolon e ∷ (us ++ at mark.ParenClose c ∷ []), refl, b, behind, tt) in
    let more = is_behind mark.Semicolon HeadTest d (ts ++ at mark.Semicolon e ∷ (us ++ at mark.ParenClose c ∷ [])) (x, (e, (p, c))) test in
    is_behind mark.ParenOpen HeadFirst o (is ++ at mark.Semicolon d ∷ (ts ++ at mark.Semicolon e ∷ (us ++ at mark.ParenClose c ∷ [])))
    (i, (d, (x, (e, (p, c))))) (is, at mark.Semicolon d ∷ (ts ++ at mark.Semicolon e ∷ (us ++ at mark.ParenClose c ∷ [])), refl, a, more, tt)

print_text_of : (w o p c e : Span) (t : List ℕ) (ts : List Token) (xs : List Expr) → Values.is ts xs → Printing.is (at mark.ParenOpen o ∷ textual t p ∷ (ts ++ at mark.ParenClose c ∷ at mark.Semicolon e ∷ [])) (o, ((t, p), (xs, (c, e))))
print_text_of w o p c e t ts xs i =
    let last = is_behind mark.ParenClose (One mark.Semicolon) c (at mark.Semicolon e ∷ []) e refl in
    let values : PrintValues.is (ts ++ at mark.ParenClose c ∷ at mark.Semicolon e ∷ []) (xs, (c, e)) = (ts, at mark.ParenClose c ∷ at mark.Semicolon e ∷ [], refl, i, last, tt) in
    is_behind mark.ParenOpen PrintText o (textual t p ∷ (ts ++ at mark.ParenClose c ∷ at mark.Semicolon e ∷ [])) ((t, p), (xs, (c, e))) (textual t p ∷ [], ts ++ at mark.ParenClose c ∷ at mark.Semicolon e ∷ [], refl, refl, values, tt)

pub declare_start : (n : ℕ) (u : List Token) → on_head by.Nothing start_of (head u) ≡ by.Declare → stmt_at (suc n) u ≡ (DeclareStmt.read n u >>= λ x. Ok (declare_of x.0, x.1))
declare_start n [] e = absurd cc
declare_start n (t ∷ ts) e = declare_reads n t ts e

pub simple_start : (n : ℕ) (u : List Token) → on_head by.Nothing start_of (head u) ≡ by.Simple → stmt_at (suc n) u ≡ (SimpleStmt.read n u >>= λ x. Ok (simple_of x.0, x.1))
simple_start n [] e = absurd cc
simple_start n (t ∷ ts) e = simple_stmt_reads n t ts e

starts_as : (f : TokenKind → Bool) (c : Start) → ((k : TokenKind) → f k ≡ true → start_of k ≡ c) → (u : List Token) → begins_with f u ≡ true → on_head by.Nothing start_of (head u) ≡ c
starts_as f c g [] e = absurd cc
starts_as f c g (t ∷ ts) e = g t.kind e

module _ (n : ℕ) (ih : IsComplete Statement n) (blocks : IsComplete BlockForm n) where
  block_again : {used : List Token} {b : Block} → IsBlock used b → depth_of_block b ≤ suc n → (rest : List Token) → stmt_at (suc n) (used ++ rest) ≡ Ok (block b, rest)
  block_again (is_braces o c ts ss i) le rest =
      production_complete mark.BraceOpen BraceEnd block_stmt_of block_production n o (brace_end_complete n ih) (ts ++ at mark.BraceClose c ∷ []) (ss, c) rest (is_before Several mark.BraceClose ts ss c (are_all i)) le tt

  declare_again : (e : Span) (ts : List Token) (d : Declaration) → IsDeclaration ts d → depth_of_stmt (declare_of (d, e)) ≤ suc n → (rest : List Token) → stmt_at (suc n) ((ts ++ at mark.Semicolon e ∷ []) ++ rest) ≡ Ok (declare_of (d, e), rest)
  declare_again e ts d i le rest =
      let b = starts_as begins_type by.Declare type_start ((ts ++ at mark.Semicolon e ∷ []) ++ rest)
      (ap (λ (l : List Token). begins_with begins_type l) (append_assoc ts (at mark.Semicolon e ∷ []) rest)
      ∙ declaration_starts i (at mark.Semicolon e ∷ rest)) in
      made_complete DeclareStmt Statement declare_of [] n (stmt_at (suc n)) (ts ++ at mark.Semicolon e ∷ []) (d, e) rest (declare_start n ((ts ++ at mark.Semicolon e ∷ []) ++ rest) b) (declare_stmt_complete n)
      (is_before Declaring mark.Semicolon ts d e i) (omega arith) tt

  simple_begins : (e : Span) (ts : List Token) (p : SimpleTree) → SimpleParts.is ts p → (rest : List Token) → on_head by.Nothing start_of (head ((ts ++ at mark.Semicolon e ∷ []) ++ rest)) ≡ by.Simple
  simple_begins e ts p i rest =
      ap (λ (l : List Token). on_head by.Nothing start_of (head l)) (append_assoc ts (at mark.Semicolon e ∷ []) rest) ∙ (elim (simple_starts ts p (at mark.Semicolon e ∷ rest) i) [
        | inl b ↦ starts_as _ by.Simple expr_start (ts ++ at mark.Semicolon e ∷ rest) b
        | inr b ↦ starts_as _ by.Simple is_change_start (ts ++ at mark.Semicolon e ∷ rest) b
      ])

  simple_again : (e : Span) (ts : List Token) (p : SimpleTree) → SimpleParts.is ts p → depth_of_stmt (simple_of (p, e)) ≤ suc n → (rest : List Token) → stmt_at (suc n) ((ts ++ at mark.Semicolon e ∷ []) ++ rest) ≡ Ok (simple_of (p, e), rest)
  simple_again e ts p i le rest =
      made_complete SimpleStmt Statement simple_of [] n (stmt_at (suc n)) (ts ++ at mark.Semicolon e ∷ []) (p, e) rest (simple_start n ((ts ++ at mark.Semicolon e ∷ []) ++ rest) (simple_begins e ts p i rest)) (simple_stmt_complete n)
      (is_before SimpleParts mark.Semicolon ts p e i) (omega (arith, le, simple_deep p)) tt

  for_again : (f : Shape) (w o d e c : Span) (is ts us a : List Token) (i : Option First) (x : Option Expr) (p : Option Simple) (s : Stmt) (i' : Option FirstTree) → MaybeFirst.is is i' → option_map first_tree i' ≡ i → MaybeTest.is ts x
      → (p' : Option SimpleTree) → MaybeStep.is us p' → option_map simple_from p' ≡ p → IsStmt a s → depth_of_stmt (loop_for f i x p s (span_to w (span_of_stmt s))) ≤ suc n → (rest : List Token) → EndsStmt s rest
      → stmt_at (suc n) (at (for_mark f) w ∷ at mark.ParenOpen o ∷ ((is ++ at mark.Semicolon d ∷ (ts ++ at mark.Semicolon e ∷ (us ++ at mark.ParenClose c ∷ a))) ++ rest)) ≡ Ok (loop_for f i x p s (span_to w (span_of_stmt s)), rest)
  for_again f w o d e c is ts us a i x p s i' j q k p' l r m le rest h =
      subst (λ (z : Option First). depth_of_stmt (loop_for f z x p s (span_to w (span_of_stmt s))) ≤ suc n
      → stmt_at (suc n) (at (for_mark f) w ∷ at mark.ParenOpen o ∷
      ((is ++ at mark.Semicolon d ∷ (ts ++ at mark.Semicolon e ∷ (us ++ at mark.ParenClose c ∷ a))) ++ rest))
      ≡ Ok (loop_for f z x p s (span_to w (span_of_stmt s)), rest)) q
      (subst (λ (z : Option Simple). depth_of_stmt (loop_for f (option_map first_tree i') x z s (span_to w (span_of_stmt s))) ≤ suc n
      → stmt_at (suc n) (at (for_mark f) w ∷ at mark.ParenOpen o ∷
      ((is ++ at mark.Semicolon d ∷ (ts ++ at mark.Semicolon e ∷ (us ++ at mark.ParenClose c ∷ a))) ++ rest))
      ≡ Ok (loop_for f (option_map first_tree i') x z s (span_to w (span_of_stmt s)), rest)) r
      (λ le. production_complete (for_mark f) ForLoop (for_of f) (for_production f) n w (for_loop_complete n ih)
      (at mark.ParenOpen o ∷ (is ++ at mark.Semicolon d ∷ (ts ++ at mark.Semicolon e ∷ (us ++ at mark.ParenClose c ∷ a))))
      ((o, (i', (d, (x, (e, (p', c)))))), s) rest
      (at mark.ParenOpen o ∷ (is ++ at mark.Semicolon d ∷ (ts ++ at mark.Semicolon e ∷ (us ++ at mark.ParenClose c ∷ []))), a, sym (head_regroup o d e c is ts us a), head_of o d e c is ts us i' x p' j k l, m, tt) le h)) le

  next_complete : {used : List Token} {y : Stmt} → IsStmt used y → depth_of_stmt y ≤ suc n → (rest : List Token) → EndsStmt y rest → stmt_at (suc n) (used ++ rest) ≡ Ok (y, rest)
  next_complete (is_block ts b i) le rest h = block_again i le rest
  next_complete (is_empty e) le rest h = production_complete mark.Semicolon Nothing empty_of empty_production n e (nothing_complete n ih) [] tt rest refl le tt
  next_complete (is_declare e ts d i) le rest h = declare_again e ts d i le rest
  next_complete (is_simple e ts p i) le rest h =
      let q = simple_unmakes i in
      subst (λ (z : Simple). depth_of_stmt (simple z (span_to (span_of_simple z) e)) ≤ suc n
      → stmt_at (suc n) ((ts ++ at mark.Semicolon e ∷ []) ++ rest) ≡ Ok (simple z (span_to (span_of_simple z) e), rest)) q.2
      (λ le. simple_again e ts q.0 q.1 le rest) le
  next_complete (is_if f i o c ts a x s j k) le rest h =
      production_complete (if_mark f) Conditional (if_of f) (if_production f) n i (conditional_complete n ih) (at mark.ParenOpen o ∷ (ts ++ at mark.ParenClose c ∷ a)) (x, (s, None)) rest
      (closed o c ts, a, closed_split o c ts a, (o, c, ts, refl, j), (a, [], sym (append-nil a), k, refl, tt), tt) le (h refl)
  next_complete (is_if_else f i o c e ts a b x s t j k l m) le rest h =
      production_complete (if_mark f) Conditional (if_of f) (if_production f) n i (conditional_complete n ih) (at mark.ParenOpen o ∷ (ts ++ at mark.ParenClose c ∷ (a ++ at mark.Else e ∷ b))) (x, (s, Some t)) rest
      (closed o c ts, a ++ at mark.Else e ∷ b, closed_split o c ts (a ++ at mark.Else e ∷ b), (o, c, ts, refl, j), (a, at mark.Else e ∷ b, refl, k, (e, b, refl, m), l), tt) le h
  next_complete (is_while f w o c ts a x s j k) le rest h =
      production_complete (while_mark f) Looping (while_of f) (while_production f) n w (looping_complete n ih)
      (at mark.ParenOpen o ∷ (ts ++ at mark.ParenClose c ∷ a)) (x, s) rest (closed o c ts, a, closed_split o c ts a, (o, c, ts, refl, j), k, tt)
      le h
  next_complete (is_do f d w o c e a ts s x i j) le rest h =
      let last : Tested.is (at mark.ParenOpen o ∷ (ts ++ at mark.ParenClose c ∷ at mark.Semicolon e ∷ [])) (x, e) = (closed o c ts, at mark.Semicolon e ∷ [], closed_split o c ts (at mark.Semicolon e ∷ []), (o, c, ts, refl, j), refl, tt) in
      production_complete (do_mark f) Doing (do_of f) (do_production f) n d (doing_complete n ih) (a ++ at mark.While w ∷ at mark.ParenOpen o ∷ (ts ++ at mark.ParenClose c ∷ at mark.Semicolon e ∷ [])) (s, (x, e)) rest
      (a, at mark.While w ∷ at mark.ParenOpen o ∷ (ts ++ at mark.ParenClose c ∷ at mark.Semicolon e ∷ []), refl, i, (w, at mark.ParenOpen o ∷ (ts ++ at mark.ParenClose c ∷ at mark.Semicolon e ∷ []), refl, last), tt) le tt
  next_complete (is_for f w o d e c is ts us a i x p s j k l m) le rest h =
      let v = maybe_first_of is i j in
      let z = maybe_step_of us p l in
      for_again f w o d e c is ts us a i x p s v.0 v.1 v.2 (maybe_test_of ts x k) z.0 z.1 z.2 m le rest h
  next_complete (is_foreach t w o c ts a rs s i j k) le rest h =
      production_complete (foreach_mark t) Spreading (foreach_of t) (foreach_production t) n w (spreading_complete n ih) (at mark.ParenOpen o ∷ (ts ++ at mark.ParenClose c ∷ a)) (rs, s) rest
      (closed o c ts, a, closed_split o c ts a, (o, c, ts, refl, (i, j)), k, tt) le h
  next_complete (is_foreach_active f o c w a s i) le rest h =
      production_complete mark.ForeachActive Activity active_of active_production n f (activity_complete n ih) (at mark.ParenOpen o ∷ word w ∷ at mark.ParenClose c ∷ a) (w, s) rest
      (at mark.ParenOpen o ∷ word w ∷ at mark.ParenClose c ∷ [], a, refl, (o, c, word w ∷ [], refl, refl), i, tt) le h
  next_complete (is_foreach_unique f o p c w ts a x s i j) le rest h =
      let inside = word w ∷ preposition p ∷ ts in
      production_complete mark.ForeachUnique Distinction unique_of unique_production n f (distinction_complete n ih) (at mark.ParenOpen o ∷ (inside ++ at mark.ParenClose c ∷ a)) ((w, x), s) rest
      (closed o c inside, a, closed_split o c inside a, (o, c, inside, refl, (p, ts, refl, i)), j, tt) le h
  next_complete (is_unmasked u ts b i) le rest h = production_complete mark.Unmasked BlockForm unmasked_of unmasked_production n u blocks ts b rest i le tt
  next_complete (is_jump j w e) le rest h = production_complete (jump_mark j) (One mark.Semicolon) (jump_of j) (jump_production j) n w (one_complete mark.Semicolon n) (at mark.Semicolon e ∷ []) e rest refl le tt
  next_complete (is_return w e ts x i) le rest h =
      production_complete mark.Return Returning return_of return_production n w (returning_complete n) (ts ++ at mark.Semicolon e ∷ []) (x, e) rest (is_before MaybeTest mark.Semicolon ts x e (maybe_test_of ts x i)) le tt
  next_complete (is_print w o p c e t ts xs i) le rest h =
      production_complete mark.Print Printing print_of print_production n w (printing_complete n) (at mark.ParenOpen o ∷ textual t p ∷ (ts ++ at mark.ParenClose c ∷ at mark.Semicolon e ∷ [])) (o, ((t, p), (xs, (c, e)))) rest
      (print_text_of w o p c e t ts xs i) le tt
  next_complete (is_assert w o c e ts x i) le rest h =
      let inside = is_behind mark.ParenOpen Closed o (ts ++ at mark.ParenClose c ∷ []) (x, c) (is_before (Exprs loosest) mark.ParenClose ts x c i) in
      production_complete mark.Assert Asserting assert_of assert_production n w (asserting_complete n) (at mark.ParenOpen o ∷ (ts ++ at mark.ParenClose c ∷ at mark.Semicolon e ∷ [])) ((o, (x, c)), e) rest
      (closed o c ts, at mark.Semicolon e ∷ [], closed_split o c ts (at mark.Semicolon e ∷ []), inside, refl, tt) le tt

-- What is a statement or a block, no deeper, is read.
mutual
  pub stmt_complete : (n : ℕ) → IsComplete Statement n
  stmt_complete zero used s rest i le h = absurd (omega (arith, le, depth_of_stmt_pos s))
  stmt_complete (suc n) used s rest i le h = next_complete n (stmt_complete n) (block_complete n) i le rest h

  pub block_complete : (n : ℕ) → IsComplete BlockForm n
  block_complete zero used b rest i le h = absurd (omega (arith, le, depth_of_block_pos b))
  block_complete (suc n) used b rest i le h = next_block_complete n (stmt_complete n) used b rest i le h
