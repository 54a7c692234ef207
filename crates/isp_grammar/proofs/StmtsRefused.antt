-- What a refusal of a statement means.
use Rattle.std.proofs.Common.{◌≡◌, ℕ, zero, suc, true, false, List, [], ◌∷◌, ◌++◌, Option, None, Err, refl, sym, ap, subst, ◌∙◌}
use Rattle.isp_base.specs.declared.types.Span.{Span}
use Rattle.isp_lex.specs.Tokens.{is_mark, at}
use Rattle.isp_lex.specs.declared.token.Mark.{Mark}
use Rattle.isp_lex.specs.declared.token.Mark.TheVariants as mark
use Rattle.isp_lex.specs.declared.token.TokenKind.{TokenKind}
use Rattle.isp_lex.specs.declared.token.TokenKind.TheVariants as kind
use Rattle.isp_lex.specs.declared.token.Token.{Token}
use Rattle.isp_grammar.proofs.Basics.{token, err_is, ok_err, mark_off, is_mark_is, starts_by_head}
use Rattle.isp_grammar.proofs.Choices.{nowhere, begins_same, limit_off, Limits, limit_refused}
use Rattle.isp_grammar.proofs.Declarations.{Declaring, declaration_sound, declaration_complete, declaration_by_head, declaration_refused}
use Rattle.isp_grammar.proofs.Forms.{Form, Can, One, one_sound, one_complete, Both, Free, Follows}
use Rattle.isp_grammar.proofs.FormsComplete.{one_by_head}
use Rattle.isp_grammar.proofs.Ranges.{RangesHead, ranges_head_sound, ranges_head_complete, ranges_head_refused, some_ranges_head, ActiveHead, active_head_sound, active_head_complete}
use Rattle.isp_grammar.proofs.Ranges.{active_head_refused, some_active_head, UniqueHead, unique_head_sound, unique_head_complete, unique_head_refused, some_unique_head, Texts, text_sound}
use Rattle.isp_grammar.proofs.Ranges.{text_complete, text_refused, Values, values_sound, values_complete, values_refused, values_by_head}
use Rattle.isp_grammar.proofs.Refused.{Refused, refused_here, raise, FailsForm, IsRefused, one_refused, both_refused, made_refused, made_err, made_fails, optional_refused, until_refused}
use Rattle.isp_grammar.proofs.Simples.{SimpleParts, simple_sound, simple_complete, simple_by_head, simple_refused, simple_makes}
use Rattle.isp_grammar.proofs.Starts.{Fits, start_fits}
use Rattle.isp_grammar.proofs.StmtParts.{Test, test_sound, test_complete, test_refused, some_test, ClosedTest, closed_test_sound, closed_test_complete, closed_test_refused, some_closed_test, MaybeTest, maybe_test_sound}
use Rattle.isp_grammar.proofs.StmtParts.{maybe_test_complete, maybe_test_refused, maybe_test_by_head, HeadParts, head_sound, head_complete, head_refused, some_head, declaration_completes, simple_opens}
use Rattle.isp_grammar.proofs.StmtReads.{FailsNext, Production, production_refused, block_stmt_of, block_production, empty_production, if_production, while_production, do_production, for_production, foreach_production}
use Rattle.isp_grammar.proofs.StmtReads.{active_production, unique_production, unmasked_production, jump_production, return_production, print_production, assert_production, empty_of}
use Rattle.isp_grammar.proofs.Stmts.{Statement, stmt_by_head, some_stmt, Nothing, Several, BraceEnd, brace_then, Braced, braced_of, braced_makes, BlockForm, block_reads, some_block, Else, FitsElse, Branches, Conditional, if_of}
use Rattle.isp_grammar.proofs.Stmts.{Looping, while_of, Tested, DoEnd, Doing, do_of, ForLoop, for_of, Spreading, foreach_of, Activity, active_of, Distinction, unique_of, unmasked_of, DeclareStmt, declare_of, declare_makes}
use Rattle.isp_grammar.proofs.Stmts.{SimpleStmt, simple_of, simple_stmt_makes, jump_of, Returning, return_of, PrintEnd, PrintValues, PrintText, Printing, print_of, Asserting, assert_of}
use Rattle.isp_grammar.proofs.StmtsComplete.{stmt_stands, several_by_head, several_complete, declare_start, simple_start, stmt_complete}
use Rattle.isp_grammar.proofs.StmtsSound.{then_else, branches_then, body_then, tested_then, some_tested, do_then, for_then, foreach_then, active_then, unique_then, declare_then, simple_then, return_then}
use Rattle.isp_grammar.proofs.StmtsSound.{print_behind, text_then, values_then, print_end_behind, asserted_then, brace_behind, several_sound, stmt_sound, block_sound}
use Rattle.isp_grammar.proofs.Wrapped.{after_refused}
use Rattle.isp_grammar.specs.Grammar.{IsBlock, is_braces, is_end, IsStmt, is_declare, is_simple}
use Rattle.isp_grammar.specs.reader.Readers.{refuse, head, on_head}
use Rattle.isp_grammar.specs.reader.Choices.{begins_with}
use Rattle.isp_grammar.specs.reader.Starts.{start_of, is_start, begins_stmt}
use Rattle.isp_grammar.specs.reader.Stmts.{simple_from, block_from, braced_at, block_at, stmt_from, stmt_by, stmt_at}
use Rattle.isp_grammar.specs.Signs.{if_mark, while_mark, do_mark, for_mark, foreach_mark, jump_mark}
use Rattle.isp_tree.specs.Tree.{Stmt}
use Rattle.isp_grammar.specs.declared.start.Start.{Start}
use Rattle.isp_grammar.specs.declared.start.Start.TheVariants as by
use Rattle.isp_grammar.specs.declared.stop.Why.TheVariants.{Unexpected}
use Rattle.isp_grammar.specs.declared.stop.Refusal.{Refusal}

-- ---- what begins a statement can be completed

some_both : {A B : Type 0} (F : Form A) (G : Form B) (fits : A → B → Type 0) → Follows F G fits → (b : List Token) × Can F b → (b : List Token) × Can (Both F G fits) b
some_both F G fits follows a = let o = follows.some a.1.0 in (a.0 ++ o.0, ((a.1.0, o.1), (a.0, o.0, refl, a.1.1, o.2, o.3)))

some_one : (m : Mark) → (b : List Token) × Can (One m) b
some_one m = (at m nowhere ∷ [], (nowhere, refl))

some_several : (b : List Token) × Can Several b
some_several = ([], ([], refl))

some_maybe : (b : List Token) × Can MaybeTest b
some_maybe = ([], (None, refl))

produced : {A : Type 0} (m : Mark) (F : Form A) (g : Span → A → Stmt) → Production m F g → (b : List Token) × Can F b → (k : TokenKind) (s : Span) → k ≡ kind.Mark m → (closing : List Token) × Can Statement (token k s ∷ closing)
produced m F g p b k s e = (b.0, (g s b.1.0, subst (λ (c : TokenKind). IsStmt (token c s ∷ b.0) (g s b.1.0)) (sym e) (p.makes s b.0 b.1.0 b.1.1)))

opens : (c : Start) (k : TokenKind) (s : Span) → Fits c k → is_start c ≡ true → (closing : List Token) × Can Statement (token k s ∷ closing)
opens by.Block k s f h = produced mark.BraceOpen BraceEnd block_stmt_of block_production (some_both Several (One mark.BraceClose) Free brace_then some_several) k s f
opens by.Empty k s f h = produced mark.Semicolon Nothing empty_of empty_production ([], (tt, refl)) k s f
opens by.Declare k s f h =
    let c = declaration_completes k s f in
    (c.0 ++ at mark.Semicolon nowhere ∷ [], (declare_of (c.1.0, nowhere), is_declare nowhere (token k s ∷ c.0) c.1.0 c.1.1))
opens by.Simple k s f h =
    let c = simple_opens k s f in
    (c.0 ++ at mark.Semicolon nowhere ∷ [], (simple_of (c.1.0, nowhere), is_simple nowhere (token k s ∷ c.0) (simple_from c.1.0) (simple_makes (token k s ∷ c.0) c.1.0 c.1.1)))
opens (by.If g) k s f h = produced (if_mark g) Conditional (if_of g) (if_production g) (some_both Test Branches Free branches_then some_test) k s f
opens (by.While g) k s f h = produced (while_mark g) Looping (while_of g) (while_production g) (some_both Test Statement Free body_then some_test) k s f
opens (by.Do g) k s f h = produced (do_mark g) Doing (do_of g) (do_production g) (some_both Statement DoEnd Free do_then some_stmt) k s f
opens (by.For g) k s f h = produced (for_mark g) ForLoop (for_of g) (for_production g) (some_both HeadParts Statement Free for_then some_head) k s f
opens (by.Foreach t) k s f h = produced (foreach_mark t) Spreading (foreach_of t) (foreach_production t) (some_both RangesHead Statement Free foreach_then some_ranges_head) k s f
opens by.ForeachActive k s f h = produced mark.ForeachActive Activity active_of active_production (some_both ActiveHead Statement Free active_then some_active_head) k s f
opens by.ForeachUnique k s f h = produced mark.ForeachUnique Distinction unique_of unique_production (some_both UniqueHead Statement Free unique_then some_unique_head) k s f
opens by.Unmasked k s f h = produced mark.Unmasked BlockForm unmasked_of unmasked_production some_block k s f
opens (by.Jump j) k s f h = produced (jump_mark j) (One mark.Semicolon) (jump_of j) (jump_production j) (some_one mark.Semicolon) k s f
opens by.Return k s f h = produced mark.Return Returning return_of return_production (some_both MaybeTest (One mark.Semicolon) Free return_then some_maybe) k s f
opens by.Print k s f h = produced mark.Print Printing print_of print_production (some_both (One mark.ParenOpen) PrintText Free print_behind (some_one mark.ParenOpen)) k s f
opens by.Assert k s f h = produced mark.Assert Asserting assert_of assert_production (some_both ClosedTest (One mark.Semicolon) Free asserted_then some_closed_test) k s f
opens by.Nothing k s f h = absurd cc

-- ---- where no statement begins

from_off : (n : ℕ) (c : Start) (t : Token) (u : List Token) → is_start c ≡ false → stmt_from (stmt_at n) (block_at n) n c t u ≡ refuse Unexpected (t ∷ u)
from_off n by.Block t u e = absurd cc
from_off n by.Empty t u e = absurd cc
from_off n by.Declare t u e = absurd cc
from_off n by.Simple t u e = absurd cc
from_off n (by.If f) t u e = absurd cc
from_off n (by.While f) t u e = absurd cc
from_off n (by.Do f) t u e = absurd cc
from_off n (by.For f) t u e = absurd cc
from_off n (by.Foreach f) t u e = absurd cc
from_off n by.ForeachActive t u e = absurd cc
from_off n by.ForeachUnique t u e = absurd cc
from_off n by.Unmasked t u e = absurd cc
from_off n (by.Jump j) t u e = absurd cc
from_off n by.Return t u e = absurd cc
from_off n by.Print t u e = absurd cc
from_off n by.Assert t u e = absurd cc
from_off n by.Nothing t u e = refl

-- where no statement begins, none is read, at any depth
pub stmt_off : (m : ℕ) (u : List Token) → begins_with begins_stmt u ≡ false → stmt_at m u ≡ refuse Unexpected u
unfolding stmt_at stmt_by
stmt_off zero u e = limit_off begins_stmt u e
stmt_off (suc m) [] e = refl
stmt_off (suc m) (t ∷ u) e = from_off m (start_of t.kind) t u e

stmt_limits : Limits begins_stmt Statement
unfolding stmt_at
stmt_limits = record { limit = λ u. refl; off = λ m u e. stmt_off m u e; some = some_stmt; completes = λ k s e. opens (start_of k) k s (start_fits k) e }

-- ---- refusals of statements without statements in them

tested_refused : (n : ℕ) → IsRefused Tested n
tested_refused n = both_refused Test (One mark.Semicolon) Free tested_then n (λ x a b e h. tt) test_complete (test_sound n) (test_refused n) (one_refused mark.Semicolon n)

declare_stmt_refused : (n : ℕ) → IsRefused DeclareStmt n
declare_stmt_refused n = both_refused Declaring (One mark.Semicolon) Free declare_then n declaration_by_head declaration_complete (declaration_sound n) (declaration_refused n) (one_refused mark.Semicolon n)

simple_stmt_refused : (n : ℕ) → IsRefused SimpleStmt n
simple_stmt_refused n = both_refused SimpleParts (One mark.Semicolon) Free simple_then n simple_by_head simple_complete (simple_sound n) (simple_refused n) (one_refused mark.Semicolon n)

returning_refused : (n : ℕ) → IsRefused Returning n
returning_refused n = both_refused MaybeTest (One mark.Semicolon) Free return_then n maybe_test_by_head maybe_test_complete (maybe_test_sound n) (maybe_test_refused n) (one_refused mark.Semicolon n)

printing_refused : (n : ℕ) → IsRefused Printing n
printing_refused n =
    both_refused (One mark.ParenOpen) PrintText Free print_behind n (one_by_head mark.ParenOpen) (one_complete mark.ParenOpen) (one_sound mark.ParenOpen n) (one_refused mark.ParenOpen n)
    (both_refused Texts PrintValues Free text_then n (λ x a b e h. tt) text_complete (text_sound n) (text_refused n)
    (both_refused Values PrintEnd Free values_then n values_by_head values_complete (values_sound n) (values_refused n)
    (both_refused (One mark.ParenClose) (One mark.Semicolon) Free print_end_behind n (one_by_head mark.ParenClose) (one_complete mark.ParenClose) (one_sound mark.ParenClose n) (one_refused mark.ParenClose n) (one_refused mark.Semicolon n))))

nothing_refused : (n : ℕ) → IsRefused Nothing n
nothing_refused n ts r e = absurd (ok_err e)

-- ---- refusals of statements with statements in them

asserting_refused : (n : ℕ) → IsRefused Asserting n
asserting_refused n = both_refused ClosedTest (One mark.Semicolon) Free asserted_then n (λ x a b e h. tt) closed_test_complete (closed_test_sound n) (closed_test_refused n) (one_refused mark.Semicolon n)

-- where no block begins
block_off : (m : ℕ) (u : List Token) → begins_with (is_mark mark.BraceOpen) u ≡ false → block_at m u ≡ refuse Unexpected u
unfolding block_at braced_at
block_off zero u e = limit_off (is_mark mark.BraceOpen) u e
block_off (suc m) u e = let p = mark_off mark.BraceOpen u (starts_by_head mark.BraceOpen u ∙ e) in rw p refl

block_completes : (k : TokenKind) (s : Span) → is_mark mark.BraceOpen k ≡ true → (closing : List Token) × Can BlockForm (token k s ∷ closing)
block_completes k s e =
    (at mark.BraceClose nowhere ∷ [], (_, subst (λ (c : TokenKind). IsBlock (token c s ∷ at mark.BraceClose nowhere ∷ []) (block_from s ([], nowhere))) (sym (is_mark_is mark.BraceOpen k e)) (is_braces s nowhere [] [] is_end)))

block_limits : Limits (is_mark mark.BraceOpen) BlockForm
unfolding block_at
block_limits = record { limit = λ u. refl; off = λ m u e. block_off m u e; some = some_block; completes = λ k s e. block_completes k s e }

module _ (n : ℕ) (ih : IsRefused Statement n) (blocks : IsRefused BlockForm n) where
  pub several_refused : IsRefused Several n
  several_refused = until_refused Statement mark.BraceClose n stmt_stands.first stmt_by_head stmt_complete (stmt_sound n) ih

  brace_end_refused : IsRefused BraceEnd n
  brace_end_refused = both_refused Several (One mark.BraceClose) Free brace_then n several_by_head (λ m. several_complete m (stmt_complete m)) (several_sound n (stmt_sound n) (block_sound n)) several_refused (one_refused mark.BraceClose n)

  branches_refused : IsRefused Branches n
  branches_refused = both_refused Statement Else FitsElse then_else n stmt_by_head stmt_complete (stmt_sound n) ih (optional_refused mark.Else Statement n ih)

  conditional_refused : IsRefused Conditional n
  conditional_refused = both_refused Test Branches Free branches_then n (λ x a b e h. tt) test_complete (test_sound n) (test_refused n) branches_refused

  looping_refused : IsRefused Looping n
  looping_refused = both_refused Test Statement Free body_then n (λ x a b e h. tt) test_complete (test_sound n) (test_refused n) ih

  doing_refused : IsRefused Doing n
  doing_refused = both_refused Statement DoEnd Free do_then n stmt_by_head stmt_complete (stmt_sound n) ih (after_refused mark.While Tested some_tested n (tested_refused n))

  for_loop_refused : IsRefused ForLoop n
  for_loop_refused = both_refused HeadParts Statement Free for_then n (λ x a b e h. tt) head_complete (head_sound n) (head_refused n) ih

  spreading_refused : IsRefused Spreading n
  spreading_refused = both_refused RangesHead Statement Free foreach_then n (λ x a b e h. tt) ranges_head_complete (ranges_head_sound n) (ranges_head_refused n) ih

  activity_refused : IsRefused Activity n
  activity_refused = both_refused ActiveHead Statement Free active_then n (λ x a b e h. tt) active_head_complete (active_head_sound n) (active_head_refused n) ih

  distinction_refused : IsRefused Distinction n
  distinction_refused = both_refused UniqueHead Statement Free unique_then n (λ x a b e h. tt) unique_head_complete (unique_head_sound n) (unique_head_refused n) ih

  next_block_refused : (ts : List Token) (r : Refusal) → block_at (suc n) ts ≡ Err r → Refused (Can BlockForm) (λ m u d. block_at (suc m) u ≡ Err d) n ts r
  next_block_refused ts r e =
      made_refused Braced BlockForm braced_of [] (λ m u d. block_at (suc m) u ≡ Err d) n ts r
      (both_refused (One mark.BraceOpen) BraceEnd Free brace_behind n (one_by_head mark.BraceOpen) (one_complete mark.BraceOpen) (one_sound mark.BraceOpen n) (one_refused mark.BraceOpen n) brace_end_refused)
      (made_err braced_of (Braced.read n ts) r (sym (block_reads n ts) ∙ e)) (λ a p i. braced_makes a p i)
      (λ m u d le h w. made_fails braced_of (Braced.read m u) (block_at (suc m) u) d (block_reads m u) w)

  by_mark : (m : Mark) (t : Token) (ts : List Token) (r : Refusal) → t.kind ≡ kind.Mark m → ((s : Span) → stmt_at (suc n) (at m s ∷ ts) ≡ Err r → Refused (Can Statement) FailsNext n (at m s ∷ ts) r)
      → stmt_at (suc n) (t ∷ ts) ≡ Err r → Refused (Can Statement) FailsNext n (t ∷ ts) r
  by_mark m t ts r k f =
      subst (λ (u : Token). stmt_at (suc n) (u ∷ ts) ≡ Err r → Refused (Can Statement) FailsNext n (u ∷ ts) r) (sym (ap (λ (c : TokenKind). token c t.span) k)) (f t.span)

  next_off : (u : List Token) (r : Refusal) → begins_with begins_stmt u ≡ false → stmt_at (suc n) u ≡ Err r → Refused (Can Statement) FailsNext n u r
  next_off u r off e =
      subst (λ (d : Refusal). Refused (Can Statement) FailsNext n u d) (err_is (sym (stmt_off (suc n) u off) ∙ e))
      (refused_here (Can Statement) FailsNext n u some_stmt.0 some_stmt.1 (λ m more le h. stmt_off (suc m) more (sym (begins_same begins_stmt u more h) ∙ off)))

  same_start : (t : Token) (ts u : List Token) (c : Start) → start_of t.kind ≡ c → head (t ∷ ts) ≡ head u → on_head by.Nothing start_of (head u) ≡ c
  same_start t ts u c s h = ap (λ (o : Option TokenKind). on_head by.Nothing start_of o) (sym h) ∙ s

  next_refused : (c : Start) (t : Token) (ts : List Token) (r : Refusal) → start_of t.kind ≡ c → Fits c t.kind → stmt_at (suc n) (t ∷ ts) ≡ Err r → Refused (Can Statement) FailsNext n (t ∷ ts) r
  next_refused by.Block t ts r s k = by_mark mark.BraceOpen t ts r k (λ s e. production_refused mark.BraceOpen BraceEnd block_stmt_of block_production n s brace_end_refused ts r e)
  next_refused by.Empty t ts r s k = by_mark mark.Semicolon t ts r k (λ s e. production_refused mark.Semicolon Nothing empty_of empty_production n s (nothing_refused n) ts r e)
  next_refused by.Declare t ts r s k = λ e.
      made_refused DeclareStmt Statement declare_of [] FailsNext n (t ∷ ts) r (declare_stmt_refused n) (made_err declare_of (DeclareStmt.read n (t ∷ ts)) r (sym (declare_start n (t ∷ ts) s) ∙ e)) (λ a p i. declare_makes a p i)
      (λ m u d le h w. made_fails declare_of (DeclareStmt.read m u) (stmt_at (suc m) u) d (declare_start m u (same_start t ts u by.Declare s h)) w)
  next_refused by.Simple t ts r s k = λ e.
      made_refused SimpleStmt Statement simple_of [] FailsNext n (t ∷ ts) r (simple_stmt_refused n) (made_err simple_of (SimpleStmt.read n (t ∷ ts)) r (sym (simple_start n (t ∷ ts) s) ∙ e)) (λ a p i. simple_stmt_makes a p i)
      (λ m u d le h w. made_fails simple_of (SimpleStmt.read m u) (stmt_at (suc m) u) d (simple_start m u (same_start t ts u by.Simple s h)) w)
  next_refused (by.If f) t ts r s k = by_mark (if_mark f) t ts r k (λ s e. production_refused (if_mark f) Conditional (if_of f) (if_production f) n s conditional_refused ts r e)
  next_refused (by.While f) t ts r s k = by_mark (while_mark f) t ts r k (λ s e. production_refused (while_mark f) Looping (while_of f) (while_production f) n s looping_refused ts r e)
  next_refused (by.Do f) t ts r s k = by_mark (do_mark f) t ts r k (λ s e. production_refused (do_mark f) Doing (do_of f) (do_production f) n s doing_refused ts r e)
  next_refused (by.For f) t ts r s k = by_mark (for_mark f) t ts r k (λ s e. production_refused (for_mark f) ForLoop (for_of f) (for_production f) n s for_loop_refused ts r e)
  next_refused (by.Foreach f) t ts r s k = by_mark (foreach_mark f) t ts r k (λ s e. production_refused (foreach_mark f) Spreading (foreach_of f) (foreach_production f) n s spreading_refused ts r e)
  next_refused by.ForeachActive t ts r s k = by_mark mark.ForeachActive t ts r k (λ s e. production_refused mark.ForeachActive Activity active_of active_production n s activity_refused ts r e)
  next_refused by.ForeachUnique t ts r s k = by_mark mark.ForeachUnique t ts r k (λ s e. production_refused mark.ForeachUnique Distinction unique_of unique_production n s distinction_refused ts r e)
  next_refused by.Unmasked t ts r s k = by_mark mark.Unmasked t ts r k (λ s e. production_refused mark.Unmasked BlockForm unmasked_of unmasked_production n s blocks ts r e)
  next_refused (by.Jump j) t ts r s k = by_mark (jump_mark j) t ts r k (λ s e. production_refused (jump_mark j) (One mark.Semicolon) (jump_of j) (jump_production j) n s (one_refused mark.Semicolon n) ts r e)
  next_refused by.Return t ts r s k = by_mark mark.Return t ts r k (λ s e. production_refused mark.Return Returning return_of return_production n s (returning_refused n) ts r e)
  next_refused by.Print t ts r s k = by_mark mark.Print t ts r k (λ s e. production_refused mark.Print Printing print_of print_production n s (printing_refused n) ts r e)
  next_refused by.Assert t ts r s k = by_mark mark.Assert t ts r k (λ s e. production_refused mark.Assert Asserting assert_of assert_production n s (asserting_refused n) ts r e)
  next_refused by.Nothing t ts r s k = λ e. next_off (t ∷ ts) r (ap is_start s) e

-- What a refusal of a statement or a block means.
mutual
  pub stmt_refused : (n : ℕ) → IsRefused Statement n
  stmt_refused zero ts r e = limit_refused begins_stmt Statement stmt_limits ts r e
  stmt_refused (suc n) [] r e = raise n (Can Statement) (FailsForm Statement) [] r (next_off n (stmt_refused n) (block_refused n) [] r refl e)
  stmt_refused (suc n) (t ∷ ts) r e = raise n (Can Statement) (FailsForm Statement) (t ∷ ts) r (next_refused n (stmt_refused n) (block_refused n) (start_of t.kind) t ts r refl (start_fits t.kind) e)

  pub block_refused : (n : ℕ) → IsRefused BlockForm n
  block_refused zero ts r e = limit_refused (is_mark mark.BraceOpen) BlockForm block_limits ts r e
  block_refused (suc n) ts r e = raise n (Can BlockForm) (FailsForm BlockForm) ts r (next_block_refused n (stmt_refused n) (block_refused n) ts r e)
