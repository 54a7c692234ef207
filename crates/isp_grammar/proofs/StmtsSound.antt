-- What is read as a statement is one.
use Rattle.std.proofs.Common.{◌≡◌, ℕ, zero, suc, Bool, true, false, List, [], ◌∷◌, ◌++◌, Option, Some, None, Ok, Err, refl, sym, ap, subst, ◌∙◌, append_assoc, arith, inl, inr}
use Rattle.std.specs.Prelude.{⊤}
use Rattle.std.proofs.lemmas.Bool.{false≢true, false_from_ne_true}
use Rattle.std.proofs.lemmas.List.{append-nil}
use Rattle.isp_base.specs.declared.types.Span.{Span}
use Rattle.isp_lex.specs.Tokens.{at, is_mark, starts_with}
use Rattle.isp_lex.specs.declared.token.Mark.{Mark}
use Rattle.isp_lex.specs.declared.token.Mark.TheVariants as mark
use Rattle.isp_lex.specs.declared.token.TokenKind.{TokenKind}
use Rattle.isp_lex.specs.declared.token.TokenKind.TheVariants as kind
use Rattle.isp_lex.specs.declared.token.Token.{Token}
use Rattle.isp_grammar.proofs.Basics.{token, ok_is, err_ok}
use Rattle.isp_grammar.proofs.Choices.{nowhere, limit_reads_none}
use Rattle.isp_grammar.proofs.Declarations.{Declaring, declaration_sound, declaration_end}
use Rattle.isp_grammar.proofs.Forms.{Found, IsSound, Can, One, one_sound, Free, Follows, follows, both_sound, one_then, behind_is, is_behind, then_one, is_before, made_sound, optional_sound, until_sound}
use Rattle.isp_grammar.proofs.Ranges.{RangesHead, ranges_head_sound, ActiveHead, active_head_sound, UniqueHead, unique_head_sound, Texts, text_sound, Values, values_sound}
use Rattle.isp_grammar.proofs.Simples.{SimpleParts, simple_sound, simple_starts, simple_deep}
use Rattle.isp_grammar.proofs.Starts.{Fits, start_fits, starts_off}
use Rattle.isp_grammar.proofs.StmtParts.{declaration_starts, Test, test_sound, some_test, ClosedTest, closed_test_sound, MaybeTest, maybe_test_sound, test_maybe_ends, simple_semicolon, HeadParts, head_sound}
use Rattle.isp_grammar.proofs.StmtReads.{production_sound, block_stmt_of, block_production, empty_production, if_production, while_production, do_production, for_production, foreach_production, active_production}
use Rattle.isp_grammar.proofs.StmtReads.{unique_production, unmasked_production, jump_production, return_production, print_production, assert_production, declare_reads, simple_stmt_reads, empty_of}
use Rattle.isp_grammar.proofs.Stmts.{EndsStmt, Statement, some_stmt, Nothing, Several, BraceEnd, brace_then, block_deep, Braced, braced_of, braced_makes, BlockForm, block_reads, Else, FitsElse, Branches, Conditional, if_of, Looping}
use Rattle.isp_grammar.proofs.Stmts.{while_of, Tested, DoEnd, Doing, do_of, ForLoop, for_of, Spreading, foreach_of, Activity, active_of, Distinction, unique_of, unmasked_of, DeclareStmt, declare_of, declare_makes, SimpleStmt}
use Rattle.isp_grammar.proofs.Stmts.{simple_of, simple_stmt_makes, jump_of, Returning, return_of, PrintEnd, PrintValues, PrintText, Printing, print_of, Asserting, assert_of}
use Rattle.isp_grammar.proofs.Wrapped.{after_sound}
use Rattle.isp_grammar.specs.Grammar.{is_open, IsBlock, is_braces, IsStmt, is_block, is_empty, is_declare, is_simple, is_if, is_if_else, is_while, is_do, is_for}
use Rattle.isp_grammar.specs.Grammar.{is_foreach, is_foreach_active, is_foreach_unique, is_unmasked, is_jump, is_return, is_print, is_assert}
use Rattle.isp_grammar.proofs.Simples.{simple_unmakes}
use Rattle.isp_grammar.specs.reader.Readers.{Reader, optional, optional_from}
use Rattle.isp_grammar.specs.reader.Exprs.{begins_expr}
use Rattle.isp_grammar.specs.reader.Starts.{start_of, begins_stmt}
use Rattle.isp_grammar.specs.reader.Stmts.{is_change, block_at, stmt_from, stmt_by, stmt_at}
use Rattle.isp_grammar.specs.reader.Types.{begins_type}
use Rattle.isp_grammar.specs.Signs.{if_mark, while_mark, do_mark, for_mark, foreach_mark, jump_mark}
use Rattle.isp_tree.specs.Tree.{Stmt, Block}
use Rattle.isp_grammar.specs.declared.start.Start.{Start}
use Rattle.isp_grammar.specs.declared.start.Start.TheVariants as by
use Rattle.isp_grammar.specs.declared.stop.Refusal.{Refusal}
use Rattle.isp_tree.specs.declared.stmt.Form.{Form as Shape}
use Rattle.isp_tree.specs.declared.stmt.Form.TheVariants as shape
use Rattle.isp_tree.specs.declared.stmt.Tiling.{Tiling}
use Rattle.isp_tree.specs.declared.stmt.Tiling.TheVariants as tiling
use Rattle.isp_tree.specs.declared.stmt.Jump.{Jump}
use Rattle.isp_tree.specs.declared.stmt.Jump.TheVariants.{Break, Continue}
use Rattle.isp_grammar.proofs.Basics.{ok_err}

-- ---- `else`

else_ends : (s : Stmt) (y : Option Stmt) (b rest : List Token) → FitsElse s y → Else.is b y → Else.ends y rest → EndsStmt s (b ++ rest)
else_ends s None b rest f i h = λ o. subst (λ (l : List Token). starts_with mark.Else (l ++ rest) ≡ false) (sym i) h
else_ends s (Some t) b rest f i h = λ o. absurd (false≢true (sym f ∙ o))

else_fits : (s : Stmt) (y : Option Stmt) (b rest : List Token) → EndsStmt s (b ++ rest) → Else.is b y → FitsElse s y
else_fits s None b rest h i = tt
else_fits s (Some t) b rest h i = false_from_ne_true (is_open s) (λ o. false≢true (sym (subst (λ (l : List Token). starts_with mark.Else (l ++ rest) ≡ false) i.2 (h o))))

else_stands : (one : Reader Stmt) (ts : List Token) (b : Bool) (r : Refusal) → optional_from one ts b ≡ Err r → b ≡ true
else_stands one ts true r e = refl
else_stands one ts false r e = absurd (ok_err e)

else_fit_refused : (s : Stmt) (rest : List Token) (n : ℕ) (r : Refusal) → EndsStmt s rest → Else.read n rest ≡ Err r → (y : Option Stmt) → FitsElse s y
unfolding optional
else_fit_refused s rest n r h e None = tt
else_fit_refused s rest n r h e (Some t) =
    let p = else_stands (stmt_at n) rest (starts_with mark.Else rest) r e in
    false_from_ne_true (is_open s) (λ o. false≢true (sym (h o) ∙ p))

pub then_else : Follows Statement Else FitsElse
then_else = record {
  ends = λ s y b rest f i h. else_ends s y b rest f i h;
  fit = λ s y b rest h i. else_fits s y b rest h i;
  fit_refused = λ s rest n r h e y. else_fit_refused s rest n r h e y;
  some = λ s. ([], None, refl, tt);
}

some_branches : Can Branches some_stmt.0
some_branches = ((some_stmt.1.0, None), (some_stmt.0, [], sym (append-nil some_stmt.0), some_stmt.1.1, refl, tt))

pub branches_then : Follows Test Branches Free
branches_then = follows Test Branches (λ x y b rest i h. tt) some_stmt.0 some_branches

-- ---- what follows what

pub body_then : Follows Test Statement Free
body_then = follows Test Statement (λ x y b rest i h. tt) some_stmt.0 some_stmt.1

pub tested_then : Follows Test (One mark.Semicolon) Free
tested_then = then_one Test mark.Semicolon (λ x s rest. tt)

pub some_tested : (b : List Token) × Can Tested b
some_tested = (some_test.0 ++ at mark.Semicolon nowhere ∷ [], ((some_test.1.0, nowhere), (some_test.0, at mark.Semicolon nowhere ∷ [], refl, some_test.1.1, refl, tt)))

pub do_then : Follows Statement DoEnd Free
do_then =
    follows Statement DoEnd (λ s y b rest i h. λ o. subst (λ (l : List Token). starts_with mark.Else (l ++ rest) ≡ false) (sym i.2) refl) (at mark.While nowhere ∷ some_tested.0)
    (some_tested.1.0, (nowhere, some_tested.0, refl, some_tested.1.1))

pub for_then : Follows HeadParts Statement Free
for_then = follows HeadParts Statement (λ x y b rest i h. tt) some_stmt.0 some_stmt.1

pub foreach_then : Follows RangesHead Statement Free
foreach_then = follows RangesHead Statement (λ x y b rest i h. tt) some_stmt.0 some_stmt.1

pub active_then : Follows ActiveHead Statement Free
active_then = follows ActiveHead Statement (λ x y b rest i h. tt) some_stmt.0 some_stmt.1

pub unique_then : Follows UniqueHead Statement Free
unique_then = follows UniqueHead Statement (λ x y b rest i h. tt) some_stmt.0 some_stmt.1

pub declare_then : Follows Declaring (One mark.Semicolon) Free
declare_then = then_one Declaring mark.Semicolon declaration_end

pub simple_then : Follows SimpleParts (One mark.Semicolon) Free
simple_then = then_one SimpleParts mark.Semicolon simple_semicolon

pub return_then : Follows MaybeTest (One mark.Semicolon) Free
return_then = then_one MaybeTest mark.Semicolon test_maybe_ends

pub asserted_then : Follows ClosedTest (One mark.Semicolon) Free
asserted_then = then_one ClosedTest mark.Semicolon (λ x s rest. tt)

pub brace_behind : Follows (One mark.BraceOpen) BraceEnd Free
brace_behind = one_then mark.BraceOpen BraceEnd (at mark.BraceClose nowhere ∷ []) (([], nowhere), is_before Several mark.BraceClose [] [] nowhere refl)

some_print_end : Can PrintEnd (at mark.ParenClose nowhere ∷ at mark.Semicolon nowhere ∷ [])
some_print_end = ((nowhere, nowhere), is_behind mark.ParenClose (One mark.Semicolon) nowhere (at mark.Semicolon nowhere ∷ []) nowhere refl)

some_values : Can PrintValues (at mark.ParenClose nowhere ∷ at mark.Semicolon nowhere ∷ [])
some_values = (([], some_print_end.0), ([], at mark.ParenClose nowhere ∷ at mark.Semicolon nowhere ∷ [], refl, refl, some_print_end.1, tt))

abbrev print_tokens : List Token
print_tokens = token (kind.Text []) nowhere ∷ at mark.ParenClose nowhere ∷ at mark.Semicolon nowhere ∷ []

some_print_text : Can PrintText print_tokens
some_print_text = ((([], nowhere), some_values.0), (token (kind.Text []) nowhere ∷ [], at mark.ParenClose nowhere ∷ at mark.Semicolon nowhere ∷ [], refl, refl, some_values.1, tt))

pub print_behind : Follows (One mark.ParenOpen) PrintText Free
print_behind = one_then mark.ParenOpen PrintText print_tokens some_print_text

pub text_then : Follows Texts PrintValues Free
text_then = follows Texts PrintValues (λ x y b rest i h. tt) (at mark.ParenClose nowhere ∷ at mark.Semicolon nowhere ∷ []) some_values

pub values_then : Follows Values PrintEnd Free
values_then =
    follows Values PrintEnd (λ x y b rest i h. let j = behind_is mark.ParenClose (One mark.Semicolon) b y i in subst (λ (l : List Token). starts_with mark.ParenClose (l ++ rest) ≡ true) (sym j.1) refl)
    (at mark.ParenClose nowhere ∷ at mark.Semicolon nowhere ∷ []) some_print_end

pub print_end_behind : Follows (One mark.ParenClose) (One mark.Semicolon) Free
print_end_behind = one_then mark.ParenClose (One mark.Semicolon) (at mark.Semicolon nowhere ∷ []) (nowhere, refl)

-- ---- how statements begin

-- a mark that begins neither a type, an expression nor a step by one, and that is no word of a statement, begins none
pub record Foreign (m : Mark) : Type 0 where
  pub type : begins_type (kind.Mark m) ≡ false
  pub expr : begins_expr (kind.Mark m) ≡ false
  pub change : is_change (kind.Mark m) ≡ false
  pub brace : is_mark m (kind.Mark mark.BraceOpen) ≡ false
  pub semicolon : is_mark m (kind.Mark mark.Semicolon) ≡ false
  pub an_if : (f : Shape) → is_mark m (kind.Mark (if_mark f)) ≡ false
  pub a_while : (f : Shape) → is_mark m (kind.Mark (while_mark f)) ≡ false
  pub a_do : (f : Shape) → is_mark m (kind.Mark (do_mark f)) ≡ false
  pub a_for : (f : Shape) → is_mark m (kind.Mark (for_mark f)) ≡ false
  pub a_foreach : (t : Tiling) → is_mark m (kind.Mark (foreach_mark t)) ≡ false
  pub active : is_mark m (kind.Mark mark.ForeachActive) ≡ false
  pub unique : is_mark m (kind.Mark mark.ForeachUnique) ≡ false
  pub an_unmasked : is_mark m (kind.Mark mark.Unmasked) ≡ false
  pub a_jump : (j : Jump) → is_mark m (kind.Mark (jump_mark j)) ≡ false
  pub a_return : is_mark m (kind.Mark mark.Return) ≡ false
  pub a_print : is_mark m (kind.Mark mark.Print) ≡ false
  pub an_assert : is_mark m (kind.Mark mark.Assert) ≡ false

block_off : (m : Mark) → is_mark m (kind.Mark mark.BraceOpen) ≡ false → {ts : List Token} {b : Block} → IsBlock ts b → (rest : List Token) → starts_with m (ts ++ rest) ≡ false
block_off m f (is_braces o c ts ss i) rest = f

-- no statement begins with such a mark
pub stmt_off_mark : (m : Mark) → Foreign m → {ts : List Token} {s : Stmt} → IsStmt ts s → (rest : List Token) → starts_with m (ts ++ rest) ≡ false
stmt_off_mark m f (is_block ts b i) rest = block_off m f.brace i rest
stmt_off_mark m f (is_empty e) rest = f.semicolon
stmt_off_mark m f (is_declare e ts d i) rest =
    ap (λ (l : List Token). starts_with m l) (append_assoc ts (at mark.Semicolon e ∷ []) rest) ∙ starts_off m begins_type f.type (ts ++ at mark.Semicolon e ∷ rest) (declaration_starts i (at mark.Semicolon e ∷ rest))
stmt_off_mark m f (is_simple e ts p i) rest =
    let q = simple_unmakes i in
    ap (λ (l : List Token). starts_with m l) (append_assoc ts (at mark.Semicolon e ∷ []) rest) ∙ (elim (simple_starts ts q.0 (at mark.Semicolon e ∷ rest) q.1) [
      | inl b ↦ starts_off m begins_expr f.expr (ts ++ at mark.Semicolon e ∷ rest) b
      | inr b ↦ starts_off m is_change f.change (ts ++ at mark.Semicolon e ∷ rest) b
    ])
stmt_off_mark m f (is_if g i o c ts a x s j k) rest = f.an_if g
stmt_off_mark m f (is_if_else g i o c e ts a b x s t j k l n) rest = f.an_if g
stmt_off_mark m f (is_while g w o c ts a x s j k) rest = f.a_while g
stmt_off_mark m f (is_do g d w o c e a ts s x i j) rest = f.a_do g
stmt_off_mark m f (is_for g w o d e c is ts us a i x p s j k l n) rest = f.a_for g
stmt_off_mark m f (is_foreach t w o c ts a rs s i j k) rest = f.a_foreach t
stmt_off_mark m f (is_foreach_active g o c w a s i) rest = f.active
stmt_off_mark m f (is_foreach_unique g o p c w ts a x s i j) rest = f.unique
stmt_off_mark m f (is_unmasked u ts b i) rest = f.an_unmasked
stmt_off_mark m f (is_jump j w e) rest = f.a_jump j
stmt_off_mark m f (is_return w e ts x i) rest = f.a_return
stmt_off_mark m f (is_print w o p c e t ts xs i) rest = f.a_print
stmt_off_mark m f (is_assert w o c e ts x i) rest = f.an_assert

form_off : (m : Mark) (g : Shape → Mark) → is_mark m (kind.Mark (g shape.Plain)) ≡ false → is_mark m (kind.Mark (g shape.Coherent)) ≡ false → (f : Shape) → is_mark m (kind.Mark (g f)) ≡ false
form_off m g a b shape.Plain = a
form_off m g a b shape.Coherent = b

tiling_off : (m : Mark) (g : Tiling → Mark) → is_mark m (kind.Mark (g tiling.Plain)) ≡ false → is_mark m (kind.Mark (g tiling.Tiled)) ≡ false → (f : Tiling) → is_mark m (kind.Mark (g f)) ≡ false
tiling_off m g a b tiling.Plain = a
tiling_off m g a b tiling.Tiled = b

jump_off : (m : Mark) (g : Jump → Mark) → is_mark m (kind.Mark (g Break)) ≡ false → is_mark m (kind.Mark (g Continue)) ≡ false → (f : Jump) → is_mark m (kind.Mark (g f)) ≡ false
jump_off m g a b Break = a
jump_off m g a b Continue = b

pub brace_close_foreign : Foreign mark.BraceClose
brace_close_foreign = record {
  type = refl;
  expr = refl;
  change = refl;
  brace = refl;
  semicolon = refl;
  an_if = form_off mark.BraceClose if_mark refl refl;
  a_while = form_off mark.BraceClose while_mark refl refl;
  a_do = form_off mark.BraceClose do_mark refl refl;
  a_for = form_off mark.BraceClose for_mark refl refl;
  a_foreach = tiling_off mark.BraceClose foreach_mark refl refl;
  active = refl;
  unique = refl;
  an_unmasked = refl;
  a_jump = jump_off mark.BraceClose jump_mark refl refl;
  a_return = refl;
  a_print = refl;
  an_assert = refl;
}

pub else_foreign : Foreign mark.Else
else_foreign = record {
  type = refl;
  expr = refl;
  change = refl;
  brace = refl;
  semicolon = refl;
  an_if = form_off mark.Else if_mark refl refl;
  a_while = form_off mark.Else while_mark refl refl;
  a_do = form_off mark.Else do_mark refl refl;
  a_for = form_off mark.Else for_mark refl refl;
  a_foreach = tiling_off mark.Else foreach_mark refl refl;
  active = refl;
  unique = refl;
  an_unmasked = refl;
  a_jump = jump_off mark.Else jump_mark refl refl;
  a_return = refl;
  a_print = refl;
  an_assert = refl;
}

-- ---- sound

module _ (n : ℕ) (ih : IsSound Statement n) (blocks : IsSound BlockForm n) where
  pub several_sound : IsSound Several n
  several_sound = until_sound Statement mark.BraceClose n ih

  brace_end_sound : IsSound BraceEnd n
  brace_end_sound = both_sound Several (One mark.BraceClose) Free brace_then n several_sound (one_sound mark.BraceClose n)

  conditional_sound : IsSound Conditional n
  conditional_sound = both_sound Test Branches Free branches_then n (test_sound n) (both_sound Statement Else FitsElse then_else n ih (optional_sound mark.Else Statement n ih))

  looping_sound : IsSound Looping n
  looping_sound = both_sound Test Statement Free body_then n (test_sound n) ih

  tested_sound : IsSound Tested n
  tested_sound = both_sound Test (One mark.Semicolon) Free tested_then n (test_sound n) (one_sound mark.Semicolon n)

  doing_sound : IsSound Doing n
  doing_sound = both_sound Statement DoEnd Free do_then n ih (after_sound mark.While Tested some_tested n tested_sound)

  printing_sound : IsSound Printing n
  printing_sound =
      both_sound (One mark.ParenOpen) PrintText Free print_behind n (one_sound mark.ParenOpen n) (both_sound Texts PrintValues Free text_then n (text_sound n)
      (both_sound Values PrintEnd Free values_then n (values_sound n) (both_sound (One mark.ParenClose) (One mark.Semicolon) Free print_end_behind n (one_sound mark.ParenClose n) (one_sound mark.Semicolon n))))

  nothing_sound : IsSound Nothing n
  nothing_sound ts x rest e =
      subst (λ (z : ⊤ × List Token). Found Nothing n ts z.0 z.1) (ok_is e) (record { used = []; split = refl; is = refl; shallow = omega arith; ends = tt })

  asserting_sound : IsSound Asserting n
  asserting_sound = both_sound ClosedTest (One mark.Semicolon) Free asserted_then n (closed_test_sound n) (one_sound mark.Semicolon n)

  next_block_sound : IsSound BlockForm (suc n)
  next_block_sound ts y rest e =
      made_sound Braced BlockForm braced_of [] n (suc n) (block_at (suc n)) ts (block_reads n ts)
      (both_sound (One mark.BraceOpen) BraceEnd Free brace_behind n (one_sound mark.BraceOpen n) brace_end_sound)
      (λ a p i. braced_makes a p i) (λ p le. omega (arith, le, block_deep p.0 p.1)) (λ p rest h. tt) y rest e

  by_mark : (m : Mark) (t : Token) (ts : List Token) (y : Stmt) (rest : List Token) → t.kind ≡ kind.Mark m → ((s : Span) → stmt_at (suc n) (at m s ∷ ts) ≡ Ok (y, rest) → Found Statement (suc n) (at m s ∷ ts) y rest)
      → stmt_at (suc n) (t ∷ ts) ≡ Ok (y, rest) → Found Statement (suc n) (t ∷ ts) y rest
  by_mark m t ts y rest k f =
      subst (λ (u : Token). stmt_at (suc n) (u ∷ ts) ≡ Ok (y, rest) → Found Statement (suc n) (u ∷ ts) y rest) (sym (ap (λ (c : TokenKind). token c t.span) k)) (f t.span)

  next_sound : (c : Start) (t : Token) (ts : List Token) (y : Stmt) (rest : List Token) → start_of t.kind ≡ c → Fits c t.kind → stmt_at (suc n) (t ∷ ts) ≡ Ok (y, rest) → Found Statement (suc n) (t ∷ ts) y rest
  unfolding stmt_at stmt_by
  next_sound by.Block t ts y rest s k = by_mark mark.BraceOpen t ts y rest k (λ s e. production_sound mark.BraceOpen BraceEnd block_stmt_of block_production n s brace_end_sound ts y rest e)
  next_sound by.Empty t ts y rest s k = by_mark mark.Semicolon t ts y rest k (λ s e. production_sound mark.Semicolon Nothing empty_of empty_production n s nothing_sound ts y rest e)
  next_sound by.Declare t ts y rest s k = λ e.
      made_sound DeclareStmt Statement declare_of [] n (suc n) (stmt_at (suc n)) (t ∷ ts) (declare_reads n t ts s) (both_sound Declaring (One mark.Semicolon) Free declare_then n (declaration_sound n) (one_sound mark.Semicolon n))
      (λ a x i. declare_makes a x i) (λ x le. omega (arith, le)) (λ x rest h. λ o. absurd cc) y rest e
  next_sound by.Simple t ts y rest s k = λ e.
      made_sound SimpleStmt Statement simple_of [] n (suc n) (stmt_at (suc n)) (t ∷ ts) (simple_stmt_reads n t ts s) (both_sound SimpleParts (One mark.Semicolon) Free simple_then n (simple_sound n) (one_sound mark.Semicolon n))
      (λ a x i. simple_stmt_makes a x i) (λ x le. omega (arith, le, simple_deep x.0)) (λ x rest h. λ o. absurd cc) y rest e
  next_sound (by.If f) t ts y rest s k = by_mark (if_mark f) t ts y rest k (λ s e. production_sound (if_mark f) Conditional (if_of f) (if_production f) n s conditional_sound ts y rest e)
  next_sound (by.While f) t ts y rest s k = by_mark (while_mark f) t ts y rest k (λ s e. production_sound (while_mark f) Looping (while_of f) (while_production f) n s looping_sound ts y rest e)
  next_sound (by.Do f) t ts y rest s k = by_mark (do_mark f) t ts y rest k (λ s e. production_sound (do_mark f) Doing (do_of f) (do_production f) n s doing_sound ts y rest e)
  next_sound (by.For f) t ts y rest s k =
      by_mark (for_mark f) t ts y rest k (λ s e. production_sound (for_mark f) ForLoop (for_of f) (for_production f) n s (both_sound HeadParts Statement Free for_then n (head_sound n) ih) ts y rest e)
  next_sound (by.Foreach f) t ts y rest s k =
      by_mark (foreach_mark f) t ts y rest k (λ s e. production_sound (foreach_mark f) Spreading (foreach_of f) (foreach_production f) n s (both_sound RangesHead Statement Free foreach_then n (ranges_head_sound n) ih) ts y rest e)
  next_sound by.ForeachActive t ts y rest s k =
      by_mark mark.ForeachActive t ts y rest k (λ s e. production_sound mark.ForeachActive Activity active_of active_production n s (both_sound ActiveHead Statement Free active_then n (active_head_sound n) ih) ts y rest e)
  next_sound by.ForeachUnique t ts y rest s k =
      by_mark mark.ForeachUnique t ts y rest k (λ s e. production_sound mark.ForeachUnique Distinction unique_of unique_production n s (both_sound UniqueHead Statement Free unique_then n (unique_head_sound n) ih) ts y rest e)
  next_sound by.Unmasked t ts y rest s k = by_mark mark.Unmasked t ts y rest k (λ s e. production_sound mark.Unmasked BlockForm unmasked_of unmasked_production n s blocks ts y rest e)
  next_sound (by.Jump j) t ts y rest s k = by_mark (jump_mark j) t ts y rest k (λ s e. production_sound (jump_mark j) (One mark.Semicolon) (jump_of j) (jump_production j) n s (one_sound mark.Semicolon n) ts y rest e)
  next_sound by.Return t ts y rest s k =
      by_mark mark.Return t ts y rest k (λ s e. production_sound mark.Return Returning return_of return_production n s (both_sound MaybeTest (One mark.Semicolon) Free return_then n (maybe_test_sound n) (one_sound mark.Semicolon n)) ts y rest e)
  next_sound by.Print t ts y rest s k = by_mark mark.Print t ts y rest k (λ s e. production_sound mark.Print Printing print_of print_production n s printing_sound ts y rest e)
  next_sound by.Assert t ts y rest s k = by_mark mark.Assert t ts y rest k (λ s e. production_sound mark.Assert Asserting assert_of assert_production n s asserting_sound ts y rest e)
  next_sound by.Nothing t ts y rest s k = λ e. absurd (err_ok (subst (λ (c : Start). stmt_from (stmt_at n) (block_at n) n c t ts ≡ Ok (y, rest)) s e))

-- What is read at a depth is a statement or a block, no deeper.
mutual
  unfolding stmt_at stmt_by block_at

  pub stmt_sound : (n : ℕ) → IsSound Statement n
  stmt_sound zero ts y rest e = absurd (limit_reads_none begins_stmt ts y rest e)
  stmt_sound (suc n) [] y rest e = absurd (err_ok e)
  stmt_sound (suc n) (t ∷ ts) y rest e = next_sound n (stmt_sound n) (block_sound n) (start_of t.kind) t ts y rest refl (start_fits t.kind) e

  pub block_sound : (n : ℕ) → IsSound BlockForm n
  block_sound zero ts y rest e = absurd (limit_reads_none (is_mark mark.BraceOpen) ts y rest e)
  block_sound (suc n) ts y rest e = next_block_sound n (stmt_sound n) (block_sound n) ts y rest e
