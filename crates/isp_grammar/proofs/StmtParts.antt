-- Parts of statements: what is read is what they are.
use Rattle.std.proofs.Common.{◌≡◌, ℕ, zero, suc, Bool, true, false, List, [], ◌∷◌, ◌++◌, Option, Some, None, refl, sym, ap, subst, ◌∙◌, append_assoc, inl, inr, ◌⊎◌}
use Rattle.std.specs.Prelude.{option_map}
use Rattle.std.proofs.lemmas.Bool.{false≢true, false_from_ne_true}
use Rattle.isp_base.specs.declared.types.Span.{Span}
use Rattle.isp_lex.specs.Tokens.{at}
use Rattle.isp_lex.specs.declared.token.Mark.{Mark}
use Rattle.isp_lex.specs.declared.token.Mark.TheVariants as mark
use Rattle.isp_lex.specs.declared.token.TokenKind.{TokenKind}
use Rattle.isp_lex.specs.declared.token.TokenKind.TheVariants as kind
use Rattle.isp_lex.specs.declared.token.Token.{Token}
use Rattle.isp_grammar.proofs.Basics.{token}
use Rattle.isp_grammar.proofs.Choices.{nowhere, nameless, Maybe, maybe_sound, maybe_complete, maybe_by_head, maybe_refused, Either, Parts, either_sound, either_complete}
use Rattle.isp_grammar.proofs.Choices.{either_by_head, either_refused, Counted, Counts, counted_sound, counted_complete, counted_refused, then_behind}
use Rattle.isp_grammar.proofs.Declarations.{some_expr, Declaring, declaration_sound, declaration_complete, declaration_refused, declaration_by_head, declaration_end}
use Rattle.isp_grammar.proofs.ExprLaws.{exprs_sound, exprs_complete, exprs_by_head, exprs_refused, expr_completes}
use Rattle.isp_grammar.proofs.ExprSteps.{expr_off}
use Rattle.isp_grammar.proofs.Exprs.{Exprs, closes_ends, Closed, closed_then}
use Rattle.isp_grammar.proofs.ExprsComplete.{expr_no_type, exprs_off}
use Rattle.isp_grammar.proofs.Forms.{Form, IsSound, IsComplete, Can, One, one_sound, one_complete, Both, Free, Follows, both_sound, both_complete, Behind, one_then, is_behind, Before, then_one, is_before}
use Rattle.isp_grammar.proofs.FormsComplete.{EndsByHead, one_by_head, StartsOff}
use Rattle.isp_grammar.proofs.ListForms.{mapped, Maps, maps_id, mapped_twice, maps_twice, maps_grouped, maps_both, maps_maybe, maps_counted, either_map, maps_either}
use Rattle.isp_grammar.proofs.Refused.{IsRefused, one_refused, both_refused}
use Rattle.isp_grammar.proofs.Simples.{change_kind, change_is, SimpleTree, SimpleParts, simple_sound, simple_complete, simple_refused, simple_by_head, simple_reads, simple_makes, simple_unmakes, simple_deep, simple_end, simple_starts}
use Rattle.isp_grammar.proofs.Starts.{begins_off, begins_on, starts_off, Fits, start_fits, expr_start, type_start, type_completes}
use Rattle.isp_grammar.proofs.TypesRead.{type_starts}
use Rattle.isp_grammar.proofs.Wrapped.{Bracketed, bracketed_sound, bracketed_complete, bracketed_refused, some_bracketed}
use Rattle.isp_tree.specs.Depth.{depth_of_first}
use Rattle.isp_grammar.specs.Grammar.{IsDeclaration, is_declaration, is_plain, IsFirst, is_first_declare, is_first_simple}
use Rattle.isp_grammar.specs.reader.Readers.{Reader, refuse, mark_at, both}
use Rattle.isp_grammar.specs.reader.Choices.{begins_with, either_at, maybe_at, maybe_closed_at}
use Rattle.isp_grammar.specs.reader.Exprs.{begins_expr, expr_at}
use Rattle.isp_grammar.specs.reader.Starts.{start_of, is_first_start, is_simple_start, begins_first, begins_simple}
use Rattle.isp_grammar.specs.reader.Stmts.{is_change, declaration_at, simple_from, simple_at, first_from, first_at, first_part_at, step_part_at, Head, head_at}
use Rattle.isp_grammar.specs.reader.Types.{begins_type}
use Rattle.isp_grammar.specs.Signs.{word, loosest, change_mark}
use Rattle.isp_tree.specs.Tree.{Expr, plain, Declaration, Simple, First, first_simple}
use Rattle.isp_grammar.specs.declared.start.Start.{Start}
use Rattle.isp_grammar.specs.declared.start.Start.TheVariants as by
use Rattle.isp_grammar.specs.declared.stop.Why.TheVariants.{Unexpected}
use Rattle.isp_tree.specs.declared.stmt.Change.{Change}
use Rattle.isp_tree.specs.declared.stmt.Change.TheVariants.{Increment, Decrement}

-- ---- a test in brackets

close_expr : (x : Expr) (s : Span) (rest : List Token) → (Exprs loosest).ends x (at mark.ParenClose s ∷ rest)
close_expr x s rest = closes_ends loosest mark.ParenClose refl x s rest

abbrev pub Test : Form Expr
Test = Bracketed (Exprs loosest)

pub test_sound : (n : ℕ) → IsSound Test n
test_sound n = bracketed_sound (Exprs loosest) close_expr (some_expr loosest) n (exprs_sound loosest n)

pub test_complete : (n : ℕ) → IsComplete Test n
test_complete n = bracketed_complete (Exprs loosest) close_expr (some_expr loosest) n (exprs_complete loosest n)

pub test_refused : (n : ℕ) → IsRefused Test n
test_refused n = bracketed_refused (Exprs loosest) close_expr (some_expr loosest) n (exprs_by_head loosest) (exprs_complete loosest) (exprs_sound loosest n) (exprs_refused loosest n)

pub some_test : (b : List Token) × Can Test b
some_test = some_bracketed (Exprs loosest) close_expr (some_expr loosest)

-- ---- the same with the place of the closing bracket

abbrev pub ClosedTest : Form (Span × (Expr × Span))
ClosedTest = Behind mark.ParenOpen Closed

abbrev closed_tokens : List Token
closed_tokens = (some_expr loosest).0 ++ at mark.ParenClose nowhere ∷ []

some_closed : Can Closed closed_tokens
some_closed = (((some_expr loosest).1.0, nowhere), is_before (Exprs loosest) mark.ParenClose (some_expr loosest).0 (some_expr loosest).1.0 nowhere (some_expr loosest).1.1)

closed_behind : Follows (One mark.ParenOpen) Closed Free
closed_behind = one_then mark.ParenOpen Closed closed_tokens some_closed

pub some_closed_test : (b : List Token) × Can ClosedTest b
some_closed_test = (at mark.ParenOpen nowhere ∷ closed_tokens, ((nowhere, some_closed.0), is_behind mark.ParenOpen Closed nowhere closed_tokens some_closed.0 some_closed.1))

pub closed_test_sound : (n : ℕ) → IsSound ClosedTest n
closed_test_sound n =
    both_sound (One mark.ParenOpen) Closed Free closed_behind n (one_sound mark.ParenOpen n)
    (both_sound (Exprs loosest) (One mark.ParenClose) Free closed_then n (exprs_sound loosest n) (one_sound mark.ParenClose n))

pub closed_test_complete : (n : ℕ) → IsComplete ClosedTest n
closed_test_complete n =
    both_complete (One mark.ParenOpen) Closed Free closed_behind n (one_complete mark.ParenOpen n)
    (both_complete (Exprs loosest) (One mark.ParenClose) Free closed_then n (exprs_complete loosest n) (one_complete mark.ParenClose n))

pub closed_test_refused : (n : ℕ) → IsRefused ClosedTest n
closed_test_refused n =
    both_refused (One mark.ParenOpen) Closed Free closed_behind n (one_by_head mark.ParenOpen) (one_complete mark.ParenOpen) (one_sound mark.ParenOpen n) (one_refused mark.ParenOpen n)
    (both_refused (Exprs loosest) (One mark.ParenClose) Free closed_then n (exprs_by_head loosest) (exprs_complete loosest) (exprs_sound loosest n) (exprs_refused loosest n) (one_refused mark.ParenClose n))

-- ---- the first part and the step of a `for`

start_clash : (k : TokenKind) → start_of k ≡ by.Simple → start_of k ≡ by.Declare → ⊥
start_clash k a b = absurd (differ (sym a ∙ b))
  where
    differ : ◌≡◌ {A = Start} by.Simple by.Declare → ⊥
    differ e = cc

change_start : (c : Change) → start_of (change_kind c) ≡ by.Simple
change_start Increment = refl
change_start Decrement = refl

pub is_change_start : (k : TokenKind) → is_change k ≡ true → start_of k ≡ by.Simple
is_change_start k e = let p = change_is k e in ap start_of p.1 ∙ change_start p.0

change_no_type : (k : TokenKind) → is_change k ≡ true → begins_type k ≡ false
change_no_type k e = false_from_ne_true (begins_type k) (λ t. start_clash k (is_change_start k e) (type_start k t))

-- what begins with none of a larger sort begins with none of a smaller one
begins_none : (b c : TokenKind → Bool) → ((k : TokenKind) → b k ≡ true → c k ≡ true) → (u : List Token) → begins_with c u ≡ false → begins_with b u ≡ false
begins_none b c f u e = false_from_ne_true (begins_with b u) (λ h. false≢true (sym e ∙ begins_on b c f u h))

expr_is_simple : (k : TokenKind) → begins_expr k ≡ true → begins_simple k ≡ true
expr_is_simple k e = ap is_simple_start (expr_start k e)

change_is_simple : (k : TokenKind) → is_change k ≡ true → begins_simple k ≡ true
change_is_simple k e = ap is_simple_start (is_change_start k e)

simple_is_first : (k : TokenKind) → begins_simple k ≡ true → begins_first k ≡ true
simple_is_first k e = in_case (start_of k) e
  where
    in_case : (c : Start) → is_simple_start c ≡ true → is_first_start c ≡ true
    in_case by.Block h = absurd cc
    in_case by.Empty h = absurd cc
    in_case by.Declare h = refl
    in_case by.Simple h = refl
    in_case (by.If f) h = absurd cc
    in_case (by.While f) h = absurd cc
    in_case (by.Do f) h = absurd cc
    in_case (by.For f) h = absurd cc
    in_case (by.Foreach f) h = absurd cc
    in_case by.ForeachActive h = absurd cc
    in_case by.ForeachUnique h = absurd cc
    in_case by.Unmasked h = absurd cc
    in_case (by.Jump j) h = absurd cc
    in_case by.Return h = absurd cc
    in_case by.Print h = absurd cc
    in_case by.Assert h = absurd cc
    in_case by.Nothing h = absurd cc

type_is_first : (k : TokenKind) → begins_type k ≡ true → begins_first k ≡ true
type_is_first k e = ap is_first_start (type_start k e)

pub simple_off : (m : ℕ) (u : List Token) → begins_with begins_simple u ≡ false → SimpleParts.read m u ≡ refuse Unexpected u
unfolding either_at
simple_off m u e =
    let c = begins_none is_change begins_simple change_is_simple u e in
    let x = expr_off m loosest u (begins_none begins_expr begins_simple expr_is_simple u e) in
    rw (c, x) refl

-- tokens that a simple statement begins with
pub simple_opens : (k : TokenKind) (s : Span) → Fits by.Simple k → (closing : List Token) × Can SimpleParts (token k s ∷ closing)
simple_opens k s (inl e) = let c = expr_completes loosest k s e in (c.0, (inr (c.1.0, None), c.1.1))
simple_opens k s (inr e) =
    let p = change_is k e in
    let x = some_expr zero in
    (x.0, (inl ((p.0, s), x.1.0), subst (λ (c : TokenKind). SimpleParts.is (token c s ∷ x.0) (inl ((p.0, s), x.1.0))) (sym p.1) (at (change_mark p.0) s ∷ [], x.0, refl, refl, x.1.1, tt)))

pub simple_completes : (k : TokenKind) (s : Span) → begins_simple k ≡ true → (closing : List Token) × Can SimpleParts (token k s ∷ closing)
simple_completes k s e = in_case (start_of k) (start_fits k) e
  where
    in_case : (c : Start) → Fits c k → is_simple_start c ≡ true → (closing : List Token) × Can SimpleParts (token k s ∷ closing)
    in_case by.Block f h = absurd cc
    in_case by.Empty f h = absurd cc
    in_case by.Declare f h = absurd cc
    in_case by.Simple f h = simple_opens k s f
    in_case (by.If g) f h = absurd cc
    in_case (by.While g) f h = absurd cc
    in_case (by.Do g) f h = absurd cc
    in_case (by.For g) f h = absurd cc
    in_case (by.Foreach g) f h = absurd cc
    in_case by.ForeachActive f h = absurd cc
    in_case by.ForeachUnique f h = absurd cc
    in_case by.Unmasked f h = absurd cc
    in_case (by.Jump j) f h = absurd cc
    in_case by.Return f h = absurd cc
    in_case by.Print f h = absurd cc
    in_case by.Assert f h = absurd cc
    in_case by.Nothing f h = absurd cc

pub declaration_completes : (k : TokenKind) (s : Span) → begins_type k ≡ true → (closing : List Token) × Can Declaring (token k s ∷ closing)
declaration_completes k s e =
    let c = type_completes k s e in
    (c.0 ++ word nameless ∷ [], (_, is_declaration (token k s ∷ c.0) (word nameless ∷ []) c.1.0 (plain nameless ∷ []) c.1.1 (is_plain nameless)))

abbrev pub FirstTree : Type 0
FirstTree = Declaration ⊎ SimpleTree

abbrev pub FirstParts : Form FirstTree
FirstParts = Either begins_type Declaring SimpleParts

abbrev pub first_tree : FirstTree → First
first_tree p = first_from (either_map simple_from p)

pub declaration_starts : {ts : List Token} {d : Declaration} → IsDeclaration ts d → (rest : List Token) → begins_with begins_type (ts ++ rest) ≡ true
declaration_starts (is_declaration ts us t is i j) rest = ap (λ (l : List Token). begins_with begins_type l) (append_assoc ts us rest) ∙ type_starts i (us ++ rest)

simple_no_type : (a : List Token) (p : SimpleTree) (rest : List Token) → SimpleParts.is a p → begins_with begins_type (a ++ rest) ≡ false
simple_no_type a p rest i =
    elim (simple_starts a p rest i) [
      | inl e ↦ begins_off begins_expr begins_type expr_no_type (a ++ rest) e
      | inr e ↦ begins_off is_change begins_type change_no_type (a ++ rest) e
    ]

first_parts : Parts begins_type Declaring SimpleParts
first_parts = record { first = λ a x rest i. declaration_starts i rest; other = λ a y rest i. simple_no_type a y rest i }

pub first_off : (m : ℕ) (u : List Token) → begins_with begins_first u ≡ false → FirstParts.read m u ≡ refuse Unexpected u
unfolding either_at
first_off m u e =
    let c = begins_none begins_type begins_first type_is_first u e in
    let x = simple_off m u (begins_none begins_simple begins_first simple_is_first u e) in
    rw (c, x) refl

first_completes : (k : TokenKind) (s : Span) → begins_first k ≡ true → (closing : List Token) × Can FirstParts (token k s ∷ closing)
first_completes k s e = in_case (start_of k) (start_fits k) e
  where
    in_case : (c : Start) → Fits c k → is_first_start c ≡ true → (closing : List Token) × Can FirstParts (token k s ∷ closing)
    in_case by.Block f h = absurd cc
    in_case by.Empty f h = absurd cc
    in_case by.Declare f h = let c = declaration_completes k s f in (c.0, (inl c.1.0, c.1.1))
    in_case by.Simple f h = let c = simple_opens k s f in (c.0, (inr c.1.0, c.1.1))
    in_case (by.If g) f h = absurd cc
    in_case (by.While g) f h = absurd cc
    in_case (by.Do g) f h = absurd cc
    in_case (by.For g) f h = absurd cc
    in_case (by.Foreach g) f h = absurd cc
    in_case by.ForeachActive f h = absurd cc
    in_case by.ForeachUnique f h = absurd cc
    in_case by.Unmasked f h = absurd cc
    in_case (by.Jump j) f h = absurd cc
    in_case by.Return f h = absurd cc
    in_case by.Print f h = absurd cc
    in_case by.Assert f h = absurd cc
    in_case by.Nothing f h = absurd cc

pub some_simple : (b : List Token) × Can SimpleParts b
some_simple = let x = some_expr loosest in (x.0, (inr (x.1.0, None), x.1.1))

some_first : (b : List Token) × Can FirstParts b
some_first = let x = some_simple in (x.0, (inr x.1.0, x.1.1))

abbrev pub depth_of_first_tree : FirstTree → ℕ
depth_of_first_tree p = suc (FirstParts.deep p)

abbrev pub depth_of_step_tree : SimpleTree → ℕ
depth_of_step_tree p = suc (SimpleParts.deep p)

abbrev pub FirstPart : Form FirstTree
FirstPart = Counted begins_first FirstParts depth_of_first_tree

abbrev pub StepPart : Form SimpleTree
StepPart = Counted begins_simple SimpleParts depth_of_step_tree

first_counts : Counts begins_first FirstParts depth_of_first_tree
first_counts = record { same = λ x. refl; off = λ m u e. first_off m u e; some = some_first; completes = λ k s e. first_completes k s e }

step_counts : Counts begins_simple SimpleParts depth_of_step_tree
step_counts = record { same = λ x. refl; off = λ m u e. simple_off m u e; some = some_simple; completes = λ k s e. simple_completes k s e }

first_parts_sound : (n : ℕ) → IsSound FirstParts n
first_parts_sound n = either_sound begins_type Declaring SimpleParts n (declaration_sound n) (simple_sound n)

first_parts_complete : (n : ℕ) → IsComplete FirstParts n
first_parts_complete n = either_complete begins_type Declaring SimpleParts first_parts n (declaration_complete n) (simple_complete n)

first_parts_refused : (n : ℕ) → IsRefused FirstParts n
first_parts_refused n = either_refused begins_type Declaring SimpleParts n (declaration_refused n) (simple_refused n)

first_by_head : EndsByHead FirstPart
first_by_head = either_by_head begins_type Declaring SimpleParts declaration_by_head simple_by_head

semicolon_expr : (k : ℕ) (x : Expr) (s : Span) (rest : List Token) → (Exprs k).ends x (at mark.Semicolon s ∷ rest)
semicolon_expr k x s rest = closes_ends k mark.Semicolon refl x s rest

pub simple_semicolon : (p : SimpleTree) (s : Span) (rest : List Token) → SimpleParts.ends p (at mark.Semicolon s ∷ rest)
simple_semicolon p s rest = simple_end mark.Semicolon refl semicolon_expr p s rest

simple_close : (p : SimpleTree) (s : Span) (rest : List Token) → SimpleParts.ends p (at mark.ParenClose s ∷ rest)
simple_close p s rest = simple_end mark.ParenClose refl (λ k x s rest. closes_ends k mark.ParenClose refl x s rest) p s rest

first_semicolon : (p : FirstTree) (s : Span) (rest : List Token) → FirstPart.ends p (at mark.Semicolon s ∷ rest)
first_semicolon (inl d) s rest = declaration_end d s rest
first_semicolon (inr p) s rest = simple_semicolon p s rest

simple_starts_off : (m : Mark) → begins_expr (kind.Mark m) ≡ false → is_change (kind.Mark m) ≡ false → StartsOff SimpleParts m
simple_starts_off m c d a p rest i =
    elim (simple_starts a p rest i) [
      | inl e ↦ starts_off m begins_expr c (a ++ rest) e
      | inr e ↦ starts_off m is_change d (a ++ rest) e
    ]

first_starts_off : StartsOff FirstPart mark.Semicolon
first_starts_off a (inl d) rest i = starts_off mark.Semicolon begins_type refl (a ++ rest) (declaration_starts i rest)
first_starts_off a (inr p) rest i = simple_starts_off mark.Semicolon refl refl a p rest i

-- ---- what stands in the brackets of a `for`

abbrev pub MaybeFirst : Form (Option FirstTree)
MaybeFirst = Maybe mark.Semicolon FirstPart

abbrev pub MaybeTest : Form (Option Expr)
MaybeTest = Maybe mark.Semicolon (Exprs loosest)

abbrev pub MaybeStep : Form (Option SimpleTree)
MaybeStep = Maybe mark.ParenClose StepPart

abbrev pub HeadStep : Form (Option SimpleTree × Span)
HeadStep = Before MaybeStep mark.ParenClose

abbrev pub HeadTest : Form (Option Expr × (Span × (Option SimpleTree × Span)))
HeadTest = Both MaybeTest (Behind mark.Semicolon HeadStep) Free

abbrev pub HeadFirst : Form (Option FirstTree × (Span × (Option Expr × (Span × (Option SimpleTree × Span)))))
HeadFirst = Both MaybeFirst (Behind mark.Semicolon HeadTest) Free

abbrev pub HeadParts : Form (Span × (Option FirstTree × (Span × (Option Expr × (Span × (Option SimpleTree × Span))))))
HeadParts = Behind mark.ParenOpen HeadFirst

first_maybe_ends : (x : Option FirstTree) (s : Span) (rest : List Token) → MaybeFirst.ends x (at mark.Semicolon s ∷ rest)
first_maybe_ends None s rest = refl
first_maybe_ends (Some p) s rest = first_semicolon p s rest

pub test_maybe_ends : (x : Option Expr) (s : Span) (rest : List Token) → MaybeTest.ends x (at mark.Semicolon s ∷ rest)
test_maybe_ends None s rest = refl
test_maybe_ends (Some x) s rest = semicolon_expr loosest x s rest

step_maybe_ends : (x : Option SimpleTree) (s : Span) (rest : List Token) → MaybeStep.ends x (at mark.ParenClose s ∷ rest)
step_maybe_ends None s rest = refl
step_maybe_ends (Some p) s rest = simple_close p s rest

some_step : Can HeadStep (at mark.ParenClose nowhere ∷ [])
some_step = ((None, nowhere), ([], at mark.ParenClose nowhere ∷ [], refl, refl, refl, tt))

some_head_test : Can HeadTest (at mark.Semicolon nowhere ∷ at mark.ParenClose nowhere ∷ [])
some_head_test = ((None, (nowhere, some_step.0)), ([], at mark.Semicolon nowhere ∷ at mark.ParenClose nowhere ∷ [], refl, refl, is_behind mark.Semicolon HeadStep nowhere (at mark.ParenClose nowhere ∷ []) some_step.0 some_step.1, tt))

abbrev some_head_tokens : List Token
some_head_tokens = at mark.Semicolon nowhere ∷ at mark.Semicolon nowhere ∷ at mark.ParenClose nowhere ∷ []

some_head_first : Can HeadFirst some_head_tokens
some_head_first =
    ((None, (nowhere, some_head_test.0)), ([], some_head_tokens, refl, refl, is_behind mark.Semicolon HeadTest nowhere (at mark.Semicolon nowhere ∷ at mark.ParenClose nowhere ∷ []) some_head_test.0 some_head_test.1, tt))

step_then : Follows MaybeStep (One mark.ParenClose) Free
step_then = then_one MaybeStep mark.ParenClose step_maybe_ends

step_behind : Follows (One mark.Semicolon) HeadStep Free
step_behind = one_then mark.Semicolon HeadStep (at mark.ParenClose nowhere ∷ []) some_step

test_then : Follows MaybeTest (Behind mark.Semicolon HeadStep) Free
test_then = then_behind MaybeTest mark.Semicolon HeadStep test_maybe_ends (at mark.ParenClose nowhere ∷ []) some_step

test_behind : Follows (One mark.Semicolon) HeadTest Free
test_behind = one_then mark.Semicolon HeadTest (at mark.Semicolon nowhere ∷ at mark.ParenClose nowhere ∷ []) some_head_test

first_then : Follows MaybeFirst (Behind mark.Semicolon HeadTest) Free
first_then = then_behind MaybeFirst mark.Semicolon HeadTest first_maybe_ends (at mark.Semicolon nowhere ∷ at mark.ParenClose nowhere ∷ []) some_head_test

first_behind : Follows (One mark.ParenOpen) HeadFirst Free
first_behind = one_then mark.ParenOpen HeadFirst some_head_tokens some_head_first

pub some_head : (b : List Token) × Can HeadParts b
some_head = (at mark.ParenOpen nowhere ∷ some_head_tokens, ((nowhere, some_head_first.0), is_behind mark.ParenOpen HeadFirst nowhere some_head_tokens some_head_first.0 some_head_first.1))

maybe_first_sound : (n : ℕ) → IsSound MaybeFirst n
maybe_first_sound n = maybe_sound mark.Semicolon FirstPart n (counted_sound begins_first FirstParts depth_of_first_tree first_counts n first_parts_sound)

maybe_first_complete : (n : ℕ) → IsComplete MaybeFirst n
maybe_first_complete n = maybe_complete mark.Semicolon FirstPart first_starts_off n (counted_complete begins_first FirstParts depth_of_first_tree first_counts n first_parts_complete)

maybe_first_refused : (n : ℕ) → IsRefused MaybeFirst n
maybe_first_refused n = maybe_refused mark.Semicolon FirstPart n (counted_refused begins_first FirstParts depth_of_first_tree first_counts n first_parts_refused)

pub maybe_test_sound : (n : ℕ) → IsSound MaybeTest n
maybe_test_sound n = maybe_sound mark.Semicolon (Exprs loosest) n (exprs_sound loosest n)

pub maybe_test_complete : (n : ℕ) → IsComplete MaybeTest n
maybe_test_complete n = maybe_complete mark.Semicolon (Exprs loosest) (exprs_off loosest mark.Semicolon refl) n (exprs_complete loosest n)

pub maybe_test_refused : (n : ℕ) → IsRefused MaybeTest n
maybe_test_refused n = maybe_refused mark.Semicolon (Exprs loosest) n (exprs_refused loosest n)

pub maybe_test_by_head : EndsByHead MaybeTest
maybe_test_by_head = maybe_by_head mark.Semicolon (Exprs loosest) (exprs_by_head loosest)

maybe_step_sound : (n : ℕ) → IsSound MaybeStep n
maybe_step_sound n = maybe_sound mark.ParenClose StepPart n (counted_sound begins_simple SimpleParts depth_of_step_tree step_counts n simple_sound)

maybe_step_complete : (n : ℕ) → IsComplete MaybeStep n
maybe_step_complete n =
    maybe_complete mark.ParenClose StepPart (simple_starts_off mark.ParenClose refl refl) n (counted_complete begins_simple SimpleParts depth_of_step_tree step_counts n simple_complete)

maybe_step_refused : (n : ℕ) → IsRefused MaybeStep n
maybe_step_refused n = maybe_refused mark.ParenClose StepPart n (counted_refused begins_simple SimpleParts depth_of_step_tree step_counts n simple_refused)

pub head_sound : (n : ℕ) → IsSound HeadParts n
head_sound n =
    both_sound (One mark.ParenOpen) HeadFirst Free first_behind n (one_sound mark.ParenOpen n)
    (both_sound MaybeFirst (Behind mark.Semicolon HeadTest) Free first_then n (maybe_first_sound n) (both_sound (One mark.Semicolon) HeadTest Free test_behind n (one_sound mark.Semicolon n)
    (both_sound MaybeTest (Behind mark.Semicolon HeadStep) Free test_then n (maybe_test_sound n) (both_sound (One mark.Semicolon) HeadStep Free step_behind n (one_sound mark.Semicolon n)
    (both_sound MaybeStep (One mark.ParenClose) Free step_then n (maybe_step_sound n) (one_sound mark.ParenClose n))))))

pub head_complete : (n : ℕ) → IsComplete HeadParts n
head_complete n =
    both_complete (One mark.ParenOpen) HeadFirst Free first_behind n (one_complete mark.ParenOpen n)
    (both_complete MaybeFirst (Behind mark.Semicolon HeadTest) Free first_then n (maybe_first_complete n) (both_complete (One mark.Semicolon) HeadTest Free test_behind n (one_complete mark.Semicolon n)
    (both_complete MaybeTest (Behind mark.Semicolon HeadStep) Free test_then n (maybe_test_complete n) (both_complete (One mark.Semicolon) HeadStep Free step_behind n (one_complete mark.Semicolon n)
    (both_complete MaybeStep (One mark.ParenClose) Free step_then n (maybe_step_complete n) (one_complete mark.ParenClose n))))))

pub head_refused : (n : ℕ) → IsRefused HeadParts n
head_refused n =
    both_refused (One mark.ParenOpen) HeadFirst Free first_behind n (one_by_head mark.ParenOpen) (one_complete mark.ParenOpen) (one_sound mark.ParenOpen n) (one_refused mark.ParenOpen n)
    (both_refused MaybeFirst (Behind mark.Semicolon HeadTest) Free first_then n (maybe_by_head mark.Semicolon FirstPart first_by_head) maybe_first_complete (maybe_first_sound n) (maybe_first_refused n)
    (both_refused (One mark.Semicolon) HeadTest Free test_behind n (one_by_head mark.Semicolon) (one_complete mark.Semicolon) (one_sound mark.Semicolon n) (one_refused mark.Semicolon n)
    (both_refused MaybeTest (Behind mark.Semicolon HeadStep) Free test_then n maybe_test_by_head maybe_test_complete (maybe_test_sound n) (maybe_test_refused n)
    (both_refused (One mark.Semicolon) HeadStep Free step_behind n (one_by_head mark.Semicolon) (one_complete mark.Semicolon) (one_sound mark.Semicolon n) (one_refused mark.Semicolon n)
    (both_refused MaybeStep (One mark.ParenClose) Free step_then n (maybe_by_head mark.ParenClose StepPart simple_by_head) maybe_step_complete (maybe_step_sound n) (maybe_step_refused n) (one_refused mark.ParenClose n))))))

-- ---- the trees of these parts

pub first_makes : (ts : List Token) (p : FirstTree) → FirstParts.is ts p → IsFirst ts (first_tree p)
first_makes ts (inl d) i = is_first_declare ts d i
first_makes ts (inr p) i = is_first_simple ts (simple_from p) (simple_makes ts p i)

pub first_unmakes : {ts : List Token} {y : First} → IsFirst ts y → (p : FirstTree) × FirstParts.is ts p × (first_tree p ≡ y)
first_unmakes (is_first_declare ts d i) = (inl d, i, refl)
first_unmakes (is_first_simple ts s i) = let p = simple_unmakes i in (inr p.0, p.1, ap first_simple p.2)

pub first_deep : (p : FirstTree) → depth_of_first (first_tree p) ≡ depth_of_first_tree p
first_deep (inl d) = refl
first_deep (inr p) = ap suc (simple_deep p)

abbrev pub head_tree : Span × (Option FirstTree × (Span × (Option Expr × (Span × (Option SimpleTree × Span))))) → Head
head_tree p = record { first = option_map first_tree p.1.0; test = p.1.1.1.0; step = option_map simple_from p.1.1.1.1.1.0 }

maps_first : (n : ℕ) → Maps (FirstParts.read n) (first_at n) first_tree
unfolding first_at
maps_first n ts =
    ap (λ (r : _). mapped first_from r) (maps_either simple_from begins_type (declaration_at n) (SimpleParts.read n) (simple_at n) (simple_reads n) ts)
    ∙ mapped_twice (either_map simple_from) first_from (either_at begins_type (declaration_at n) (SimpleParts.read n) ts)

maps_first_part : (n : ℕ) → Maps (FirstPart.read n) (first_part_at n) first_tree
unfolding first_part_at
maps_first_part n = maps_counted first_tree begins_first FirstParts.read first_at maps_first n

maps_step_part : (n : ℕ) → Maps (StepPart.read n) (step_part_at n) simple_from
unfolding step_part_at
maps_step_part n = maps_counted simple_from begins_simple SimpleParts.read simple_at simple_reads n

abbrev raw_head : ℕ → Reader (Span × (Option First × (Span × (Option Expr × (Span × (Option Simple × Span))))))
raw_head n = both (mark_at mark.ParenOpen) (both (maybe_at mark.Semicolon (first_part_at n))
    (both (mark_at mark.Semicolon) (both (maybe_at mark.Semicolon (expr_at n loosest))
    (both (mark_at mark.Semicolon) (both (maybe_at mark.ParenClose (step_part_at n)) (mark_at mark.ParenClose))))))

abbrev raw_tree : Span × (Option FirstTree × (Span × (Option Expr × (Span × (Option SimpleTree × Span))))) → Span × (Option First × (Span × (Option Expr × (Span × (Option Simple × Span)))))
raw_tree p = (p.0, (option_map first_tree p.1.0, (p.1.1.0, (p.1.1.1.0, (p.1.1.1.1.0, (option_map simple_from p.1.1.1.1.1.0, p.1.1.1.1.1.1))))))

maps_raw : (n : ℕ) → Maps (HeadParts.read n) (raw_head n) raw_tree
maps_raw n =
    maps_both (λ x. x) _ (mark_at mark.ParenOpen) (mark_at mark.ParenOpen) (HeadFirst.read n) _ (maps_id (mark_at mark.ParenOpen))
    (maps_both (option_map first_tree) _ (MaybeFirst.read n) (maybe_at mark.Semicolon (first_part_at n))
    (λ ts. both (mark_at mark.Semicolon) (HeadTest.read n) ts) _
    (maps_maybe first_tree mark.Semicolon (FirstPart.read n) (first_part_at n) (maps_first_part n))
    (maps_both (λ x. x) _ (mark_at mark.Semicolon) (mark_at mark.Semicolon) (HeadTest.read n) _ (maps_id (mark_at mark.Semicolon))
    (maps_both (λ x. x) _ (MaybeTest.read n) (maybe_at mark.Semicolon (expr_at n loosest)) (λ ts. both (mark_at mark.Semicolon) (HeadStep.read n) ts) _ (maps_id (maybe_at mark.Semicolon (expr_at n loosest)))
    (maps_both (λ x. x) _ (mark_at mark.Semicolon) (mark_at mark.Semicolon) (HeadStep.read n) _ (maps_id (mark_at mark.Semicolon))
    (maps_both (option_map simple_from) (λ x. x) (MaybeStep.read n) (maybe_at mark.ParenClose (step_part_at n)) (mark_at mark.ParenClose)
    (mark_at mark.ParenClose) (maps_maybe simple_from mark.ParenClose (StepPart.read n) (step_part_at n) (maps_step_part n))
    (maps_id (mark_at mark.ParenClose)))))))

-- each part with the sign after it
abbrev grouped : Span × (Option First × (Span × (Option Expr × (Span × (Option Simple × Span))))) → Span × ((Option First × Span) × ((Option Expr × Span) × (Option Simple × Span)))
grouped p = (p.0, ((p.1.0, p.1.1.0), ((p.1.1.1.0, p.1.1.1.1.0), p.1.1.1.1.1)))

abbrev grouped_head : ℕ → Reader (Span × ((Option First × Span) × ((Option Expr × Span) × (Option Simple × Span))))
grouped_head n = both (mark_at mark.ParenOpen) (both (both (maybe_at mark.Semicolon (first_part_at n)) (mark_at mark.Semicolon))
    (both (both (maybe_at mark.Semicolon (expr_at n loosest)) (mark_at mark.Semicolon))
    (both (maybe_at mark.ParenClose (step_part_at n)) (mark_at mark.ParenClose))))

maps_group : (n : ℕ) → Maps (raw_head n) (grouped_head n) grouped
maps_group n =
    let semicolon = mark_at mark.Semicolon in
    let step = both (maybe_at mark.ParenClose (step_part_at n)) (mark_at mark.ParenClose) in
    let test = maybe_at mark.Semicolon (expr_at n loosest) in
    let first = maybe_at mark.Semicolon (first_part_at n) in
    maps_both (λ x. x) _ (mark_at mark.ParenOpen) (mark_at mark.ParenOpen) (both first (both semicolon (both test (both semicolon step)))) _ (maps_id (mark_at mark.ParenOpen))
    (maps_twice (both first (both semicolon (both test (both semicolon step)))) (both (both first semicolon) (both test (both semicolon step)))
    (both (both first semicolon) (both (both test semicolon) step)) _ _ (maps_grouped first semicolon (both test (both semicolon step)))
    (maps_both (λ x. x) _ (both first semicolon) (both first semicolon) (both test (both semicolon step)) (both (both test semicolon) step) (maps_id (both first semicolon)) (maps_grouped test semicolon step)))

abbrev head_from : Span × ((Option First × Span) × ((Option Expr × Span) × (Option Simple × Span))) → Head
head_from p = record { first = p.1.0.0; test = p.1.1.0.0; step = p.1.1.1.0 }

pub maps_head : (n : ℕ) → Maps (HeadParts.read n) (head_at n) head_tree
unfolding head_at maybe_closed_at
maps_head n ts = ap (λ (r : _). mapped head_from r) (maps_twice (HeadParts.read n) (raw_head n) (grouped_head n) raw_tree grouped (maps_raw n) (maps_group n) ts) ∙ mapped_twice (λ x. grouped (raw_tree x)) head_from (HeadParts.read n ts)
