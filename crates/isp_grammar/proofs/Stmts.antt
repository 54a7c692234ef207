-- Forms of statements, and that each makes a statement.
use Rattle.std.proofs.Common.{◌≡◌, ℕ, suc, max, true, false, List, [], ◌∷◌, ◌++◌, Option, Some, None, Ok, refl, sym, ap, subst, ◌∙◌, append_assoc, arith}
use Rattle.std.specs.Prelude.{option_map, ⊤}
use Rattle.std.proofs.lemmas.List.{append-nil}
use Rattle.isp_base.specs.Types.{span_to}
use Rattle.isp_base.specs.declared.types.Span.{Span}
use Rattle.isp_lex.specs.Tokens.{at, starts_with}
use Rattle.isp_lex.specs.declared.token.Mark.TheVariants as mark
use Rattle.isp_lex.specs.declared.token.Token.{Token}
use Rattle.isp_grammar.proofs.Basics.{starts_same}
use Rattle.isp_grammar.proofs.Choices.{nowhere}
use Rattle.isp_grammar.proofs.Declarations.{Declaring}
use Rattle.isp_grammar.proofs.Exprs.{Exprs, Closed}
use Rattle.isp_grammar.proofs.Forms.{Form, Can, One, Both, Free, Follows, Behind, behind_is, Before, then_one, before_is, Optional, deepest, AreAll, Until}
use Rattle.isp_grammar.proofs.FormsComplete.{EndsByHead}
use Rattle.isp_grammar.proofs.Ranges.{RangesHead, ActiveHead, UniqueHead, Texts, NextValue, Values}
use Rattle.isp_grammar.proofs.Simples.{SimpleTree, SimpleParts, simple_makes, simple_deep}
use Rattle.isp_grammar.proofs.StmtParts.{Test, ClosedTest, MaybeTest, FirstTree, MaybeFirst, MaybeStep, HeadStep, HeadTest, HeadFirst, HeadParts, first_tree, first_makes, first_deep}
use Rattle.isp_grammar.proofs.Wrapped.{After, Bracketed}
use Rattle.isp_tree.specs.Depth.{depth_of_option, depth_of_first, depth_of_step, deepest_of, depth_of_stmt, depth_of_block, depth_of_stmts, depth}
use Rattle.isp_grammar.specs.Grammar.{IsMaybe, IsExpr, IsFirst, IsSimple, is_open, IsBlock, is_braces, IsStmts, is_end, is_next, IsStmt, is_empty, is_declare, is_simple, is_if}
use Rattle.isp_grammar.specs.Grammar.{is_if_else, is_while, is_do, is_for, is_foreach, is_foreach_active, is_foreach_unique, is_return, is_print, is_assert}
use Rattle.isp_grammar.specs.reader.Stmts.{simple_from, if_from, block_from, stmts_at, braced_at, block_at, stmt_at}
use Rattle.isp_grammar.specs.Signs.{word, preposition, textual, loosest, if_mark, while_mark, do_mark, for_mark, foreach_mark}
use Rattle.isp_grammar.specs.reader.Readers.{◌>>=◌}
use Rattle.isp_tree.specs.Tree.{Expr, Declaration, span_of_simple, Range, Stmt, empty, declare, simple, loop_while, loop_do, loop_for, foreach, foreach_active}
use Rattle.isp_tree.specs.Tree.{foreach_unique, unmasked, jump, returning, print, assert, Block, all, span_of_block, span_of_stmt}
use Rattle.isp_tree.specs.declared.types.Word.{Word}
use Rattle.isp_tree.specs.declared.stmt.Form.{Form as Shape}
use Rattle.isp_tree.specs.declared.stmt.Tiling.{Tiling}
use Rattle.isp_tree.specs.declared.stmt.Jump.{Jump}

-- no `else` may follow a statement that ends in an `if` without one
abbrev pub EndsStmt : Stmt → List Token → Type 0
EndsStmt s rest = is_open s ≡ true → starts_with mark.Else rest ≡ false

abbrev pub Statement : Form Stmt
Statement = record { is = λ ts s. IsStmt ts s; deep = depth_of_stmt; ends = EndsStmt; read = stmt_at }

pub stmt_by_head : EndsByHead Statement
stmt_by_head s a b e h = λ o. sym (starts_same mark.Else a b e) ∙ h o

pub some_stmt : (b : List Token) × Can Statement b
some_stmt = (at mark.Semicolon nowhere ∷ [], (empty nowhere, is_empty nowhere))

-- ---- nothing more

abbrev pub Nothing : Form ⊤
Nothing = record { is = λ ts x. ts ≡ []; deep = λ x. 0; ends = λ x rest. Unit {0}; read = λ n ts. Ok (tt, ts) }

-- ---- blocks

abbrev pub Several : Form (List Stmt)
Several = Until Statement mark.BraceClose

pub all_are : (ts : List Token) (ss : List Stmt) → AreAll Statement ts ss → IsStmts ts ss
all_are ts [] i = subst (λ (l : List Token). IsStmts l []) (sym i) is_end
all_are ts (s ∷ ss) i = subst (λ (l : List Token). IsStmts l (s ∷ ss)) (sym i.2) (is_next i.0 i.1 s ss i.3 (all_are i.1 ss i.4))

pub are_all : {ts : List Token} {ss : List Stmt} → IsStmts ts ss → AreAll Statement ts ss
are_all is_end = refl
are_all (is_next a b s ss i j) = (a, b, refl, i, are_all j)

deepest_is : (ss : List Stmt) → depth_of_stmts (all ss) ≡ deepest Statement ss
deepest_is [] = refl
deepest_is (s ∷ ss) = ap (λ (n : ℕ). max (depth_of_stmt s) n) (deepest_is ss)

abbrev pub BraceEnd : Form (List Stmt × Span)
BraceEnd = Before Several mark.BraceClose

pub brace_then : Follows Several (One mark.BraceClose) Free
brace_then = then_one Several mark.BraceClose (λ x s rest. refl)

pub braces_make : (s : Span) (ts : List Token) (p : List Stmt × Span) → BraceEnd.is ts p → IsBlock (at mark.BraceOpen s ∷ ts) (block_from s p)
braces_make s ts p i =
    let j = before_is Several mark.BraceClose ts p i in
    subst (λ (l : List Token). IsBlock (at mark.BraceOpen s ∷ l) (block_from s p)) (sym j.1) (is_braces s p.1 j.0 p.0 (all_are j.0 p.0 j.2))

pub block_deep : (s : Span) (p : List Stmt × Span) → depth_of_block (block_from s p) ≡ suc (BraceEnd.deep p)
block_deep s p = omega (arith, deepest_is p.0)

-- the statements of a block between its braces
abbrev pub Braced : Form (Span × (List Stmt × Span))
Braced = Behind mark.BraceOpen BraceEnd

abbrev pub braced_of : Span × (List Stmt × Span) → Block
braced_of p = block_from p.0 p.1

pub braced_makes : (ts : List Token) (p : Span × (List Stmt × Span)) → Braced.is ts p → IsBlock ts (braced_of p)
braced_makes ts p i =
    let j = behind_is mark.BraceOpen BraceEnd ts p i in
    subst (λ (l : List Token). IsBlock l (braced_of p)) (sym j.1) (braces_make p.0 j.0 p.1 j.2)

abbrev pub BlockForm : Form Block
BlockForm = record { is = λ ts b. IsBlock ts b; deep = depth_of_block; ends = λ b rest. Unit {0}; read = block_at }

pub block_reads : (n : ℕ) (ts : List Token) → block_at (suc n) ts ≡ (Braced.read n ts >>= λ p. Ok (braced_of p.0, p.1))
unfolding block_at braced_at stmts_at
block_reads n ts = refl

pub some_block : (b : List Token) × Can BlockForm b
some_block = (at mark.BraceOpen nowhere ∷ at mark.BraceClose nowhere ∷ [], (_, is_braces nowhere nowhere [] [] is_end))

-- ---- brackets before other tokens

module _ {A : Type 0} (F : Form A) where
  pub bracketed_front : (ts a b : List Token) (x : A) → ts ≡ a ++ b → (Bracketed F).is a x → (o : Span) × (c : Span) × (d : List Token) × (ts ≡ at mark.ParenOpen o ∷ (d ++ at mark.ParenClose c ∷ b)) × F.is d x
  bracketed_front ts a b x e i =
      (i.0, i.1, i.2, e ∙ ap (λ (l : List Token). l ++ b) i.3 ∙ ap (λ (l : List Token). at mark.ParenOpen i.0 ∷ l) (append_assoc i.2 (at mark.ParenClose i.1 ∷ []) b), i.4)

-- ---- `if`

abbrev pub Else : Form (Option Stmt)
Else = Optional mark.Else Statement

abbrev pub FitsElse : Stmt → Option Stmt → Type 0
FitsElse s None = Unit {0}
FitsElse s (Some t) = is_open s ≡ false

abbrev pub Branches : Form (Stmt × Option Stmt)
Branches = Both Statement Else FitsElse

abbrev pub Conditional : Form (Expr × (Stmt × Option Stmt))
Conditional = Both Test Branches Free

abbrev pub if_of : Shape → Span → Expr × (Stmt × Option Stmt) → Stmt
if_of f i p = if_from f i p.0 p.1.0 p.1.1

pub if_makes : (f : Shape) (i : Span) (ts : List Token) (p : Expr × (Stmt × Option Stmt)) → Conditional.is ts p → IsStmt (at (if_mark f) i ∷ ts) (if_of f i p)
if_makes f i ts (x, (s, None)) c =
    let t = bracketed_front (Exprs loosest) ts c.0 c.1 x c.2 c.3 in
    let b = c.4 in
    let e : c.1 ≡ b.0 = b.2 ∙ ap (λ (l : List Token). b.0 ++ l) b.4 ∙ append-nil b.0 in
    subst (λ (l : List Token). IsStmt (at (if_mark f) i ∷ l) (if_of f i (x, (s, None)))) (sym (t.3 ∙ ap (λ (l : List Token). at mark.ParenOpen t.0 ∷ (t.2 ++ at mark.ParenClose t.1 ∷ l)) e)) (is_if f i t.0 t.1 t.2 b.0 x s t.4 b.3)
if_makes f i ts (x, (s, Some u)) c =
    let t = bracketed_front (Exprs loosest) ts c.0 c.1 x c.2 c.3 in
    let b = c.4 in
    let o = b.4 in
    let e : c.1 ≡ b.0 ++ at mark.Else o.0 ∷ o.1 = b.2 ∙ ap (λ (l : List Token). b.0 ++ l) o.2 in
    subst (λ (l : List Token). IsStmt (at (if_mark f) i ∷ l) (if_of f i (x, (s, Some u)))) (sym (t.3 ∙ ap (λ (l : List Token). at mark.ParenOpen t.0 ∷ (t.2 ++ at mark.ParenClose t.1 ∷ l)) e))
    (is_if_else f i t.0 t.1 o.0 t.2 b.0 o.1 x s u t.4 b.3 b.5 o.3)

pub if_deep : (f : Shape) (i : Span) (p : Expr × (Stmt × Option Stmt)) → depth_of_stmt (if_of f i p) ≡ suc (Conditional.deep p)
if_deep f i (x, (s, None)) = omega arith
if_deep f i (x, (s, Some t)) = omega arith

pub if_ends : (f : Shape) (i : Span) (p : Expr × (Stmt × Option Stmt)) (rest : List Token) → Conditional.ends p rest → EndsStmt (if_of f i p) rest
if_ends f i (x, (s, None)) rest h = λ o. h
if_ends f i (x, (s, Some t)) rest h = h

-- ---- loops

abbrev pub Looping : Form (Expr × Stmt)
Looping = Both Test Statement Free

abbrev pub while_of : Shape → Span → Expr × Stmt → Stmt
while_of f w p = loop_while f p.0 p.1 (span_to w (span_of_stmt p.1))

pub while_makes : (f : Shape) (w : Span) (ts : List Token) (p : Expr × Stmt) → Looping.is ts p → IsStmt (at (while_mark f) w ∷ ts) (while_of f w p)
while_makes f w ts p c =
    let t = bracketed_front (Exprs loosest) ts c.0 c.1 p.0 c.2 c.3 in
    subst (λ (l : List Token). IsStmt (at (while_mark f) w ∷ l) (while_of f w p)) (sym t.3) (is_while f w t.0 t.1 t.2 c.1 p.0 p.1 t.4 c.4)

abbrev pub Tested : Form (Expr × Span)
Tested = Before Test mark.Semicolon

abbrev pub DoEnd : Form (Expr × Span)
DoEnd = After mark.While Tested

abbrev pub Doing : Form (Stmt × (Expr × Span))
Doing = Both Statement DoEnd Free

abbrev pub do_of : Shape → Span → Stmt × (Expr × Span) → Stmt
do_of f d p = loop_do f p.0 p.1.0 (span_to d p.1.1)

pub do_makes : (f : Shape) (d : Span) (ts : List Token) (p : Stmt × (Expr × Span)) → Doing.is ts p → IsStmt (at (do_mark f) d ∷ ts) (do_of f d p)
do_makes f d ts p c =
    let a = c.4 in
    let b = before_is Test mark.Semicolon a.1 p.1 a.3 in
    let t = bracketed_front (Exprs loosest) a.1 b.0 (at mark.Semicolon p.1.1 ∷ []) p.1.0 b.1 b.2 in
    let e : ts ≡ c.0 ++ at mark.While a.0 ∷ at mark.ParenOpen t.0 ∷ (t.2 ++ at mark.ParenClose t.1 ∷ at mark.Semicolon p.1.1 ∷ []) = c.2 ∙ ap (λ (l : List Token). c.0 ++ l) (a.2 ∙ ap (λ (l : List Token). at mark.While a.0 ∷ l) t.3) in
    subst (λ (l : List Token). IsStmt (at (do_mark f) d ∷ l) (do_of f d p)) (sym e) (is_do f d a.0 t.0 t.1 p.1.1 c.0 t.2 p.0 p.1.0 c.3 t.4)

abbrev pub ForTree : Type 0
ForTree = (Span × (Option FirstTree × (Span × (Option Expr × (Span × (Option SimpleTree × Span)))))) × Stmt

abbrev pub ForLoop : Form ForTree
ForLoop = Both HeadParts Statement Free

abbrev pub for_of : Shape → Span → ForTree → Stmt
for_of f w p = loop_for f (option_map first_tree p.0.1.0) p.0.1.1.1.0 (option_map simple_from p.0.1.1.1.1.1.0) p.1 (span_to w (span_of_stmt p.1))

first_maybe : (ts : List Token) (x : Option FirstTree) → MaybeFirst.is ts x → IsMaybe IsFirst ts (option_map first_tree x)
first_maybe ts None i = i
first_maybe ts (Some p) i = first_makes ts p i

test_maybe : (ts : List Token) (x : Option Expr) → MaybeTest.is ts x → IsMaybe (IsExpr loosest) ts x
test_maybe ts None i = i
test_maybe ts (Some x) i = i

step_maybe : (ts : List Token) (x : Option SimpleTree) → MaybeStep.is ts x → IsMaybe IsSimple ts (option_map simple_from x)
step_maybe ts None i = i
step_maybe ts (Some p) i = simple_makes ts p i

pub head_regroup : (o d e c : Span) (is ts us b : List Token)
    → at mark.ParenOpen o ∷ ((is ++ at mark.Semicolon d ∷ (ts ++ at mark.Semicolon e ∷ (us ++ at mark.ParenClose c ∷ []))) ++ b) ≡ at mark.ParenOpen o ∷ (is ++ at mark.Semicolon d ∷ (ts ++ at mark.Semicolon e ∷ (us ++ at mark.ParenClose c ∷ b)))
head_regroup o d e c is ts us b = simp append_assoc

pub for_makes : (f : Shape) (w : Span) (ts : List Token) (p : ForTree) → ForLoop.is ts p → IsStmt (at (for_mark f) w ∷ ts) (for_of f w p)
for_makes f w ts p c =
    let a = behind_is mark.ParenOpen HeadFirst c.0 p.0 c.3 in
    let i = a.2 in
    let d = behind_is mark.Semicolon HeadTest i.1 p.0.1.1 i.4 in
    let j = d.2 in
    let e = behind_is mark.Semicolon HeadStep j.1 p.0.1.1.1.1 j.4 in
    let k = before_is MaybeStep mark.ParenClose e.0 p.0.1.1.1.1.1 e.2 in
    let step = e.1 ∙ ap (λ (l : List Token). at mark.Semicolon p.0.1.1.1.1.0 ∷ l) k.1 in
    let test = d.1 ∙ ap (λ (l : List Token). at mark.Semicolon p.0.1.1.0 ∷ l) (j.2 ∙ ap (λ (l : List Token). j.0 ++ l) step) in
    let front = a.1 ∙ ap (λ (l : List Token). at mark.ParenOpen p.0.0 ∷ l) (i.2 ∙ ap (λ (l : List Token). i.0 ++ l) test) in
    let whole = c.2 ∙ ap (λ (l : List Token). l ++ c.1) front ∙ head_regroup p.0.0 p.0.1.1.0 p.0.1.1.1.1.0 p.0.1.1.1.1.1.1 i.0 j.0 k.0 c.1 in
    subst (λ (l : List Token). IsStmt (at (for_mark f) w ∷ l) (for_of f w p)) (sym whole)
    (is_for f w p.0.0 p.0.1.1.0 p.0.1.1.1.1.0 p.0.1.1.1.1.1.1 i.0 j.0 k.0 c.1 (option_map first_tree p.0.1.0) p.0.1.1.1.0
    (option_map simple_from p.0.1.1.1.1.1.0) p.1 (first_maybe i.0 p.0.1.0 i.3) (test_maybe j.0 p.0.1.1.1.0 j.3)
    (step_maybe k.0 p.0.1.1.1.1.1.0 k.2) c.4)

first_maybe_deep : (x : Option FirstTree) → depth_of_option depth_of_first (option_map first_tree x) ≡ MaybeFirst.deep x
first_maybe_deep None = refl
first_maybe_deep (Some p) = first_deep p

test_maybe_deep : (x : Option Expr) → depth_of_option depth x ≡ MaybeTest.deep x
test_maybe_deep None = refl
test_maybe_deep (Some x) = refl

step_maybe_deep : (x : Option SimpleTree) → depth_of_option depth_of_step (option_map simple_from x) ≡ MaybeStep.deep x
step_maybe_deep None = refl
step_maybe_deep (Some p) = ap suc (simple_deep p)

pub for_deep : (f : Shape) (w : Span) (p : ForTree) → depth_of_stmt (for_of f w p) ≡ suc (ForLoop.deep p)
for_deep f w p = omega (arith, first_maybe_deep p.0.1.0, test_maybe_deep p.0.1.1.1.0, step_maybe_deep p.0.1.1.1.1.1.0)

-- ---- statements of many instances

abbrev pub Spreading : Form (List Range × Stmt)
Spreading = Both RangesHead Statement Free

abbrev pub foreach_of : Tiling → Span → List Range × Stmt → Stmt
foreach_of t w p = foreach t w p.0 p.1 (span_to w (span_of_stmt p.1))

pub foreach_makes : (t : Tiling) (w : Span) (ts : List Token) (p : List Range × Stmt) → Spreading.is ts p → IsStmt (at (foreach_mark t) w ∷ ts) (foreach_of t w p)
foreach_makes t w ts p c =
    let h = c.3 in
    let e = c.2 ∙ ap (λ (l : List Token). l ++ c.1) h.3 ∙ ap (λ (l : List Token). at mark.ParenOpen h.0 ∷ l) (append_assoc h.2 (at mark.ParenClose h.1 ∷ []) c.1) in
    subst (λ (l : List Token). IsStmt (at (foreach_mark t) w ∷ l) (foreach_of t w p)) (sym e) (is_foreach t w h.0 h.1 h.2 c.1 p.0 p.1 h.4.0 h.4.1 c.4)

abbrev pub Activity : Form (Word × Stmt)
Activity = Both ActiveHead Statement Free

abbrev pub active_of : Span → Word × Stmt → Stmt
active_of w p = foreach_active w p.0 p.1 (span_to w (span_of_stmt p.1))

pub active_makes : (w : Span) (ts : List Token) (p : Word × Stmt) → Activity.is ts p → IsStmt (at mark.ForeachActive w ∷ ts) (active_of w p)
active_makes w ts p c =
    let h = c.3 in
    let e = c.2 ∙ ap (λ (l : List Token). l ++ c.1) (h.3 ∙ ap (λ (l : List Token). at mark.ParenOpen h.0 ∷ (l ++ at mark.ParenClose h.1 ∷ [])) h.4) in
    subst (λ (l : List Token). IsStmt (at mark.ForeachActive w ∷ l) (active_of w p)) (sym e) (is_foreach_active w h.0 h.1 p.0 c.1 p.1 c.4)

abbrev pub Distinction : Form ((Word × Expr) × Stmt)
Distinction = Both UniqueHead Statement Free

abbrev pub unique_of : Span → (Word × Expr) × Stmt → Stmt
unique_of w p = foreach_unique w p.0.0 p.0.1 p.1 (span_to w (span_of_stmt p.1))

pub unique_makes : (w : Span) (ts : List Token) (p : (Word × Expr) × Stmt) → Distinction.is ts p → IsStmt (at mark.ForeachUnique w ∷ ts) (unique_of w p)
unique_makes w ts p c =
    let h = c.3 in
    let v = h.4 in
    let front = h.3 ∙ ap (λ (l : List Token). at mark.ParenOpen h.0 ∷ (l ++ at mark.ParenClose h.1 ∷ [])) v.2 in
    let e = c.2 ∙ ap (λ (l : List Token). l ++ c.1) front ∙ ap (λ (l : List Token). at mark.ParenOpen h.0 ∷ word p.0.0 ∷ preposition v.0 ∷ l) (append_assoc v.1 (at mark.ParenClose h.1 ∷ []) c.1) in
    subst (λ (l : List Token). IsStmt (at mark.ForeachUnique w ∷ l) (unique_of w p)) (sym e) (is_foreach_unique w h.0 v.0 h.1 p.0.0 v.1 c.1 p.0.1 p.1 v.3 c.4)

abbrev pub unmasked_of : Span → Block → Stmt
unmasked_of u b = unmasked u b (span_to u (span_of_block b))

-- ---- statements without statements in them

abbrev pub DeclareStmt : Form (Declaration × Span)
DeclareStmt = Before Declaring mark.Semicolon

abbrev pub declare_of : Declaration × Span → Stmt
declare_of p = declare p.0 (span_to p.0.span p.1)

pub declare_makes : (ts : List Token) (p : Declaration × Span) → DeclareStmt.is ts p → IsStmt ts (declare_of p)
declare_makes ts p i = let j = before_is Declaring mark.Semicolon ts p i in subst (λ (l : List Token). IsStmt l (declare_of p)) (sym j.1) (is_declare p.1 j.0 p.0 j.2)

abbrev pub SimpleStmt : Form (SimpleTree × Span)
SimpleStmt = Before SimpleParts mark.Semicolon

abbrev pub simple_of : SimpleTree × Span → Stmt
simple_of p = simple (simple_from p.0) (span_to (span_of_simple (simple_from p.0)) p.1)

pub simple_stmt_makes : (ts : List Token) (p : SimpleTree × Span) → SimpleStmt.is ts p → IsStmt ts (simple_of p)
simple_stmt_makes ts p i =
    let j = before_is SimpleParts mark.Semicolon ts p i in
    subst (λ (l : List Token). IsStmt l (simple_of p)) (sym j.1) (is_simple p.1 j.0 (simple_from p.0) (simple_makes j.0 p.0 j.2))

abbrev pub jump_of : Jump → Span → Span → Stmt
jump_of j w e = jump j w (span_to w e)

abbrev pub Returning : Form (Option Expr × Span)
Returning = Before MaybeTest mark.Semicolon

abbrev pub return_of : Span → Option Expr × Span → Stmt
return_of w p = returning w p.0 (span_to w p.1)

pub return_makes : (w : Span) (ts : List Token) (p : Option Expr × Span) → Returning.is ts p → IsStmt (at mark.Return w ∷ ts) (return_of w p)
return_makes w ts p i =
    let j = before_is MaybeTest mark.Semicolon ts p i in
    subst (λ (l : List Token). IsStmt (at mark.Return w ∷ l) (return_of w p)) (sym j.1) (is_return w p.1 j.0 p.0 (test_maybe j.0 p.0 j.2))

pub return_deep : (w : Span) (p : Option Expr × Span) → depth_of_stmt (return_of w p) ≡ suc (Returning.deep p)
return_deep w p = omega (arith, test_maybe_deep p.0)

abbrev pub PrintEnd : Form (Span × Span)
PrintEnd = Behind mark.ParenClose (One mark.Semicolon)

abbrev pub PrintValues : Form (List Expr × (Span × Span))
PrintValues = Both Values PrintEnd Free

abbrev pub PrintText : Form ((List ℕ × Span) × (List Expr × (Span × Span)))
PrintText = Both Texts PrintValues Free

abbrev pub Printing : Form (Span × ((List ℕ × Span) × (List Expr × (Span × Span))))
Printing = Behind mark.ParenOpen PrintText

abbrev pub print_of : Span → Span × ((List ℕ × Span) × (List Expr × (Span × Span))) → Stmt
print_of w p = print w p.1.0.0 p.1.0.1 p.1.1.0 (span_to w p.1.1.1.1)

pub print_makes : (w : Span) (ts : List Token) (p : Span × ((List ℕ × Span) × (List Expr × (Span × Span)))) → Printing.is ts p → IsStmt (at mark.Print w ∷ ts) (print_of w p)
print_makes w ts p i =
    let a = behind_is mark.ParenOpen PrintText ts p i in
    let b = a.2 in
    let c = b.4 in
    let d = behind_is mark.ParenClose (One mark.Semicolon) c.1 p.1.1.1 c.4 in
    let values = c.2 ∙ ap (λ (l : List Token). c.0 ++ l) (d.1 ∙ ap (λ (l : List Token). at mark.ParenClose p.1.1.1.0 ∷ l) d.2) in
    let e = a.1 ∙ ap (λ (l : List Token). at mark.ParenOpen p.0 ∷ l) (b.2 ∙ ap (λ (l : List Token). l ++ b.1) b.3 ∙ ap (λ (l : List Token). textual p.1.0.0 p.1.0.1 ∷ l) values) in
    subst (λ (l : List Token). IsStmt (at mark.Print w ∷ l) (print_of w p)) (sym e) (is_print w p.0 p.1.0.1 p.1.1.1.0 p.1.1.1.1 p.1.0.0 c.0 p.1.1.0 c.3)

deepest_expr : (xs : List Expr) → deepest_of depth xs ≡ deepest NextValue xs
deepest_expr [] = refl
deepest_expr (x ∷ xs) = ap (λ (n : ℕ). max (depth x) n) (deepest_expr xs)

pub print_deep : (w : Span) (p : Span × ((List ℕ × Span) × (List Expr × (Span × Span)))) → depth_of_stmt (print_of w p) ≡ suc (Printing.deep p)
print_deep w p = omega (arith, deepest_expr p.1.1.0)

abbrev pub Asserting : Form ((Span × (Expr × Span)) × Span)
Asserting = Before ClosedTest mark.Semicolon

abbrev pub assert_of : Span → (Span × (Expr × Span)) × Span → Stmt
assert_of w p = assert p.0.1.0 (span_to w p.0.1.1) (span_to w p.1)

assert_regroup : (o c e : Span) (ts : List Token) → (at mark.ParenOpen o ∷ (ts ++ at mark.ParenClose c ∷ [])) ++ at mark.Semicolon e ∷ [] ≡ at mark.ParenOpen o ∷ (ts ++ at mark.ParenClose c ∷ at mark.Semicolon e ∷ [])
assert_regroup o c e ts = simp append_assoc

pub assert_makes : (w : Span) (ts : List Token) (p : (Span × (Expr × Span)) × Span) → Asserting.is ts p → IsStmt (at mark.Assert w ∷ ts) (assert_of w p)
assert_makes w ts p i =
    let a = before_is ClosedTest mark.Semicolon ts p i in
    let b = behind_is mark.ParenOpen Closed a.0 p.0 a.2 in
    let c = before_is (Exprs loosest) mark.ParenClose b.0 p.0.1 b.2 in
    let e = a.1 ∙ ap (λ (l : List Token). l ++ at mark.Semicolon p.1 ∷ []) (b.1 ∙ ap (λ (l : List Token). at mark.ParenOpen p.0.0 ∷ l) c.1) ∙ assert_regroup p.0.0 p.0.1.1 p.1 c.0 in
    subst (λ (l : List Token). IsStmt (at mark.Assert w ∷ l) (assert_of w p)) (sym e) (is_assert w p.0.0 p.0.1.1 p.1 c.0 p.0.1.0 c.2)
