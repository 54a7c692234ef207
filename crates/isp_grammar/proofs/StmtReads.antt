-- How each statement is read after its first token.
use Rattle.std.proofs.Common.{◌≡◌, ℕ, suc, ◌≤◌, List, [], ◌∷◌, ◌++◌, Ok, Err, refl, sym, ap, subst, ◌∙◌, arith}
use Rattle.std.specs.Prelude.{⊤}
use Rattle.isp_base.specs.declared.types.Span.{Span}
use Rattle.isp_lex.specs.Tokens.{at}
use Rattle.isp_lex.specs.declared.token.Mark.{Mark}
use Rattle.isp_lex.specs.declared.token.Mark.TheVariants as mark
use Rattle.isp_lex.specs.declared.token.Token.{Token}
use Rattle.isp_grammar.proofs.Forms.{Form, Found, IsSound, IsComplete, Can, One, made_sound, made_complete}
use Rattle.isp_grammar.proofs.Basics.{mark_again}
use Rattle.isp_grammar.proofs.ListForms.{Maps, mapped, maps_id, mapped_twice, maps_both}
use Rattle.isp_grammar.proofs.Refused.{Refused, IsRefused, made_refused, made_err, made_fails}
use Rattle.isp_grammar.proofs.Simples.{SimpleParts, simple_reads}
use Rattle.isp_grammar.proofs.StmtParts.{ClosedTest, HeadParts, head_tree, maps_head}
use Rattle.isp_grammar.proofs.Stmts.{EndsStmt, Statement, Nothing, BraceEnd, braces_make, block_deep, braced_of, BlockForm, Conditional, if_of, if_makes, if_deep, if_ends, Looping, while_of}
use Rattle.isp_grammar.proofs.Stmts.{while_makes, Doing, do_of, do_makes, ForLoop, for_of, for_makes, for_deep, Spreading, foreach_of, foreach_makes, Activity, active_of, active_makes}
use Rattle.isp_grammar.proofs.Stmts.{Distinction, unique_of, unique_makes, unmasked_of, DeclareStmt, declare_of, SimpleStmt, simple_of, jump_of, Returning, return_of, return_makes, return_deep}
use Rattle.isp_grammar.proofs.Stmts.{Printing, print_of, print_makes, print_deep, Asserting, assert_of, assert_makes}
use Rattle.isp_tree.specs.Depth.{depth_of_stmt}
use Rattle.isp_grammar.specs.Grammar.{IsStmt, is_block, is_empty, is_unmasked, is_jump}
use Rattle.isp_grammar.specs.reader.Readers.{Read, ◌>>=◌, mark_at}
use Rattle.isp_grammar.specs.reader.Choices.{maybe_closed_at}
use Rattle.isp_grammar.specs.reader.Starts.{start_of}
use Rattle.isp_grammar.specs.reader.Stmts.{Head, simple_at, closed_test_at, test_at, head_at, ranges_head_at, active_head_at, unique_head_at, values_at, behind_at, do_end_at}
use Rattle.isp_grammar.specs.reader.Stmts.{declare_at, simple_stmt_at, jump_at, return_at, print_at, assert_at, stmts_at, block_from, braced_at, block_stmt_at, if_at, while_at}
use Rattle.isp_grammar.specs.reader.Stmts.{do_at, for_at, foreach_at, active_at, unique_at, unmasked_at, stmt_by, stmt_at}
use Rattle.isp_grammar.specs.Signs.{if_mark, while_mark, do_mark, for_mark, foreach_mark, jump_mark}
use Rattle.isp_tree.specs.Tree.{Expr, Stmt, Block, block, empty, loop_for, simple, assert, Simple, span_of_simple, span_of_stmt}
use Rattle.isp_base.specs.Types.{span_to}
use Rattle.isp_grammar.specs.declared.start.Start.TheVariants as by
use Rattle.isp_grammar.specs.declared.stop.Refusal.{Refusal}
use Rattle.isp_tree.specs.declared.stmt.Form.{Form as Shape}
use Rattle.isp_tree.specs.declared.stmt.Form.TheVariants as shape
use Rattle.isp_tree.specs.declared.stmt.Tiling.{Tiling}
use Rattle.isp_tree.specs.declared.stmt.Tiling.TheVariants as tiling
use Rattle.isp_tree.specs.declared.stmt.Jump.{Jump}
use Rattle.isp_tree.specs.declared.stmt.Jump.TheVariants.{Break, Continue}

-- a statement with one more level of depth left
abbrev pub FailsNext : ℕ → List Token → Refusal → Type 0
FailsNext m u d = stmt_at (suc m) u ≡ Err d

-- ---- a statement that a mark begins

module _ {A : Type 0} (m : Mark) (F : Form A) (g : Span → A → Stmt) where
  pub record Production : Type 0 where
    pub reads : (n : ℕ) (s : Span) (ts : List Token) → stmt_at (suc n) (at m s ∷ ts) ≡ (F.read n ts >>= λ x. Ok (g s x.0, x.1))
    pub makes : (s : Span) (ts : List Token) (x : A) → F.is ts x → IsStmt (at m s ∷ ts) (g s x)
    pub deep : (s : Span) (x : A) → depth_of_stmt (g s x) ≡ suc (F.deep x)
    pub ends : (s : Span) (x : A) (rest : List Token) → F.ends x rest → EndsStmt (g s x) rest

  module _ (p : Production) (n : ℕ) (s : Span) where
    pub production_sound : IsSound F n → (ts : List Token) (y : Stmt) (rest : List Token) → stmt_at (suc n) (at m s ∷ ts) ≡ Ok (y, rest) → Found Statement (suc n) (at m s ∷ ts) y rest
    production_sound f ts y rest e =
        made_sound F Statement (g s) (at m s ∷ []) n (suc n) (stmt_at (suc n)) ts (p.reads n s ts) f (λ a x i. p.makes s a x i) (λ x le. omega (arith, le, p.deep s x)) (λ x rest h. p.ends s x rest h) y rest e

    pub production_complete : IsComplete F n → (used : List Token) (x : A) (rest : List Token) → F.is used x → depth_of_stmt (g s x) ≤ suc n → F.ends x rest → stmt_at (suc n) (at m s ∷ (used ++ rest)) ≡ Ok (g s x, rest)
    production_complete f used x rest i le h = made_complete F Statement (g s) (at m s ∷ []) n (stmt_at (suc n)) used x rest (p.reads n s (used ++ rest)) f i (omega (arith, le, p.deep s x)) h

    pub production_refused : IsRefused F n → (ts : List Token) (r : Refusal) → stmt_at (suc n) (at m s ∷ ts) ≡ Err r → Refused (Can Statement) FailsNext n (at m s ∷ ts) r
    production_refused f ts r e =
        made_refused F Statement (g s) (at m s ∷ []) FailsNext n ts r f (made_err (g s) (F.read n ts) r (sym (p.reads n s ts) ∙ e)) (λ a x i. p.makes s a x i)
        (λ k u d le h w. made_fails (g s) (F.read k u) (stmt_at (suc k) (at m s ∷ u)) d (p.reads k s u) w)

-- ---- each of them

abbrev pub block_stmt_of : Span → List Stmt × Span → Stmt
block_stmt_of s p = block (block_from s p)

with_brace : Span → List Stmt × Span → Span × (List Stmt × Span)
with_brace s p = (s, p)

block_maps : (n : ℕ) (s : Span) (ts : List Token) → stmt_at (suc n) (at mark.BraceOpen s ∷ ts) ≡ (BraceEnd.read n ts >>= λ x. Ok (block_stmt_of s x.0, x.1))
unfolding stmt_at stmt_by block_stmt_at braced_at stmts_at with_brace
block_maps n s ts =
    rw (mark_again mark.BraceOpen s ts) (ap (λ (r : Read Block). mapped block r) (mapped_twice (with_brace s) braced_of (BraceEnd.read n ts)) ∙ mapped_twice (block_from s) block (BraceEnd.read n ts))

pub block_production : Production mark.BraceOpen BraceEnd block_stmt_of
block_production = record { reads = λ n s ts. block_maps n s ts; makes = λ s ts x i. is_block (at mark.BraceOpen s ∷ ts) (block_from s x) (braces_make s ts x i); deep = λ s x. block_deep s x; ends = λ s x rest h. λ o. absurd cc }

abbrev pub empty_of : Span → ⊤ → Stmt
empty_of s x = empty s

empty_is : (s : Span) (ts : List Token) → ts ≡ [] → IsStmt (at mark.Semicolon s ∷ ts) (empty s)
empty_is s ts i = subst (λ (l : List Token). IsStmt (at mark.Semicolon s ∷ l) (empty s)) (sym i) (is_empty s)

pub empty_production : Production mark.Semicolon Nothing empty_of
unfolding stmt_at stmt_by
empty_production = record { reads = λ n s ts. refl; makes = λ s ts x i. empty_is s ts i; deep = λ s x. refl; ends = λ s x rest h. λ o. absurd cc }

if_reads : (f : Shape) (n : ℕ) (s : Span) (ts : List Token) → stmt_at (suc n) (at (if_mark f) s ∷ ts) ≡ (Conditional.read n ts >>= λ x. Ok (if_of f s x.0, x.1))
unfolding stmt_at stmt_by if_at test_at
if_reads shape.Plain n s ts = refl
if_reads shape.Coherent n s ts = refl

pub if_production : (f : Shape) → Production (if_mark f) Conditional (if_of f)
if_production f = record { reads = λ n s ts. if_reads f n s ts; makes = λ s ts x i. if_makes f s ts x i; deep = λ s x. if_deep f s x; ends = λ s x rest h. if_ends f s x rest h }

while_reads : (f : Shape) (n : ℕ) (s : Span) (ts : List Token) → stmt_at (suc n) (at (while_mark f) s ∷ ts) ≡ (Looping.read n ts >>= λ x. Ok (while_of f s x.0, x.1))
unfolding stmt_at stmt_by while_at test_at
while_reads shape.Plain n s ts = refl
while_reads shape.Coherent n s ts = refl

pub while_production : (f : Shape) → Production (while_mark f) Looping (while_of f)
while_production f = record { reads = λ n s ts. while_reads f n s ts; makes = λ s ts x i. while_makes f s ts x i; deep = λ s x. refl; ends = λ s x rest h. h }

do_reads : (f : Shape) (n : ℕ) (s : Span) (ts : List Token) → stmt_at (suc n) (at (do_mark f) s ∷ ts) ≡ (Doing.read n ts >>= λ x. Ok (do_of f s x.0, x.1))
unfolding stmt_at stmt_by do_at do_end_at test_at
do_reads shape.Plain n s ts = refl
do_reads shape.Coherent n s ts = refl

pub do_production : (f : Shape) → Production (do_mark f) Doing (do_of f)
do_production f = record { reads = λ n s ts. do_reads f n s ts; makes = λ s ts x i. do_makes f s ts x i; deep = λ s x. omega arith; ends = λ s x rest h. λ o. absurd cc }

abbrev for_from : Shape → Span → Head × Stmt → Stmt
for_from f w p = loop_for f p.0.first p.0.test p.0.step p.1 (span_to w (span_of_stmt p.1))

for_maps : (f : Shape) (n : ℕ) (s : Span) (ts : List Token) → for_at (stmt_at n) n f s ts ≡ mapped (for_of f s) (ForLoop.read n ts)
unfolding for_at
for_maps f n s ts =
    ap (λ (r : Read (Head × Stmt)). mapped (for_from f s) r) (maps_both head_tree (λ x. x) (HeadParts.read n) (head_at n) (stmt_at n) (stmt_at n) (maps_head n) (maps_id (stmt_at n)) ts)
    ∙ mapped_twice (λ p. (head_tree p.0, p.1)) (for_from f s) (ForLoop.read n ts)

for_reads : (f : Shape) (n : ℕ) (s : Span) (ts : List Token) → stmt_at (suc n) (at (for_mark f) s ∷ ts) ≡ (ForLoop.read n ts >>= λ x. Ok (for_of f s x.0, x.1))
unfolding stmt_at stmt_by
for_reads shape.Plain n s ts = for_maps shape.Plain n s ts
for_reads shape.Coherent n s ts = for_maps shape.Coherent n s ts

pub for_production : (f : Shape) → Production (for_mark f) ForLoop (for_of f)
for_production f = record { reads = λ n s ts. for_reads f n s ts; makes = λ s ts x i. for_makes f s ts x i; deep = λ s x. for_deep f s x; ends = λ s x rest h. h }

foreach_reads : (t : Tiling) (n : ℕ) (s : Span) (ts : List Token) → stmt_at (suc n) (at (foreach_mark t) s ∷ ts) ≡ (Spreading.read n ts >>= λ x. Ok (foreach_of t s x.0, x.1))
unfolding stmt_at stmt_by foreach_at ranges_head_at
foreach_reads tiling.Plain n s ts = refl
foreach_reads tiling.Tiled n s ts = refl

pub foreach_production : (t : Tiling) → Production (foreach_mark t) Spreading (foreach_of t)
foreach_production t = record { reads = λ n s ts. foreach_reads t n s ts; makes = λ s ts x i. foreach_makes t s ts x i; deep = λ s x. refl; ends = λ s x rest h. h }

pub active_production : Production mark.ForeachActive Activity active_of
unfolding stmt_at stmt_by active_at active_head_at
active_production = record { reads = λ n s ts. refl; makes = λ s ts x i. active_makes s ts x i; deep = λ s x. omega arith; ends = λ s x rest h. h }

pub unique_production : Production mark.ForeachUnique Distinction unique_of
unfolding stmt_at stmt_by unique_at unique_head_at
unique_production = record { reads = λ n s ts. refl; makes = λ s ts x i. unique_makes s ts x i; deep = λ s x. refl; ends = λ s x rest h. h }

pub unmasked_production : Production mark.Unmasked BlockForm unmasked_of
unfolding stmt_at stmt_by unmasked_at
unmasked_production = record { reads = λ n s ts. refl; makes = λ s ts x i. is_unmasked s ts x i; deep = λ s x. refl; ends = λ s x rest h. λ o. absurd cc }

jump_reads : (j : Jump) (n : ℕ) (s : Span) (ts : List Token) → stmt_at (suc n) (at (jump_mark j) s ∷ ts) ≡ ((One mark.Semicolon).read n ts >>= λ x. Ok (jump_of j s x.0, x.1))
unfolding stmt_at stmt_by jump_at
jump_reads Break n s ts = refl
jump_reads Continue n s ts = refl

jump_makes : (j : Jump) (s : Span) (ts : List Token) (e : Span) → ts ≡ at mark.Semicolon e ∷ [] → IsStmt (at (jump_mark j) s ∷ ts) (jump_of j s e)
jump_makes j s ts e i = subst (λ (l : List Token). IsStmt (at (jump_mark j) s ∷ l) (jump_of j s e)) (sym i) (is_jump j s e)

pub jump_production : (j : Jump) → Production (jump_mark j) (One mark.Semicolon) (jump_of j)
jump_production j = record { reads = λ n s ts. jump_reads j n s ts; makes = λ s ts x i. jump_makes j s ts x i; deep = λ s x. refl; ends = λ s x rest h. λ o. absurd cc }

pub return_production : Production mark.Return Returning return_of
unfolding stmt_at stmt_by return_at maybe_closed_at
return_production = record { reads = λ n s ts. refl; makes = λ s ts x i. return_makes s ts x i; deep = λ s x. return_deep s x; ends = λ s x rest h. λ o. absurd cc }

pub print_production : Production mark.Print Printing print_of
unfolding stmt_at stmt_by print_at values_at behind_at
print_production = record { reads = λ n s ts. refl; makes = λ s ts x i. print_makes s ts x i; deep = λ s x. print_deep s x; ends = λ s x rest h. λ o. absurd cc }

abbrev assert_from : Span → (Expr × Span) × Span → Stmt
assert_from s p = assert p.0.0 (span_to s p.0.1) (span_to s p.1)

abbrev behind_bracket : Span × (Expr × Span) → Expr × Span
behind_bracket p = p.1

closed_maps : (n : ℕ) → Maps (ClosedTest.read n) (closed_test_at n) behind_bracket
unfolding closed_test_at
closed_maps n ts = refl

assert_parts : (n : ℕ) (s : Span) (ts : List Token) → assert_at n s ts ≡ mapped (assert_of s) (Asserting.read n ts)
unfolding assert_at
assert_parts n s ts =
    ap (λ (r : Read ((Expr × Span) × Span)). mapped (assert_from s) r) (maps_both behind_bracket (λ x. x) (ClosedTest.read n) (closed_test_at n) (mark_at mark.Semicolon) (mark_at mark.Semicolon) (closed_maps n) (maps_id (mark_at mark.Semicolon)) ts)
    ∙ mapped_twice (λ p. (behind_bracket p.0, p.1)) (assert_from s) (Asserting.read n ts)

assert_maps : (n : ℕ) (s : Span) (ts : List Token) → stmt_at (suc n) (at mark.Assert s ∷ ts) ≡ (Asserting.read n ts >>= λ x. Ok (assert_of s x.0, x.1))
unfolding stmt_at stmt_by
assert_maps n s ts = assert_parts n s ts

pub assert_production : Production mark.Assert Asserting assert_of
assert_production = record { reads = λ n s ts. assert_maps n s ts; makes = λ s ts x i. assert_makes s ts x i; deep = λ s x. omega arith; ends = λ s x rest h. λ o. absurd cc }

-- ---- declarations and simple statements, which no single mark begins

pub declare_reads : (n : ℕ) (t : Token) (ts : List Token) → start_of t.kind ≡ by.Declare → stmt_at (suc n) (t ∷ ts) ≡ (DeclareStmt.read n (t ∷ ts) >>= λ x. Ok (declare_of x.0, x.1))
unfolding stmt_at stmt_by declare_at
declare_reads n t ts e = rw e refl

simple_from_tree : Simple × Span → Stmt
simple_from_tree p = simple p.0 (span_to (span_of_simple p.0) p.1)

simple_maps : (n : ℕ) (ts : List Token) → simple_stmt_at n ts ≡ mapped simple_of (SimpleStmt.read n ts)
unfolding simple_stmt_at simple_from_tree
simple_maps n ts =
    ap (λ (r : Read (Simple × Span)). mapped simple_from_tree r) (maps_both _ (λ x. x) (SimpleParts.read n) (simple_at n) (mark_at mark.Semicolon) (mark_at mark.Semicolon) (simple_reads n) (maps_id (mark_at mark.Semicolon)) ts)
    ∙ mapped_twice _ simple_from_tree (SimpleStmt.read n ts)

pub simple_stmt_reads : (n : ℕ) (t : Token) (ts : List Token) → start_of t.kind ≡ by.Simple → stmt_at (suc n) (t ∷ ts) ≡ (SimpleStmt.read n (t ∷ ts) >>= λ x. Ok (simple_of x.0, x.1))
unfolding stmt_at stmt_by
simple_stmt_reads n t ts e = rw e (simple_maps n (t ∷ ts))
