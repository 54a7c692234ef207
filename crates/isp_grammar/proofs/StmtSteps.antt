-- Steps of reading statements, for the code.
use Rattle.std.proofs.Common.{◌≡◌, ℕ, zero, suc, ◌-◌, ◌<◌, List, [], ◌∷◌, length, Result, Ok, Err, refl, arith}
use Rattle.isp_base.specs.declared.types.Span.{Span}
use Rattle.isp_lex.specs.Tokens.{is_mark, starts_with}
use Rattle.isp_lex.specs.declared.token.Mark.TheVariants as mark
use Rattle.isp_lex.specs.declared.token.Token.{Token}
use Rattle.isp_grammar.proofs.ListForms.{limit_is}
use Rattle.isp_grammar.proofs.StmtsRefused.{stmt_off}
use Rattle.isp_grammar.specs.reader.Readers.{Read, Reader, ◌>>=◌, both, refuse, refusal_at_limit}
use Rattle.isp_grammar.specs.reader.Choices.{begins_with}
use Rattle.isp_grammar.specs.reader.Starts.{start_of, begins_stmt}
use Rattle.isp_grammar.specs.reader.Stmts.{stmt_from, stmt_by, stmt_at, braced_at, block_at, Heading, by_while, by_for, by_foreach, by_active, by_unique, heading_at, looped, loop_at, while_at}
use Rattle.isp_grammar.specs.reader.Stmts.{for_at, foreach_at, active_at, unique_at, test_at, head_at, ranges_head_at, active_head_at, unique_head_at}
use Rattle.isp_grammar.specs.declared.heads.Loop.{Loop}
use Rattle.isp_grammar.specs.declared.heads.Loop.TheVariants as loops
use Rattle.isp_tree.specs.Tree.{Stmt}
use Rattle.isp_grammar.specs.declared.stop.Refusal.{Refusal}
use Rattle.isp_grammar.specs.declared.stop.Why.TheVariants.{Unexpected}

pub stmt_at_limit : (ts : List Token) → stmt_at zero ts ≡ Err (refusal_at_limit (begins_with begins_stmt ts) ts)
unfolding stmt_at
stmt_at_limit ts = limit_is begins_stmt ts

pub stmt_none : (n : ℕ) (ts : List Token) → length ts ≡ 0 → stmt_at n ts ≡ refuse Unexpected ts
stmt_none n [] e = stmt_off n [] refl
stmt_none n (t ∷ ts) e = absurd (omega arith)

pub stmt_step : (n : ℕ) (t : Token) (ts : List Token) → 0 < n → stmt_at n (t ∷ ts) ≡ stmt_from (stmt_at (n - 1)) (block_at (n - 1)) (n - 1) (start_of t.kind) t ts
unfolding stmt_at stmt_by
stmt_step zero t ts h = absurd (omega arith)
stmt_step (suc n) t ts h = let e : suc n - 1 ≡ n = omega arith in rw e refl

pub block_at_limit : (ts : List Token) → block_at zero ts ≡ Err (refusal_at_limit (starts_with mark.BraceOpen ts) ts)
unfolding block_at
block_at_limit [] = limit_is (is_mark mark.BraceOpen) []
block_at_limit (t ∷ ts) = limit_is (is_mark mark.BraceOpen) (t ∷ ts)

pub block_step : (n : ℕ) (ts : List Token) → 0 < n → block_at n ts ≡ braced_at (stmt_at (n - 1)) ts
unfolding block_at
block_step zero ts h = absurd (omega arith)
block_step (suc n) ts h = let e : suc n - 1 ≡ n = omega arith in rw e refl

abbrev Headed : Type 0 → Type 0
Headed A = (A × Stmt) × List Token

abbrev paired : {A : Type 0} → Reader Stmt → A × List Token → Result (Headed A) Refusal
paired stmt x = stmt x.1 >>= λ y. Ok ((x.0, y.0), y.1)

behind : {A : Type 0} (w : Span) (view : A → Heading) (a : A) (body : Read Stmt)
    → ◌≡◌ {A = Read Stmt} (◌>>=◌ {B = Headed A} body (λ y. Ok ((a, y.0), y.1)) >>= λ p. Ok (looped w (view p.0.0) p.0.1, p.1)) (◌>>=◌ {B = Headed Heading} body (λ y. Ok ((view a, y.0), y.1)) >>= λ p. Ok (looped w p.0.0 p.0.1, p.1))
behind w view a (Ok y) = refl
behind w view a (Err e) = refl

headed : {A : Type 0} (stmt : Reader Stmt) (w : Span) (view : A → Heading) (read : Read A)
    → ◌≡◌ {A = Read Stmt} (◌>>=◌ {B = Headed A} read (paired stmt) >>= λ p. Ok (looped w (view p.0.0) p.0.1, p.1))
    (◌>>=◌ {B = Headed Heading} (◌>>=◌ {B = Heading × List Token} read (λ x. Ok (view x.0, x.1))) (paired stmt) >>= λ p. Ok
    (looped w p.0.0 p.0.1, p.1))
headed stmt w view (Ok x) = behind w view x.0 (stmt x.1)
headed stmt w view (Err e) = refl

-- a loop is read as what stands before its body, and then the body
pub loop_headed : (stmt : Reader Stmt) (n : ℕ) (which : Loop) (w : Span) (ts : List Token)
    → loop_at stmt n which w ts ≡ (both (heading_at n which) stmt ts >>= λ p. Ok (looped w p.0.0 p.0.1, p.1))
unfolding loop_at while_at for_at foreach_at active_at unique_at
loop_headed stmt n (loops.While f) w ts = headed stmt w (by_while f) (test_at n ts)
loop_headed stmt n (loops.For f) w ts = headed stmt w (by_for f) (head_at n ts)
loop_headed stmt n (loops.Foreach t) w ts = headed stmt w (by_foreach t) (ranges_head_at n ts)
loop_headed stmt n loops.ForeachActive w ts = headed stmt w by_active (active_head_at ts)
loop_headed stmt n loops.ForeachUnique w ts = headed stmt w (λ p. by_unique p.0 p.1) (unique_head_at n ts)
