-- The start of a body: nothing jumps out of it, and its parameters are known.
use Rattle.std.proofs.Common.{◌≡◌, ℕ, ◌<◌, inl, inr, Bool, true, false, refl, sym, ◌∙◌, arith, true≢false}
use Rattle.std.specs.Prelude.{List, length, Option, ◌||◌, nat_lt}
use Rattle.std.proofs.lemmas.Bool.Decides.{nat_tests}
use Rattle.isp_base.specs.declared.types.Rate.{Rate}
use Rattle.isp_base.specs.declared.types.Rate.TheVariants.{Uniform, Varying}
use Rattle.isp_base.specs.declared.types.Ty.{Ty}
use Rattle.isp_lex.specs.declared.fault.Fault.{Fault}
use Rattle.isp_lex.specs.declared.fault.Rule.TheVariants.{BadExit}
use Rattle.isp_lex.specs.Faults.{fault}
use Rattle.isp_tree.specs.declared.stmt.Jump.{Jump}
use Rattle.isp_tree.specs.declared.stmt.Jump.TheVariants.{Break, Continue}
use Rattle.isp_typed.specs.Typed.{TFunction, rate_of}
use Rattle.isp_typed.specs.Typed.{TStmt, t_block, t_declare, t_simple, t_if, t_if_else, t_while, t_do, t_for, t_foreach, t_foreach_active, t_foreach_unique}
use Rattle.isp_typed.specs.Typed.{t_unmasked, t_jump, t_return, t_print, t_assert, TBlock, t_braces, TStmts, t_no_stmts, t_stmt_then}
use Rattle.isp_rates.specs.declared.exits.Around.TheVariants.{Body}
use Rattle.isp_rates.specs.Exits.{at_start, may_jump, StmtBreach, BlockBreach, StmtsBreach}
use Rattle.isp_independence.specs.declared.control.Control.{Control}
use Rattle.isp_independence.specs.Control.{start, is_together}
use Rattle.isp_independence.specs.Exits.{by_rate, has, has_block, has_stmts, has_varying, has_varying_block, has_varying_stmts}
use Rattle.isp_solo_laws.specs.Stands.{World}
use Rattle.isp_solo_laws.specs.Bodies.{Stood, Quiet}
use Rattle.isp_solo_laws.proofs.Lanes.{or_left, or_right}

neither : (x y : Bool) → x ≡ false → y ≡ false → (x || y) ≡ false
neither true y e d = absurd (true≢false e)
neither false y e d = d

-- ---- jumps

no_jump : (j : Jump) → may_jump j Body ≡ false
no_jump Break = refl
no_jump Continue = refl

-- by the rule of exits no jump of a loop around stands in a body
module _ (fs : List TFunction) (answer : Option Ty) (j : Jump) where
  mutual
    has_not : (x : TStmt) → ((f : Fault) → StmtBreach fs answer at_start x f → ⊥) → has j x ≡ false
    has_not (t_block b) r = block_has_not b r
    has_not (t_declare xs s) r = refl
    has_not (t_simple p s) r = refl
    has_not (t_if g k x a s) r = has_not a (λ z b. r z (inr b))
    has_not (t_if_else g k x a b s) r = neither (has j a) (has j b) (has_not a (λ z h. r z (inr (inl h)))) (has_not b (λ z h. r z (inr (inr h))))
    has_not (t_while g k x a s) r = refl
    has_not (t_do g k a x s) r = refl
    has_not (t_for g k i x p m a s) r = refl
    has_not (t_foreach g k rs a s) r = refl
    has_not (t_foreach_active g k i a s) r = refl
    has_not (t_foreach_unique g k i e x a s) r = refl
    has_not (t_unmasked g b s) r = refl
    has_not (t_jump i g s) r = absurd (r (fault BadExit g) (no_jump i, refl))
    has_not (t_return g x s) r = refl
    has_not (t_print g t xs s) r = refl
    has_not (t_assert x g s) r = refl

    block_has_not : (b : TBlock) → ((f : Fault) → BlockBreach fs answer at_start b f → ⊥) → has_block j b ≡ false
    block_has_not (t_braces xs s) r = all_have_not xs r

    all_have_not : (xs : TStmts) → ((f : Fault) → StmtsBreach fs answer at_start xs f → ⊥) → has_stmts j xs ≡ false
    all_have_not t_no_stmts r = refl
    all_have_not (t_stmt_then x xs) r = neither (has j x) (has_stmts j xs) (has_not x (λ z b. r z (inl b))) (all_have_not xs (λ z b. r z (inr b)))

-- and so none in a varying branch
by_none : (r : Rate) (x y : Bool) → x ≡ false → y ≡ false → by_rate r x y ≡ false
by_none Varying x y e d = e
by_none Uniform x y e d = d

module _ (j : Jump) where
  mutual
    varying_not : (x : TStmt) → has j x ≡ false → has_varying j x ≡ false
    varying_not (t_block b) e = block_varying_not b e
    varying_not (t_declare xs s) e = refl
    varying_not (t_simple p s) e = refl
    varying_not (t_if g k x a s) e = by_none (rate_of x) (has j a) (has_varying j a) e (varying_not a e)
    varying_not (t_if_else g k x a b s) e =
        by_none (rate_of x) (has j a || has j b) (has_varying j a || has_varying j b) e (neither (has_varying j a) (has_varying j b) (varying_not a (or_left (has j a) (has j b) e)) (varying_not b (or_right (has j a) (has j b) e)))
    varying_not (t_while g k x a s) e = refl
    varying_not (t_do g k a x s) e = refl
    varying_not (t_for g k i x p m a s) e = refl
    varying_not (t_foreach g k rs a s) e = refl
    varying_not (t_foreach_active g k i a s) e = refl
    varying_not (t_foreach_unique g k i t x a s) e = refl
    varying_not (t_unmasked g b s) e = refl
    varying_not (t_jump i g s) e = refl
    varying_not (t_return g x s) e = refl
    varying_not (t_print g t xs s) e = refl
    varying_not (t_assert x g s) e = refl

    block_varying_not : (b : TBlock) → has_block j b ≡ false → has_varying_block j b ≡ false
    block_varying_not (t_braces xs s) e = all_varying_not xs e

    all_varying_not : (xs : TStmts) → has_stmts j xs ≡ false → has_varying_stmts j xs ≡ false
    all_varying_not t_no_stmts e = refl
    all_varying_not (t_stmt_then x xs) e =
        neither (has_varying j x) (has_varying_stmts j xs) (varying_not x (or_left (has j x) (has_stmts j xs) e)) (all_varying_not xs (or_right (has j x) (has_stmts j xs) e))

pub start_quiet : (fs : List TFunction) (answer : Option Ty) (c : Control) (b : TBlock) → ((f : Fault) → BlockBreach fs answer at_start b f → ⊥) → Quiet c at_start (has_varying_block Break b) (has_varying_block Continue b)
start_quiet fs answer c b r e = (block_varying_not Break b (block_has_not fs answer Break b r), block_varying_not Continue b (block_has_not fs answer Continue b r))

-- ---- where it stands

pub start_stood : (w : World) (incomplete : Bool) (g : TFunction) → is_together g.answer ≡ is_together w.frame.answer → (incomplete ≡ false → (p : ℕ) → p < w.gang → w.callers p ≡ true)
    → Stood w (start incomplete g) at_start (λ k. nat_lt k (length g.params)) (length g.params)
start_stood w incomplete g answer all = record {
  below = λ k e. grind (arith, e, nat_tests);
  before = λ k e. absurd (none k e);
  together = answer;
  returns = λ e. absurd (true≢false (sym e));
  everyone = all;
} where
  none : (k : ℕ) → (nat_lt k 0 || nat_lt k 0) ≡ true → ⊥
  none k e = let no : nat_lt k 0 ≡ false = grind (arith, nat_tests) in true≢false (sym e ∙ neither (nat_lt k 0) (nat_lt k 0) no no)
