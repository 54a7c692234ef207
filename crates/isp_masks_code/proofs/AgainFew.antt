-- No node's code stands more than twice: in the body of a `foreach` there is no other.
use Rattle.std.proofs.Common.{◌≡◌, ℕ, ◌≤◌, List, [], ◌∷◌, length, Option, Bool, true, false, refl, sym, ap, ◌∙◌, eq-eqb, arith}
use Rattle.std.specs.Prelude.{◌||◌}
use Rattle.isp_base.specs.declared.types.Ty.{Ty}
use Rattle.isp_typed.specs.Nodes.{stmt_nodes, block_nodes, stmts_nodes}
use Rattle.isp_typed.specs.Typed.{TStmt, t_block, t_declare, t_simple, t_if, t_if_else, t_while, t_do, t_for, t_foreach, t_foreach_active, t_foreach_unique, TRange}
use Rattle.isp_typed.specs.Typed.{t_unmasked, t_jump, t_return, t_print, t_assert, TBlock, t_braces, TStmts, t_no_stmts, t_stmt_then, TFunction}
use Rattle.isp_masks_code.specs.Again.{stmt_again, block_again, stmts_again}
use Rattle.isp_meaning.specs.Loads.{no_variable}
use Rattle.isp_masks_code.specs.Free.{AreIndices, StmtFree, BlockFree, StmtsFree, is_index}
use Rattle.isp_masks_code.specs.Rated.{StmtRated, BlockRated, StmtsRated}

-- in the body of a `foreach` no other is
module _ (h : ℕ → Bool) (i : ℕ) (one : h i ≡ true) where
  mutual
    stmt_none : (x : TStmt) → StmtFree h x → stmt_again x ≡ 0
    stmt_none (t_block b) f = block_none b f
    stmt_none (t_declare xs s) f = refl
    stmt_none (t_simple x s) f = refl
    stmt_none (t_if g m e x s) f = stmt_none x f
    stmt_none (t_if_else g m e x y s) f = omega (arith, stmt_none x f.0, stmt_none y f.1)
    stmt_none (t_while g m e x s) f = stmt_none x f
    stmt_none (t_do g m x e s) f = stmt_none x f
    stmt_none (t_for g m first e step k x s) f = stmt_none x f.1
    stmt_none (t_foreach w m rs x s) f = let no : true ≡ false = sym one ∙ f.0 i in absurd (cc)
    stmt_none (t_foreach_active w m k x s) f = stmt_none x f
    stmt_none (t_foreach_unique w m k t e x s) f = stmt_none x f
    stmt_none (t_unmasked w b s) f = block_none b f
    stmt_none (t_jump j w s) f = refl
    stmt_none (t_return w x s) f = refl
    stmt_none (t_print w text xs s) f = refl
    stmt_none (t_assert x c s) f = refl

    block_none : (b : TBlock) → BlockFree h b → block_again b ≡ 0
    block_none (t_braces xs s) f = stmts_none xs f

    stmts_none : (xs : TStmts) → StmtsFree h xs → stmts_again xs ≡ 0
    stmts_none t_no_stmts f = refl
    stmts_none (t_stmt_then x xs) f = omega (arith, stmt_none x f.0, stmts_none xs f.1)

body_none : (rs : List TRange) (x : TStmt) → 1 ≤ length rs → ((h : ℕ → Bool) → AreIndices rs h → StmtFree h x) → stmt_again x ≡ 0
body_none [] x some f = absurd (omega (arith, some))
body_none (r ∷ rs) x some f = stmt_none (is_index (r ∷ rs)) r.index (ap (λ b. b || is_index rs r.index) (eq-eqb r.index r.index refl)) x (f (is_index (r ∷ rs)) (λ v e. e))

module _ (fs : List TFunction) (answer : Option Ty) where
  mutual
    stmt_twice : (x : TStmt) → StmtFree no_variable x → StmtRated fs answer x → stmt_again x ≤ stmt_nodes x
    stmt_twice (t_block b) f r = block_twice b f r
    stmt_twice (t_declare xs s) f r = omega arith
    stmt_twice (t_simple x s) f r = omega arith
    stmt_twice (t_if g m e x s) f r = omega (arith, stmt_twice x f r.1)
    stmt_twice (t_if_else g m e x y s) f r = omega (arith, stmt_twice x f.0 r.1, stmt_twice y f.1 r.2)
    stmt_twice (t_while g m e x s) f r = omega (arith, stmt_twice x f r.1)
    stmt_twice (t_do g m x e s) f r = omega (arith, stmt_twice x f r.0)
    stmt_twice (t_for g m first e step k x s) f r = omega (arith, stmt_twice x f.1 r.3)
    stmt_twice (t_foreach w m rs x s) f r = omega (arith, body_none rs x r.3 f.1)
    stmt_twice (t_foreach_active w m k x s) f r = omega (arith, stmt_twice x f r)
    stmt_twice (t_foreach_unique w m k t e x s) f r = omega (arith, stmt_twice x f r.1)
    stmt_twice (t_unmasked w b s) f r = omega (arith, block_twice b f r)
    stmt_twice (t_jump j w s) f r = omega arith
    stmt_twice (t_return w x s) f r = omega arith
    stmt_twice (t_print w text xs s) f r = omega arith
    stmt_twice (t_assert x c s) f r = omega arith

    pub block_twice : (b : TBlock) → BlockFree no_variable b → BlockRated fs answer b → block_again b ≤ block_nodes b
    block_twice (t_braces xs s) f r = omega (arith, stmts_twice xs f r)

    stmts_twice : (xs : TStmts) → StmtsFree no_variable xs → StmtsRated fs answer xs → stmts_again xs ≤ stmts_nodes xs
    stmts_twice t_no_stmts f r = omega arith
    stmts_twice (t_stmt_then x xs) f r = omega (arith, stmt_twice x f.0 r.0, stmts_twice xs f.1 r.1)
