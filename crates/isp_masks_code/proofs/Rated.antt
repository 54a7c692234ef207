-- What names, types and rates promise of a body is what the laws use of it.
use Rattle.std.proofs.Common.{suc, arith, refl, List, [], ◌∷◌, Option, Some, None}
use Rattle.std.specs.List.{All}
use Rattle.isp_base.specs.Ranks.{operand}
use Rattle.isp_base.specs.declared.types.Elem.TheVariants.{Bool as Truth, I32}
use Rattle.isp_base.specs.declared.types.Rate.{Rate}
use Rattle.isp_base.specs.declared.types.Rate.TheVariants.{Uniform, Varying}
use Rattle.isp_base.specs.declared.types.Ty.{Ty}
use Rattle.isp_tree.specs.Sound.{IfAny}
use Rattle.isp_typed.specs.Fine.{FineExpr, FineValue, FineSimple, FineFirst, FineRange, FineReturned, FineStmt, FineBlock, FineStmts}
use Rattle.isp_typed.specs.Typed.{TFunction, TExpr, t_exprs, type_of, TSimple, TFirst, t_first_declare, t_first_simple, TRange, TStmt, t_block, t_declare, t_simple, t_if, t_if_else, t_while, t_do, t_for}
use Rattle.isp_typed.specs.Typed.{t_foreach, t_foreach_active, t_foreach_unique, t_unmasked, t_jump, t_return, t_print, t_assert, TBlock, t_braces, TStmts, t_no_stmts, t_stmt_then}
use Rattle.isp_typed.specs.declared.variable.Variable.{Variable}
use Rattle.isp_lower_code.specs.Rated.{Reaches}
use Rattle.isp_lower_code.proofs.Lemmas.{ValuesTree, expr_tree, operand_tree, simple_tree, items_tree}
use Rattle.isp_masks_code.specs.Prints.{own_rates}
use Rattle.isp_masks_code.specs.Rated.{AllRated, AnswerRated, RangesRated, FirstRated, TestRated, StepRated, StmtRated, BlockRated, StmtsRated}
use Rattle.isp_masks_code.proofs.Trees.{AnswerTree, RangesTree, FirstTree, TestTree, StepTree, StmtTree, BlockTree, StmtsTree}

module _ (fs : List TFunction) (vars : List Variable) where
  ranges_tree : (rs : List TRange) → All (FineRange fs vars) rs → RangesRated fs rs → RangesTree fs rs
  ranges_tree [] f r = tt
  ranges_tree (x ∷ xs) f r =
      let g = f 0 x (omega arith) in (
        operand_tree fs vars Uniform I32 x.start g.start.1 r.0,
        expr_tree fs vars x.start g.start.0 r.0.1,
        operand_tree fs vars Uniform I32 x.end
            g.end.1 r.1,
        expr_tree fs vars x.end g.end.0 r.1.1,
        ranges_tree xs (λ k d lt. f (suc k) d (omega (arith, lt))) r.2,
      )

  -- the values of a `print`, each wanted at its own rate
  own_reaches : (r : Rate) → Reaches r r
  own_reaches Uniform = tt
  own_reaches Varying = tt

  shown_tree : (xs : List TExpr) → All (FineExpr fs vars) xs → AllRated fs xs → ValuesTree fs (own_rates xs) (t_exprs xs)
  shown_tree [] f r = tt
  shown_tree (x ∷ xs) f r =
      (record { elem = refl; reaches = own_reaches (type_of x).rate }, expr_tree fs vars x (f 0 x (omega arith)) r.0, shown_tree xs (λ k d lt. f (suc k) d (omega arith)) r.1)

  -- the parts of a `for` that may be left out
  first_tree : (o : Option TFirst) → IfAny (FineFirst fs vars) o → FirstRated fs o → FirstTree fs o
  first_tree None f r = tt
  first_tree (Some (t_first_declare xs sp)) f r = items_tree fs vars xs f r
  first_tree (Some (t_first_simple x)) f r = simple_tree fs vars x f r

  test_tree : (o : Option TExpr) → IfAny (FineValue fs vars Truth) o → TestRated fs o → TestTree fs o
  test_tree None f r = tt
  test_tree (Some e) f r = (expr_tree fs vars e f.0 r, f.1)

  step_tree : (o : Option TSimple) → IfAny (FineSimple fs vars) o → StepRated fs o → StepTree fs o
  step_tree None f r = tt
  step_tree (Some x) f r = simple_tree fs vars x f r

  returned_tree : (answer : Option Ty) (x : TExpr) → FineReturned fs vars answer (Some x) → AnswerRated fs answer x → AnswerTree fs answer x
  returned_tree None x f r = absurd f
  returned_tree (Some t) x f r = (operand_tree fs vars t.rate t.elem x f.1 r, expr_tree fs vars x f.0 r.1)

  module _ (answer : Option Ty) where
    mutual
      pub stmt_tree : (x : TStmt) → FineStmt fs vars answer x → StmtRated fs answer x → StmtTree fs answer x
      stmt_tree (t_block b) f r = block_tree b f r
      stmt_tree (t_declare xs sp) f r = items_tree fs vars xs f r
      stmt_tree (t_simple x sp) f r = simple_tree fs vars x f r
      stmt_tree (t_if k n e x sp) f r = (expr_tree fs vars e f.1.0 r.0, stmt_tree x f.2 r.1, f.1.1)
      stmt_tree (t_if_else k n e x y sp) f r = (expr_tree fs vars e f.1.0 r.0, stmt_tree x f.2 r.1, stmt_tree y f.3 r.2, f.1.1)
      stmt_tree (t_while k n e x sp) f r = ((expr_tree fs vars e f.1.0 r.0, f.1.1), stmt_tree x f.2 r.1)
      stmt_tree (t_do k n x e sp) f r = ((expr_tree fs vars e f.2.0 r.1, f.2.1), stmt_tree x f.1 r.0)
      stmt_tree (t_for k n first e step i x sp) f r = (first_tree first f.2 r.0, test_tree e f.3 r.1, step_tree step f.4 r.2, stmt_tree x f.5 r.3)
      stmt_tree (t_foreach k n rs x sp) f r = (r.0, ranges_tree rs f.1 r.1, stmt_tree x f.2 r.2, r.3)
      stmt_tree (t_foreach_active k n i x sp) f r = stmt_tree x f.2 r
      stmt_tree (t_foreach_unique k n i t e x sp) f r = (operand_tree fs vars Varying (operand t) e f.2.1 r.0, expr_tree fs vars e f.2.0 r.0.1, stmt_tree x f.3 r.1)
      stmt_tree (t_unmasked k b sp) f r = block_tree b f r
      stmt_tree (t_jump j k sp) f r = tt
      stmt_tree (t_return k None sp) f r = tt
      stmt_tree (t_return k (Some x) sp) f r = returned_tree answer x f r
      stmt_tree (t_print k text xs sp) f r = (f.0, shown_tree xs f.1 r)
      stmt_tree (t_assert x k sp) f r = (expr_tree fs vars x f.0.0 r, f.0.1)

      pub block_tree : (b : TBlock) → FineBlock fs vars answer b → BlockRated fs answer b → BlockTree fs answer b
      block_tree (t_braces xs sp) f r = stmts_tree xs f r

      stmts_tree : (xs : TStmts) → FineStmts fs vars answer xs → StmtsRated fs answer xs → StmtsTree fs answer xs
      stmts_tree t_no_stmts f r = tt
      stmts_tree (t_stmt_then x xs) f r = (stmt_tree x f.0 r.0, stmts_tree xs f.1 r.1)
