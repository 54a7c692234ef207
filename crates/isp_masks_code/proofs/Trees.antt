-- What the laws use of the tree of a statement alone.
use Rattle.std.proofs.Common.{◌≡◌, ◌≤◌, List, [], ◌∷◌, length, Option, Some, None}
use Rattle.std.specs.List.{count_by}
use Rattle.std.specs.Prelude.{◌==◌}
use Rattle.isp_base.specs.Prints.{percent}
use Rattle.isp_base.specs.Ranks.{operand}
use Rattle.isp_base.specs.declared.types.Elem.TheVariants.{Bool as Truth, I32}
use Rattle.isp_base.specs.declared.types.Rate.TheVariants.{Uniform, Varying}
use Rattle.isp_base.specs.declared.types.Ty.{Ty}
use Rattle.isp_typed.specs.Typed.{TExpr, t_exprs, type_of, TSimple, TFirst, t_first_declare, t_first_simple, TRange, TStmt, t_block, t_declare, t_simple, t_if, t_if_else, t_while, t_do, t_for, t_foreach}
use Rattle.isp_typed.specs.Typed.{t_foreach_active, t_foreach_unique, t_unmasked, t_jump, t_return, t_print, t_assert, TBlock, t_braces, TStmts, t_no_stmts, t_stmt_then, TFunction}
use Rattle.isp_lower_code.proofs.Lemmas.{OperandTree, ExprTree, ValuesTree, SimpleTree, ItemsTree}
use Rattle.isp_masks_code.specs.Prints.{own_rates}

-- in a program of these functions
module _ (fs : List TFunction) where
  abbrev pub AnswerTree : Option Ty → TExpr → Type 0
  AnswerTree None x = ExprTree fs x
  AnswerTree (Some t) x = OperandTree t.rate t.elem x × ExprTree fs x

  -- the bounds of a `foreach` are int32s, one for the gang
  abbrev pub RangesTree : List TRange → Type 0
  RangesTree [] = Unit {0}
  RangesTree (r ∷ rs) = OperandTree Uniform I32 r.start × ExprTree fs r.start × OperandTree Uniform I32 r.end × ExprTree fs r.end × RangesTree rs

  -- the parts of a loop; its test is a bool
  abbrev pub TestTree : Option TExpr → Type 0
  TestTree None = Unit {0}
  TestTree (Some e) = ExprTree fs e × ((type_of e).elem ≡ Truth)

  abbrev pub FirstTree : Option TFirst → Type 0
  FirstTree None = Unit {0}
  FirstTree (Some (t_first_declare xs sp)) = ItemsTree fs xs
  FirstTree (Some (t_first_simple x)) = SimpleTree fs x

  abbrev pub StepTree : Option TSimple → Type 0
  StepTree None = Unit {0}
  StepTree (Some x) = SimpleTree fs x

  module _ (answer : Option Ty) where
    abbrev mutual
      pub StmtTree : TStmt → Type 0
      StmtTree (t_block b) = BlockTree b
      StmtTree (t_declare xs sp) = ItemsTree fs xs
      StmtTree (t_simple x sp) = SimpleTree fs x
      StmtTree (t_if f g e x sp) = ExprTree fs e × StmtTree x × ((type_of e).elem ≡ Truth)
      StmtTree (t_if_else f g e x y sp) = ExprTree fs e × StmtTree x × StmtTree y × ((type_of e).elem ≡ Truth)
      StmtTree (t_while f g e x sp) = TestTree (Some e) × StmtTree x
      StmtTree (t_do f g x e sp) = TestTree (Some e) × StmtTree x
      StmtTree (t_for f g first e step i x sp) = FirstTree first × TestTree e × StepTree step × StmtTree x
      StmtTree (t_foreach k g rs x sp) = (length rs ≤ 3) × RangesTree rs × StmtTree x × (1 ≤ length rs)
      StmtTree (t_foreach_active k g i x sp) = StmtTree x
      -- a value of any rate, of the type in which operators work
      StmtTree (t_foreach_unique k g i t e x sp) = OperandTree Varying (operand t) e × ExprTree fs e × StmtTree x
      StmtTree (t_unmasked k b sp) = BlockTree b
      StmtTree (t_jump j k sp) = Unit {0}
      StmtTree (t_return k None sp) = Unit {0}
      StmtTree (t_return k (Some x) sp) = AnswerTree answer x
      StmtTree (t_print k text xs sp) = (count_by (λ c. c == percent) text ≡ length xs) × ValuesTree fs (own_rates xs) (t_exprs xs)
      StmtTree (t_assert x c sp) = TestTree (Some x)

      pub BlockTree : TBlock → Type 0
      BlockTree (t_braces xs sp) = StmtsTree xs

      pub StmtsTree : TStmts → Type 0
      StmtsTree t_no_stmts = Unit {0}
      StmtsTree (t_stmt_then x xs) = StmtTree x × StmtsTree xs
