-- What rates promise of a body, beside what names and types promise.
use Rattle.std.specs.Prelude.{◌≤◌, List, [], ◌∷◌, length, Option, Some, None}
use Rattle.isp_base.specs.declared.types.Rate.TheVariants.{Uniform, Varying}
use Rattle.isp_base.specs.declared.types.Ty.{Ty}
use Rattle.isp_typed.specs.Typed.{TExpr, TSimple, TFirst, t_first_declare, t_first_simple, TRange, TStmt, t_block, t_declare, t_simple, t_if, t_if_else, t_while, t_do, t_for, t_foreach, t_foreach_active}
use Rattle.isp_typed.specs.Typed.{t_foreach_unique, t_unmasked, t_jump, t_return, t_print, t_assert, TBlock, t_braces, TStmts, t_no_stmts, t_stmt_then, TFunction}
use Rattle.isp_lower_code.specs.Rated.{IsRated, RatedAt, SimpleRated, ItemsRated}

-- in a program of these functions
module _ (fs : List TFunction) where
  -- what is returned is wanted at the rate of what the function gives
  abbrev pub AnswerRated : Option Ty → TExpr → Type 0
  AnswerRated None x = IsRated fs x
  AnswerRated (Some t) x = RatedAt fs t.rate x

  -- the values of a `print`
  abbrev pub AllRated : List TExpr → Type 0
  AllRated [] = Unit {0}
  AllRated (x ∷ xs) = IsRated fs x × AllRated xs

  -- the bounds of a `foreach` are one value for the gang
  abbrev pub RangesRated : List TRange → Type 0
  RangesRated [] = Unit {0}
  RangesRated (r ∷ rs) = RatedAt fs Uniform r.start × RatedAt fs Uniform r.end × RangesRated rs

  -- the parts of a `for` that may be left out
  abbrev pub FirstRated : Option TFirst → Type 0
  FirstRated None = Unit {0}
  FirstRated (Some (t_first_declare xs sp)) = ItemsRated fs xs
  FirstRated (Some (t_first_simple x)) = SimpleRated fs x

  abbrev pub TestRated : Option TExpr → Type 0
  TestRated None = Unit {0}
  TestRated (Some e) = IsRated fs e

  abbrev pub StepRated : Option TSimple → Type 0
  StepRated None = Unit {0}
  StepRated (Some x) = SimpleRated fs x

  module _ (answer : Option Ty) where
    abbrev mutual
      pub StmtRated : TStmt → Type 0
      StmtRated (t_block b) = BlockRated b
      StmtRated (t_declare xs sp) = ItemsRated fs xs
      StmtRated (t_simple x sp) = SimpleRated fs x
      StmtRated (t_if f g e x sp) = IsRated fs e × StmtRated x
      StmtRated (t_if_else f g e x y sp) = IsRated fs e × StmtRated x × StmtRated y
      StmtRated (t_while f g e x sp) = IsRated fs e × StmtRated x
      StmtRated (t_do f g x e sp) = StmtRated x × IsRated fs e
      StmtRated (t_for f g first e step i x sp) = FirstRated first × TestRated e × StepRated step × StmtRated x
      StmtRated (t_foreach k g rs x sp) = (length rs ≤ 3) × RangesRated rs × StmtRated x × (1 ≤ length rs)
      StmtRated (t_foreach_active k g i x sp) = StmtRated x
      -- a value of any rate
      StmtRated (t_foreach_unique k g i t e x sp) = RatedAt fs Varying e × StmtRated x
      StmtRated (t_unmasked k b sp) = BlockRated b
      StmtRated (t_jump j k sp) = Unit {0}
      StmtRated (t_return k None sp) = Unit {0}
      StmtRated (t_return k (Some x) sp) = AnswerRated answer x
      StmtRated (t_print k text xs sp) = AllRated xs
      StmtRated (t_assert x c sp) = IsRated fs x

      pub BlockRated : TBlock → Type 0
      BlockRated (t_braces xs sp) = StmtsRated xs

      pub StmtsRated : TStmts → Type 0
      StmtsRated t_no_stmts = Unit {0}
      StmtsRated (t_stmt_then x xs) = StmtRated x × StmtsRated xs
