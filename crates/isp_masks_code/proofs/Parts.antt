-- What the laws use of a statement that fits, part by part.
use Rattle.std.proofs.Common.{◌≡◌, ◌≤◌, ℕ, ◌+◌, List, [], ◌∷◌, length, Option, Some, None}
use Rattle.std.specs.List.{count_by}
use Rattle.std.specs.Prelude.{◌==◌, slice_get}
use Rattle.isp_base.specs.Prints.{percent}
use Rattle.isp_base.specs.declared.types.Elem.{Elem}
use Rattle.isp_base.specs.declared.types.Elem.TheVariants.{Bool as Truth, I32, I64}
use Rattle.isp_base.specs.declared.types.Rate.TheVariants.{Uniform, Varying}
use Rattle.isp_base.specs.declared.types.Ty.{Ty}
use Rattle.isp_typed.specs.Typed.{TExpr, t_exprs, type_of, elem_of, TSimple, TFirst, t_first_declare, t_first_simple, TRange, TStmt, t_block, t_declare, t_simple, t_if, t_if_else, t_while, t_do, t_for, t_foreach}
use Rattle.isp_typed.specs.Typed.{t_foreach_active, t_foreach_unique, t_unmasked, t_jump, t_return, t_print, t_assert, TBlock, t_braces, TStmts, t_no_stmts, t_stmt_then}
use Rattle.isp_lower_code.specs.Setting.{IsUniform, Setting}
use Rattle.isp_lower_code.specs.Tables.{IsTyped}
use Rattle.isp_lower_code.proofs.Lemmas.{OperandFits, ExprParts, ValuesParts, SimpleParts, ItemsParts}
use Rattle.isp_masks_code.specs.Asks.{part_slot, parts_slot}
use Rattle.isp_masks_code.specs.Prints.{own_rates}
use Rattle.isp_masks_code.specs.Ranges.{wide, narrow, test, lane, places_slot, runs_slot}
use Rattle.isp_masks_code.proofs.Bodies.{with_layout}
use Rattle.isp_masks_code.specs.Statements.{body_layout}
use Rattle.isp_lower_code.specs.Layout.{NoneFixed, outside}
use Rattle.isp_base.specs.Sets.{Mask}
use Rattle.isp_typed.specs.Indices.{foreach_index}

module _ (w : Setting) where
  -- what is returned is one of what the function gives
  abbrev pub AnswerFits : Option Ty → TExpr → ℕ → Type 0
  AnswerFits None x n = ExprParts w x n
  AnswerFits (Some t) x n = OperandFits w t.rate t.elem x n × ExprParts w x n

  -- the parts of a `for` that may be left out
  abbrev pub FirstFits : Option TFirst → ℕ → Type 0
  FirstFits None n = Unit {0}
  FirstFits (Some (t_first_declare xs sp)) n = ItemsParts w n xs
  FirstFits (Some (t_first_simple x)) n = SimpleParts w x n

  abbrev pub TestFits : Option TExpr → ℕ → Type 0
  TestFits None n = Unit {0}
  TestFits (Some e) n = ExprParts w e n

  abbrev pub StepFits : Option TSimple → ℕ → Type 0
  StepFits None n = Unit {0}
  StepFits (Some x) n = SimpleParts w x n

  -- ---- `foreach`: its bounds are int32s of the gang, and its registers have their types

  abbrev pub BoundParts : TExpr → ℕ → Type 0
  BoundParts x n = ((type_of x).rate ≡ Uniform) × ((type_of x).elem ≡ I32) × IsTyped w Uniform (wide w.layout n) I64 × ExprParts w x n

  abbrev pub BoundsParts : List TRange → ℕ → Type 0
  BoundsParts [] n = Unit {0}
  BoundsParts (r ∷ rs) n = BoundParts r.start n × BoundParts r.end (n + 1) × BoundsParts rs (n + 1 + 1)

  pub record MeasuresTyped (n : ℕ) : Type 0 where
    pub first : IsTyped w Uniform (narrow w.layout n) I32
    pub numbers : IsTyped w Varying (lane w.layout n) I32
    pub lanes : IsTyped w Uniform (wide w.layout n) I64
    pub short : IsTyped w Uniform (narrow w.layout (n + 1)) I32
    pub one : IsTyped w Uniform (wide w.layout (n + 1)) I64

  pub record RangeTyped (m i : ℕ) : Type 0 where
    pub place : IsTyped w Uniform (wide w.layout m) I64
    pub short : IsTyped w Uniform (narrow w.layout (m + 1)) I32
    pub tested : IsTyped w Uniform (test w.layout (m + 1)) Truth
    pub limited : IsTyped w Uniform (wide w.layout (m + 1)) I64
    pub index : IsTyped w Varying (w.layout.variable Varying i) I32
    pub run : IsTyped w Uniform (w.layout.place Uniform) I64

  abbrev pub RangesTyped : List TRange → ℕ → Type 0
  RangesTyped [] m = Unit {0}
  RangesTyped (r ∷ rs) m = RangeTyped m r.index × RangesTyped rs (m + 1 + 1)

  -- indices are constants
  abbrev pub RangesConstant : List TRange → Type 0
  RangesConstant [] = Unit {0}
  RangesConstant (r ∷ rs) = (slice_get w.function.variables r.index ≡ Some foreach_index) × RangesConstant rs

  -- there are one to three ranges
  pub record ForeachFits (rs : List TRange) (n : ℕ) : Type 0 where
    pub few : length rs ≤ 3
    pub measures : MeasuresTyped n
    pub bounds : BoundsParts rs (n + 1 + 1)
    pub places : RangesTyped rs (places_slot n rs)
    pub some : 1 ≤ length rs
    pub constants : RangesConstant rs

  -- ---- `foreach_unique`: its registers have their types
  pub record UniqueFits (i : ℕ) (t : Elem) (e : TExpr) (n : ℕ) : Type 0 where
    pub operand : OperandFits w Varying (elem_of e) e n
    pub expr : ExprParts w e n
    pub all : IsTyped w Varying (w.layout.spare Varying (elem_of e) n) (elem_of e)
    pub index : IsTyped w Uniform (w.layout.variable Uniform i) t
    pub single : IsUniform w.function.variables i
    pub one : IsTyped w Uniform (w.layout.spare Uniform (elem_of e) (n + 1)) (elem_of e)
    pub each : IsTyped w Varying (w.layout.spare Varying (elem_of e) (n + 1)) (elem_of e)
    pub same : IsTyped w Varying (w.layout.spare Varying Truth (n + 1 + 1)) Truth

abbrev mutual
  pub StmtParts : Setting → TStmt → ℕ → Type 0
  StmtParts w (t_block b) n = BlockParts w b n
  StmtParts w (t_declare xs sp) n = ItemsParts w n xs
  StmtParts w (t_simple x sp) n = SimpleParts w x n
  StmtParts w (t_if f g e x sp) n = ExprParts w e n × StmtParts w x (part_slot f (type_of e).rate n)
  StmtParts w (t_if_else f g e x y sp) n = ExprParts w e n × StmtParts w x (parts_slot (type_of e).rate n) × StmtParts w y (parts_slot (type_of e).rate n)
  StmtParts w (t_while f g e x sp) n = ExprParts w e (n + 3) × StmtParts w x (n + 3)
  StmtParts w (t_do f g x e sp) n = ExprParts w e (n + 3) × StmtParts w x (n + 3)
  StmtParts w (t_for f g first e step i x sp) n = FirstFits w first n × TestFits w e (n + 3) × StepFits w step (n + 3) × StmtParts w x (n + 3)
  StmtParts w (t_foreach k g rs x sp) n = ForeachFits w rs n × NoneFixed w.layout × ((m : Mask) (b : ℕ) → StmtParts (with_layout w (body_layout w.layout rs) m b) x (runs_slot n rs + 3))
  StmtParts w (t_foreach_active k g i x sp) n = IsUniform w.function.variables i × StmtParts w x (n + 1 + 3)
  StmtParts w (t_foreach_unique k g i t e x sp) n = UniqueFits w i t e n × StmtParts w x (n + 1 + 3)
  StmtParts w (t_unmasked k b sp) n = BlockParts (with_layout w (outside w.layout) w.members w.start) b (n + 3)
  StmtParts w (t_jump j k sp) n = Unit {0}
  StmtParts w (t_return k None sp) n = Unit {0}
  StmtParts w (t_return k (Some x) sp) n = AnswerFits w w.frame.answer x n
  StmtParts w (t_print k text xs sp) n = (count_by (λ c. c == percent) text ≡ length xs) × ValuesParts w (own_rates xs) (t_exprs xs) n
  StmtParts w (t_assert x c sp) n = ExprParts w x n

  pub BlockParts : Setting → TBlock → ℕ → Type 0
  BlockParts w (t_braces xs sp) n = StmtsParts w xs n

  pub StmtsParts : Setting → TStmts → ℕ → Type 0
  StmtsParts w t_no_stmts n = Unit {0}
  StmtsParts w (t_stmt_then x xs) n = StmtParts w x n × StmtsParts w xs n
