-- Typed expressions made of fine parts are fine.
use Rattle.std.proofs.Common.{◌≡◌, ◌≤◌, Bool, true, false, refl, ap, arith, inl, inr}
use Rattle.std.specs.Prelude.{List}
use Rattle.isp_base.specs.declared.types.Elem.{Elem}
use Rattle.isp_base.specs.declared.types.Elem.TheVariants.{Bool as Truth, I8, U8, I16, U16, I32, U32, I64, U64}
use Rattle.isp_base.specs.declared.types.Gang.{Gang}
use Rattle.isp_base.specs.declared.types.Span.{Span}
use Rattle.isp_base.specs.Ranks.{same_elem, operand, common, chosen}
use Rattle.isp_base.specs.Values.{greatest}
use Rattle.isp_base.proofs.Gangs.{few_width}
use Rattle.isp_base.proofs.RankLaws.{common_one, same_is}
use Rattle.isp_tree.specs.Sound.{InText}
use Rattle.isp_tree.specs.declared.expr.Prefix.{Prefix}
use Rattle.isp_tree.specs.declared.expr.Prefix.TheVariants as sign
use Rattle.isp_typed.specs.declared.variable.Variable.{Variable}
use Rattle.isp_typed.specs.Typed.{TExpr, TFunction, type_of, ty_of, elem_of, rate_of, rate_or}
use Rattle.isp_typed.specs.Fine as fine
use Rattle.isp_typed.specs.Fine.{FineExpr, IsWhole, heads}
use Rattle.isp_exprs.specs.declared.values.Joining.{Joining}
use Rattle.isp_exprs.specs.declared.values.Joining.TheVariants as joined_as
use Rattle.isp_exprs.specs.declared.words.ValueWords.{ValueWords}
use Rattle.isp_exprs.specs.Values.{converted, cast_to, with_sign, joins, choice, truth_value, count_value}

-- ---- element types

pub operand_whole : (e : Elem) → IsWhole (operand e)
operand_whole Truth = refl
operand_whole I8 = refl
operand_whole U8 = refl
operand_whole I16 = refl
operand_whole U16 = refl
operand_whole I32 = refl
operand_whole U32 = refl
operand_whole I64 = refl
operand_whole U64 = refl

pub common_whole : (a b : Elem) → IsWhole (common a b)
common_whole a b = elim (common_one a b) as (λ z. IsWhole (common a b)) [ inl e ↦ rw e (operand_whole a) | inr e ↦ rw e (operand_whole b) ]

-- ---- conversions

pub converted_elem : (e : Elem) (x : TExpr) → elem_of (converted e x) ≡ e
converted_elem e x = go (same_elem (elem_of x) e) refl
  where
    go : (t : Bool) → same_elem (elem_of x) e ≡ t → elem_of (converted e x) ≡ e
    go true q = rw q (same_is (elem_of x) e q)
    go false q = rw q refl

pub converted_rate : (e : Elem) (x : TExpr) → rate_of (converted e x) ≡ rate_of x
converted_rate e x = go (same_elem (elem_of x) e) refl
  where
    go : (t : Bool) → same_elem (elem_of x) e ≡ t → rate_of (converted e x) ≡ rate_of x
    go true q = rw q refl
    go false q = rw q refl

pub converted_type : (e : Elem) (x : TExpr) → type_of (converted e x) ≡ ty_of (rate_of x) e
converted_type e x = go (same_elem (elem_of x) e) refl
  where
    go : (t : Bool) → same_elem (elem_of x) e ≡ t → type_of (converted e x) ≡ ty_of (rate_of x) e
    go true q = rw q (ap (λ z. ty_of (rate_of x) z) (same_is (elem_of x) e q))
    go false q = rw q refl

module _ (gs : List TFunction) (all : List Variable) where
  -- what a rule gives, before it is converted: fine, and no conversion
  abbrev pub BareExpr : TExpr → Type 0
  BareExpr x = FineExpr gs all x × (heads x ≡ 0)

  pub converted_fine : (e : Elem) (x : TExpr) → BareExpr x → FineExpr gs all (converted e x)
  converted_fine e x f = go (same_elem (elem_of x) e) refl
    where
      go : (t : Bool) → same_elem (elem_of x) e ≡ t → FineExpr gs all (converted e x)
      go true q = rw q f.0
      go false q = rw q f

  pub truth_fine : (b : Bool) (s : Span) → (truth_value b).bits ≤ greatest (truth_value b).elem
  truth_fine true s = omega arith
  truth_fine false s = omega arith

  pub count_fine : (g : Gang) → (count_value g).bits ≤ greatest (count_value g).elem
  count_fine g = let few = few_width g in omega (arith, few)

  pub cast_fine : (s : Span) (w : ValueWords) (x : TExpr) → BareExpr x → BareExpr (cast_to s (w, x))
  cast_fine s w x f = ((converted_fine w.elem x f, converted_elem w.elem x), refl)

  pub sign_fine : (p : Prefix) (s : Span) (x : TExpr) → BareExpr x → BareExpr (with_sign p s x)
  sign_fine sign.Negative s x f = ((converted_fine (operand (elem_of x)) x f, converted_type (operand (elem_of x)) x, operand_whole (elem_of x)), refl)
  sign_fine sign.Inverse s x f = ((converted_fine (operand (elem_of x)) x f, converted_type (operand (elem_of x)) x, operand_whole (elem_of x)), refl)
  sign_fine sign.Not s x f = ((converted_fine Truth x f, converted_type Truth x, refl), refl)

  operands : (e : Elem) (x y : TExpr) → fine.AreOperands (converted e x) (converted e y) e (rate_or (rate_of x) (rate_of y))
  operands e x y = record {
    left = converted_elem e x;
    right = converted_elem e y;
    rate = rw (converted_rate e x, converted_rate e y) refl;
  }

  pub joined_fine : (s : Span) → InText s → (x y : TExpr) → BareExpr x → BareExpr y → (j : Joining) → BareExpr (joins s x y j)
  joined_fine s i x y f g (joined_as.Computes b) =
      let e = common (elem_of x) (elem_of y) in
      ((converted_fine e x f, converted_fine e y g, operands e x y, common_whole (elem_of x) (elem_of y), i), refl)
  joined_fine s i x y f g (joined_as.Compares c) =
      let e = common (elem_of x) (elem_of y) in
      ((converted_fine e x f, converted_fine e y g, rw (converted_elem e x) (operands e x y)), refl)
  joined_fine s i x y f g (joined_as.Decides l) = ((converted_fine Truth x f, converted_fine Truth y g, operands Truth x y), refl)

  pub choice_fine : (s : Span) (c x y : TExpr) → BareExpr c → BareExpr x → BareExpr y → BareExpr (choice s (c, (x, y)))
  choice_fine s c x y f g h =
      let e = chosen (elem_of x) (elem_of y) in (
        (
          converted_fine Truth c f,
          converted_fine e x g,
          converted_fine e y h,
          converted_elem Truth c,
          converted_elem e x,
          converted_elem e y,
          rw (converted_rate Truth c, converted_rate e x, converted_rate e y) refl,
        ),
        refl,
      )
