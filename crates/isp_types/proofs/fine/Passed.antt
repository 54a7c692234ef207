-- What is passed to a call is fine where it suits what is asked.
use Rattle.std.proofs.Common.{◌≡◌, Bool, true, false, refl, ap, subst, ◌∙◌}
use Rattle.std.specs.Prelude.{Option, Some, None, List, slice_get, ◌&&◌, ◌||◌, not, if◌then◌else◌, Result, Ok, Err}
use Rattle.isp_base.specs.declared.types.Elem.{Elem}
use Rattle.isp_base.specs.declared.types.Elem.TheVariants.{I32, U32}
use Rattle.isp_base.specs.declared.types.Rate.{Rate}
use Rattle.isp_base.specs.declared.types.Rate.TheVariants.{Uniform, Varying}
use Rattle.isp_base.specs.declared.types.Span.{Span}
use Rattle.isp_base.specs.declared.types.Ty.{Ty}
use Rattle.isp_base.specs.Ranks.{same_elem}
use Rattle.isp_tree.specs.Sound.{InText}
use Rattle.isp_lex.specs.declared.fault.Fault.{Fault}
use Rattle.isp_typed.specs.declared.variable.ArrayVariable.{ArrayVariable}
use Rattle.isp_typed.specs.declared.variable.Holds.{Holds}
use Rattle.isp_typed.specs.declared.variable.Holds.TheVariants as holds
use Rattle.isp_typed.specs.declared.variable.Variable.{Variable}
use Rattle.isp_typed.specs.Typed.{TExpr, TPlace, TFunction, TBase, t_whole, t_from, base_array, ty_of, elem_of}
use Rattle.isp_typed.specs.Fine.{FineExpr, FinePlace, FineBase, FineCall, HoldsArray, HoldsValue, array_type}
use Rattle.isp_exprs.specs.declared.scope.Known.{Known}
use Rattle.isp_exprs.specs.declared.callee.Want.{Want}
use Rattle.isp_exprs.specs.declared.callee.Want.TheVariants.{AnyValue, ValueOf, ArrayOf, Base, Destination, NoReference, Anything}
use Rattle.isp_exprs.specs.Places.{as_array, array_of, variable_at, element_at}
use Rattle.isp_exprs.specs.Passing.{Handed, h_value, h_run, h_array, h_name, h_element, handed_name, Passed, p_value, p_array, p_base, p_destination, p_unasked}
use Rattle.isp_exprs.specs.PackedCalls.{base_fits, base_named, destination}
use Rattle.isp_exprs.specs.Calls.{array_fits, suits}
use Rattle.isp_base.proofs.RankLaws.{same_is}
use Rattle.isp_types.proofs.fine.Values.{BareExpr, converted_elem, converted_fine}

pub ok_is : {A : Type 0} (a b : A) → ◌≡◌ {A = Result A Fault} (Ok a) (Ok b) → a ≡ b
ok_is a b e = cc

pub no_ok : {A : Type 0} {f : Fault} {a : A} → ◌≡◌ {A = Result A Fault} (Err f) (Ok a) → ⊥
no_ok e = cc

pub some_is : {A : Type 0} (a b : A) → Some a ≡ Some b → a ≡ b
some_is a b e = cc

pub no_some : {A : Type 0} {a : A} → None ≡ Some a → ⊥
no_some e = cc

-- a name is that of the variable of its number
abbrev pub IsKnown : List Variable → Known → Type 0
IsKnown all k = slice_get all k.number ≡ Some k.variable

known_array : (all : List Variable) (k : Known) (t : Ty) → IsKnown all k → array_type k.variable.holds ≡ Some t → HoldsArray all (as_array k t)
known_array all k t known e = record { variable = k.variable; is = known; ty = e; constant = refl }

pub array_known : (all : List Variable) (k : Known) → IsKnown all k → (a : ArrayVariable) → array_of k ≡ Some a → HoldsArray all a
array_known all k known a e = go k.variable.holds refl
  where
    go : (h : Holds) → k.variable.holds ≡ h → HoldsArray all a
    go (holds.Value t) q = absurd (no_some (rw q at e))
    go (holds.Given u) q = subst (HoldsArray all) (some_is _ a (rw q at e)) (known_array all k (ty_of Uniform u) known (rw q refl))
    go (holds.Local t n) q = subst (HoldsArray all) (some_is _ a (rw q at e)) (known_array all k t known (rw q refl))

variable_is : (all : List Variable) (k : Known) (t : Ty) → IsKnown all k → k.variable.holds ≡ holds.Value t → HoldsValue all k.number t
variable_is all k t known e = record { constant = k.variable.constant; is = known ∙ ap (λ h. Some (record { holds = h; constant = k.variable.constant })) e }

module _ (gs : List TFunction) (all : List Variable) where
  pub place_known : (s : Span) (k : Known) → IsKnown all k → (p : TPlace) → variable_at s k ≡ Ok p → FinePlace gs all p
  place_known s k known p e = go k.variable.holds refl
    where
      go : (h : Holds) → k.variable.holds ≡ h → FinePlace gs all p
      go (holds.Value t) q = subst (FinePlace gs all) (ok_is _ p (rw q at e)) (variable_is all k t known q)
      go (holds.Given u) q = absurd (no_ok (rw q at e))
      go (holds.Local t n) q = absurd (no_ok (rw q at e))

  pub element_known : (s : Span) → InText s → (k : Known) → IsKnown all k → (x : TExpr) → FineExpr gs all x → (p : TPlace) → element_at s (k, x) ≡ Ok p → FinePlace gs all p
  element_known s i k known x f p e = go (array_of k) refl
    where
      go : (o : Option ArrayVariable) → array_of k ≡ o → FinePlace gs all p
      go None q = absurd (no_ok (rw q at e))
      go (Some a) q = subst (FinePlace gs all) (ok_is _ p (rw q at e)) (array_known all k known a q, f, refl, i)

  -- ---- arguments

  abbrev pub FineHanded : Handed → Type 0
  FineHanded (h_value x) = BareExpr gs all x
  FineHanded (h_run c) = FineCall gs all c None
  FineHanded (h_array a s) = HoldsArray all a
  FineHanded (h_name k s) = IsKnown all k
  FineHanded (h_element k s x) = IsKnown all k × FineExpr gs all x

  pub handed_known : (s : Span) (k : Known) → IsKnown all k → FineHanded (handed_name s k)
  handed_known s k known = go k.variable.holds refl
    where
      go : (h : Holds) → k.variable.holds ≡ h → FineHanded (handed_name s k)
      go (holds.Value t) q = rw q (variable_is all k t known q, refl)
      go (holds.Given u) q = rw q (known_array all k (ty_of Uniform u) known (rw q refl))
      go (holds.Local t n) q = rw q (known_array all k t known (rw q refl))

  -- what is passed, by what is asked
  abbrev pub Suited : Want → Passed → Type 0
  Suited AnyValue (p_value x) = BareExpr gs all x
  Suited (ValueOf e) (p_value x) = FineExpr gs all x × (elem_of x ≡ e)
  Suited (ArrayOf e c) (p_array a s) = HoldsArray all a × (a.ty.elem ≡ e) × ((a.constant && not c) ≡ false)
  Suited (Base stored) (p_base b) = FineBase gs all b × (((base_array b).constant && stored) ≡ false)
  Suited Destination (p_destination k t s) = IsKnown all k × (k.variable.holds ≡ holds.Value t) × (t.rate ≡ Varying)
  Suited NoReference p_unasked = Unit {0}
  Suited Anything p_unasked = Unit {0}
  Suited w p = ⊥

  by_test : {A : Type 0} (P : A → Type 0) (t : Bool) (x y : A) → (t ≡ true → P x) → (t ≡ false → P y) → P (if t then x else y)
  by_test P true x y f g = f refl
  by_test P false x y f g = g refl

  array_suits : (e : Elem) (c : Bool) (s : Span) (a : ArrayVariable) → HoldsArray all a → (p : Passed) → array_fits e c s a ≡ Ok p → Suited (ArrayOf e c) p
  array_suits e c s a h p q = by (same_elem a.ty.elem e) refl (a.constant && not c) refl
    where
      by : (t : Bool) → same_elem a.ty.elem e ≡ t → (u : Bool) → (a.constant && not c) ≡ u → Suited (ArrayOf e c) p
      by false d u m = absurd (no_ok (rw d at q))
      by true d true m = absurd (no_ok (rw (d, m) at q))
      by true d false m = subst (Suited (ArrayOf e c)) (ok_is _ p (rw (d, m) at q)) (h, same_is a.ty.elem e d, m)

  base_suits : (stored : Bool) (s : Span) (a : ArrayVariable) (b : TBase) → base_array b ≡ a → (((same_elem a.ty.elem I32 || same_elem a.ty.elem U32) ≡ true) → FineBase gs all b)
      → (p : Passed) → base_fits stored s a b ≡ Ok p → Suited (Base stored) p
  base_suits stored s a b is h p q = by (same_elem a.ty.elem I32 || same_elem a.ty.elem U32) refl (a.constant && stored) refl
    where
      by : (t : Bool) → (same_elem a.ty.elem I32 || same_elem a.ty.elem U32) ≡ t → (u : Bool) → (a.constant && stored) ≡ u → Suited (Base stored) p
      by false d u m = absurd (no_ok (rw d at q))
      by true d true m = absurd (no_ok (rw (d, m) at q))
      by true d false m = subst (Suited (Base stored)) (ok_is _ p (rw (d, m) at q)) (h d, rw is m)

  named_suits : (stored : Bool) (s : Span) (k : Known) → IsKnown all k → (b : ArrayVariable → TBase) → ((a : ArrayVariable) → base_array (b a) ≡ a)
      → ((a : ArrayVariable) → HoldsArray all a → ((same_elem a.ty.elem I32 || same_elem a.ty.elem U32) ≡ true) → FineBase gs all (b a))
      → (p : Passed) → base_named stored s (array_of k) b ≡ Ok p → Suited (Base stored) p
  named_suits stored s k known b is h p q = go (array_of k) refl
    where
      go : (o : Option ArrayVariable) → array_of k ≡ o → Suited (Base stored) p
      go None e = absurd (no_ok (rw e at q))
      go (Some a) e = base_suits stored s a (b a) (is a) (h a (array_known all k known a e)) p (rw e at q)

  destination_suits : (s : Span) (k : Known) → IsKnown all k → (p : Passed) → destination s k ≡ Ok p → Suited Destination p
  destination_suits s k known p q = go k.variable.holds refl
    where
      go : (h : Holds) → k.variable.holds ≡ h → Suited Destination p
      go (holds.Value t) e = by t.rate refl
        where
          by : (r : Rate) → t.rate ≡ r → Suited Destination p
          by Uniform d = absurd (no_ok (rw (e, d) at q))
          by Varying d = let is : Suited Destination (p_destination k t s) = (known, e, d) in subst (Suited Destination) (ok_is _ p (rw (e, d) at q)) (rw (e, d) at is)
      go (holds.Given u) e = absurd (no_ok (rw e at q))
      go (holds.Local t n) e = absurd (no_ok (rw e at q))

  pub suits_fine : (w : Want) (s : Span) (h : Handed) → FineHanded h → (p : Passed) → suits w s h ≡ Ok p → Suited w p
  suits_fine AnyValue s (h_value x) f p q = subst (Suited AnyValue) (ok_is _ p q) f
  suits_fine (ValueOf e) s (h_value x) f p q = subst (Suited (ValueOf e)) (ok_is _ p q) (converted_fine gs all e x f, converted_elem e x)
  suits_fine (ArrayOf e c) s (h_array a n) f p q = array_suits e c s a f p q
  suits_fine (Base stored) s (h_array a n) f p q = base_suits stored s a (t_whole a n) refl (λ d. (f, d)) p q
  suits_fine (Base stored) s (h_name k n) f p q = named_suits stored s k f (λ a. t_whole a n) (λ a. refl) (λ a h d. (h, d)) p q
  suits_fine (Base stored) s (h_element k n x) f p q = named_suits stored s k f.0 (λ a. t_from a x n) (λ a. refl) (λ a h d. (h, f.1, d)) p q
  suits_fine Destination s (h_name k n) f p q = destination_suits s k f p q
  suits_fine NoReference s (h_value x) f p q = subst (Suited NoReference) (ok_is _ p q) tt
  suits_fine NoReference s (h_run x) f p q = subst (Suited NoReference) (ok_is _ p q) tt
  suits_fine NoReference s (h_array a n) f p q = subst (Suited NoReference) (ok_is _ p q) tt
  suits_fine Anything s h f p q = subst (Suited Anything) (ok_is _ p q) tt
  suits_fine w s h f p q = absurd (no_ok q)
