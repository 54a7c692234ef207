-- The scalar expression is uniform, and names and types accept it.
use Rattle.std.specs.Prelude.{◌≡◌, ℕ, zero, suc, ◌+◌, List, [], ◌∷◌, Some, Bool, true, false, ◌||◌, slice_get}
use Rattle.std.proofs.Common.{refl, sym, ap, ap₂, ◌∙◌, ⊎_elim, arith}
use Rattle.isp_base.specs.declared.operators.BinOp.{BinOp}
use Rattle.isp_base.specs.declared.types.Elem.{Elem}
use Rattle.isp_base.specs.declared.types.Rate.{Rate}
use Rattle.isp_base.specs.declared.types.Rate.TheVariants.{Uniform, Varying}
use Rattle.isp_base.specs.declared.types.Span.{Span}
use Rattle.isp_base.specs.declared.types.Ty.{Ty}
use Rattle.isp_typed.specs.Fine.{FineExpr, FinePlace, FineParts, HoldsValue, HoldsArray, array_type, AreOperands, heads, rates_of}
use Rattle.isp_typed.specs.Library.{parts, library_type}
use Rattle.isp_typed.specs.Typed.{TExpr, t_constant, t_program_index, t_place, t_convert, t_cast, t_unary, t_binary, t_compare, t_logic, t_choose, t_call, t_library}
use Rattle.isp_typed.specs.Typed.{t_packed_store, t_packed_load, TPlace, t_variable, t_element, TExprs, t_no_exprs, t_expr_then, TFunction, type_of, elem_of, rate_of, rate_or, ty_of}
use Rattle.isp_typed.specs.declared.library.Library.{Library}
use Rattle.isp_typed.specs.declared.library.Library.TheVariants as library
use Rattle.isp_typed.specs.declared.library.Part.{Part}
use Rattle.isp_typed.specs.declared.variable.ArrayVariable.{ArrayVariable}
use Rattle.isp_typed.specs.declared.variable.Holds.{Holds}
use Rattle.isp_typed.specs.declared.variable.Holds.TheVariants as holds
use Rattle.isp_typed.specs.declared.variable.Variable.{Variable}
use Rattle.isp_steady.specs.Known.{Known, Unknown, Steady, Linear}
use Rattle.isp_steady.specs.Steady.{steady_read, is_shared, by_itself, steady, steady_place, all_steady}
use Rattle.isp_steady.specs.Linear.{linear_read, linear, linear_place}
use Rattle.isp_steady.specs.Alone.{single, alone, alone_place, all_alone}
use Rattle.isp_steady.specs.Singled.{held_single, as_known, singled, ScalarsAreFine}
use Rattle.isp_steady.proofs.Ones.{both}
use Rattle.isp_steady.proofs.Alones.{alone_elem, one_of}

-- ---- variables

pub singled_at : (known : ℕ → Known) (vars : List Variable) (v : ℕ) (x : Variable) → slice_get vars v ≡ Some x → slice_get (singled known vars) v ≡ Some (as_known (known v) x)
singled_at known [] v x e = absurd (let h : ⊥ = cc in h)
singled_at known (y ∷ ys) zero x e = ap Some (ap (as_known (known 0)) (let h : y ≡ x = cc in h))
singled_at known (y ∷ ys) (suc v) x e = singled_at (λ i. known (suc i)) ys v x e

array_single : (h : Holds) (t : Ty) → array_type h ≡ Some t → array_type (held_single h) ≡ Some t
array_single (holds.Value u) t e = absurd (let h : ⊥ = cc in h)
array_single (holds.Given f) t e = e
array_single (holds.Local u n) t e = e

array_known : (k : Known) (x : Variable) (t : Ty) → array_type x.holds ≡ Some t → array_type (as_known k x).holds ≡ Some t
array_known Unknown x t e = e
array_known Steady x t e = array_single x.holds t e
array_known Linear x t e = array_single x.holds t e

constant_known : (k : Known) (x : Variable) → (as_known k x).constant ≡ x.constant
constant_known Unknown x = refl
constant_known Steady x = refl
constant_known Linear x = refl

-- a type that is uniform already
single_self : (t : Ty) → t.rate ≡ Uniform → t ≡ single t
single_self t e = ap (λ r. ty_of r t.elem) e

-- ---- rates

type_alone : (t : Ty) → t ≡ ty_of Uniform t.elem → t.rate ≡ Uniform
type_alone t e = ap (λ z. z.rate) e

module _ (known : ℕ → Known) where
  steady_type : (x : TExpr) → steady known x ≡ true → type_of (alone x) ≡ single (type_of x)
  steady_type (t_constant v sp) e = refl
  steady_type (t_program_index sp) e = absurd (cc)
  steady_type (t_place (t_variable v t sp)) e = refl
  steady_type (t_place (t_element b i t sp)) e = refl
  steady_type (t_convert f x) e = ap (λ t. ty_of t.rate f) (steady_type x e)
  steady_type (t_cast x t sp) e = refl
  steady_type (t_unary op x t sp) e = refl
  steady_type (t_binary op x y t sp) e = refl
  steady_type (t_compare c x y r sp) e = refl
  steady_type (t_logic l x y r sp) e = refl
  steady_type (t_choose c x y t sp) e = refl
  steady_type (t_call c t) e = absurd (cc)
  steady_type (t_library f t xs ty sp) e = refl
  steady_type (t_packed_store b x sp) e = absurd (cc)
  steady_type (t_packed_load b v sp) e = absurd (cc)

  linear_type : (x : TExpr) → linear known x ≡ true → type_of (alone x) ≡ single (type_of x)
  linear_type (t_program_index sp) e = refl
  linear_type (t_place (t_variable v t sp)) e = refl
  linear_type (t_place (t_element b i t sp)) e = refl
  linear_type (t_convert f x) e = ap (λ t. ty_of t.rate f) (linear_type x (both _ _ e).0)
  linear_type (t_cast x t sp) e = refl
  linear_type (t_binary op x y t sp) e = refl
  linear_type (t_constant v sp) e = absurd (cc)
  linear_type (t_unary op x t sp) e = absurd (cc)
  linear_type (t_compare c x y r sp) e = absurd (cc)
  linear_type (t_logic l x y r sp) e = absurd (cc)
  linear_type (t_choose c x y t sp) e = absurd (cc)
  linear_type (t_call c t) e = absurd (cc)
  linear_type (t_library f t xs ty sp) e = absurd (cc)
  linear_type (t_packed_store b x sp) e = absurd (cc)
  linear_type (t_packed_load b v sp) e = absurd (cc)

  pub steady_rate : (x : TExpr) → steady known x ≡ true → rate_of (alone x) ≡ Uniform
  steady_rate x e = ap (λ t. t.rate) (steady_type x e)

  pub linear_rate : (x : TExpr) → linear known x ≡ true → rate_of (alone x) ≡ Uniform
  linear_rate x e = ap (λ t. t.rate) (linear_type x e)

  all_rates : (xs : TExprs) → all_steady known xs ≡ true → rates_of (all_alone xs) ≡ Uniform
  all_rates t_no_exprs e = refl
  all_rates (t_expr_then x xs) e = let k = both _ _ e in ap₂ rate_or (steady_rate x k.0) (all_rates xs k.1)

-- conversions at the head
same_heads : (x : TExpr) → heads (alone x) ≡ heads x
same_heads (t_constant v sp) = refl
same_heads (t_program_index sp) = refl
same_heads (t_place q) = refl
same_heads (t_convert e x) = ap (λ n. 1 + n) (same_heads x)
same_heads (t_cast x t sp) = refl
same_heads (t_unary op x t sp) = refl
same_heads (t_binary op x y t sp) = refl
same_heads (t_compare c x y r sp) = refl
same_heads (t_logic l x y r sp) = refl
same_heads (t_choose c x y t sp) = refl
same_heads (t_call c t) = refl
same_heads (t_library f e xs t sp) = refl
same_heads (t_packed_store b x sp) = refl
same_heads (t_packed_load b v sp) = refl

-- what a function that each instance does by itself gives
library_single : (f : Library) (e : Elem) (r q : Rate) → by_itself f ≡ true → q ≡ Uniform → single (library_type f e r) ≡ library_type f e q
library_single library.Min e r q h i = ap (λ z. ty_of z e) (sym i)
library_single library.Max e r q h i = ap (λ z. ty_of z e) (sym i)
library_single library.Clamp e r q h i = ap (λ z. ty_of z e) (sym i)
library_single library.Abs e r q h i = ap (λ z. ty_of z e) (sym i)
library_single library.Select e r q h i = ap (λ z. ty_of z e) (sym i)
library_single library.ReduceAdd e r q h i = absurd (cc)
library_single library.ReduceMin e r q h i = absurd (cc)
library_single library.ReduceMax e r q h i = absurd (cc)
library_single library.ReduceEqual e r q h i = absurd (cc)
library_single library.Any e r q h i = absurd (cc)
library_single library.All e r q h i = absurd (cc)
library_single library.None e r q h i = absurd (cc)
library_single library.ScanAdd e r q h i = absurd (cc)
library_single library.ScanAnd e r q h i = absurd (cc)
library_single library.ScanOr e r q h i = absurd (cc)
library_single library.Broadcast e r q h i = absurd (cc)
library_single library.Rotate e r q h i = absurd (cc)
library_single library.Shift e r q h i = absurd (cc)
library_single library.Shuffle e r q h i = absurd (cc)
library_single library.ShuffleTwo e r q h i = absurd (cc)
library_single library.Extract e r q h i = absurd (cc)
library_single library.Insert e r q h i = absurd (cc)

-- ---- expressions

module _ (fs : List TFunction) (vars : List Variable) (known : ℕ → Known) where
  abbrev Fine : TExpr → Type 0
  Fine x = FineExpr fs (singled known vars) (alone x)

  pub array_fine : (b : ArrayVariable) → HoldsArray vars b → HoldsArray (singled known vars) b
  array_fine b h =
      record {
        variable = as_known (known b.number) h.variable;
        is = singled_at known vars b.number h.variable h.is;
        ty = array_known (known b.number) h.variable b.ty h.ty;
        constant = h.constant ∙ sym (constant_known (known b.number) h.variable);
      }

  value_fine : (v : ℕ) (t : Ty) (k : Known) → known v ≡ k → (steady_read t.rate k || linear_read t.rate k) ≡ true → HoldsValue vars v t → HoldsValue (singled known vars) v (single t)
  value_fine v t k e read h = record { constant = h.constant; is = singled_at known vars v _ h.is ∙ ap (λ z. Some (as_known z (record { holds = holds.Value t; constant = h.constant }))) e ∙ by t.rate refl k read }
    where
      by : (r : Rate) → t.rate ≡ r → (z : Known) → (steady_read r z || linear_read r z) ≡ true
          → Some (as_known z (record { holds = holds.Value t; constant = h.constant })) ≡ Some (record { holds = holds.Value (single t); constant = h.constant })
      by Uniform is Unknown i = ap (λ u. Some (record { holds = holds.Value u; constant = h.constant })) (single_self t is)
      by Uniform is Steady i = refl
      by Uniform is Linear i = refl
      by Varying is Unknown i = absurd (cc)
      by Varying is Steady i = refl
      by Varying is Linear i = refl

  -- the rate of the two operands
  two_rates : (r q : Rate) → r ≡ Uniform → q ≡ Uniform → Uniform ≡ rate_or r q
  two_rates r q e i = sym (ap₂ rate_or e i)

  operands_fine : (x y : TExpr) (e : Elem) (r : Rate) → AreOperands x y e r → rate_of (alone x) ≡ Uniform → rate_of (alone y) ≡ Uniform → AreOperands (alone x) (alone y) e Uniform
  operands_fine x y e r h i j = record { left = alone_elem x ∙ h.left; right = alone_elem y ∙ h.right; rate = two_rates (rate_of (alone x)) (rate_of (alone y)) i j }

  shared_rate : (r q : Rate) → is_shared r ≡ true → q ≡ Uniform → Uniform ≡ rate_or r q
  shared_rate Uniform q h e = sym e
  shared_rate Varying q h e = absurd (cc)

  or_left : (b c : Bool) → b ≡ true → (b || c) ≡ true
  or_left true c e = refl
  or_left false c e = absurd (cc)

  or_right : (b c : Bool) → c ≡ true → (b || c) ≡ true
  or_right true c e = refl
  or_right false c e = e

  binary_fine : (op : BinOp) (x y : TExpr) (t : Ty) (sp : Span) → FineExpr fs vars (t_binary op x y t sp) → Fine x → Fine y → rate_of (alone x) ≡ Uniform → rate_of (alone y) ≡ Uniform
      → Fine (t_binary op x y t sp)
  binary_fine op x y t sp f h k i j = (h, k, operands_fine x y t.elem t.rate f.2 i j, f.3, f.4)

  mutual
    steady_fine : (x : TExpr) → steady known x ≡ true → FineExpr fs vars x → Fine x
    steady_fine (t_constant v sp) e f = f
    steady_fine (t_program_index sp) e f = absurd (cc)
    steady_fine (t_place q) e f = place_fine q e f
    steady_fine (t_convert g x) e f = (steady_fine x e f.0, same_heads x ∙ f.1)
    steady_fine (t_cast x t sp) e f = (steady_fine x e f.0, alone_elem x ∙ f.1)
    steady_fine (t_unary op x t sp) e f = (steady_fine x e f.0, steady_type known x e ∙ ap single f.1, f.2)
    steady_fine (t_binary op x y t sp) e f =
        let k = both _ _ e in
        binary_fine op x y t sp f (steady_fine x k.0 f.0) (steady_fine y k.1 f.1) (steady_rate known x k.0) (steady_rate known y k.1)
    steady_fine (t_compare c x y r sp) e f =
        let k = both _ _ e in
        let h = operands_fine x y (elem_of x) r f.2 (steady_rate known x k.0) (steady_rate known y k.1) in
        (steady_fine x k.0 f.0, steady_fine y k.1 f.1, record { left = refl; right = h.right ∙ sym (alone_elem x); rate = h.rate })
    steady_fine (t_logic l x y r sp) e f =
        let k = both _ _ e in
        (steady_fine x k.0 f.0, steady_fine y k.1 f.1, operands_fine x y _ r f.2 (steady_rate known x k.0) (steady_rate known y k.1))
    steady_fine (t_choose c x y t sp) e f =
        let k = both _ _ e in
        let j = both _ _ k.1 in (
          steady_fine c k.0 f.0,
          steady_fine x j.0 f.1,
          steady_fine y j.1 f.2,
          alone_elem c ∙ f.3,
          alone_elem x ∙ f.4,
          alone_elem y ∙ f.5,
          two_rates (rate_of (alone c)) _ (steady_rate known c k.0) (sym (two_rates (rate_of (alone x)) (rate_of (alone y)) (steady_rate known x j.0) (steady_rate known y j.1))),
        )
    steady_fine (t_call c t) e f = absurd (cc)
    steady_fine (t_library g t xs ty sp) e f =
        let k = both _ _ e in
        (parts_fine t (parts g) xs k.1 f.0, f.1, ap single f.2 ∙ library_single g t (rates_of xs) (rates_of (all_alone xs)) k.0 (all_rates known xs k.1))
    steady_fine (t_packed_store b x sp) e f = absurd (cc)
    steady_fine (t_packed_load b v sp) e f = absurd (cc)

    place_fine : (q : TPlace) → steady_place known q ≡ true → FinePlace fs vars q → FinePlace fs (singled known vars) (alone_place q)
    place_fine (t_variable v t sp) e f = value_fine v t (known v) refl (or_left (steady_read t.rate (known v)) (linear_read t.rate (known v)) e) f
    place_fine (t_element b i t sp) e f =
        let k = both _ _ e in
        (array_fine b f.0, steady_fine i k.1 f.1, ap₂ ty_of (shared_rate b.ty.rate (rate_of (alone i)) k.0 (steady_rate known i k.1)) (ap (λ z. z.elem) f.2), f.3)

    parts_fine : (e : Elem) (ps : List Part) (xs : TExprs) → all_steady known xs ≡ true → FineParts fs vars e ps xs → FineParts fs (singled known vars) e ps (all_alone xs)
    parts_fine e [] t_no_exprs h f = tt
    parts_fine e [] (t_expr_then x xs) h f = absurd f
    parts_fine e (p ∷ ps) t_no_exprs h f = absurd f
    parts_fine e (p ∷ ps) (t_expr_then x xs) h f = let k = both _ _ h in (steady_fine x k.0 f.0, alone_elem x ∙ f.1, parts_fine e ps xs k.1 f.2)

  mutual
    linear_fine : (x : TExpr) → linear known x ≡ true → FineExpr fs vars x → Fine x
    linear_fine (t_program_index sp) e f = omega arith
    linear_fine (t_place q) e f = linear_place_fine q e f
    linear_fine (t_convert g x) e f = (linear_fine x (both _ _ e).0 f.0, same_heads x ∙ f.1)
    linear_fine (t_cast x t sp) e f = (linear_fine x e f.0, alone_elem x ∙ f.1)
    linear_fine (t_binary op x y t sp) e f =
        ⊎_elim (λ k. binary_fine op x y t sp f (linear_fine x k.0 f.0) (steady_fine y k.1 f.1) (linear_rate known x k.0) (steady_rate known y k.1))
        (λ k. binary_fine op x y t sp f (steady_fine x k.0 f.0) (linear_fine y k.1 f.1) (steady_rate known x k.0) (linear_rate known y k.1))
        (one_of op (linear known x) (steady known x) (linear known y) (steady known y) e)
    linear_fine (t_constant v sp) e f = absurd (cc)
    linear_fine (t_unary op x t sp) e f = absurd (cc)
    linear_fine (t_compare c x y r sp) e f = absurd (cc)
    linear_fine (t_logic l x y r sp) e f = absurd (cc)
    linear_fine (t_choose c x y t sp) e f = absurd (cc)
    linear_fine (t_call c t) e f = absurd (cc)
    linear_fine (t_library g t xs ty sp) e f = absurd (cc)
    linear_fine (t_packed_store b x sp) e f = absurd (cc)
    linear_fine (t_packed_load b v sp) e f = absurd (cc)

    linear_place_fine : (q : TPlace) → linear_place known q ≡ true → FinePlace fs vars q → FinePlace fs (singled known vars) (alone_place q)
    linear_place_fine (t_variable v t sp) e f = value_fine v t (known v) refl (or_right (steady_read t.rate (known v)) (linear_read t.rate (known v)) e) f
    linear_place_fine (t_element b i t sp) e f = absurd (cc)

pub scalars_are_fine : ScalarsAreFine
scalars_are_fine fs vars known x f e = by (steady known x) refl e
  where
    by : (b : Bool) → steady known x ≡ b → (b || linear known x) ≡ true → FineExpr fs (singled known vars) (alone x) × (type_of (alone x) ≡ single (type_of x))
    by true h k = (steady_fine fs vars known x h f, steady_type known x h)
    by false h k = (linear_fine fs vars known x k f, linear_type known x k)
