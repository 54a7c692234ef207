-- The registers of a function's arrays are there, with the types of its variables; and what a body asks for is then there
-- for the verifier, and is what the laws ask of the table.
use Rattle.std.proofs.Common.{◌≡◌, ℕ, zero, suc, ◌+◌, ◌-◌, List, [], ◌∷◌, ◌++◌, length, map, take, Option, Some, None, true, false, refl, sym, ap, ◌∙◌, subst, arith}
use Rattle.std.specs.Prelude.{slice_get, ◌&&◌}
use Rattle.std.proofs.lemmas.Bool.{lt-leb, le-leb}
use Rattle.std.proofs.lemmas.Option.{same_Some, get_or_from_slice_get, slice_get_within, slice_get-map}
use Rattle.isp_base.specs.declared.signature.Parameter.{Parameter}
use Rattle.isp_base.specs.declared.types.Elem.{Elem}
use Rattle.isp_base.specs.declared.types.Elem.TheVariants.{Bool as Truth}
use Rattle.isp_base.specs.declared.types.Rate.{Rate}
use Rattle.isp_base.specs.declared.types.Rate.TheVariants.{Uniform, Varying}
use Rattle.isp_code.specs.Entries.{is_array, parameter_of, parameters_of}
use Rattle.isp_code.specs.Fine.{IsThere}
use Rattle.isp_code.specs.Listing.{Routine}
use Rattle.isp_code.specs.Registers.{class_of, same_class, if_class, param_elems, local_elem, arrays_of, passed, elem_of, is_per_instance, is_own, is_per_lane, is_local}
use Rattle.isp_code.specs.declared.function.Local.{Local}
use Rattle.isp_code.specs.declared.function.Param.{Param}
use Rattle.isp_code.specs.declared.function.ParamKind.{ParamKind}
use Rattle.isp_code.specs.declared.function.ParamKind.TheVariants as kind
use Rattle.isp_code.specs.declared.register.Class.TheVariants as class
use Rattle.isp_typed.specs.Fine.{array_type, HoldsArray, IsParam, AreParams, params_of, FineFunction}
use Rattle.isp_typed.specs.Typed.{ty_of, TFunction}
use Rattle.isp_typed.specs.declared.variable.ArrayVariable.{ArrayVariable}
use Rattle.isp_typed.specs.declared.variable.Holds.{Holds}
use Rattle.isp_typed.specs.declared.variable.Holds.TheVariants as holds
use Rattle.isp_typed.specs.declared.variable.Variable.{Variable}
use Rattle.isp_lower_code.specs.Layout.{Layout, array_register}
use Rattle.isp_lower_code.specs.Sound.{IsShared, HasMask, HasRegister, HasArray, HasLocal, Granted}
use Rattle.isp_lower_code.specs.Tables.{AnyMask, AnyArray, IsLoadedIn, IsNamedIn, Table}
use Rattle.isp_lower_code.specs.Header.{sharing_of, local_of}
use Rattle.isp_masks_code.specs.Arrays.{array_then, array_count, local_count, ArraysStand, HoldsLocal}
use Rattle.isp_masks_code.proofs.Arrays.{local_at}
use Rattle.isp_masks_code.proofs.Own.{block_own}
use Rattle.isp_masks_code.specs.Asks.{block_asks}
use Rattle.isp_lower_code.proofs.Lemmas.{all_grow, all_held}
use Rattle.isp_lower_code.specs.Asks.{All}

-- ---- lists

front_at : {A : Type 0} (xs ys : List A) (n : ℕ) (x : A) → slice_get xs n ≡ Some x → slice_get (xs ++ ys) n ≡ Some x
front_at [] ys n x e = absurd (cc)
front_at (y ∷ xs) ys zero x e = e
front_at (y ∷ xs) ys (suc n) x e = front_at xs ys n x e

back_at : {A : Type 0} (xs ys : List A) (n : ℕ) (x : A) → slice_get ys n ≡ Some x → slice_get (xs ++ ys) (length xs + n) ≡ Some x
back_at [] ys n x e = let same : n ≡ 0 + n = omega arith in subst (λ m. slice_get ys m ≡ Some x) same e
back_at (y ∷ xs) ys n x e =
    let same : suc (length xs + n) ≡ length (y ∷ xs) + n = omega arith in
    subst (λ m. slice_get (y ∷ (xs ++ ys)) m ≡ Some x) same (back_at xs ys n x e)

taken_at : {A : Type 0} (xs : List A) (k n : ℕ) (x : A) → slice_get (take k xs) n ≡ Some x → slice_get xs n ≡ Some x
taken_at [] zero n x e = absurd (cc)
taken_at [] (suc k) n x e = absurd (cc)
taken_at (y ∷ xs) zero n x e = absurd (cc)
taken_at (y ∷ xs) (suc k) zero x e = e
taken_at (y ∷ xs) (suc k) (suc n) x e = taken_at xs k n x e

-- ---- arrays that are passed

elems_at : (ps : List Param) (v : ℕ) (p : Parameter) → slice_get (map parameter_of ps) v ≡ Some p → p.is_array ≡ true → slice_get (param_elems class.Array ps) (array_count (take v (map parameter_of ps))) ≡ Some p.elem
elems_at [] v p e k = absurd (cc)
elems_at (q ∷ ps) zero p e k = go q.kind (ap (λ z. z.is_array) (same_Some (parameter_of q) p e) ∙ k) ∙ ap (λ z. Some z.elem) (same_Some (parameter_of q) p e)
  where
    go : (m : ParamKind) → is_array m ≡ true → slice_get (if_class (same_class (class_of m) class.Array) q.elem (param_elems class.Array ps)) 0 ≡ Some q.elem
    go kind.Scalar is = absurd (cc)
    go kind.Vector is = absurd (cc)
    go kind.Array is = refl
elems_at (q ∷ ps) (suc v) p e k = go q.kind (elems_at ps v p e k)
  where
    go : (m : ParamKind) → slice_get (param_elems class.Array ps) (array_count (take v (map parameter_of ps))) ≡ Some p.elem
        → slice_get (if_class (same_class (class_of m) class.Array) q.elem (param_elems class.Array ps))
        (array_then (is_array m) (array_count (take v (map parameter_of ps)))) ≡ Some p.elem
    go kind.Scalar ih = ih
    go kind.Vector ih = ih
    go kind.Array ih = ih

-- a parameter is the variable of its number
param_is : (ps : List Parameter) (vs : List Variable) (v : ℕ) (p : Parameter) → AreParams ps vs → slice_get ps v ≡ Some p → (x : Variable) × (slice_get vs v ≡ Some x) × IsParam p x.holds
param_is [] vs v p are e = absurd (cc)
param_is (q ∷ ps) [] v p are e = absurd are
param_is (q ∷ ps) (y ∷ vs) zero p are e = (y, refl, subst (λ z. IsParam z y.holds) (same_Some q p e) are.0)
param_is (q ∷ ps) (y ∷ vs) (suc v) p are e = param_is ps vs v p are.1 e

module _ (h : TFunction) (g : Routine) (l : Layout) (stand : ArraysStand h g l) (made : parameters_of g ≡ h.parameters) (are : AreParams h.parameters (params_of h)) where
  -- an array whose type stands at its number is there
  typed_there : (a : ℕ) (t : Elem) → slice_get (arrays_of g) a ≡ Some t → IsThere g class.Array (array_register a) × (elem_of g (array_register a) ≡ t)
  typed_there a t at = ((refl, slice_get_within (arrays_of g) a t at), get_or_from_slice_get (arrays_of g) a t Truth at)

  given_there : (b : ArrayVariable) (x : Variable) (e : Elem) → slice_get h.variables b.number ≡ Some x → x.holds ≡ holds.Given e → b.ty ≡ ty_of Uniform e → HasArray g l b
  given_there b x e ex k ty = (there.0, there.1 ∙ sym (ap (λ z. z.elem) ty), shared)
    where
      p : Parameter
      p = (stand.given b.number x e ex k).0

      n : ℕ
      n = array_count (take b.number h.parameters)

      found : slice_get h.parameters b.number ≡ Some p
      found = (stand.given b.number x e ex k).1

      number_is : l.array b.number ≡ n
      number_is = (stand.given b.number x e ex k).3

      -- the parameter has the type of the variable
      elem_is : p.elem ≡ e
      elem_is =
          let q = param_is h.parameters (params_of h) b.number p are found in
          let same : q.0 ≡ x = same_Some q.0 x (sym (taken_at h.variables _ b.number q.0 q.1) ∙ ex) in
          let is : IsParam p (holds.Given e) = subst (IsParam p) (ap (λ z. z.holds) same ∙ k) q.2 in
          is.1

      at : slice_get (param_elems class.Array g.params) n ≡ Some e
      at =
          ap (λ ps. slice_get (param_elems class.Array g.params) (array_count (take b.number ps))) (sym made)
          ∙ elems_at g.params b.number p (ap (λ ps. slice_get ps b.number) made ∙ found) (stand.given b.number x e ex k).2
          ∙ ap Some elem_is

      there : IsThere g class.Array (array_register (l.array b.number)) × (elem_of g (array_register (l.array b.number)) ≡ e)
      there = subst (λ a. IsThere g class.Array (array_register a) × (elem_of g (array_register a) ≡ e)) (sym number_is) (typed_there n e (front_at (param_elems class.Array g.params) (map local_elem g.locals) n e at))

      per_lane : is_per_lane g (array_register (l.array b.number)) ≡ false
      per_lane =
          let low = slice_get_within (param_elems class.Array g.params) n e at in
          ap (λ z. z && is_own (slice_get g.locals (l.array b.number - passed g))) (lt-leb (passed g) (l.array b.number) (omega (arith, number_is, low)))

      shared : IsShared g b.ty.rate (l.array b.number)
      shared = subst (λ z. IsShared g z (l.array b.number)) (sym (ap (λ z. z.rate) ty)) per_lane

  local_there : (b : ArrayVariable) (x : Variable) (n : ℕ) → slice_get h.variables b.number ≡ Some x → x.holds ≡ holds.Local b.ty n → HasLocal g l b
  local_there b x n ex k = ((there.0, there.1, shared b.ty.rate refl), local)
    where
      j : ℕ
      j = local_count (take b.number h.variables)

      number_is : l.array b.number ≡ passed g + j
      number_is = (stand.local b.number x b.ty n ex k).1

      own : slice_get g.locals j ≡ Some (local_of b.ty n)
      own = ap (λ z. slice_get z j) stand.locals_are ∙ local_at h.variables b.number x b.ty n ex k

      there : IsThere g class.Array (array_register (l.array b.number)) × (elem_of g (array_register (l.array b.number)) ≡ b.ty.elem)
      there =
          subst (λ a. IsThere g class.Array (array_register a) × (elem_of g (array_register a) ≡ b.ty.elem)) (sym number_is)
          (typed_there (passed g + j) b.ty.elem (back_at (param_elems class.Array g.params) (map local_elem g.locals) j b.ty.elem
          (slice_get-map local_elem g.locals j ∙ ap (λ o. type_in o) own)))
        where
          type_in : Option Local → Option Elem
          type_in None = None
          type_in (Some z) = Some z.elem

      local : is_local g (array_register (l.array b.number)) ≡ true
      local = le-leb (passed g) (l.array b.number) (omega (arith, number_is))

      per_lane : is_per_lane g (array_register (l.array b.number)) ≡ is_per_instance (sharing_of b.ty.rate)
      per_lane =
          let at : l.array b.number - passed g ≡ j = omega (arith, number_is) in
          ap (λ z. z && is_own (slice_get g.locals (l.array b.number - passed g))) local ∙ ap is_own (ap (slice_get g.locals) at ∙ own)

      shared : (r : Rate) → b.ty.rate ≡ r → IsShared g r (l.array b.number)
      shared Uniform er = per_lane ∙ ap (λ z. is_per_instance (sharing_of z)) er
      shared Varying er = tt

  arrays_there : (b : ArrayVariable) → HoldsArray h.variables b → HasArray g l b
  arrays_there b has = go has.variable.holds refl
    where
      go : (y : Holds) → has.variable.holds ≡ y → HasArray g l b
      go (holds.Value t) e = let no : None ≡ Some b.ty = ap array_type (sym e) ∙ has.ty in absurd (cc)
      go (holds.Given t) e = given_there b has.variable t has.is e (sym (same_Some (ty_of Uniform t) b.ty (ap array_type (sym e) ∙ has.ty)))
      go (holds.Local t n) e =
          let same : t ≡ b.ty = same_Some t b.ty (ap array_type (sym e) ∙ has.ty) in
          (local_there b has.variable n has.is (e ∙ ap (λ z. holds.Local z n) same)).0

  locals_there : (b : ArrayVariable) → HoldsLocal h.variables b → HasLocal g l b
  locals_there b has = local_there b (record { holds = holds.Local b.ty has.0; constant = b.constant }) has.0 has.1 refl

  locals_held : (b : ArrayVariable) → HoldsLocal h.variables b → HoldsArray h.variables b
  locals_held b has = record { variable = record { holds = holds.Local b.ty has.0; constant = b.constant }; is = has.1; ty = refl; constant = refl }

  -- what is there of arrays that are variables
  abbrev Held : ℕ → Type 0
  Held n = All (HasRegister g l) (HoldsArray h.variables) (HoldsLocal h.variables) (HasMask g) (IsLoadedIn l) (block_asks h.answer h.body n)

  present_of : (n : ℕ) → Held n → Granted g l (block_asks h.answer h.body n)
  present_of n f =
      all_grow (HasRegister g l) (HasRegister g l) (HoldsArray h.variables) (HasArray g l) (HoldsLocal h.variables) (HasLocal g l) (HasMask g)
      (HasMask g) (IsLoadedIn l) (IsLoadedIn l) (λ r x t z. z) arrays_there locals_there (λ m z. z) (λ v z. z) (block_asks h.answer h.body n) f

  table_of : (n : ℕ) → Held n → Table g l h.variables (block_asks h.answer h.body n)
  table_of n f =
      all_grow (HasRegister g l) (IsNamedIn g l) (HoldsArray h.variables) (HoldsArray h.variables) (HoldsLocal h.variables) (HoldsArray h.variables)
      (HasMask g) AnyMask (IsLoadedIn l) (IsLoadedIn l) (λ r x t z. z.1) (λ b z. z) locals_held (λ m z. tt) (λ v z. z)
      (block_asks h.answer h.body n) f

-- What a body of an accepted program asks for is there for the verifier, and the table is as the laws ask, where its
-- registers and masks are there: its arrays are variables of the function.
pub record BodyPresent (h : TFunction) (g : Routine) (l : Layout) (n : ℕ) : Type 0 where
  pub present : Granted g l (block_asks h.answer h.body n)
  pub named : Table g l h.variables (block_asks h.answer h.body n)

pub body_present : (fs : List TFunction) (h : TFunction) (g : Routine) (l : Layout) → FineFunction fs h → ArraysStand h g l
    → parameters_of g ≡ h.parameters → (n : ℕ) → All (HasRegister g l) AnyArray AnyArray (HasMask g) (IsLoadedIn l) (block_asks h.answer h.body n)
    → BodyPresent h g l n
body_present fs h g l fine stand made n f =
    let held = all_held h.variables h.answer (HasRegister g l) (HasMask g) (IsLoadedIn l) (block_asks h.answer h.body n) (block_own fs h.variables h.answer h.body n fine.body) f in
    record { present = present_of h g l stand made fine.params n held; named = table_of h g l stand made fine.params n held }
