-- Where a run begins: what is passed stands where the layout says.
use Rattle.std.proofs.Common.{◌≡◌, ℕ, zero, suc, List, [], ◌∷◌, length, take, Some, None, Bool, true, false, refl, sym, ap, ◌∙◌, subst, arith}
use Rattle.std.proofs.lemmas.Option.{same_Some}
use Rattle.std.specs.Prelude.{if◌then◌else◌, slice_get, slice_index, not}
use Rattle.std.proofs.lemmas.List.{get_or_past}
use Rattle.isp_base.specs.Binding.{is_for, has_signature}
use Rattle.isp_base.specs.Sets.{everyone, nobody}
use Rattle.isp_base.specs.Types.{gang_width}
use Rattle.isp_base.specs.declared.signature.Argument.{Argument}
use Rattle.isp_base.specs.declared.signature.Argument.TheVariants.{Value as AValue, Array as AnArray}
use Rattle.isp_base.specs.declared.signature.Parameter.{Parameter}
use Rattle.isp_base.specs.declared.types.Rate.{Rate}
use Rattle.isp_base.specs.declared.types.Rate.TheVariants.{Uniform, Varying}
use Rattle.isp_code.specs.Listing.{Listing, Routine}
use Rattle.isp_code.specs.Machine.{values, first_conf}
use Rattle.isp_typed.specs.Fine.{IsParam, AreParams, params_of}
use Rattle.isp_typed.specs.Typed.{Program, TFunction}
use Rattle.isp_typed.specs.declared.variable.Holds.{Holds}
use Rattle.isp_typed.specs.declared.variable.Holds.TheVariants as holds
use Rattle.isp_typed.specs.declared.variable.Variable.{Variable}
use Rattle.isp_meaning.specs.Calls.{is_value, same_rate, one_passed}
use Rattle.isp_meaning.specs.Runs.{handed}
use Rattle.isp_lower_code.specs.Layout.{KnowsNothing, Layout}
use Rattle.isp_masks_code.specs.Compiled.{entry_state, entry_setting, AreOne, IsOne}
use Rattle.isp_masks_code.specs.Passing.{count_if, count_value, value_count, HasRate, PassedFirst, Passes}
use Rattle.isp_masks_code.proofs.ConstantsRun.{Bare}
use Rattle.isp_masks_code.proofs.Passing.{same_true, ones_begin, each_begin}
use Rattle.isp_masks_code.proofs.Unions.{both_so}
use Rattle.isp_lower_code.proofs.Lemmas.{none_holds, unknown_holds}

pub not_so : (a : Bool) → not a ≡ true → a ≡ false
not_so true e = absurd (cc)
not_so false e = refl

-- ---- the arguments of a run have a signature

pub handed_none : (ps : List Parameter) (xs : List Argument) (b v : ℕ) → has_signature ps xs ≡ true → slice_get ps v ≡ None → slice_get (handed b xs) v ≡ None
handed_none [] [] b v e n = refl
handed_none [] (x ∷ xs) b v e n = absurd (cc)
handed_none (p ∷ ps) [] b v e n = absurd (cc)
handed_none (p ∷ ps) (x ∷ xs) b zero e n = absurd (cc)
handed_none (p ∷ ps) (AValue y ∷ xs) b (suc v) e n = handed_none ps xs b v (both_so (is_for p (AValue y)) (has_signature ps xs) e).1 n
handed_none (p ∷ ps) (AnArray y ∷ xs) b (suc v) e n = handed_none ps xs (suc b) v (both_so (is_for p (AnArray y)) (has_signature ps xs) e).1 n

value_for : (p : Parameter) (ps : List Parameter) (y : _) (xs : List Argument) → has_signature (p ∷ ps) (AValue y ∷ xs) ≡ true → (p.is_array ≡ false) × (has_signature ps xs ≡ true)
value_for p ps y xs e =
    let h = both_so (is_for p (AValue y)) (has_signature ps xs) e in
    (not_so p.is_array (both_so (not p.is_array) _ h.0).0, h.1)

array_for : (p : Parameter) (ps : List Parameter) (y : _) (xs : List Argument) → has_signature (p ∷ ps) (AnArray y ∷ xs) ≡ true → (p.is_array ≡ true) × (has_signature ps xs ≡ true)
array_for p ps y xs e =
    let h = both_so (is_for p (AnArray y)) (has_signature ps xs) e in
    ((both_so p.is_array _ h.0).0, h.1)

-- ---- what the parameters of a run hold

-- a parameter that holds a value of a rate is no array
value_param : (r : Rate) (p : Parameter) (y : Holds) → IsParam p y → HasRate r y → p.is_array ≡ true → ⊥
value_param r p (holds.Value t) is has e = let no : false ≡ true = sym is.0 ∙ e in cc
value_param r p (holds.Given t) is has e = has
value_param r p (holds.Local t n) is has e = has

value_counts : (p : Parameter) (y : Holds) (n : ℕ) → IsParam p y → IsOne y → p.is_array ≡ false → count_value Uniform y n ≡ suc n
value_counts p (holds.Value t) n is one e = ap (λ z. count_if z n) (same_true Uniform t.rate one)
value_counts p (holds.Given t) n is one e = let no : true ≡ false = sym is.0 ∙ e in absurd (cc)
value_counts p (holds.Local t m) n is one e = absurd is

array_counts : (p : Parameter) (y : Holds) (n : ℕ) → IsParam p y → p.is_array ≡ true → count_value Uniform y n ≡ n
array_counts p (holds.Value t) n is e = let no : false ≡ true = sym is.0 ∙ e in absurd (cc)
array_counts p (holds.Given t) n is e = refl
array_counts p (holds.Local t m) n is e = absurd is

one_holds : (y : Holds) (z : ℕ) → HasRate Uniform y → (if is_value Uniform y then z else 0) ≡ z
one_holds (holds.Value t) z has = ap (λ r. if same_rate Uniform r then z else 0) has
one_holds (holds.Given t) z has = absurd has
one_holds (holds.Local t n) z has = absurd has

none_varying : (y : Holds) → IsOne y → HasRate Varying y → ⊥
none_varying (holds.Value t) one has = let no : Uniform ≡ Varying = sym one ∙ has in cc
none_varying (holds.Given t) one has = has
none_varying (holds.Local t n) one has = has

one_of : (vs : List Variable) (v : ℕ) (x : Variable) → AreOne vs → slice_get vs v ≡ Some x → IsOne x.holds
one_of [] v x one e = absurd (cc)
one_of (w ∷ vs) zero x one e = subst (λ (z : Variable). IsOne z.holds) (same_Some w x e) one.0
one_of (w ∷ vs) (suc v) x one e = one_of vs v x one.1 e

none_param : (ps : List Parameter) (vs : List Variable) (v : ℕ) → AreParams ps vs → slice_get vs v ≡ None → slice_get ps v ≡ None
none_param [] vs v are e = refl
none_param (p ∷ ps) [] v are e = absurd are
none_param (p ∷ ps) (w ∷ vs) zero are e = absurd (cc)
none_param (p ∷ ps) (w ∷ vs) (suc v) are e = none_param ps vs v are.1 e

-- ---- the values of a run, by their numbers

values_counted : (ps : List Parameter) (vs : List Variable) (xs : List Argument) → AreParams ps vs → AreOne vs → has_signature ps xs ≡ true → length (values xs) ≡ value_count Uniform vs
values_counted [] [] [] are one e = refl
values_counted [] [] (x ∷ xs) are one e = absurd (cc)
values_counted [] (w ∷ vs) xs are one e = absurd are
values_counted (p ∷ ps) [] xs are one e = absurd are
values_counted (p ∷ ps) (w ∷ vs) [] are one e = absurd (cc)
values_counted (p ∷ ps) (w ∷ vs) (AValue y ∷ xs) are one e =
    let h = value_for p ps y xs e in
    ap suc (values_counted ps vs xs are.1 one.1 h.1) ∙ sym (value_counts p w.holds (value_count Uniform vs) are.0 one.0 h.0)
values_counted (p ∷ ps) (w ∷ vs) (AnArray y ∷ xs) are one e =
    let h = array_for p ps y xs e in
    values_counted ps vs xs are.1 one.1 h.1 ∙ sym (array_counts p w.holds (value_count Uniform vs) are.0 h.0)

value_handed : (ps : List Parameter) (vs : List Variable) (xs : List Argument) (b v : ℕ) (x : Variable) → AreParams ps vs → AreOne vs
    → has_signature ps xs ≡ true → slice_get vs v ≡ Some x → HasRate Uniform x.holds
    → slice_index (values xs) (value_count Uniform (take v vs)) ≡ one_passed (Some x) (slice_get (handed b xs) v)
value_handed [] [] xs b v x are one e at has = absurd (cc)
value_handed [] (w ∷ vs) xs b v x are one e at has = absurd are
value_handed (p ∷ ps) [] xs b v x are one e at has = absurd are
value_handed (p ∷ ps) (w ∷ vs) [] b v x are one e at has = absurd (cc)
value_handed (p ∷ ps) (w ∷ vs) (AValue y ∷ xs) b zero x are one e at has = sym (one_holds x.holds _ has)
value_handed (p ∷ ps) (w ∷ vs) (AnArray y ∷ xs) b zero x are one e at has =
    absurd (value_param Uniform p x.holds (subst (λ (z : Variable). IsParam p z.holds) (same_Some w x at) are.0) has (array_for p ps y xs e).0)
value_handed (p ∷ ps) (w ∷ vs) (AValue y ∷ xs) b (suc v) x are one e at has =
    let h = value_for p ps y xs e in
    ap (slice_index (values (AValue y ∷ xs))) (value_counts p w.holds (value_count Uniform (take v vs)) are.0 one.0 h.0) ∙ value_handed ps vs xs b v x are.1 one.1 h.1 at has
value_handed (p ∷ ps) (w ∷ vs) (AnArray y ∷ xs) b (suc v) x are one e at has =
    let h = array_for p ps y xs e in
    ap (slice_index (values xs)) (array_counts p w.holds (value_count Uniform (take v vs)) are.0 h.0) ∙ value_handed ps vs xs (suc b) v x are.1 one.1 h.1 at has

module _ (program : Program) (code : Listing) (f : ℕ) (h : TFunction) (g : Routine) (l : Layout) (turns : ℕ) (xs : List Argument)
    (none : l.run ≡ None) (nothing : KnowsNothing l) (first : PassedFirst h l) (are : AreParams h.parameters (params_of h)) (one : AreOne (params_of h))
    (sig : has_signature h.parameters xs ≡ true) where
  passes : Passes (params_of h) (λ r. slice_index (values xs) r) (λ r p. 0) (handed 0 xs) (everyone (gang_width program.gang))
  passes = record {
    ones = λ v x e has. value_handed h.parameters (params_of h) xs 0 v x are one sig e has;
    each = λ v x e has. absurd (none_varying x.holds (one_of (params_of h) v x one e) has);
    ones_end = λ d le. get_or_past (values xs) d 0 (omega (arith, le, values_counted h.parameters (params_of h) xs are one sig));
    each_end = λ d le. refl;
    only = λ v e. handed_none h.parameters xs 0 v sig (none_param h.parameters (params_of h) v are e);
  }

  -- but for the constants that are kept
  pub begins : Bare (entry_setting program code f h g l turns xs) (entry_state program h xs) (first_conf code f g xs)
  begins = record {
    uniforms = λ v is. ones_begin h l first (λ r. slice_index (values xs) r) (λ r p. 0) (handed 0 xs) (everyone (gang_width program.gang)) passes v;
    varying = each_begin h l first (λ r. slice_index (values xs) r) (λ r p. 0) (handed 0 xs) (everyone (gang_width program.gang)) passes;
    result = passes.ones_end (l.result Uniform) (first.result Uniform);
    results = refl;
    own_arrays = λ v. refl;
    arrays_are = refl;
    out_is = refl;
    run = none_holds l.run 0 nobody ((first_conf code f g xs).scalars (l.place Uniform)) (entry_state program h xs).varying none;
    known = unknown_holds h.variables l nobody (first_conf code f g xs).scalars (entry_state program h xs).varying nothing;
    constants = λ r t b e. absurd (cc);
  }
