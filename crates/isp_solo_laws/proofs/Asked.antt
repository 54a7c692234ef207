-- What a fine expression without breaches has, one line a node.
use Rattle.std.proofs.Common.{◌≡◌, ℕ, zero, suc, inl, inr, Bool, true, false, refl, sym, ap, ◌∙◌, subst, true≢false}
use Rattle.std.specs.Prelude.{List, [], ◌∷◌, ◌++◌, Option, Some, Contains, not, ◌&&◌, take, length, slice_get}
use Rattle.std.proofs.lemmas.List.Elements.{Contains-append_left, Contains-append_right, Contains-push}
use Rattle.isp_base.specs.declared.types.Elem.{Elem}
use Rattle.isp_base.specs.declared.types.Rate.{Rate}
use Rattle.isp_base.specs.declared.types.Rate.TheVariants.{Uniform, Varying}
use Rattle.isp_base.specs.declared.types.Span.{Span}
use Rattle.isp_base.specs.declared.types.Ty.{Ty}
use Rattle.isp_lex.specs.declared.fault.Fault.{Fault}
use Rattle.isp_typed.specs.declared.library.Library.{Library}
use Rattle.isp_typed.specs.declared.library.Library.TheVariants as library
use Rattle.isp_typed.specs.declared.library.Part.{Part}
use Rattle.isp_typed.specs.declared.variable.ArrayVariable.{ArrayVariable}
use Rattle.isp_typed.specs.declared.variable.Holds.{Holds}
use Rattle.isp_typed.specs.declared.variable.Holds.TheVariants as holds
use Rattle.isp_typed.specs.declared.variable.Variable.{Variable}
use Rattle.isp_typed.specs.Fine.{HoldsValue, HoldsArray, rates_of, FineExpr, FinePlace, FineCall, FineArguments, FineArgument, FineParts}
use Rattle.isp_typed.specs.Library.{parts, library_type}
use Rattle.isp_typed.specs.Scoped.{Scope, ExprIn, PlaceIn, CallIn, ArgumentsIn, ArgumentIn, ExprsIn}
use Rattle.isp_typed.specs.Typed.{TExpr, t_constant, t_program_index, t_place, t_convert, t_cast, t_unary, t_binary, t_compare, t_logic, t_choose, t_call, t_library}
use Rattle.isp_typed.specs.Typed.{t_packed_store, t_packed_load, TPlace, t_variable, t_element, TArgument, t_by_value, t_by_name, TCall, t_called, TArguments, t_no_arguments}
use Rattle.isp_typed.specs.Typed.{t_argument_then, TExprs, t_no_exprs, t_expr_then, TFunction, rate_of, rate_or, span_of}
use Rattle.isp_rates.specs.Rates.{goes_to, rate_held, variables_of, RateBreach, DemandBreach, ExprBreach, PlaceBreach, ArgumentBreach, CallBreach, ArgumentsBreach, ValuesBreach}
use Rattle.isp_independence.specs.declared.dependence.Dependence.{Dependence}
use Rattle.isp_independence.specs.declared.dependence.Restriction.TheVariants.{Crossing}
use Rattle.isp_independence.specs.Exits.{by_rate}
use Rattle.isp_independence.specs.Crossing.{looks_across, Cross, CrossPlace, CrossCall, CrossArguments, CrossArgument, CrossAll}
use Rattle.isp_independence.specs.Dependences.{at}
use Rattle.isp_independence.specs.Reaches.{expr_calls, place_calls, call_calls, argument_calls, arguments_calls, values_calls}
use Rattle.isp_meaning.specs.State.{Frame}
use Rattle.isp_solo_laws.specs.Stands.{IsOpen}
use Rattle.isp_solo_laws.specs.Asked.{is_uniform, uniforms_in, OpenArrays, AskedOf}
use Rattle.isp_solo_laws.proofs.Fair.{Follows, Fair, FairPlace, FairAll, FairCall, FairArguments, FairArgument}
use Rattle.isp_solo_laws.proofs.Held.{not_uniform}

pub or_left_rate : (q r s : Rate) → q ≡ rate_or r s → Follows q r
or_left_rate q Uniform s h e = refl
or_left_rate q Varying s h e = absurd (not_uniform (sym h ∙ e))

pub or_right_rate : (q r s : Rate) → q ≡ rate_or r s → Follows q s
or_right_rate q Uniform s h e = sym h ∙ e
or_right_rate q Varying s h e = absurd (not_uniform (sym h ∙ e))

goes_true : (q r : Rate) (s : Span) → ((f : Fault) → RateBreach q r s f → ⊥) → goes_to q r ≡ true
goes_true Varying r s h = refl
goes_true Uniform Uniform s h = refl
goes_true Uniform Varying s h = absurd (h _ (refl, refl))

pub goes_follows : (q r : Rate) → goes_to q r ≡ true → Follows q r
goes_follows Varying r h e = absurd (not_uniform e)
goes_follows Uniform Uniform h e = refl
goes_follows Uniform Varying h e = absurd (true≢false (sym h))

-- a demanded rate, and nothing wrong inside
pub demand_inside : (q : Rate) (x : TExpr) (B : Fault → Type 0) → ((f : Fault) → DemandBreach q x B f → ⊥) → (f : Fault) → B f → ⊥
demand_inside q x B n f b = n f (inl b)

pub demand_follows : (q : Rate) (x : TExpr) (B : Fault → Type 0) → ((f : Fault) → DemandBreach q x B f → ⊥) → Follows q (rate_of x)
demand_follows q x B n = goes_follows q (rate_of x) (goes_true q (rate_of x) (span_of x) (λ f b. n f (inr (λ g k. n g (inl k), b))))

looks_not : (f : Library) (s : Span) → ((d : Dependence) → (not (looks_across f) ≡ false) × (d ≡ at Crossing s) → ⊥) → looks_across f ≡ false
looks_not f s h = go (looks_across f) refl where
  go : (t : Bool) → looks_across f ≡ t → t ≡ false
  go true e = absurd (h (at Crossing s) (ap not e, refl))
  go false e = refl

library_rate : (f : Library) (e : Elem) (r : Rate) (t : Ty) → looks_across f ≡ false → t ≡ library_type f e r → Follows t.rate r
library_rate library.Min e r t n h i = sym (ap (λ z. z.rate) h) ∙ i
library_rate library.Max e r t n h i = sym (ap (λ z. z.rate) h) ∙ i
library_rate library.Clamp e r t n h i = sym (ap (λ z. z.rate) h) ∙ i
library_rate library.Abs e r t n h i = sym (ap (λ z. z.rate) h) ∙ i
library_rate library.Select e r t n h i = sym (ap (λ z. z.rate) h) ∙ i
library_rate other e r t n h i = absurd (true≢false n)

module _ (frame : Frame) (fs : List TFunction) (IsCallable : ℕ → Type 0) (vars : List Variable) (opens : OpenArrays frame vars) (v : Scope) where
  open_array : (a : ArrayVariable) → HoldsArray vars a → IsOpen frame a.ty.rate a.number
  open_array a h = opens.is a.number h.variable a.ty h.is h.ty

  abbrev Callable : List ℕ → Type 0
  Callable xs = (k : ℕ) → Contains xs k → IsCallable k

  first : (xs ys : List ℕ) → Callable (xs ++ ys) → Callable xs
  first xs ys c k h = c k (Contains-append_left xs ys k h)

  second : (xs ys : List ℕ) → Callable (xs ++ ys) → Callable ys
  second xs ys c k h = c k (Contains-append_right xs ys k h)

  in_uniforms : (u : ℕ) (t : Ty) → HoldsValue vars u t → v u ≡ true → t.rate ≡ Uniform → uniforms_in vars v u ≡ true
  in_uniforms u t h i e = ap (λ z. z && is_uniform (slice_get vars u)) i ∙ ap is_uniform h.is ∙ ap (λ r. by_rate r false true) e

  mutual
    pub fair : (x : TExpr) → FineExpr fs vars x → ((f : Fault) → ExprBreach fs x f → ⊥) → ((d : Dependence) → Cross x d → ⊥) → ExprIn v x → Callable (expr_calls x) → Fair frame fs IsCallable (uniforms_in vars v) x
    fair (t_constant c s) f r n i k = tt
    fair (t_program_index s) f r n i k = tt
    fair (t_place q) f r n i k = fair_place q f r n i k
    fair (t_convert e x) f r n i k = fair x f.0 r n i k
    fair (t_cast x t s) f r n i k = (fair x f.0 (demand_inside t.rate x (ExprBreach fs x) r) n i k, demand_follows t.rate x (ExprBreach fs x) r)
    fair (t_unary op x t s) f r n i k = (fair x f.0 r n i k, λ e. ap (λ z. z.rate) f.1 ∙ e)
    fair (t_binary op x y t s) f r n i k = (
      fair x f.0 (λ e b. r e (inl b)) (λ e b. n e (inl b)) i.0 (first _ _ k),
      fair y f.1 (λ e b. r e (inr b)) (λ e b. n e (inr b)) i.1
          (second _ _ k),
      or_left_rate t.rate (rate_of x) (rate_of y) f.2.rate,
      or_right_rate t.rate (rate_of x) (rate_of y) f.2.rate,
    )
    fair (t_compare c x y q s) f r n i k = (
      fair x f.0 (λ e b. r e (inl b)) (λ e b. n e (inl b)) i.0 (first _ _ k),
      fair y f.1 (λ e b. r e (inr b)) (λ e b. n e (inr b)) i.1
          (second _ _ k),
      or_left_rate q (rate_of x) (rate_of y) f.2.rate,
      or_right_rate q (rate_of x) (rate_of y) f.2.rate,
    )
    fair (t_logic l x y q s) f r n i k = (
      fair x f.0 (λ e b. r e (inl b)) (λ e b. n e (inl b)) i.0 (first _ _ k),
      fair y f.1 (λ e b. r e (inr b)) (λ e b. n e (inr b)) i.1
          (second _ _ k),
      or_left_rate q (rate_of x) (rate_of y) f.2.rate,
      or_right_rate q (rate_of x) (rate_of y) f.2.rate,
    )
    fair (t_choose c x y t s) f r n i k =
        let later = or_right_rate t.rate (rate_of c) (rate_or (rate_of x) (rate_of y)) f.6 in (
          fair c f.0 (λ e b. r e (inl b)) (λ e b. n e (inl b)) i.0 (first (expr_calls c) (expr_calls x) (first (expr_calls c ++ expr_calls x) (expr_calls y) k)),
          fair x f.1 (λ e b. r e (inr (inl b))) (λ e b. n e (inr (inl b))) i.1 (second (expr_calls c) (expr_calls x) (first (expr_calls c ++ expr_calls x) (expr_calls y) k)),
          fair y f.2 (λ e b. r e (inr (inr b))) (λ e b. n e (inr (inr b))) i.2 (second (expr_calls c ++ expr_calls x) (expr_calls y) k),
          or_left_rate t.rate (rate_of c) _ f.6,
          λ e. or_left_rate _ (rate_of x) (rate_of y) refl (later e),
          λ e. or_right_rate _ (rate_of x) (rate_of y) refl (later e),
        )
    fair (t_call c t) f r n i k = fair_call c (Some t) f r n i k
    fair (t_library g e xs t s) f r n i k =
        let alone = looks_not g s (λ d b. n d (inl b)) in
        (alone, fair_all e (parts g) xs f.0 r (λ d b. n d (inr b)) i k, library_rate g e (rates_of xs) t alone f.2)
    fair (t_packed_store b x s) f r n i k = n (at Crossing s) (inl refl)
    fair (t_packed_load b u s) f r n i k = n (at Crossing s) (inl refl)

    pub fair_place : (q : TPlace) → FinePlace fs vars q → ((f : Fault) → PlaceBreach fs q f → ⊥) → ((d : Dependence) → CrossPlace q d → ⊥) → PlaceIn v q → Callable (place_calls q) → FairPlace frame fs IsCallable (uniforms_in vars v) q
    fair_place (t_variable u t s) f r n i k = λ e. in_uniforms u t f i e
    fair_place (t_element a x t s) f r n i k =
        (fair x f.1 r n i.1 k, open_array a f.0, λ e. or_left_rate t.rate a.ty.rate (rate_of x) (ap (λ z. z.rate) f.2) e, λ e. or_right_rate t.rate a.ty.rate (rate_of x) (ap (λ z. z.rate) f.2) e)

    fair_all : (e : Elem) (ps : List Part) (xs : TExprs) → FineParts fs vars e ps xs → ((f : Fault) → ValuesBreach fs ps xs f → ⊥)
        → ((d : Dependence) → CrossAll xs d → ⊥) → ExprsIn v xs → Callable (values_calls xs) → FairAll frame fs IsCallable (uniforms_in vars v) xs
    fair_all e [] t_no_exprs f r n i k = tt
    fair_all e [] (t_expr_then x xs) f r n i k = absurd f
    fair_all e (p ∷ ps) t_no_exprs f r n i k = absurd f
    fair_all e (p ∷ ps) (t_expr_then x xs) f r n i k = (fair x f.0 (λ z b. r z (inl (inl b))) (λ z b. n z (inl b)) i.0 (first _ _ k), fair_all e ps xs f.2 (λ z b. r z (inr b)) (λ z b. n z (inr b)) i.1 (second (expr_calls x) _ k))

    pub fair_call : (c : TCall) (t : Option Ty) → FineCall fs vars c t → ((f : Fault) → CallBreach fs c f → ⊥) → ((d : Dependence) → CrossCall c d → ⊥) → CallIn v c → Callable (call_calls c) → FairCall frame fs IsCallable (uniforms_in vars v) c t
    fair_call (t_called g xs s) t f r n i k =
        let same : variables_of fs g ≡ f.0.variables = rw f.1 refl in
        (f.0, f.1, f.2, k g (Contains-push (arguments_calls xs) g), fair_arguments (length f.0.params) f.0.variables xs f.3 (subst (λ vs. (z : Fault) → ArgumentsBreach fs vs xs z → ⊥) same r) n i (first _ _ k))

    fair_arguments : (m : ℕ) (vs : List Variable) (xs : TArguments) → FineArguments fs vars (take m vs) xs
        → ((f : Fault) → ArgumentsBreach fs vs xs f → ⊥) → ((d : Dependence) → CrossArguments xs d → ⊥) → ArgumentsIn v xs
        → Callable (arguments_calls xs)
        → FairArguments frame fs IsCallable (uniforms_in vars v) (take m vs) xs
    fair_arguments zero [] t_no_arguments f r n i k = tt
    fair_arguments (suc m) [] t_no_arguments f r n i k = tt
    fair_arguments zero (u ∷ us) t_no_arguments f r n i k = tt
    fair_arguments (suc m) (u ∷ us) t_no_arguments f r n i k = absurd f
    fair_arguments zero [] (t_argument_then x xs) f r n i k = absurd f
    fair_arguments zero (u ∷ us) (t_argument_then x xs) f r n i k = absurd f
    fair_arguments (suc m) [] (t_argument_then x xs) f r n i k = absurd f
    fair_arguments (suc m) (u ∷ us) (t_argument_then x xs) f r n i k =
        (fair_argument u.holds u.constant x f.0 (λ z b. r z (inl b)) (λ z b. n z (inl b)) i.0 (first _ _ k), fair_arguments m us xs f.1 (λ z b. r z (inr b)) (λ z b. n z (inr b)) i.1 (second (argument_calls x) _ k))

    fair_argument : (h : Holds) (c : Bool) (x : TArgument) → FineArgument fs vars h c x → ((f : Fault) → ArgumentBreach fs (rate_held h) x f → ⊥)
        → ((d : Dependence) → CrossArgument x d → ⊥) → ArgumentIn v x → Callable (argument_calls x)
        → FairArgument frame fs IsCallable (uniforms_in vars v) h x
    fair_argument (holds.Value t) c (t_by_value x) f r n i k = (fair x f.0 (demand_inside t.rate x (ExprBreach fs x) r) n i k, demand_follows t.rate x (ExprBreach fs x) r)
    fair_argument (holds.Value t) c (t_by_name a s) f r n i k = absurd f
    fair_argument (holds.Given e) c (t_by_value x) f r n i k = absurd f
    fair_argument (holds.Given e) c (t_by_name a s) f r n i k =
        subst (λ q. IsOpen frame q a.number) (goes_follows Uniform a.ty.rate (goes_true Uniform a.ty.rate s r) refl) (open_array a f.0)
    fair_argument (holds.Local t m) c x f r n i k = absurd f

  pub asked_fair : (x : TExpr) → AskedOf fs vars v IsCallable x → Fair frame fs IsCallable (uniforms_in vars v) x
  asked_fair x a = fair x a.fine a.rates a.alone a.known a.calls
