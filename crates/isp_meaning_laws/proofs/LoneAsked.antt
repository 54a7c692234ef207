-- What accepted code that looks at nobody has, one line a node.
use Rattle.std.proofs.Common.{◌≡◌, ℕ, zero, suc, inl, inr, Bool, true, false, refl, sym, ap, ◌∙◌, subst, true≢false}
use Rattle.std.specs.Prelude.{List, [], ◌∷◌, ◌++◌, Option, Some, None, Contains, not, take, length, slice_get}
use Rattle.std.specs.List.{All}
use Rattle.std.proofs.lemmas.List.Elements.{All-head, All-tail, Contains-append_left, Contains-append_right, Contains-push}
use Rattle.isp_base.specs.declared.types.Elem.{Elem}
use Rattle.isp_base.specs.declared.types.Rate.{Rate}
use Rattle.isp_base.specs.declared.types.Rate.TheVariants.{Uniform, Varying}
use Rattle.isp_base.specs.declared.types.Span.{Span}
use Rattle.isp_base.specs.declared.types.Ty.{Ty}
use Rattle.isp_lex.specs.declared.fault.Fault.{Fault}
use Rattle.isp_tree.specs.Sound.{IfAny}
use Rattle.isp_typed.specs.declared.library.Library.{Library}
use Rattle.isp_typed.specs.declared.library.Library.TheVariants as library
use Rattle.isp_typed.specs.declared.library.Part.{Part}
use Rattle.isp_typed.specs.declared.variable.ArrayVariable.{ArrayVariable}
use Rattle.isp_typed.specs.declared.variable.Holds.{Holds}
use Rattle.isp_typed.specs.declared.variable.Holds.TheVariants as holds
use Rattle.isp_typed.specs.declared.variable.Variable.{Variable}
use Rattle.isp_typed.specs.Fine.{HoldsArray, rates_of, FineExpr, FinePlace, FineCall, FineArguments, FineArgument, FineParts, FineTarget, FineValue, FineItem, FineSimple, FineFirst, FineReturned, FineStmt, FineBlock, FineStmts}
use Rattle.isp_typed.specs.Library.{parts, library_type}
use Rattle.isp_typed.specs.Typed.{TExpr, t_constant, t_program_index, t_place, t_convert, t_cast, t_unary, t_binary, t_compare, t_logic, t_choose, t_call, t_library}
use Rattle.isp_typed.specs.Typed.{t_packed_store, t_packed_load, TPlace, t_variable, t_element, TArgument, t_by_value, t_by_name, TCall, t_called, TArguments, t_no_arguments}
use Rattle.isp_typed.specs.Typed.{t_argument_then, TExprs, t_no_exprs, t_expr_then, TFunction, rate_of, rate_or, span_of, place_type}
use Rattle.isp_typed.specs.Typed.{TItem, t_plain, t_with_value, t_with_size, TSimple, t_value, t_run, t_assign, t_update, t_step, TFirst, t_first_declare, t_first_simple}
use Rattle.isp_typed.specs.Typed.{TStmt, t_block, t_declare, t_simple, t_if, t_if_else, t_while, t_do, t_for, t_foreach, t_foreach_active, t_foreach_unique}
use Rattle.isp_typed.specs.Typed.{t_unmasked, t_jump, t_return, t_print, t_assert, TBlock, t_braces, TStmts, t_no_stmts, t_stmt_then}
use Rattle.isp_rates.specs.declared.exits.Within.{Within}
use Rattle.isp_rates.specs.Breaches.{OfAny, OfEach}
use Rattle.isp_rates.specs.Exits.{in_loop, in_turns, ItemBreach, SimpleBreach, FirstBreach, ReturnBreach, returned_rate, StmtBreach, BlockBreach, StmtsBreach}
use Rattle.isp_rates.specs.Rates.{goes_to, rate_held, variables_of, RateBreach, DemandBreach, ExprBreach, PlaceBreach, ArgumentBreach, CallBreach, ArgumentsBreach, ValuesBreach}
use Rattle.isp_independence.specs.declared.dependence.Dependence.{Dependence}
use Rattle.isp_independence.specs.declared.dependence.Restriction.TheVariants.{Crossing}
use Rattle.isp_independence.specs.Crossing.{looks_across, CrossPlace, CrossCall, CrossArguments, CrossArgument, CrossAll}
use Rattle.isp_independence.specs.Dependences.{at}
use Rattle.isp_independence.specs.Reaches.{expr_calls, place_calls, call_calls, argument_calls, arguments_calls, values_calls, item_calls, simple_calls, first_calls, calls_of_any, calls_of_each, stmt_calls, block_calls, stmts_calls}
use Rattle.isp_meaning.specs.Calls.{size_of, shared_sizes, size_at}
use Rattle.isp_meaning.specs.State.{Frame}
use Rattle.isp_meaning_laws.specs.Lone.{NoCross, LonelyItem, LonelySimple, LonelyFirst, Lonely, LonelyBlock, LonelyAll, SharesNone}
use Rattle.isp_meaning_laws.proofs.LoneFair.{IsOpen, Fair, FairPlace, FairAll, FairCall, FairArguments, FairArgument, FairSimple, FairItem, FairItems, FairFirst, FairReturned, FairStmt, FairBlock, FairStmts}
use Rattle.isp_meaning_laws.proofs.LoneSims.{Follows, not_uniform}

-- ---- rates

pub or_left_rate : (q r s : Rate) → q ≡ rate_or r s → Follows q r
or_left_rate q Uniform s h e = refl
or_left_rate q Varying s h e = absurd (not_uniform (sym h ∙ e))

pub or_right_rate : (q r s : Rate) → q ≡ rate_or r s → Follows q s
or_right_rate q Uniform s h e = sym h ∙ e
or_right_rate q Varying s h e = absurd (not_uniform (sym h ∙ e))

goes_true : (q r : Rate) (s : Span) → ((f : Fault) → RateBreach q r s f → ⊥) → goes_to q r ≡ true
goes_true Varying r s h = refl
goes_true Uniform Uniform s h = refl
goes_true Uniform Varying s h = absurd (h _ (refl, refl))

goes_follows : (q r : Rate) → goes_to q r ≡ true → Follows q r
goes_follows Varying r h e = absurd (not_uniform e)
goes_follows Uniform Uniform h e = refl
goes_follows Uniform Varying h e = absurd (true≢false (sym h))

-- a demanded rate, and nothing wrong inside
demand_inside : (q : Rate) (x : TExpr) (B : Fault → Type 0) → ((f : Fault) → DemandBreach q x B f → ⊥) → (f : Fault) → B f → ⊥
demand_inside q x B n f b = n f (inl b)

demand_follows : (q : Rate) (x : TExpr) (B : Fault → Type 0) → ((f : Fault) → DemandBreach q x B f → ⊥) → Follows q (rate_of x)
demand_follows q x B n = goes_follows q (rate_of x) (goes_true q (rate_of x) (span_of x) (λ f b. n f (inr (λ g k. n g (inl k), b))))

looks_not : (f : Library) (s : Span) → ((d : Dependence) → (not (looks_across f) ≡ false) × (d ≡ at Crossing s) → ⊥) → looks_across f ≡ false
looks_not f s h = go (looks_across f) refl where
  go : (t : Bool) → looks_across f ≡ t → t ≡ false
  go true e = absurd (h (at Crossing s) (ap not e, refl))
  go false e = refl

library_rate : (f : Library) (e : Elem) (r : Rate) (t : Ty) → looks_across f ≡ false → t ≡ library_type f e r → Follows t.rate r
library_rate library.Min e r t n h i = sym (ap (λ z. z.rate) h) ∙ i
library_rate library.Max e r t n h i = sym (ap (λ z. z.rate) h) ∙ i
library_rate library.Clamp e r t n h i = sym (ap (λ z. z.rate) h) ∙ i
library_rate library.Abs e r t n h i = sym (ap (λ z. z.rate) h) ∙ i
library_rate library.Select e r t n h i = sym (ap (λ z. z.rate) h) ∙ i
library_rate other e r t n h i = absurd (true≢false n)

-- ---- local arrays

-- none that all share is among the variables
cons_not : (n : ℕ) (ns : List ℕ) → n ∷ ns ≡ [] → ⊥
cons_not n ns e = subst (λ (xs : List ℕ). IsCons xs) e tt where
  IsCons : List ℕ → Type 0
  IsCons [] = ⊥
  IsCons (x ∷ xs) = Unit {0}

rest_none : (h : Holds) (ns : List ℕ) → size_of h ns ≡ [] → ns ≡ []
rest_none (holds.Value t) ns e = e
rest_none (holds.Given t) ns e = e
rest_none (holds.Local t n) ns e = go t.rate e where
  go : (r : Rate) → size_at r n ns ≡ [] → ns ≡ []
  go Uniform e = absurd (cons_not n ns e)
  go Varying e = e

pub varies : (h : Holds) (ns : List ℕ) (t : Ty) (n : ℕ) → size_of h ns ≡ [] → h ≡ holds.Local t n → t.rate ≡ Varying
varies h ns t n e d = go t.rate (sym (ap (λ z. size_of z ns) d) ∙ e) where
  go : (r : Rate) → size_at r n ns ≡ [] → r ≡ Varying
  go Uniform e = absurd (cons_not n ns e)
  go Varying e = refl

some_is : (x y : Variable) → Some x ≡ Some y → x ≡ y
some_is x y e = ap (λ (o : Option Variable). or_this o) e where
  or_this : Option Variable → Variable
  or_this None = x
  or_this (Some z) = z

pub none_is : (x : Variable) → None ≡ Some x → ⊥
none_is x e = subst (λ (o : Option Variable). IsNone o) e tt where
  IsNone : Option Variable → Type 0
  IsNone None = Unit {0}
  IsNone (Some y) = ⊥

pub local_varies : (vs : List Variable) → SharesNone vs → (k : ℕ) (x : Variable) (t : Ty) (n : ℕ) → slice_get vs k ≡ Some x → x.holds ≡ holds.Local t n → t.rate ≡ Varying
local_varies [] e k x t n is d = absurd (none_is x is)
local_varies (v ∷ vs) e zero x t n is d = varies v.holds (shared_sizes vs) t n e (ap (λ z. z.holds) (some_is v x is) ∙ d)
local_varies (v ∷ vs) e (suc k) x t n is d = local_varies vs (rest_none v.holds (shared_sizes vs) e) k x t n is d

module _ (frame : Frame) (fs : List TFunction) (IsCallable : ℕ → Type 0) (vars : List Variable) (opens : (a : ArrayVariable) → HoldsArray vars a → IsOpen frame a.ty.rate a.number) where
  abbrev pub Callable : List ℕ → Type 0
  Callable xs = (k : ℕ) → Contains xs k → IsCallable k

  first : (xs ys : List ℕ) → Callable (xs ++ ys) → Callable xs
  first xs ys c k h = c k (Contains-append_left xs ys k h)

  second : (xs ys : List ℕ) → Callable (xs ++ ys) → Callable ys
  second xs ys c k h = c k (Contains-append_right xs ys k h)

  -- ---- expressions

  mutual
    pub fair : (x : TExpr) → FineExpr fs vars x → ((f : Fault) → ExprBreach fs x f → ⊥) → NoCross x → Callable (expr_calls x) → Fair frame fs IsCallable x
    fair (t_constant c s) f r n k = tt
    fair (t_program_index s) f r n k = tt
    fair (t_place q) f r n k = fair_place q f r n k
    fair (t_convert e x) f r n k = fair x f.0 r n k
    fair (t_cast x t s) f r n k = (fair x f.0 (demand_inside t.rate x (ExprBreach fs x) r) n k, demand_follows t.rate x (ExprBreach fs x) r)
    fair (t_unary op x t s) f r n k = (fair x f.0 r n k, λ e. ap (λ z. z.rate) f.1 ∙ e)
    fair (t_binary op x y t s) f r n k = (
      fair x f.0 (λ e b. r e (inl b)) (λ e b. n e (inl b)) (first _ _ k),
      fair y f.1 (λ e b. r e (inr b)) (λ e b. n e (inr b)) (second _ _ k),
      or_left_rate t.rate (rate_of x) (rate_of y) f.2.rate,
      or_right_rate t.rate (rate_of x) (rate_of y) f.2.rate,
    )
    fair (t_compare c x y q s) f r n k =
        (fair x f.0 (λ e b. r e (inl b)) (λ e b. n e (inl b)) (first _ _ k), fair y f.1 (λ e b. r e (inr b)) (λ e b. n e (inr b)) (second _ _ k), or_left_rate q (rate_of x) (rate_of y) f.2.rate, or_right_rate q (rate_of x) (rate_of y) f.2.rate)
    fair (t_logic l x y q s) f r n k =
        (fair x f.0 (λ e b. r e (inl b)) (λ e b. n e (inl b)) (first _ _ k), fair y f.1 (λ e b. r e (inr b)) (λ e b. n e (inr b)) (second _ _ k), or_left_rate q (rate_of x) (rate_of y) f.2.rate, or_right_rate q (rate_of x) (rate_of y) f.2.rate)
    fair (t_choose c x y t s) f r n k =
        let later = or_right_rate t.rate (rate_of c) (rate_or (rate_of x) (rate_of y)) f.6 in (
          fair c f.0 (λ e b. r e (inl b)) (λ e b. n e (inl b)) (first (expr_calls c) (expr_calls x) (first (expr_calls c ++ expr_calls x) (expr_calls y) k)),
          fair x f.1 (λ e b. r e (inr (inl b))) (λ e b. n e (inr (inl b))) (second (expr_calls c) (expr_calls x) (first (expr_calls c ++ expr_calls x) (expr_calls y) k)),
          fair y f.2 (λ e b. r e (inr (inr b))) (λ e b. n e (inr (inr b))) (second (expr_calls c ++ expr_calls x) (expr_calls y) k),
          or_left_rate t.rate (rate_of c) _ f.6,
          λ e. or_left_rate _ (rate_of x) (rate_of y) refl (later e),
          λ e. or_right_rate _ (rate_of x) (rate_of y) refl (later e),
        )
    fair (t_call c t) f r n k = fair_call c (Some t) f r n k
    fair (t_library g e xs t s) f r n k =
        let alone = looks_not g s (λ d b. n d (inl b)) in
        (alone, fair_all e (parts g) xs f.0 r (λ d b. n d (inr b)) k, library_rate g e (rates_of xs) t alone f.2)
    fair (t_packed_store b x s) f r n k = n (at Crossing s) (inl refl)
    fair (t_packed_load b u s) f r n k = n (at Crossing s) (inl refl)

    pub fair_place : (q : TPlace) → FinePlace fs vars q → ((f : Fault) → PlaceBreach fs q f → ⊥) → ((d : Dependence) → CrossPlace q d → ⊥) → Callable (place_calls q) → FairPlace frame fs IsCallable q
    fair_place (t_variable u t s) f r n k = tt
    fair_place (t_element a x t s) f r n k =
        (fair x f.1 r n k, opens a f.0, λ e. or_left_rate t.rate a.ty.rate (rate_of x) (ap (λ z. z.rate) f.2) e, λ e. or_right_rate t.rate a.ty.rate (rate_of x) (ap (λ z. z.rate) f.2) e)

    fair_all : (e : Elem) (ps : List Part) (xs : TExprs) → FineParts fs vars e ps xs → ((f : Fault) → ValuesBreach fs ps xs f → ⊥) → ((d : Dependence) → CrossAll xs d → ⊥) → Callable (values_calls xs) → FairAll frame fs IsCallable xs
    fair_all e [] t_no_exprs f r n k = tt
    fair_all e [] (t_expr_then x xs) f r n k = absurd f
    fair_all e (p ∷ ps) t_no_exprs f r n k = absurd f
    fair_all e (p ∷ ps) (t_expr_then x xs) f r n k = (fair x f.0 (λ z b. r z (inl (inl b))) (λ z b. n z (inl b)) (first _ _ k), fair_all e ps xs f.2 (λ z b. r z (inr b)) (λ z b. n z (inr b)) (second (expr_calls x) _ k))

    pub fair_call : (c : TCall) (t : Option Ty) → FineCall fs vars c t → ((f : Fault) → CallBreach fs c f → ⊥) → ((d : Dependence) → CrossCall c d → ⊥) → Callable (call_calls c) → FairCall frame fs IsCallable c t
    fair_call (t_called g xs s) t f r n k =
        let same : variables_of fs g ≡ f.0.variables = rw f.1 refl in
        (f.0, f.1, f.2, k g (Contains-push (arguments_calls xs) g), fair_arguments (length f.0.params) f.0.variables xs f.3 (subst (λ vs. (z : Fault) → ArgumentsBreach fs vs xs z → ⊥) same r) n (first _ _ k))

    fair_arguments : (m : ℕ) (vs : List Variable) (xs : TArguments) → FineArguments fs vars (take m vs) xs
        → ((f : Fault) → ArgumentsBreach fs vs xs f → ⊥) → ((d : Dependence) → CrossArguments xs d → ⊥) → Callable (arguments_calls xs)
        → FairArguments frame fs IsCallable (take m vs) xs
    fair_arguments zero [] t_no_arguments f r n k = tt
    fair_arguments (suc m) [] t_no_arguments f r n k = tt
    fair_arguments zero (u ∷ us) t_no_arguments f r n k = tt
    fair_arguments (suc m) (u ∷ us) t_no_arguments f r n k = absurd f
    fair_arguments zero [] (t_argument_then x xs) f r n k = absurd f
    fair_arguments zero (u ∷ us) (t_argument_then x xs) f r n k = absurd f
    fair_arguments (suc m) [] (t_argument_then x xs) f r n k = absurd f
    fair_arguments (suc m) (u ∷ us) (t_argument_then x xs) f r n k =
        (fair_argument u.holds u.constant x f.0 (λ z b. r z (inl b)) (λ z b. n z (inl b)) (first _ _ k), fair_arguments m us xs f.1 (λ z b. r z (inr b)) (λ z b. n z (inr b)) (second (argument_calls x) _ k))

    fair_argument : (h : Holds) (c : Bool) (x : TArgument) → FineArgument fs vars h c x → ((f : Fault) → ArgumentBreach fs (rate_held h) x f → ⊥)
        → ((d : Dependence) → CrossArgument x d → ⊥) → Callable (argument_calls x) → FairArgument frame fs IsCallable h x
    fair_argument (holds.Value t) c (t_by_value x) f r n k = (fair x f.0 (demand_inside t.rate x (ExprBreach fs x) r) n k, demand_follows t.rate x (ExprBreach fs x) r)
    fair_argument (holds.Value t) c (t_by_name a s) f r n k = absurd f
    fair_argument (holds.Given e) c (t_by_value x) f r n k = absurd f
    fair_argument (holds.Given e) c (t_by_name a s) f r n k =
        subst (λ q. IsOpen frame q a.number) (goes_follows Uniform a.ty.rate (goes_true Uniform a.ty.rate s r) refl) (opens a f.0)
    fair_argument (holds.Local t m) c x f r n k = absurd f

  -- ---- assignments and declarations

  target_fine : (q : TPlace) → FineTarget fs vars q → FinePlace fs vars q
  target_fine (t_variable k t s) h = record { constant = false; is = h }
  target_fine (t_element b x t s) h = h.0

  pub fair_simple : (x : TSimple) → FineSimple fs vars x → ((f : Fault) → SimpleBreach fs x f → ⊥) → LonelySimple x → Callable (simple_calls x) → FairSimple frame fs IsCallable x
  fair_simple (t_value x) f r n k = fair x f r n k
  fair_simple (t_run c) f r n k = fair_call c None f r n k
  fair_simple (t_assign q x s) f r n k = (
    fair_place q (target_fine q f.0) (λ z b. r z (inl b)) n.0 (first (place_calls q) (expr_calls x) k),
    fair x f.1.0 (demand_inside (place_type q).rate x (ExprBreach fs x) (λ z b. r z (inr b))) n.1 (second (place_calls q) (expr_calls x) k),
    demand_follows (place_type q).rate x (ExprBreach fs x) (λ z b. r z (inr b)),
  )
  fair_simple (t_update op e q x s) f r n k = (
    fair_place q (target_fine q f.0) (λ z b. r z (inl b)) n.0 (first (place_calls q) (expr_calls x) k),
    fair x f.1.0 (demand_inside (place_type q).rate x (ExprBreach fs x) (λ z b. r z (inr b))) n.1 (second (place_calls q) (expr_calls x) k),
    demand_follows (place_type q).rate x (ExprBreach fs x) (λ z b. r z (inr b)),
  )
  fair_simple (t_step op e q s) f r n k = fair_place q (target_fine q f.0) r n k

  module _ (none : SharesNone vars) where
    fair_item : (x : TItem) → FineItem fs vars x → ((f : Fault) → ItemBreach fs x f → ⊥) → LonelyItem x → Callable (item_calls x) → FairItem frame fs IsCallable x
    fair_item (t_plain v t s) f r n k = tt
    fair_item (t_with_value v t x s) f r n k = (fair x f.1.0 (demand_inside t.rate x (ExprBreach fs x) r) n k, demand_follows t.rate x (ExprBreach fs x) r)
    fair_item (t_with_size a s) f r n k = local_varies vars none a.number _ a.ty f.0 f.1 refl

    pub fair_items : (xs : List TItem) → All (FineItem fs vars) xs → ((f : Fault) → OfEach (ItemBreach fs) xs f → ⊥) → All LonelyItem xs → Callable (calls_of_each item_calls xs) → FairItems frame fs IsCallable xs
    fair_items [] f r n k = tt
    fair_items (x ∷ xs) f r n k = (
      fair_item x (All-head (FineItem fs vars) x xs f) (λ z b. r z (inl b)) (All-head LonelyItem x xs n) (first (item_calls x) (calls_of_each item_calls xs) k),
      fair_items xs (All-tail (FineItem fs vars) x xs f) (λ z b. r z (inr b)) (All-tail LonelyItem x xs n) (second (item_calls x) (calls_of_each item_calls xs) k),
    )

    fair_first : (x : Option TFirst) → IfAny (FineFirst fs vars) x → ((f : Fault) → OfAny (FirstBreach fs) x f → ⊥) → IfAny LonelyFirst x → Callable (calls_of_any first_calls x) → IfAny (FairFirst frame fs IsCallable) x
    fair_first None f r n k = tt
    fair_first (Some (t_first_declare xs s)) f r n k = fair_items xs f r n k
    fair_first (Some (t_first_simple x)) f r n k = fair_simple x f r n k

    fair_test : (x : Option TExpr) → IfAny (λ e. FineExpr fs vars e) x → ((f : Fault) → OfAny (ExprBreach fs) x f → ⊥) → IfAny NoCross x → Callable (calls_of_any expr_calls x) → IfAny (Fair frame fs IsCallable) x
    fair_test None f r n k = tt
    fair_test (Some x) f r n k = fair x f r n k

    fair_step : (x : Option TSimple) → IfAny (FineSimple fs vars) x → ((f : Fault) → OfAny (SimpleBreach fs) x f → ⊥) → IfAny LonelySimple x → Callable (calls_of_any simple_calls x) → IfAny (FairSimple frame fs IsCallable) x
    fair_step None f r n k = tt
    fair_step (Some x) f r n k = fair_simple x f r n k

    fine_test : (e : Elem) (x : Option TExpr) → IfAny (FineValue fs vars e) x → IfAny (λ e. FineExpr fs vars e) x
    fine_test e None f = tt
    fine_test e (Some x) f = f.0

    -- ---- statements

    module _ (answer : Option Ty) where
      fair_returned : (x : Option TExpr) → FineReturned fs vars answer x → ((f : Fault) → OfAny (ReturnBreach fs answer) x f → ⊥) → IfAny NoCross x → Callable (calls_of_any expr_calls x) → FairReturned frame fs IsCallable answer x
      fair_returned None f r n k = tt
      fair_returned (Some x) f r n k = go answer refl f where
        go : (o : Option Ty) → answer ≡ o → FineReturned fs vars o (Some x) → FairReturned frame fs IsCallable o (Some x)
        go None e f = f
        go (Some t) e f =
            let asks = subst (λ o. (z : Fault) → DemandBreach (returned_rate o) x (ExprBreach fs x) z → ⊥) e r in
            (fair x f.0 (demand_inside t.rate x (ExprBreach fs x) asks) n k, demand_follows t.rate x (ExprBreach fs x) asks)

      module _ (same : frame.answer ≡ answer) where
        mutual
          pub fair_stmt : (o : Within) (x : TStmt) → FineStmt fs vars answer x → ((f : Fault) → StmtBreach fs answer o x f → ⊥) → Lonely x → Callable (stmt_calls x) → FairStmt frame fs IsCallable x
          fair_stmt o (t_block b) f r n k = fair_block o b f r n k
          fair_stmt o (t_declare xs s) f r n k = fair_items xs f r n k
          fair_stmt o (t_simple x s) f r n k = fair_simple x f r n k
          fair_stmt o (t_if g m e x s) f r n k = (fair e f.1.0 (λ z b. r z (inl b)) n.0 (first (expr_calls e) (stmt_calls x) k), fair_stmt o x f.2 (λ z b. r z (inr b)) n.1 (second (expr_calls e) (stmt_calls x) k))
          fair_stmt o (t_if_else g m e x y s) f r n k = (
            fair e f.1.0 (λ z b. r z (inl b)) n.0 (first (expr_calls e) (stmt_calls x) (first (expr_calls e ++ stmt_calls x) (stmt_calls y) k)),
            fair_stmt o x f.2 (λ z b. r z (inr (inl b))) n.1 (second (expr_calls e) (stmt_calls x) (first (expr_calls e ++ stmt_calls x) (stmt_calls y) k)),
            fair_stmt o y f.3 (λ z b. r z (inr (inr b))) n.2 (second (expr_calls e ++ stmt_calls x) (stmt_calls y) k),
          )
          fair_stmt o (t_while g m e x s) f r n k = (fair e f.1.0 (λ z b. r z (inl b)) n.0 (first (expr_calls e) (stmt_calls x) k), fair_stmt (in_loop o) x f.2 (λ z b. r z (inr b)) n.1 (second (expr_calls e) (stmt_calls x) k))
          fair_stmt o (t_do g m x e s) f r n k = (fair e f.2.0 (λ z b. r z (inr b)) n.0 (second (stmt_calls x) (expr_calls e) k), fair_stmt (in_loop o) x f.1 (λ z b. r z (inl b)) n.1 (first (stmt_calls x) (expr_calls e) k))
          fair_stmt o (t_for g m i e p l x s) f r n k =
              let all3 = first (calls_of_any first_calls i ++ calls_of_any expr_calls e ++ calls_of_any simple_calls p) (stmt_calls x) k in
              let all2 = first (calls_of_any first_calls i ++ calls_of_any expr_calls e) (calls_of_any simple_calls p) all3 in (
                fair_first i f.2 (λ z b. r z (inl b)) n.0 (first (calls_of_any first_calls i) (calls_of_any expr_calls e) all2),
                fair_test e (fine_test _ e f.3) (λ z b. r z (inr (inl b))) n.1 (second (calls_of_any first_calls i) (calls_of_any expr_calls e) all2),
                fair_step p f.4 (λ z b. r z (inr (inr (inl b)))) n.2 (second (calls_of_any first_calls i ++ calls_of_any expr_calls e) (calls_of_any simple_calls p) all3),
                fair_stmt (in_loop o) x f.5 (λ z b. r z (inr (inr (inr b)))) n.3 (second (calls_of_any first_calls i ++ calls_of_any expr_calls e ++ calls_of_any simple_calls p) (stmt_calls x) k),
              )
          fair_stmt o (t_foreach g m rs x s) f r n k = n
          fair_stmt o (t_foreach_active g m i x s) f r n k = fair_stmt (in_turns o) x f.2 r n k
          fair_stmt o (t_foreach_unique g m i t e x s) f r n k =
              (fair e f.2.0 (λ z b. r z (inl b)) n.0 (first (expr_calls e) (stmt_calls x) k), fair_stmt (in_turns o) x f.3 (λ z b. r z (inr b)) n.1 (second (expr_calls e) (stmt_calls x) k))
          fair_stmt o (t_unmasked g b s) f r n k = n
          fair_stmt o (t_jump j g s) f r n k = tt
          fair_stmt o (t_return g x s) f r n k = subst (λ a. FairReturned frame fs IsCallable a x) (sym same) (fair_returned x f (λ z b. r z (inr b)) n k)
          fair_stmt o (t_print g t xs s) f r n k = n
          fair_stmt o (t_assert x c s) f r n k = fair x f.0.0 r n k

          pub fair_block : (o : Within) (b : TBlock) → FineBlock fs vars answer b → ((f : Fault) → BlockBreach fs answer o b f → ⊥) → LonelyBlock b → Callable (block_calls b) → FairBlock frame fs IsCallable b
          fair_block o (t_braces xs s) f r n k = fair_stmts o xs f r n k

          fair_stmts : (o : Within) (xs : TStmts) → FineStmts fs vars answer xs → ((f : Fault) → StmtsBreach fs answer o xs f → ⊥) → LonelyAll xs → Callable (stmts_calls xs) → FairStmts frame fs IsCallable xs
          fair_stmts o t_no_stmts f r n k = tt
          fair_stmts o (t_stmt_then x xs) f r n k = (fair_stmt o x f.0 (λ z b. r z (inl b)) n.0 (first (stmt_calls x) (stmts_calls xs) k), fair_stmts o xs f.1 (λ z b. r z (inr b)) n.1 (second (stmt_calls x) (stmts_calls xs) k))
