-- What assignments and declarations without breaches have, one line a node.
use Rattle.std.proofs.Common.{◌≡◌, ◌<◌, ℕ, suc, ◌⊎◌, inl, inr, Bool, true, false, refl, sym, ap, ◌∙◌, arith, true≢false}
use Rattle.std.specs.Prelude.{List, [], ◌∷◌, ◌++◌, None, Contains, not, ◌&&◌, ◌||◌, nat_eq, nat_lt, slice_get}
use Rattle.std.specs.List.{All}
use Rattle.std.proofs.lemmas.Bool.{cases_eq}
use Rattle.std.proofs.lemmas.Bool.Decides.{nat_tests}
use Rattle.std.proofs.lemmas.List.Elements.{All-head, All-tail, Contains-append_left, Contains-append_right}
use Rattle.isp_base.specs.declared.types.Rate.{Rate}
use Rattle.isp_base.specs.declared.types.Rate.TheVariants.{Uniform, Varying}
use Rattle.isp_base.specs.declared.types.Span.{Span}
use Rattle.isp_base.specs.declared.types.Ty.{Ty}
use Rattle.isp_lex.specs.declared.fault.Fault.{Fault}
use Rattle.isp_typed.specs.declared.variable.Variable.{Variable}
use Rattle.isp_typed.specs.Fine.{HoldsValue, FinePlace, FineTarget, FineItem}
use Rattle.isp_typed.specs.Scoped.{Scope, declared, ItemAt, ItemsAt}
use Rattle.isp_typed.specs.Typed.{TPlace, t_variable, t_element, TItem, t_plain, t_with_value, t_with_size, TSimple, t_value, t_run, t_assign, t_update, t_step, TFunction, place_type}
use Rattle.isp_rates.specs.Breaches.{OfEach}
use Rattle.isp_rates.specs.Rates.{ExprBreach}
use Rattle.isp_rates.specs.Exits.{ItemBreach}
use Rattle.isp_independence.specs.declared.control.Control.{Control}
use Rattle.isp_independence.specs.declared.dependence.Dependence.{Dependence}
use Rattle.isp_independence.specs.declared.dependence.Restriction.TheVariants.{SharedArray, Outside, Turned}
use Rattle.isp_independence.specs.Dependences.{at, OfEach as DependsOfEach}
use Rattle.isp_independence.specs.Exits.{by_rate, is_varying}
use Rattle.isp_independence.specs.Reaches.{place_calls, expr_calls, item_calls, calls_of_each}
use Rattle.isp_independence.specs.Statements.{Assigned, ItemDepends}
use Rattle.isp_meaning.specs.State.{Frame}
use Rattle.isp_solo_laws.specs.Asked.{is_uniform, uniforms_in, OpenArrays}
use Rattle.isp_solo_laws.specs.Acts.{closed_in, AskedOfSimple, AskedOfItems}
use Rattle.isp_solo_laws.proofs.Acts.{MayAssign, Declares, FairSimple, FairItem, FairItems}
use Rattle.isp_solo_laws.proofs.Asked.{demand_inside, demand_follows, fair, fair_place, fair_call}
use Rattle.isp_solo_laws.proofs.Lanes.{not_true}

target_fine : (fs : List TFunction) (vars : List Variable) (q : TPlace) → FineTarget fs vars q → FinePlace fs vars q
target_fine fs vars (t_variable k t s) h = record { constant = false; is = h }
target_fine fs vars (t_element b x t s) h = h.0

neither : (x y : Bool) → x ≡ false → y ≡ false → (x || y) ≡ false
neither true y e d = e
neither false y e d = d

may_assign : (control : Control) (q : TPlace) (s : Span) → ((d : Dependence) → Assigned control q s d → ⊥) → MayAssign (closed_in control) q
may_assign control (t_element b x t sp) s h = tt
may_assign control (t_variable k t sp) s h = λ e. neither (nat_lt k control.outside) (nat_lt k control.turned)
    (not_true _ (λ j. absurd (h (at Outside s) (e, inl (ap not j, refl))))) (not_true _ (λ j. absurd (h (at Turned s) (e, inr (ap not j, refl)))))

own_array : (r : Rate) (s : Span) → ((d : Dependence) → (is_varying r ≡ false) × (d ≡ at SharedArray s) → ⊥) → r ≡ Varying
own_array Varying s h = refl
own_array Uniform s h = absurd (h (at SharedArray s) (refl, refl))

both_left : (x y : Bool) → (x && y) ≡ true → x ≡ true
both_left true y e = refl
both_left false y e = e

both_right : (x y : Bool) → (x && y) ≡ true → y ≡ true
both_right true y e = e
both_right false y e = absurd (true≢false (sym e))

module _ (frame : Frame) (fs : List TFunction) (IsCallable : ℕ → Type 0) (vars : List Variable) (opens : OpenArrays frame vars) (control : Control) where
  first : (xs ys : List ℕ) → ((k : ℕ) → Contains (xs ++ ys) k → IsCallable k) → (k : ℕ) → Contains xs k → IsCallable k
  first xs ys c k h = c k (Contains-append_left xs ys k h)

  second : (xs ys : List ℕ) → ((k : ℕ) → Contains (xs ++ ys) k → IsCallable k) → (k : ℕ) → Contains ys k → IsCallable k
  second xs ys c k h = c k (Contains-append_right xs ys k h)

  pub asked_simple : (v : Scope) (x : TSimple) → AskedOfSimple fs vars v IsCallable control x → FairSimple frame fs IsCallable (closed_in control) (uniforms_in vars v) x
  asked_simple v (t_value x) h = fair frame fs IsCallable vars opens v x h.fine h.rates h.alone h.known h.calls
  asked_simple v (t_run c) h = fair_call frame fs IsCallable vars opens v c None h.fine h.rates h.alone h.known h.calls
  asked_simple v (t_assign q x s) h = (
    fair_place frame fs IsCallable vars opens v q (target_fine fs vars q h.fine.0) (λ f b. h.rates f (inl b)) (λ d b. h.alone d (inl b)) h.known.0 (first (place_calls q) (expr_calls x) h.calls),
    may_assign control q s (λ d b. h.alone d (inr (inr b))),
    fair frame fs IsCallable vars opens v x h.fine.1.0 (demand_inside (place_type q).rate x (ExprBreach fs x) (λ f b. h.rates f (inr b))) (λ d b. h.alone d (inr (inl b))) h.known.1 (second (place_calls q) (expr_calls x) h.calls),
    demand_follows (place_type q).rate x (ExprBreach fs x) (λ f b. h.rates f (inr b)),
  )
  asked_simple v (t_update op e q x s) h = (
    fair_place frame fs IsCallable vars opens v q (target_fine fs vars q h.fine.0) (λ f b. h.rates f (inl b)) (λ d b. h.alone d (inl b)) h.known.0 (first (place_calls q) (expr_calls x) h.calls),
    may_assign control q s (λ d b. h.alone d (inr (inr b))),
    fair frame fs IsCallable vars opens v x h.fine.1.0 (demand_inside (place_type q).rate x (ExprBreach fs x) (λ f b. h.rates f (inr b))) (λ d b. h.alone d (inr (inl b))) h.known.1 (second (place_calls q) (expr_calls x) h.calls),
    demand_follows (place_type q).rate x (ExprBreach fs x) (λ f b. h.rates f (inr b)),
  )
  asked_simple v (t_step op e q s) h = (
    fair_place frame fs IsCallable vars opens v q (target_fine fs vars q h.fine.0) h.rates (λ d b. h.alone d (inl b)) h.known h.calls,
    may_assign control q s (λ d b. h.alone d (inr b)),
  )

  -- ---- declarations

  older : (v : Scope) (n m : ℕ) → uniforms_in vars (declared n v) m ≡ true → (m ≡ n → ⊥) → uniforms_in vars v m ≡ true
  older v n m h d =
      let other : nat_eq m n ≡ false = grind (arith, d, nat_tests) in
      sym (ap (λ t. (t || v m) && is_uniform (slice_get vars m)) other) ∙ h

  -- a variable that is not uniform adds nothing
  pub adds_nothing : (v : Scope) (n : ℕ) → is_uniform (slice_get vars n) ≡ false → (m : ℕ) → uniforms_in vars (declared n v) m ≡ true → uniforms_in vars v m ≡ true
  adds_nothing v n e m h = go (cases_eq m n) where
    go : (m ≡ n) ⊎ (m ≡ n → ⊥) → uniforms_in vars v m ≡ true
    go (inl d) = absurd (true≢false (sym (both_right _ _ h) ∙ ap (λ j. is_uniform (slice_get vars j)) d ∙ e))
    go (inr d) = older v n m h d

  free : (n : ℕ) → ((k : ℕ) → closed_in control k ≡ true → k < n) → closed_in control n ≡ false
  free n before = not_true (closed_in control n) (λ t. absurd (never (before n t))) where
    never : n < n → ⊥
    never lt = omega (arith, lt)

  declares : (v : Scope) (n k : ℕ) (t : Ty) → k ≡ n → HoldsValue vars k t → ((j : ℕ) → closed_in control j ≡ true → j < n) → Declares (closed_in control) (uniforms_in vars v) (uniforms_in vars (declared n v)) k t.rate
  declares v n k t e h before = record {
    free = λ u. ap (closed_in control) e ∙ free n before;
    older = λ m j d. older v n m j (λ z. d (z ∙ sym e));
    wider = λ u m j. adds_nothing v n (ap (λ z. is_uniform (slice_get vars z)) (sym e) ∙ ap is_uniform h.is ∙ ap (λ r. by_rate r false true) u) m j;
  }

  item_fair : (v : Scope) (n : ℕ) (x : TItem) → FineItem fs vars x → ((f : Fault) → ItemBreach fs x f → ⊥) → ((d : Dependence) → ItemDepends x d → ⊥)
      → ItemAt v n x → ((k : ℕ) → Contains (item_calls x) k → IsCallable k) → ((k : ℕ) → closed_in control k ≡ true → k < n)
      → FairItem frame fs IsCallable (closed_in control) (uniforms_in vars v) (uniforms_in vars (declared n v)) x
  item_fair v n (t_plain k t s) f r d i c before = declares v n k t i f before
  item_fair v n (t_with_value k t x s) f r d i c before =
      (declares v n k t i.0 f.0 before, fair frame fs IsCallable vars opens v x f.1.0 (demand_inside t.rate x (ExprBreach fs x) r) d i.1 c, demand_follows t.rate x (ExprBreach fs x) r)
  item_fair v n (t_with_size b s) f r d i c before = (own_array b.ty.rate s d, adds_nothing v n (ap (λ z. is_uniform (slice_get vars z)) (sym i) ∙ ap is_uniform f.1))

  items_fair : (v : Scope) (n : ℕ) (xs : List TItem) → All (FineItem fs vars) xs → ((f : Fault) → OfEach (ItemBreach fs) xs f → ⊥)
      → ((d : Dependence) → DependsOfEach ItemDepends xs d → ⊥) → ItemsAt v n xs → ((k : ℕ) → Contains (calls_of_each item_calls xs) k → IsCallable k)
      → ((k : ℕ) → closed_in control k ≡ true → k < n) → FairItems frame fs IsCallable (closed_in control) vars v n xs
  items_fair v n [] f r d i c before = tt
  items_fair v n (x ∷ xs) f r d i c before = (
    item_fair v n x (All-head (FineItem fs vars) x xs f) (λ z b. r z (inl b)) (λ z b. d z (inl b)) i.0 (first (item_calls x) (calls_of_each item_calls xs) c) before,
    items_fair (declared n v) (suc n) xs (All-tail (FineItem fs vars) x xs f) (λ z b. r z (inr b)) (λ z b. d z (inr b)) i.1 (second (item_calls x) (calls_of_each item_calls xs) c) (λ k e. next k n (before k e)),
  ) where
    next : (k n : ℕ) → k < n → k < suc n
    next k n lt = omega (arith, lt)

  pub asked_items : (v : Scope) (n : ℕ) (xs : List TItem) → AskedOfItems fs vars v IsCallable control n xs → FairItems frame fs IsCallable (closed_in control) vars v n xs
  asked_items v n xs h = items_fair v n xs h.fine h.rates h.alone h.known h.calls h.before
