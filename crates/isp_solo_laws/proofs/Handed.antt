-- What a call hands over, variable by variable: what the gang begins it with, and what each instance does.
use Rattle.std.proofs.Common.{◌≡◌, ℕ, zero, suc, ◌<◌, ◌≤◌, Bool, true, false, refl, sym, ap, ◌∙◌, subst, arith}
use Rattle.std.specs.Prelude.{List, [], ◌∷◌, take, Option, Some, None, if◌then◌else◌, slice_get}
use Rattle.isp_base.specs.Sets.{Mask}
use Rattle.isp_base.specs.Maps.{on, over, or_old}
use Rattle.isp_base.specs.declared.types.Rate.{Rate}
use Rattle.isp_base.specs.declared.types.Rate.TheVariants.{Uniform, Varying}
use Rattle.isp_base.specs.declared.types.Ty.{Ty}
use Rattle.isp_typed.specs.declared.variable.Holds.{Holds}
use Rattle.isp_typed.specs.declared.variable.Holds.TheVariants as holds
use Rattle.isp_typed.specs.declared.variable.Variable.{Variable}
use Rattle.isp_typed.specs.Fine.{array_type}
use Rattle.isp_meaning.specs.State.{Frame}
use Rattle.isp_meaning.specs.Payloads.{Payload, One, Each, sole, spread}
use Rattle.isp_meaning.specs.Expressions.{Passed, Values, Store}
use Rattle.isp_meaning.specs.Calls.{size_at, size_of, shared_sizes, store_or, same_rate, is_value, one_passed, each_passed}
use Rattle.isp_solo_meaning.specs.Calls.{value_passed}
use Rattle.isp_solo_laws.specs.Stands.{IsOpen}
use Rattle.isp_solo_laws.specs.Values.{IsOne, PassedAt, AllPassedAt, Suits, AllSuit}
use Rattle.isp_solo_laws.proofs.Lanes.{one_is}
use Rattle.isp_solo_laws.proofs.Declared.{IsOwn, OwnAt}

-- an instance that is not there is handed nothing
abbrev pub handed_to : Bool → List Passed → List Passed
handed_to true ys = ys
handed_to false ys = []

-- ---- local arrays that all share

abbrev NotShared : Holds → Type 0
NotShared (holds.Value t) = Unit {0}
NotShared (holds.Given e) = Unit {0}
NotShared (holds.Local t n) = t.rate ≡ Varying

abbrev pub NotSharedAt : Option Variable → Type 0
NotSharedAt None = Unit {0}
NotSharedAt (Some x) = NotShared x.holds

no_size : (o : Holds) (ns : List ℕ) → NotShared o → ns ≡ [] → size_of o ns ≡ []
no_size (holds.Value t) ns h e = e
no_size (holds.Given t) ns h e = e
no_size (holds.Local t n) ns h e = ap (λ r. size_at r n ns) h ∙ e

pub none_shared : (vs : List Variable) → ((k : ℕ) → NotSharedAt (slice_get vs k)) → shared_sizes vs ≡ []
none_shared [] f = refl
none_shared (v ∷ vs) f = no_size v.holds (shared_sizes vs) (f 0) (none_shared vs (λ k. f (suc k)))

-- ---- one variable

abbrev rate_in : Option Ty → Rate
rate_in None = Varying
rate_in (Some t) = t.rate

nothing_passed : (r : Rate) (o : Option Variable) → value_passed r o None ≡ 0
nothing_passed r None = refl
nothing_passed r (Some v) = refl

abbrev NoType : Option Ty → Type 0
NoType None = Unit {0}
NoType (Some t) = ⊥

module _ (opened : ℕ) (a : Mask) (p : ℕ) where
  -- what the gang hands over and what the instance p does, and the variable that takes it
  abbrev pub HandedAt : Option Passed → Option Passed → Option Variable → Type 0
  HandedAt None None o = OwnAt o
  HandedAt None (Some y) o = ⊥
  HandedAt (Some x) None o = ⊥
  HandedAt (Some x) (Some y) None = ⊥
  HandedAt (Some x) (Some y) (Some v) = PassedAt a p x y × Suits opened v.holds x

  pub handed_at : (n : ℕ) (vs : List Variable) (xs ys : List Passed) → AllPassedAt a p xs ys → AllSuit opened (take n vs) xs → ((k : ℕ) → n ≤ k → OwnAt (slice_get vs k))
      → (k : ℕ) → HandedAt (slice_get xs k) (slice_get ys k) (slice_get vs k)
  handed_at n vs [] (y ∷ ys) at suit own k = absurd at
  handed_at n vs (x ∷ xs) [] at suit own k = absurd at
  handed_at zero [] [] [] at suit own k = tt
  handed_at (suc n) [] [] [] at suit own k = tt
  handed_at zero (v ∷ vs) [] [] at suit own k = own k (omega arith)
  handed_at (suc n) (v ∷ vs) [] [] at suit own k = absurd suit
  handed_at zero [] (x ∷ xs) (y ∷ ys) at suit own k = absurd suit
  handed_at (suc n) [] (x ∷ xs) (y ∷ ys) at suit own k = absurd suit
  handed_at zero (v ∷ vs) (x ∷ xs) (y ∷ ys) at suit own k = absurd suit
  handed_at (suc n) (v ∷ vs) (x ∷ xs) (y ∷ ys) at suit own zero = (at.0, suit.0)
  handed_at (suc n) (v ∷ vs) (x ∷ xs) (y ∷ ys) at suit own (suc k) = handed_at n vs xs ys at.1 suit.1 (λ j l. own (suc j) (omega (arith, l))) k

  -- ---- a varying parameter: each has its own, and those that do not call have 0

  each_in : a p ≡ true → (q r : Option Passed) (o : Option Variable) → HandedAt q r o → each_passed o a q p ≡ value_passed Varying o r
  each_in e None None None h = refl
  each_in e None None (Some v) h = refl
  each_in e None (Some y) o h = absurd h
  each_in e (Some x) None o h = absurd h
  each_in e (Some x) (Some y) None h = absurd h
  each_in e (Some (Values m)) (Some (Values (One y))) (Some v) h = by v.holds where
    rated : (r : Rate) → (if same_rate Varying r then over (spread a m) (λ q. 0) else (λ q. 0)) p ≡ (if same_rate Varying r then y else 0)
    rated Uniform = refl
    rated Varying = ap (λ z. or_old z 0) (h.0 ∙ ap (λ t. if t then Some y else None) e)

    by : (o : Holds) → (if is_value Varying o then over (spread a m) (λ q. 0) else (λ q. 0)) p ≡ (if is_value Varying o then y else 0)
    by (holds.Value t) = rated t.rate
    by (holds.Given u) = refl
    by (holds.Local t n) = refl
  each_in e (Some (Values m)) (Some (Values (Each y))) (Some v) h = absurd h.0
  each_in e (Some (Values m)) (Some (Store c)) (Some v) h = absurd h.0
  each_in e (Some (Store b)) (Some (Values y)) (Some v) h = absurd h.0
  each_in e (Some (Store b)) (Some (Store c)) (Some v) h = refl

  each_out : a p ≡ false → (q r : Option Passed) (o : Option Variable) → HandedAt q r o → each_passed o a q p ≡ 0
  each_out e None None None h = refl
  each_out e None None (Some v) h = refl
  each_out e None (Some y) o h = absurd h
  each_out e (Some x) None o h = absurd h
  each_out e (Some x) (Some y) None h = absurd h
  each_out e (Some (Values m)) (Some (Values (One y))) (Some v) h = by v.holds where
    rated : (r : Rate) → (if same_rate Varying r then over (spread a m) (λ q. 0) else (λ q. 0)) p ≡ 0
    rated Uniform = refl
    rated Varying = ap (λ z. or_old z 0) (h.0 ∙ ap (λ t. if t then Some y else None) e)

    by : (o : Holds) → (if is_value Varying o then over (spread a m) (λ q. 0) else (λ q. 0)) p ≡ 0
    by (holds.Value t) = rated t.rate
    by (holds.Given u) = refl
    by (holds.Local t n) = refl
  each_out e (Some (Values m)) (Some (Values (Each y))) (Some v) h = absurd h.0
  each_out e (Some (Values m)) (Some (Store c)) (Some v) h = absurd h.0
  each_out e (Some (Store b)) (Some (Values y)) (Some v) h = absurd h.0
  each_out e (Some (Store b)) (Some (Store c)) (Some v) h = refl

  pub varying_begun : (t : Bool) → a p ≡ t → (q : Option Passed) (ys : List Passed) (o : Option Variable) (k : ℕ) → HandedAt q (slice_get ys k) o → each_passed o a q p ≡ value_passed Varying o (slice_get (handed_to t ys) k)
  varying_begun true e q ys o k h = each_in e q (slice_get ys k) o h
  varying_begun false e q ys o k h = each_out e q (slice_get ys k) o h ∙ sym (nothing_passed Varying o)

  -- ---- a uniform one: those that call have the gang's

  sole_handed : (m : Payload) (y : ℕ) → IsOne m → spread a m p ≡ on a (λ q. y) p → a p ≡ true → y ≡ sole m
  sole_handed (One z) y h e i = sym (one_is a z (λ q. y) p e i)
  sole_handed (Each z) y h e i = absurd h

  pub uniform_begun : a p ≡ true → (q r : Option Passed) (o : Option Variable) → HandedAt q r o → value_passed Uniform o r ≡ one_passed o q
  uniform_begun e None None None h = refl
  uniform_begun e None None (Some v) h = refl
  uniform_begun e None (Some y) o h = absurd h
  uniform_begun e (Some x) None o h = absurd h
  uniform_begun e (Some x) (Some y) None h = absurd h
  uniform_begun e (Some (Values m)) (Some (Values (One y))) (Some v) h = by v.holds h.1 where
    rated : (r : Rate) → (r ≡ Uniform → IsOne m) → (if same_rate Uniform r then y else 0) ≡ (if same_rate Uniform r then sole m else 0)
    rated Uniform s = sole_handed m y (s refl) h.0 e
    rated Varying s = refl

    by : (o : Holds) → Suits opened o (Values m) → (if is_value Uniform o then y else 0) ≡ (if is_value Uniform o then sole m else 0)
    by (holds.Value t) s = rated t.rate s
    by (holds.Given u) s = refl
    by (holds.Local t n) s = refl
  uniform_begun e (Some (Values m)) (Some (Values (Each y))) (Some v) h = absurd h.0
  uniform_begun e (Some (Values m)) (Some (Store c)) (Some v) h = absurd h.0
  uniform_begun e (Some (Store b)) (Some (Values y)) (Some v) h = absurd h.0
  uniform_begun e (Some (Store b)) (Some (Store c)) (Some v) h = refl

  -- ---- arrays: the same for all, and open

  pub same_store : (q r : Option Passed) (o : Option Variable) → HandedAt q r o → (new : ℕ) → store_or r new ≡ store_or q new
  same_store None None o h new = refl
  same_store None (Some y) o h new = absurd h
  same_store (Some x) None o h new = absurd h
  same_store (Some x) (Some y) None h new = absurd h
  same_store (Some (Values m)) (Some (Values y)) (Some v) h new = refl
  same_store (Some (Values m)) (Some (Store c)) (Some v) h new = absurd h.0
  same_store (Some (Store b)) (Some (Values y)) (Some v) h new = absurd h.0
  same_store (Some (Store b)) (Some (Store c)) (Some v) h new = sym h.0

  pub opens_at : (frame : Frame) (k new : ℕ) (q r : Option Passed) (x : Variable) (t : Ty) → frame.named k ≡ store_or q new → opened ≤ frame.opened → HandedAt q r (Some x) → array_type x.holds ≡ Some t → IsOpen frame t.rate k
  opens_at frame k new None None x t e l h i = by x.holds h i where
    by : (o : Holds) → IsOwn o → array_type o ≡ Some t → IsOpen frame t.rate k
    by (holds.Value u) h i = absurd (subst NoType i tt)
    by (holds.Given u) h i = absurd h
    by (holds.Local u n) h i = subst (λ r. IsOpen frame r k) (sym h ∙ ap rate_in i) tt
  opens_at frame k new None (Some y) x t e l h i = absurd h
  opens_at frame k new (Some x) None y t e l h i = absurd h
  opens_at frame k new (Some (Values m)) (Some y) x t e l h i = by x.holds h.1 i where
    by : (o : Holds) → Suits opened o (Values m) → array_type o ≡ Some t → IsOpen frame t.rate k
    by (holds.Value u) s i = absurd (subst NoType i tt)
    by (holds.Given u) s i = absurd s
    by (holds.Local u n) s i = absurd s
  opens_at frame k new (Some (Store b)) (Some y) x t e l h i = by x.holds h.1 i where
    by : (o : Holds) → Suits opened o (Store b) → array_type o ≡ Some t → IsOpen frame t.rate k
    by (holds.Value u) s i = absurd s
    by (holds.Given u) s i = let below : frame.named k < frame.opened = omega (arith, e, l, s) in subst (λ r. IsOpen frame r k) (ap rate_in i) below
    by (holds.Local u n) s i = absurd s

  pub not_shared : (q r : Option Passed) (o : Option Variable) → HandedAt q r o → NotSharedAt o
  not_shared q r None h = tt
  not_shared None None (Some x) h = by x.holds h where
    by : (o : Holds) → IsOwn o → NotShared o
    by (holds.Value t) h = tt
    by (holds.Given e) h = tt
    by (holds.Local t n) h = h
  not_shared None (Some y) (Some x) h = absurd h
  not_shared (Some y) None (Some x) h = absurd h
  not_shared (Some (Values m)) (Some y) (Some x) h = by x.holds h.1 where
    by : (o : Holds) → Suits opened o (Values m) → NotShared o
    by (holds.Value t) s = tt
    by (holds.Given e) s = tt
    by (holds.Local t n) s = absurd s
  not_shared (Some (Store b)) (Some y) (Some x) h = by x.holds h.1 where
    by : (o : Holds) → Suits opened o (Store b) → NotShared o
    by (holds.Value t) s = tt
    by (holds.Given e) s = tt
    by (holds.Local t n) s = absurd s
