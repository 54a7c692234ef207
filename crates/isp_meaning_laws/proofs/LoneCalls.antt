-- Calls over the set of one instance come to what that instance's do alone, by induction on the levels that are left.
use Rattle.std.proofs.Common.{◌≡◌, ℕ, zero, suc, ◌<◌, ◌≤◌, inl, inr, Bool, true, refl, sym, ap, ◌∙◌, subst, arith}
use Rattle.std.proofs.Math.Path.{fun_ext}
use Rattle.std.proofs.lemmas.Bool.Decides.{nat_tests}
use Rattle.std.proofs.lemmas.List.Elements.{All-head, All-tail}
use Rattle.std.specs.List.{All}
use Rattle.std.specs.Prelude.{List, [], ◌∷◌, ◌+◌, Option, Some, None, Contains, take, drop, length, slice_get, nat_lt, if◌then◌else◌}
use Rattle.isp_base.specs.Cross.{or_zero}
use Rattle.isp_base.specs.Maps.{over}
use Rattle.isp_base.specs.Sets.{lone}
use Rattle.isp_base.specs.Traps.{trap}
use Rattle.isp_base.specs.Types.{gang_width}
use Rattle.isp_base.specs.declared.trap.TrapKind.TheVariants.{Depth}
use Rattle.isp_base.specs.declared.types.Rate.{Rate}
use Rattle.isp_base.specs.declared.types.Rate.TheVariants.{Uniform, Varying}
use Rattle.isp_base.specs.declared.types.Span.{Span}
use Rattle.isp_base.specs.declared.types.Ty.{Ty}
use Rattle.isp_lex.specs.declared.fault.Fault.{Fault}
use Rattle.isp_typed.specs.declared.variable.ArrayVariable.{ArrayVariable}
use Rattle.isp_typed.specs.declared.variable.Holds.{Holds}
use Rattle.isp_typed.specs.declared.variable.Holds.TheVariants as holds
use Rattle.isp_typed.specs.declared.variable.Variable.{Variable as AVar}
use Rattle.isp_typed.specs.Fine.{HoldsArray, array_type, params_of, IsDeclared, FineFunction}
use Rattle.isp_typed.specs.Typed.{TFunction, Program}
use Rattle.isp_rates.specs.Breaches.{OfEach}
use Rattle.isp_rates.specs.Exits.{at_start}
use Rattle.isp_rates.specs.Program.{FunctionBreach}
use Rattle.isp_rates.specs.Accepted.{IsAccepted}
use Rattle.isp_independence.specs.Reaches.{Reaches, itself, by_call, Calls, block_calls}
use Rattle.isp_meaning.specs.Calls.{shared_sizes, store_or, same_rate, is_value, one_passed, each_passed, frame_of, begun, answer_at, answer_of, ended, called, calls_at}
use Rattle.isp_meaning.specs.Expressions.{Passed, Values, Store}
use Rattle.isp_meaning.specs.Outcomes.{Res, Went, Trapped, Cut}
use Rattle.isp_meaning.specs.Payloads.{One, Each, sole, spread}
use Rattle.isp_meaning.specs.State.{State, Frame, below}
use Rattle.isp_meaning.specs.Statements.{block}
use Rattle.isp_solo_meaning.specs.Alone.{Alone}
use Rattle.isp_solo_meaning.specs.Answers.{End, Does, Dies, Lasts}
use Rattle.isp_solo_meaning.specs.Calls.{value_passed, begun as own_begun, ended as own_ended, called as own_called, own_calls}
use Rattle.isp_solo_meaning.specs.Does.{does_block}
use Rattle.isp_meaning_laws.specs.Lone.{LooksAtNobody, SharesNone, IsFrameOf, World, ResultAt, ResultIs, Stands, Shares, IsValue, IsAnswer}
use Rattle.isp_meaning_laws.proofs.LoneSets.{just_is, lowest_lone}
use Rattle.isp_meaning_laws.proofs.LoneSims.{CameTo, Left, not_uniform, uniform_value}
use Rattle.isp_meaning_laws.proofs.LoneFair.{IsOpen, FairBlock}
use Rattle.isp_meaning_laws.proofs.LoneHeld.{over_there}
use Rattle.isp_meaning_laws.proofs.LoneValues.{PassedIs, AllPassed, CallsAgree}
use Rattle.isp_meaning_laws.proofs.LoneDoes.{block_left}
use Rattle.isp_meaning_laws.proofs.LoneAsked.{local_varies, fair_block}

-- ---- what an accepted program promises of each function

abbrev some_or : {A : Type 0} → A → Option A → A
some_or y None = y
some_or y (Some x) = x

breach_of : {A : Type 0} (B : A → Fault → Type 0) (xs : List A) (k : ℕ) (x : A) → slice_get xs k ≡ Some x → (f : Fault) → B x f → OfEach B xs f
breach_of B [] k x e f b = absurd (cc)
breach_of B (y ∷ ys) zero x e f b = inl (subst (λ z. B z f) (sym (ap (some_or y) e)) b)
breach_of B (y ∷ ys) (suc k) x e f b = inr (breach_of B ys k x e f b)

of_each : {A : Type 0} (P : A → Type 0) (xs : List A) (k : ℕ) (x : A) → All P xs → slice_get xs k ≡ Some x → P x
of_each P [] k x all e = absurd (cc)
of_each P (y ∷ ys) zero x all e = subst P (ap (some_or y) e) (All-head P y ys all)
of_each P (y ∷ ys) (suc k) x all e = of_each P ys k x (All-tail P y ys all) e

-- who is called by one that looks at nobody looks at nobody
reaches_from : (fs : List TFunction) (k j i : ℕ) → Calls fs k j → Reaches fs j i → Reaches fs k i
reaches_from fs k j i c itself = by_call k j itself c
reaches_from fs k j i c (by_call n m r d) = by_call n m (reaches_from fs k j n c r) d

pub callees : (program : Program) (k : ℕ) (g : TFunction) → slice_get program.functions k ≡ Some g → LooksAtNobody program k → (j : ℕ) → Contains (block_calls g.body) j → LooksAtNobody program j
callees program k g found h j c = record {
  body = λ i f r e. h.body i f (reaches_from program.functions k j i (record { by = (g, found, c) }) r) e;
  arrays = λ i f r e. h.arrays i f (reaches_from program.functions k j i (record { by = (g, found, c) }) r) e;
}

-- ---- frames

pub frame_opens : (frame : Frame) (g : TFunction) → IsFrameOf frame g → (a : ArrayVariable) → HoldsArray g.variables a → IsOpen frame a.ty.rate a.number
frame_opens frame g h a i = go a.ty.rate refl where
  go : (r : Rate) → a.ty.rate ≡ r → IsOpen frame r a.number
  go Uniform e = h.opened a.number i.variable a.ty i.is i.ty e
  go Varying e = tt

-- ---- what is handed over, variable by variable

abbrev NotGiven : Holds → Type 0
NotGiven (holds.Given e) = ⊥
NotGiven h = Unit {0}

abbrev NotGivenAt : Option AVar → Type 0
NotGivenAt None = Unit {0}
NotGivenAt (Some v) = NotGiven v.holds

declared_not : (v : AVar) → IsDeclared v → NotGiven v.holds
declared_not v h = go v.holds v.constant h where
  go : (o : Holds) (c : Bool) → IsDeclared (record { holds = o; constant = c }) → NotGiven o
  go (holds.Value t) c h = tt
  go (holds.Given e) c h = h
  go (holds.Local t n) c h = tt

declared_at : (n : ℕ) (vs : List AVar) → All IsDeclared (drop n vs) → (k : ℕ) → n ≤ k → NotGivenAt (slice_get vs k)
declared_at zero [] all k l = tt
declared_at zero (v ∷ vs) all zero l = declared_not v (All-head IsDeclared v vs all)
declared_at zero (v ∷ vs) all (suc k) l = declared_at zero vs (All-tail IsDeclared v vs all) k (omega arith)
declared_at (suc n) [] all k l = tt
declared_at (suc n) (v ∷ vs) all zero l = absurd (omega (arith, l))
declared_at (suc n) (v ∷ vs) all (suc k) l = declared_at n vs all k (omega (arith, l))

module _ (w : World) where
  abbrev HandedAt : Option AVar → Option Passed → Option Passed → Type 0
  HandedAt None None None = Unit {0}
  HandedAt (Some v) None None = NotGiven v.holds
  HandedAt (Some v) (Some x) (Some y) = PassedIs w v.holds x y
  HandedAt o q r = ⊥

  not_handed : (o : Option AVar) → NotGivenAt o → HandedAt o None None
  not_handed None h = tt
  not_handed (Some v) h = h

  handed_at : (n : ℕ) (vs : List AVar) (xs ys : List Passed) → AllPassed w (take n vs) xs ys → ((k : ℕ) → n ≤ k → NotGivenAt (slice_get vs k)) → (k : ℕ) → HandedAt (slice_get vs k) (slice_get xs k) (slice_get ys k)
  handed_at zero [] [] [] h own k = tt
  handed_at (suc n) [] [] [] h own k = tt
  handed_at zero (v ∷ vs) [] [] h own k = not_handed (slice_get (v ∷ vs) k) (own k (omega arith))
  handed_at (suc n) (v ∷ vs) [] [] h own k = absurd h
  handed_at zero [] (x ∷ xs) ys h own k = absurd h
  handed_at (suc n) [] (x ∷ xs) ys h own k = absurd h
  handed_at zero (v ∷ vs) (x ∷ xs) ys h own k = absurd h
  handed_at zero [] [] (y ∷ ys) h own k = absurd h
  handed_at (suc n) [] [] (y ∷ ys) h own k = absurd h
  handed_at zero (v ∷ vs) [] (y ∷ ys) h own k = absurd h
  handed_at (suc n) (v ∷ vs) [] (y ∷ ys) h own k = absurd h
  handed_at (suc n) (v ∷ vs) (x ∷ xs) [] h own k = absurd h
  handed_at (suc n) (v ∷ vs) (x ∷ xs) (y ∷ ys) h own zero = h.0
  handed_at (suc n) (v ∷ vs) (x ∷ xs) (y ∷ ys) h own (suc k) = handed_at n vs xs ys h.1 (λ j l. own (suc j) (omega (arith, l))) k

  -- a uniform parameter
  one_handed : (o : Option AVar) (q r : Option Passed) → HandedAt o q r → one_passed o q ≡ value_passed Uniform o r
  one_handed None None None h = refl
  one_handed (Some v) None None h = refl
  one_handed None None (Some y) h = absurd h
  one_handed None (Some x) r h = absurd h
  one_handed (Some v) None (Some y) h = absurd h
  one_handed (Some v) (Some x) None h = absurd h
  one_handed (Some v) (Some (Store b)) (Some y) h = go v.holds h where
    go : (o : Holds) → PassedIs w o (Store b) y → 0 ≡ value_passed Uniform (Some v) (Some y)
    go (holds.Value t) h = absurd h
    go (holds.Given e) h = ap (λ z. value_passed Uniform (Some v) (Some z)) (sym h.0)
    go (holds.Local t n) h = absurd h
  one_handed (Some v) (Some (Values m)) (Some y) h = go v.holds refl h where
    rated : (t : Ty) (y2 : ℕ) → IsValue w.instance t.rate m y2 → (if same_rate Uniform t.rate then sole m else 0) ≡ (if same_rate Uniform t.rate then y2 else 0)
    rated t y2 i = by t.rate refl i where
      by : (r : Rate) → t.rate ≡ r → IsValue w.instance r m y2 → (if same_rate Uniform r then sole m else 0) ≡ (if same_rate Uniform r then y2 else 0)
      by Uniform e i = ap sole (uniform_value w.instance Uniform m y2 refl i)
      by Varying e i = refl

    go : (o : Holds) → v.holds ≡ o → PassedIs w o (Values m) y → (if is_value Uniform v.holds then sole m else 0) ≡ value_passed Uniform (Some v) (Some y)
    go (holds.Value t) e h =
        ap (λ (z : Holds). if is_value Uniform z then sole m else 0) e ∙ rated t h.0 h.2 ∙ ap (λ (z : Holds). if is_value Uniform z then h.0 else 0) (sym e) ∙ ap (λ z. value_passed Uniform (Some v) (Some z)) (sym h.1)
    go (holds.Given e) d h = absurd h
    go (holds.Local t n) d h = absurd h

  -- a varying one
  each_handed : (o : Option AVar) (q r : Option Passed) → HandedAt o q r → each_passed o (lone (Some w.instance)) q w.instance ≡ value_passed Varying o r
  each_handed None None None h = refl
  each_handed (Some v) None None h = refl
  each_handed None None (Some y) h = absurd h
  each_handed None (Some x) r h = absurd h
  each_handed (Some v) None (Some y) h = absurd h
  each_handed (Some v) (Some x) None h = absurd h
  each_handed (Some v) (Some (Store b)) (Some y) h = go v.holds h where
    go : (o : Holds) → PassedIs w o (Store b) y → 0 ≡ value_passed Varying (Some v) (Some y)
    go (holds.Value t) h = absurd h
    go (holds.Given e) h = ap (λ z. value_passed Varying (Some v) (Some z)) (sym h.0)
    go (holds.Local t n) h = absurd h
  each_handed (Some v) (Some (Values m)) (Some y) h = go v.holds refl h where
    mine : Bool → ℕ
    mine b = (if b then over (spread (lone (Some w.instance)) m) (λ p. 0) else (λ p. 0)) w.instance

    rated : (r q : Rate) (y2 : ℕ) → IsValue w.instance q m y2 → mine (same_rate Varying r) ≡ (if same_rate Varying r then y2 else 0)
    rated Uniform q y2 i = refl
    rated Varying q y2 i = over_there w q m y2 (λ p. 0) i

    go : (o : Holds) → v.holds ≡ o → PassedIs w o (Values m) y → mine (is_value Varying v.holds) ≡ value_passed Varying (Some v) (Some y)
    go (holds.Value t) e h =
        ap (λ (z : Holds). mine (is_value Varying z)) e ∙ rated t.rate t.rate h.0 h.2 ∙ ap (λ (z : Holds). if is_value Varying z then h.0 else 0) (sym e) ∙ ap (λ z. value_passed Varying (Some v) (Some z)) (sym h.1)
    go (holds.Given e) d h = absurd h
    go (holds.Local t n) d h = absurd h

  -- an array
  store_handed : (o : Option AVar) (q r : Option Passed) (n : ℕ) → HandedAt o q r → store_or r n ≡ store_or q n
  store_handed None None None n h = refl
  store_handed (Some v) None None n h = refl
  store_handed None None (Some y) n h = absurd h
  store_handed None (Some x) r n h = absurd h
  store_handed (Some v) None (Some y) n h = absurd h
  store_handed (Some v) (Some x) None n h = absurd h
  store_handed (Some v) (Some (Store b)) (Some y) n h = go v.holds h where
    go : (o : Holds) → PassedIs w o (Store b) y → store_or (Some y) n ≡ b
    go (holds.Value t) h = absurd h
    go (holds.Given e) h = ap (λ z. store_or (Some z) n) h.0
    go (holds.Local t k) h = absurd h
  store_handed (Some v) (Some (Values m)) (Some y) n h = go v.holds h where
    go : (o : Holds) → PassedIs w o (Values m) y → store_or (Some y) n ≡ n
    go (holds.Value t) h = ap (λ z. store_or (Some z) n) h.1
    go (holds.Given e) h = absurd h
    go (holds.Local t k) h = absurd h

  -- ---- the call of a function

  module _ (g : TFunction) (xs ys : List Passed) (none : SharesNone g.variables) (at : (k : ℕ) → HandedAt (slice_get g.variables k) (slice_get xs k) (slice_get ys k)) where
    abbrev inner : World
    inner = record { instance = w.instance; begin = w.begin; out = w.out; frame = frame_of g xs w.frame }

    same_frame : frame_of g ys w.frame ≡ frame_of g xs w.frame
    same_frame = ap (λ f. record {
      named = f;
      sizes = (frame_of g xs w.frame).sizes;
      opened = (frame_of g xs w.frame).opened;
      own_sizes =
          (frame_of g xs w.frame).own_sizes;
      answer = g.answer;
    })
        (fun_ext (λ k. store_handed (slice_get g.variables k) (slice_get xs k) (slice_get ys k) _ (at k)))

    is_open : (b : ℕ) → b < w.frame.opened → b < w.frame.opened + length (shared_sizes g.variables)
    is_open b lt = omega (arith, lt)

    was_open : (b : ℕ) → b < w.frame.opened + length (shared_sizes g.variables) → b < w.frame.opened
    was_open b lt = let n : length (shared_sizes g.variables) ≡ 0 = ap length none in omega (arith, lt, n)

    frame_is : IsFrameOf (frame_of g xs w.frame) g
    frame_is = record { answer = refl; opened = λ k x t is ty u. go k x t is ty u x.holds refl (slice_get xs k) (slice_get ys k) (subst (λ o. HandedAt o (slice_get xs k) (slice_get ys k)) is (at k)) refl } where
      given : (k b : ℕ) → slice_get xs k ≡ Some (Store b) → b < w.frame.opened → (frame_of g xs w.frame).named k < (frame_of g xs w.frame).opened
      given k b e lt = subst (λ q. store_or q (w.frame.opened + length (shared_sizes (take k g.variables))) < w.frame.opened + length (shared_sizes g.variables)) (sym e) (is_open b lt)

      no_type : (t : Ty) → None ≡ Some t → ⊥
      no_type t e = subst (λ (o : Option Ty). IsNone o) e tt where
        IsNone : Option Ty → Type 0
        IsNone None = Unit {0}
        IsNone (Some y) = ⊥

      handed_store : (x : AVar) (e : _) (k : ℕ) → x.holds ≡ holds.Given e → (q r : Option Passed) → slice_get xs k ≡ q → HandedAt (Some x) q r → (frame_of g xs w.frame).named k < (frame_of g xs w.frame).opened
      handed_store x e k d None None i h = absurd (subst NotGiven d h)
      handed_store x e k d None (Some y) i h = absurd h
      handed_store x e k d (Some z) None i h = absurd h
      handed_store x e k d (Some (Values m)) (Some y) i h = absurd (subst (λ o. PassedIs w o (Values m) y) d h)
      handed_store x e k d (Some (Store b)) (Some y) i h = let both = subst (λ o. PassedIs w o (Store b) y) d h in given k b i both.1

      go : (k : ℕ) (x : AVar) (t : Ty) → slice_get g.variables k ≡ Some x → array_type x.holds ≡ Some t → t.rate ≡ Uniform → (o : Holds) → x.holds ≡ o
          → (q r : Option Passed) → HandedAt (Some x) q r → slice_get xs k ≡ q → (frame_of g xs w.frame).named k < (frame_of g xs w.frame).opened
      go k x t is ty u (holds.Value v) d q r h i = absurd (no_type t (sym (ap array_type d) ∙ ty))
      go k x t is ty u (holds.Given e) d q r h i = handed_store x e k d q r i h
      go k x t is ty u (holds.Local v n) d q r h i =
          absurd (not_uniform (sym (local_varies g.variables none k x v n is d) ∙ ap (λ (z : Option Ty). rate_in z) (sym (ap array_type d) ∙ ty) ∙ u)) where
            rate_in : Option Ty → Rate
            rate_in None = Varying
            rate_in (Some z) = z.rate

    -- it begins with what was passed and zeros
    no_result : (o : Option Ty) → ResultIs o 0 0 0
    no_result None = tt
    no_result (Some t) = by t.rate where
      by : (r : Rate) → ResultAt r 0 0 0
      by Uniform = refl
      by Varying = refl

    below_it : (f : ℕ → ℕ → ℕ) (b e x : ℕ) → b < w.frame.opened → f b e ≡ x → below w.frame.opened f b e ≡ x
    below_it f b e x lt h = let t : nat_lt b w.frame.opened ≡ true = grind (arith, lt, nat_tests) in ap (λ c. (if c then f b else (λ i. 0)) e) t ∙ h

    begun_stands : (s : State) (t : Alone) → Stands w s t → Stands inner (begun g xs w.frame (lone (Some w.instance)) s) (own_begun g ys t)
    begun_stands s t st = (
      fun_ext (λ k. one_handed (slice_get g.variables k) (slice_get xs k) (slice_get ys k) (at k)),
      λ k. each_handed (slice_get g.variables k) (slice_get xs k) (slice_get ys k) (at k),
      λ k e. refl,
      no_result g.answer,
      (λ b e lt. below_it s.arrays b e _ (was_open b lt) (st.4.0 b e (was_open b lt)), st.4.1),
    )

    -- and ends with its result; the caller has its variables as they were
    answer_is : (o : Option Ty) (s : State) (t : Alone) → ResultIs o s.result (s.results w.instance) t.result → IsAnswer w.instance o (answer_of o (lone (Some w.instance)) s) t.result
    answer_is None s t h = tt
    answer_is (Some u) s t h = by u.rate h where
      by : (r : Rate) → ResultAt r s.result (s.results w.instance) t.result → IsValue w.instance r (answer_at r (lone (Some w.instance)) s) t.result
      by Uniform h = inl (ap One h)
      by Varying h = inr (refl, ap Each (just_is w.instance s.results t.result h))

    shares_out : (s : State) (t : Alone) → Shares inner s t → Shares w s t
    shares_out s t h = (λ b e lt. h.0 b e (is_open b lt), h.1)

    ended_came : (s : State) (t : Alone) → Stands w s t → (v : Res) (r : End) → Left inner v r → CameTo w (IsAnswer w.instance g.answer) (ended g.answer w.frame (lone (Some w.instance)) s v) (own_ended t r)
    ended_came s t st (Went s1 a b c d) (Does t1 how) h =
        record { by = (answer_is g.answer s1 t1 h.by.1.3, (st.0, st.1, st.2, st.3, (λ k e lt. below_it s1.arrays k e _ lt (h.by.1.4.0 k e (is_open k lt)), h.by.1.4.1))) }
    ended_came s t st (Trapped e s1) (Dies d t1) h = record { by = (h.by.0, shares_out s1 t1 h.by.1) }
    ended_came s t st (Cut s1) (Lasts t1) h = record { by = shares_out s1 t1 h.by }
    ended_came s t st (Went s1 a b c d) (Dies e t1) h = absurd h.by
    ended_came s t st (Went s1 a b c d) (Lasts t1) h = absurd h.by
    ended_came s t st (Trapped e s1) (Does t1 how) h = absurd h.by
    ended_came s t st (Trapped e s1) (Lasts t1) h = absurd h.by
    ended_came s t st (Cut s1) (Does t1 how) h = absurd h.by
    ended_came s t st (Cut s1) (Dies d t1) h = absurd h.by

-- ---- levels

module _ (program : Program) (most : ℕ) (accepted : IsAccepted program) where
  abbrev gang : ℕ
  gang = gang_width program.gang

  abbrev pub Level : ℕ → World → Type 0
  Level left w = CallsAgree w program.functions (LooksAtNobody program) (calls_at program most left) (own_calls program most w.begin w.instance left)

  pub fine : (k : ℕ) (g : TFunction) → slice_get program.functions k ≡ Some g → FineFunction program.functions g
  fine k g found = of_each (FineFunction program.functions) program.functions k g accepted.fine.each found

  one_level : (left : ℕ) → ((w : World) → w.instance < gang → Level left w) → (w : World) → w.instance < gang → (k : ℕ) (g : TFunction) (sp : Span) (xs ys : List Passed) (s : State) (t : Alone)
      → slice_get program.functions k ≡ Some g → LooksAtNobody program k → AllPassed w (params_of g) xs ys → Stands w s t
      → CameTo w (IsAnswer w.instance g.answer) (calls_at program most (suc left) k sp (lone (Some w.instance)) xs w.frame s) (own_calls program most w.begin w.instance (suc left) k sp ys w.frame t)
  one_level left below w lt k g sp xs ys s t found looks passed st =
      subst (λ o. CameTo w (IsAnswer w.instance g.answer) (called program most (calls_at program most left) o (lone (Some w.instance)) xs w.frame s)
      (own_called program most w.begin w.instance (own_calls program most w.begin w.instance left) o ys w.frame t)) (sym found)
      (subst (λ fr. CameTo w (IsAnswer w.instance g.answer)
      (ended g.answer w.frame (lone (Some w.instance)) s
      (block gang (frame_of g xs w.frame) (calls_at program most left) most g.body (lone (Some w.instance))
      (begun g xs w.frame (lone (Some w.instance)) s)))
      (own_ended t (does_block gang w.begin w.instance fr (own_calls program most w.begin w.instance left) most g.body (own_begun g ys t))))
      (sym (same_frame w g xs ys none at))
      (ended_came w g xs ys none at s t st _ _ (block_left (inner w g xs ys none at) gang lt program.functions (LooksAtNobody program)
      (calls_at program most left) (own_calls program most w.begin w.instance left) (below (inner w g xs ys none at) lt) most g.body body_fair
      (begun g xs w.frame (lone (Some w.instance)) s) (own_begun g ys t) (begun_stands w g xs ys none at s t st)))) where
        none : SharesNone g.variables
        none = looks.arrays k g itself found

        at : (j : ℕ) → HandedAt w (slice_get g.variables j) (slice_get xs j) (slice_get ys j)
        at = handed_at w (length g.params) g.variables xs ys passed (declared_at (length g.params) g.variables (fine k g found).declared)

        body_fair : FairBlock (frame_of g xs w.frame) program.functions (LooksAtNobody program) g.body
        body_fair =
            fair_block (frame_of g xs w.frame) program.functions (LooksAtNobody program) g.variables (frame_opens (frame_of g xs w.frame) g (frame_is w g xs ys none at)) none g.answer refl at_start g.body (fine k g found).body
            (λ z b. accepted.sound z (breach_of (FunctionBreach program.functions) program.functions k g found z (inr b))) (looks.body k g itself found) (callees program k g found looks)

  pub calls_agree : (left : ℕ) (w : World) → w.instance < gang → Level left w
  calls_agree zero w lt = record { go = λ k g sp xs ys s t found looks passed st. record { by = (ap (λ o. trap Depth sp (or_zero o)) (lowest_lone w.instance gang lt), st.4) } }
  calls_agree (suc left) w lt = record { go = one_level left (λ w2 lt2. calls_agree left w2 lt2) w lt }
