-- Two runs of one code beside each other, from states that are related: how one goes on from another.
use Rattle.std.proofs.Common.{◌≡◌, ℕ, ◌⊎◌, inl, inr, Bool, true, false, refl, sym, subst, true≢false}
use Rattle.std.specs.Prelude.{Option, Some, None, if◌then◌else◌}
use Rattle.isp_base.specs.Maps.{holds, where_true}
use Rattle.isp_base.specs.Sets.{Mask, nobody}
use Rattle.isp_base.specs.declared.trap.TrapKind.{TrapKind}
use Rattle.isp_base.specs.declared.types.Span.{Span}
use Rattle.isp_meaning.specs.Laws.{HasNone}
use Rattle.isp_meaning.specs.Outcomes.{Val, Gives, Fails, Stops, Res, Went, Trapped, Cut, bind, with_value, checked, go_on, went_all, if_so}
use Rattle.isp_meaning.specs.Payloads.{Payload, One, Each, kept_by, spread}
use Rattle.isp_meaning.specs.State.{State}
use Rattle.isp_meaning_laws.specs.Decides.{Ways, ways}
use Rattle.isp_meaning_laws.proofs.MemberSets.{kept_inside}

abbrev pub Free : {A : Type 0} → A → Type 0
Free x = Unit {0}

-- ---- a promise that all in a place keep, or this part of it

pub fst_of : {W A B : Type 0} → W ⊎ (A × B) → W ⊎ A
fst_of (inl w) = inl w
fst_of (inr h) = inr h.0

pub snd_of : {W A B : Type 0} → W ⊎ (A × B) → W ⊎ B
snd_of (inl w) = inl w
snd_of (inr h) = inr h.1

pub left_of : {W A B C : Type 0} → W ⊎ (A × B × C) → W ⊎ A
left_of (inl w) = inl w
left_of (inr h) = inr h.0

pub middle_of : {W A B C : Type 0} → W ⊎ (A × B × C) → W ⊎ B
middle_of (inl w) = inl w
middle_of (inr h) = inr h.1

pub last_of : {W A B C : Type 0} → W ⊎ (A × B × C) → W ⊎ C
last_of (inl w) = inl w
last_of (inr h) = inr h.2

pub first_of : {W A B C D : Type 0} → W ⊎ (A × B × C × D) → W ⊎ A
first_of (inl w) = inl w
first_of (inr h) = inr h.0

pub second_of : {W A B C D : Type 0} → W ⊎ (A × B × C × D) → W ⊎ B
second_of (inl w) = inl w
second_of (inr h) = inr h.1

pub third_of : {W A B C D : Type 0} → W ⊎ (A × B × C × D) → W ⊎ C
third_of (inl w) = inl w
third_of (inr h) = inr h.2

pub fourth_of : {W A B C D : Type 0} → W ⊎ (A × B × C × D) → W ⊎ D
fourth_of (inl w) = inl w
fourth_of (inr h) = inr h.3

module _ (m : Mask) where
  -- ---- parts of the set

  abbrev pub Part : Mask → Type 0
  Part a = (p : ℕ) → a p ≡ true → m p ≡ true

  abbrev pub Out : Payload → Type 0
  Out x = (p : ℕ) → m p ≡ false → HasNone p x

  abbrev pub OutBy : Val Payload → Type 0
  OutBy (Gives x s) = Out x
  OutBy (Fails t s) = Unit {0}
  OutBy (Stops s) = Unit {0}

  abbrev pub PartBy : Res → Type 0
  PartBy (Went s g b c r) = Part g × Part c
  PartBy (Trapped t s) = Unit {0}
  PartBy (Cut s) = Unit {0}

  pub kept_part : (f : ℕ → Bool) (a : Mask) (x : Payload) → Part a → Out x → Part (kept_by f a x)
  kept_part f a (Each x) h i = kept_inside f m (Each x) i
  kept_part f a (One c) h i = go (f c) where
    go : (t : Bool) → Part (if t then a else nobody)
    go true p e = h p e
    go false p e = absurd (true≢false (sym e))

  pub spread_part : (f : ℕ → Bool) (a : Mask) (x : Payload) → Part a → Out x → Part (where_true f (spread a x))
  spread_part f a (Each x) h i p e = kept_inside f m (Each x) i p e
  spread_part f a (One c) h i p e = h p (go (a p) e) where
    go : (t : Bool) → holds f (if t then Some c else None) ≡ true → t ≡ true
    go true d = refl
    go false d = d

  -- ---- twins: the same comes of both, and the states are related again

  module _ (L : State → State → Type 0) where
    abbrev TwinBy : {A : Type 0} → (A → Type 0) → Val A → Val A → Type 0
    TwinBy Q (Gives x s) (Gives y t) = (x ≡ y) × Q x × L s t
    TwinBy Q (Fails e s) (Fails d t) = (e ≡ d) × L s t
    TwinBy Q (Stops s) (Stops t) = L s t
    TwinBy Q v w = ⊥

    pub record Twin {A : Type 0} (Q : A → Type 0) (v w : Val A) : Type 0 where
      pub by : TwinBy Q v w

    abbrev TwinResBy : Res → Res → Type 0
    TwinResBy (Went s g b c r) (Went t g1 b1 c1 r1) = (ways g b c r ≡ ways g1 b1 c1 r1) × L s t
    TwinResBy (Trapped e s) (Trapped d t) = (e ≡ d) × L s t
    TwinResBy (Cut s) (Cut t) = L s t
    TwinResBy v w = ⊥

    pub record TwinRes (v w : Res) : Type 0 where
      pub by : TwinResBy v w

    pub gives : {A : Type 0} (Q : A → Type 0) (x y : A) (s t : State) → x ≡ y → Q x → L s t → Twin Q (Gives x s) (Gives y t)
    gives Q x y s t e q l = record { by = (e, q, l) }

    pub after : {A B : Type 0} (Q : A → Type 0) (R : B → Type 0) (v w : Val A) (go to : A → State → Val B) → Twin Q v w → ((x : A) (s t : State) → Q x → L s t → Twin R (go x s) (to x t)) → Twin R (bind v go) (bind w to)
    after Q R (Gives x s) (Gives y t) go to h k = subst (λ z. Twin R (go x s) (to z t)) h.by.0 (k x s t h.by.1 h.by.2)
    after Q R (Fails e s) (Fails d t) go to h k = record { by = h.by }
    after Q R (Stops s) (Stops t) go to h k = record { by = h.by }
    after Q R (Gives x s) (Fails d t) go to h k = absurd h.by
    after Q R (Gives x s) (Stops t) go to h k = absurd h.by
    after Q R (Fails e s) (Gives y t) go to h k = absurd h.by
    after Q R (Fails e s) (Stops t) go to h k = absurd h.by
    after Q R (Stops s) (Gives y t) go to h k = absurd h.by
    after Q R (Stops s) (Fails d t) go to h k = absurd h.by

    pub with_twin : {A : Type 0} (Q : A → Type 0) (v w : Val A) (go to : A → State → Res) → Twin Q v w → ((x : A) (s t : State) → Q x → L s t → TwinRes (go x s) (to x t)) → TwinRes (with_value v go) (with_value w to)
    with_twin Q (Gives x s) (Gives y t) go to h k = subst (λ z. TwinRes (go x s) (to z t)) h.by.0 (k x s t h.by.1 h.by.2)
    with_twin Q (Fails e s) (Fails d t) go to h k = record { by = h.by }
    with_twin Q (Stops s) (Stops t) go to h k = record { by = h.by }
    with_twin Q (Gives x s) (Fails d t) go to h k = absurd h.by
    with_twin Q (Gives x s) (Stops t) go to h k = absurd h.by
    with_twin Q (Fails e s) (Gives y t) go to h k = absurd h.by
    with_twin Q (Fails e s) (Stops t) go to h k = absurd h.by
    with_twin Q (Stops s) (Gives y t) go to h k = absurd h.by
    with_twin Q (Stops s) (Fails d t) go to h k = absurd h.by

    pub weaker : {A : Type 0} (Q R : A → Type 0) (v w : Val A) → ((x : A) (s : State) → v ≡ Gives x s → R x) → Twin Q v w → Twin R v w
    weaker Q R (Gives x s) (Gives y t) k h = record { by = (h.by.0, k x s refl, h.by.2) }
    weaker Q R (Fails e s) (Fails d t) k h = record { by = h.by }
    weaker Q R (Stops s) (Stops t) k h = record { by = h.by }
    weaker Q R (Gives x s) (Fails d t) k h = absurd h.by
    weaker Q R (Gives x s) (Stops t) k h = absurd h.by
    weaker Q R (Fails e s) (Gives y t) k h = absurd h.by
    weaker Q R (Fails e s) (Stops t) k h = absurd h.by
    weaker Q R (Stops s) (Gives y t) k h = absurd h.by
    weaker Q R (Stops s) (Fails d t) k h = absurd h.by

    pub all_went : (a : Mask) (s t : State) → L s t → TwinRes (went_all a s) (went_all a t)
    all_went a s t l = record { by = (refl, l) }

    -- after a statement
    pub on : (v w : Res) (go to : State → Mask → Mask → Mask → Mask → Res) → TwinRes v w → PartBy v → ((s t : State) (g b c r : Mask) → Part g → Part c → L s t → TwinRes (go s g b c r) (to t g b c r)) → TwinRes (go_on v go) (go_on w to)
    on (Went s g b c r) (Went t g1 b1 c1 r1) go to h i k = subst (λ (z : Ways). TwinRes (go s g b c r) (to t z.0 z.1 z.2 z.3)) h.by.0 (k s t g b c r i.0 i.1 h.by.1)
    on (Trapped e s) (Trapped d t) go to h i k = record { by = h.by }
    on (Cut s) (Cut t) go to h i k = record { by = h.by }
    on (Went s g b c r) (Trapped d t) go to h i k = absurd h.by
    on (Went s g b c r) (Cut t) go to h i k = absurd h.by
    on (Trapped e s) (Went t g b c r) go to h i k = absurd h.by
    on (Trapped e s) (Cut t) go to h i k = absurd h.by
    on (Cut s) (Went t g b c r) go to h i k = absurd h.by
    on (Cut s) (Trapped d t) go to h i k = absurd h.by

    pub next : (v w : Res) (go to : State → Mask → Mask → Mask → Mask → Res) → TwinRes v w → ((s t : State) (g b c r : Mask) → L s t → TwinRes (go s g b c r) (to t g b c r)) → TwinRes (go_on v go) (go_on w to)
    next (Went s g b c r) (Went t g1 b1 c1 r1) go to h k = subst (λ (z : Ways). TwinRes (go s g b c r) (to t z.0 z.1 z.2 z.3)) h.by.0 (k s t g b c r h.by.1)
    next (Trapped e s) (Trapped d t) go to h k = record { by = h.by }
    next (Cut s) (Cut t) go to h k = record { by = h.by }
    next (Went s g b c r) (Trapped d t) go to h k = absurd h.by
    next (Went s g b c r) (Cut t) go to h k = absurd h.by
    next (Trapped e s) (Went t g b c r) go to h k = absurd h.by
    next (Trapped e s) (Cut t) go to h k = absurd h.by
    next (Cut s) (Went t g b c r) go to h k = absurd h.by
    next (Cut s) (Trapped d t) go to h k = absurd h.by

    pub if_twin : (b : Bool) (f g f1 g1 : State → Res) (s t : State) → (b ≡ true → TwinRes (f s) (f1 t)) → (b ≡ false → TwinRes (g s) (g1 t)) → TwinRes (if_so b f g s) (if_so b f1 g1 t)
    if_twin true f g f1 g1 s t h k = h refl
    if_twin false f g f1 g1 s t h k = k refl

    pub value_if : {A : Type 0} (Q : A → Type 0) (b : Bool) (f g f1 g1 : State → Val A) (s t : State) → (b ≡ true → Twin Q (f s) (f1 t)) → Twin Q (g s) (g1 t) → Twin Q (if_so b f g s) (if_so b f1 g1 t)
    value_if Q true f g f1 g1 s t h k = h refl
    value_if Q false f g f1 g1 s t h k = k

    pub checks : {A : Type 0} (Q : A → Type 0) (o : Option ℕ) (kind : TrapKind) (place : Span) (s t : State) (x y : A) → x ≡ y → Q x → L s t → Twin Q (checked o kind place s x) (checked o kind place t y)
    checks Q None kind place s t x y e q l = record { by = (e, q, l) }
    checks Q (Some p) kind place s t x y e q l = record { by = (refl, l) }
