-- A trap that names a member of one set, and how one goes on from another over parts of that set.
use Rattle.std.proofs.Common.{◌≡◌, ℕ, zero, suc, ◌+◌, ◌<◌, ◌≤◌, Bool, true, false, refl, sym, ap, ◌∙◌, arith, true≢false}
use Rattle.std.proofs.lemmas.Bool.Decides.{nat_tests}
use Rattle.std.specs.Prelude.{Option, Some, None, ◌||◌, ◌&&◌, nat_lt, if◌then◌else◌}
use Rattle.isp_base.specs.Cross.{or_zero}
use Rattle.isp_base.specs.Maps.{Map, holds, where_true}
use Rattle.isp_base.specs.Sets.{Mask, nobody, everyone, union, any, lowest, or_this}
use Rattle.isp_base.specs.declared.trap.TrapKind.{TrapKind}
use Rattle.isp_base.specs.declared.types.Span.{Span}
use Rattle.isp_meaning.specs.Laws.{HasNone, Parted}
use Rattle.isp_meaning.specs.Outcomes.{Val, Gives, Fails, Stops, Res, Went, Trapped, Cut, bind, with_value, checked, go_on, went_all, if_so}
use Rattle.isp_meaning.specs.Payloads.{Payload, One, Each, bit, kept_by, spread, offender, if_fails}
use Rattle.isp_meaning.specs.State.{State}
use Rattle.isp_meaning_laws.specs.Members.{Names}

-- ---- the lowest of a set

abbrev Found : ℕ → Mask → Option ℕ → Type 0
Found n a None = any n a ≡ false
Found n a (Some p) = (p < n) × (a p ≡ true)

lowest_found : (n : ℕ) (a : Mask) → Found n a (lowest n a)
lowest_found zero a = refl
lowest_found (suc n) a = go (lowest n a) (lowest_found n a) (a n) refl where
  go : (o : Option ℕ) → Found n a o → (t : Bool) → a n ≡ t → Found (suc n) a (or_this o t n)
  go (Some p) h t e = let lt = h.0 in (omega (arith, lt), h.1)
  go None h true e = (omega arith, e)
  go None h false e = ap (λ z. z || a n) h ∙ e

pub lowest_named : (n : ℕ) (a : Mask) → any n a ≡ true → (or_zero (lowest n a) < n) × (a (or_zero (lowest n a)) ≡ true)
lowest_named n a some = go (lowest n a) (lowest_found n a) where
  go : (o : Option ℕ) → Found n a o → (or_zero o < n) × (a (or_zero o) ≡ true)
  go (Some p) h = h
  go None h = absurd (true≢false (sym some ∙ h))

pub some_gang : (n : ℕ) (a : Mask) → any n a ≡ true → 0 < n
some_gang zero a e = absurd (true≢false (sym e))
some_gang (suc n) a e = omega arith

or_true : (b : Bool) → (b || true) ≡ true
or_true true = refl
or_true false = refl

any_everyone : (n m : ℕ) → 0 < n → n ≤ m → any n (everyone m) ≡ true
any_everyone zero m lt le = absurd (omega (arith, lt))
any_everyone (suc n) m lt le = let t : nat_lt n m ≡ true = grind (arith, le, nat_tests) in ap (λ z. any n (everyone m) || z) t ∙ or_true (any n (everyone m))

pub everyone_some : (n : ℕ) (a : Mask) → any n a ≡ true → any n (everyone n) ≡ true
everyone_some n a e = any_everyone n n (some_gang n a e) (omega arith)

-- ---- parts of a set

abbrev pub Inside : Mask → Mask → Type 0
Inside a g = (p : ℕ) → g p ≡ true → a p ≡ true

left_true : (a b : Bool) → (a && b) ≡ true → a ≡ true
left_true true b e = refl
left_true false b e = e

pub and_inside : (a : Mask) (f : ℕ → Bool) → Inside a (λ p. a p && f p)
and_inside a f p e = left_true (a p) (f p) e

either_true : (c x y : Bool) → (x ≡ true → c ≡ true) → (y ≡ true → c ≡ true) → (x || y) ≡ true → c ≡ true
either_true c true y h k e = h refl
either_true c false y h k e = k e

pub union_inside : (a g h : Mask) → Inside a g → Inside a h → Inside a (union g h)
union_inside a g h i j p e = either_true (a p) (g p) (h p) (i p) (j p) e

-- no value outside the set
abbrev pub NoneOut : Mask → Payload → Type 0
NoneOut a m = (p : ℕ) → a p ≡ false → HasNone p m

where_inside : (f : ℕ → Bool) (a : Mask) (x : Map) → NoneOut a (Each x) → Inside a (where_true f x)
where_inside f a x h p e = go (a p) refl where
  go : (t : Bool) → a p ≡ t → t ≡ true
  go true i = refl
  go false i = sym (ap (holds f) (h p i)) ∙ e

pub kept_inside : (f : ℕ → Bool) (a : Mask) (m : Payload) → NoneOut a m → Inside a (kept_by f a m)
kept_inside f a (Each x) h = where_inside f a x h
kept_inside f a (One c) h = go (f c) where
  go : (t : Bool) → Inside a (if t then a else nobody)
  go true p e = e
  go false p e = absurd (true≢false (sym e))

pub spread_out : (a : Mask) (m : Payload) → NoneOut a m → NoneOut a (Each (spread a m))
spread_out a (One c) h p e = ap (λ b. if b then Some c else None) e
spread_out a (Each x) h p e = h p e

-- the members that went on or continued are of the set
first_in : (g b c r a : Bool) → bit g + (bit b + (bit c + bit r)) ≡ bit a → g ≡ true → a ≡ true
first_in g b c r true h e = refl
first_in true b c r false h e = absurd (omega (arith, h))
first_in false b c r false h e = e

third_in : (g b c r a : Bool) → bit g + (bit b + (bit c + bit r)) ≡ bit a → c ≡ true → a ≡ true
third_in g b c r true h e = refl
third_in g b true r false h e = absurd (omega (arith, h))
third_in g b false r false h e = e

abbrev pub PartsIn : Mask → Res → Type 0
PartsIn a (Went s g b c r) = Inside a g × Inside a c
PartsIn a (Trapped t s) = Unit {0}
PartsIn a (Cut s) = Unit {0}

pub parts_in : (a : Mask) (v : Res) → Parted a v → PartsIn a v
parts_in a (Went s g b c r) h = (λ p e. first_in (g p) (b p) (c p) (r p) (a p) (h p) e, λ p e. third_in (g p) (b p) (c p) (r p) (a p) (h p) e)
parts_in a (Trapped t s) h = tt
parts_in a (Cut s) h = tt

-- ---- traps that name a member of the set m

abbrev pub Free : {A : Type 0} → A → Type 0
Free x = Unit {0}

module _ (gang : ℕ) (m : Mask) where
  abbrev pub Sub : Mask → Type 0
  Sub a = (p : ℕ) → p < gang → a p ≡ true → m p ≡ true

  pub sub_inside : (a g : Mask) → Sub a → Inside a g → Sub g
  sub_inside a g h i p lt e = h p lt (i p e)

  abbrev NamedBy : {A : Type 0} → (A → Type 0) → Val A → Type 0
  NamedBy Q (Gives x s) = Q x
  NamedBy Q (Fails t s) = Names gang m t
  NamedBy Q (Stops s) = Unit {0}

  pub record Named {A : Type 0} (Q : A → Type 0) (v : Val A) : Type 0 where
    pub by : NamedBy Q v

  abbrev NamedByRes : Res → Type 0
  NamedByRes (Went s g b c r) = Unit {0}
  NamedByRes (Trapped t s) = Names gang m t
  NamedByRes (Cut s) = Unit {0}

  pub record NamedRes (v : Res) : Type 0 where
    pub by : NamedByRes v

  pub gives_named : {A : Type 0} (Q : A → Type 0) (x : A) (s : State) → Q x → Named Q (Gives x s)
  gives_named Q x s h = record { by = h }

  pub bind_named : {A B : Type 0} (Q : A → Type 0) (R : B → Type 0) (v : Val A) (go : A → State → Val B) → Named Q v → ((x : A) (s : State) → Q x → Named R (go x s)) → Named R (bind v go)
  bind_named Q R (Gives x s) go h k = k x s h.by
  bind_named Q R (Fails t s) go h k = record { by = h.by }
  bind_named Q R (Stops s) go h k = record { by = tt }

  pub with_named : {A : Type 0} (Q : A → Type 0) (v : Val A) (go : A → State → Res) → Named Q v → ((x : A) (s : State) → Q x → NamedRes (go x s)) → NamedRes (with_value v go)
  with_named Q (Gives x s) go h k = k x s h.by
  with_named Q (Fails t s) go h k = record { by = h.by }
  with_named Q (Stops s) go h k = record { by = tt }

  pub went_named : (a : Mask) (s : State) → NamedRes (went_all a s)
  went_named a s = record { by = tt }

  -- after a statement, over those that went on or continued
  pub go_named : (a : Mask) (v : Res) (go : State → Mask → Mask → Mask → Mask → Res) → NamedRes v → PartsIn a v → ((s : State) (g b c r : Mask) → Inside a g → Inside a c → NamedRes (go s g b c r)) → NamedRes (go_on v go)
  go_named a (Went s g b c r) go h i k = k s g b c r i.0 i.1
  go_named a (Trapped t s) go h i k = record { by = h.by }
  go_named a (Cut s) go h i k = record { by = tt }

  pub then_named : (v : Res) (go : State → Mask → Mask → Mask → Mask → Res) → NamedRes v → ((s : State) (g b c r : Mask) → NamedRes (go s g b c r)) → NamedRes (go_on v go)
  then_named (Went s g b c r) go h k = k s g b c r
  then_named (Trapped t s) go h k = record { by = h.by }
  then_named (Cut s) go h k = record { by = tt }

  pub if_named : (t : Bool) (f g : State → Res) (s : State) → (t ≡ true → NamedRes (f s)) → (t ≡ false → NamedRes (g s)) → NamedRes (if_so t f g s)
  if_named true f g s h k = h refl
  if_named false f g s h k = k refl

  pub value_if_named : {A : Type 0} (Q : A → Type 0) (t : Bool) (f g : State → Val A) (s : State) → (t ≡ true → Named Q (f s)) → Named Q (g s) → Named Q (if_so t f g s)
  value_if_named Q true f g s h k = h refl
  value_if_named Q false f g s h k = k

  -- ---- tests that fail

  pub lowest_checked : {A : Type 0} (Q : A → Type 0) (a : Mask) (kind : TrapKind) (place : Span) (s : State) (x : A) → Sub a → Q x → Named Q (checked (lowest gang a) kind place s x)
  lowest_checked Q a kind place s x sub q = go (lowest gang a) (lowest_found gang a) where
    go : (o : Option ℕ) → Found gang a o → Named Q (checked o kind place s x)
    go None h = record { by = q }
    go (Some p) h = record { by = (h.0, sub p h.0 h.1) }

  pub offender_checked : {A : Type 0} (Q : A → Type 0) (fails : ℕ → Bool) (a : Mask) (y : Payload) (kind : TrapKind) (place : Span) (s : State) (x : A) → Sub a → NoneOut a y → Q x → Named Q (checked (offender gang fails a y) kind place s x)
  offender_checked Q fails a (Each y) kind place s x sub h q = lowest_checked Q (where_true fails y) kind place s x (sub_inside a _ sub (where_inside fails a y h)) q
  offender_checked Q fails a (One y) kind place s x sub h q = go (fails y) where
    go : (t : Bool) → Named Q (checked (if_fails gang fails a t) kind place s x)
    go true = lowest_checked Q a kind place s x sub q
    go false = record { by = q }
