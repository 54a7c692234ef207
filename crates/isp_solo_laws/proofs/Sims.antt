-- Expressions over a set that do in each member what they do there alone: how one goes on from another.
use Rattle.std.proofs.Common.{◌≡◌, ℕ, ◌<◌, Bool, true, false, refl, sym, ap, ◌∙◌, subst, true≢false}
use Rattle.std.specs.Prelude.{Some, None, if◌then◌else◌}
use Rattle.isp_base.specs.Sets.{Mask, any}
use Rattle.isp_base.specs.Maps.{on}
use Rattle.isp_base.specs.declared.trap.TrapKind.{TrapKind}
use Rattle.isp_base.specs.declared.types.Rate.{Rate}
use Rattle.isp_base.specs.declared.types.Span.{Span}
use Rattle.isp_typed.specs.Scoped.{Scope}
use Rattle.isp_meaning.specs.State.{State, tick}
use Rattle.isp_meaning.specs.Payloads.{Payload, spread, nothing, offender}
use Rattle.isp_meaning.specs.Outcomes.{Val, Gives, bind, checked, value_unless_empty, if_so}
use Rattle.isp_solo_meaning.specs.Alone.{Alone}
use Rattle.isp_solo_meaning.specs.Answers.{Answer, Has, Bad, Long, reached, and_then, unless}
use Rattle.isp_solo_laws.specs.Stands.{World, Within, EndsWithin, Stands, Same, AreSome, IfIn, Up}
use Rattle.isp_solo_laws.specs.Values.{AnswersAlone, Agrees, Sim, Stand}
use Rattle.isp_solo_laws.proofs.Grow.{within_then}
use Rattle.isp_solo_laws.proofs.Lanes.{nobody_in, no_offender}

-- ---- one instance

abbrev pub EndsIf : {A : Type 0} → Alone → Bool → Answer A → Type 0
EndsIf last t r = IfIn t (EndsWithin last r)

ends_within : {A : Type 0} (last : Alone) (r : Answer A) → EndsWithin last r → Within last (reached r)
ends_within last (Has x s) h = h
ends_within last (Bad t s) h = absurd h
ends_within last (Long s) h = absurd h

-- where all of it ends, so does the first part
pub first_ends : {A B : Type 0} (last : Alone) (t : Bool) (r : Answer A) (go : A → Alone → Answer B) → ((x : A) → Up reached (go x)) → EndsIf last t (and_then r go) → EndsIf last t r
first_ends last false r go up h = tt
first_ends last true (Has x s) go up h = within_then s (reached (go x s)) last ((up x).more s) (ends_within last (go x s) h)
first_ends last true (Bad t s) go up h = absurd h
first_ends last true (Long s) go up h = absurd h

-- and what follows
pub next_ends : {A B : Type 0} (last : Alone) (t : Bool) (r : Answer A) (go : A → Alone → Answer B) (s0 s1 : Alone) (x : A) → AnswersAlone t r s0 x s1 → EndsIf last t (and_then r go) → EndsIf last t (go x s1)
next_ends last false r go s0 s1 x e h = tt
next_ends last true r go s0 s1 x e h = subst (EndsWithin last) (ap (λ z. and_then z go) e) h

pub next_alone : {A B : Type 0} (t : Bool) (r : Answer A) (go : A → Alone → Answer B) (s0 s1 s2 : Alone) (x : A) (y : B) → AnswersAlone t r s0 x s1 → AnswersAlone t (go x s1) s1 y s2 → AnswersAlone t (and_then r go) s0 y s2
next_alone false r go s0 s1 s2 x y e d = d ∙ e
next_alone true r go s0 s1 s2 x y e d = ap (λ z. and_then z go) e ∙ d

pub unless_ends : {A : Type 0} (last : Alone) (t b : Bool) (kind : TrapKind) (sp : Span) (p : ℕ) (s : Alone) (x : A) → EndsIf last t (unless b kind sp p s x) → t ≡ true → b ≡ false
unless_ends last true true kind sp p s x h e = absurd h
unless_ends last true false kind sp p s x h e = refl
unless_ends last false b kind sp p s x h e = absurd (true≢false (sym e))

pub unless_alone : {A : Type 0} (t b : Bool) (kind : TrapKind) (sp : Span) (p : ℕ) (s : Alone) (x : A) → (t ≡ true → b ≡ false) → AnswersAlone t (unless b kind sp p s x) s x s
unless_alone true b kind sp p s x h = ap (λ z. unless z kind sp p s x) (h refl)
unless_alone false b kind sp p s x h = refl

pub has_alone : {A : Type 0} (t : Bool) (s : Alone) (x : A) → AnswersAlone t (Has x s) s x s
has_alone true s x = refl
has_alone false s x = refl

pub off_alone : {A : Type 0} (t : Bool) (r : Answer A) (s : Alone) (x : A) → t ≡ false → AnswersAlone t r s x s
off_alone true r s x e = absurd (true≢false e)
off_alone false r s x e = refl

-- ---- the gang and its instances

module _ (w : World) (v : Scope) where
  pub same_on : (a k : Mask) (u u1 : ℕ → ℕ) (σ σ1 : ℕ → Alone) → ((p : ℕ) → k p ≡ true → a p ≡ true) → u1 ≡ u → ((p : ℕ) → (σ1 p).uniforms ≡ (σ p).uniforms) → Same v a u σ → Same v k u1 σ1
  same_on a k u u1 σ σ1 sub e d sa p n i j = ap (λ f. f n) (d p) ∙ sa p n (sub p i) j ∙ sym (ap (λ f. f n) e)

  pub sim_has : {A B : Type 0} (a : Mask) (R : A → (ℕ → B) → Type 0) (x : A) (y : ℕ → B) → R x y → Sim w v a R (λ s. Gives x s) (λ p s. Has (y p) s)
  sim_has a R x y r = record {
    go = λ s σ st sa ends.
        record { x = x; s = s; y = y; after = σ; is = refl; alone = λ p. has_alone (a p) (σ p) (y p); value = r; uniforms = refl; own_uniforms = λ p. refl; stands = st };
  }

  -- the instances do the same in other words
  pub sim_same : {A B : Type 0} (a : Mask) (R : A → (ℕ → B) → Type 0) (f : State → Val A) (own own2 : ℕ → Alone → Answer B) → ((p : ℕ) (s : Alone) → own2 p s ≡ own p s) → Sim w v a R f own → Sim w v a R f own2
  sim_same {A} {B} a R f own own2 e x = record { go = λ s σ st sa ends. moved s σ (x.go s σ st sa (λ p. subst (EndsIf (w.last p) (a p)) (e p (σ p)) (ends p))) } where
    moved : (s : State) (σ : ℕ → Alone) → Agrees w a R (λ p. own p (σ p)) σ (f s) s.uniforms → Agrees w a R (λ p. own2 p (σ p)) σ (f s) s.uniforms
    moved s σ ok =
        record {
          x = ok.x;
          s = ok.s;
          y = ok.y;
          after = ok.after;
          is = ok.is;
          alone = λ p. subst
              (λ r. AnswersAlone (a p) r (σ p) (ok.y p) (ok.after p)) (sym (e p (σ p))) (ok.alone p);
          value = ok.value;
          uniforms = ok.uniforms;
          own_uniforms = ok.own_uniforms;
          stands = ok.stands;
        }

  -- what stands for more stands for less
  pub sim_as : {A B : Type 0} (a : Mask) (R Q : A → (ℕ → B) → Type 0) (f : State → Val A) (own : ℕ → Alone → Answer B) → ((x : A) (y : ℕ → B) → R x y → Q x y) → Sim w v a R f own → Sim w v a Q f own
  sim_as a R Q f own to x = record {
    go = λ s σ st sa ends.
        let ok = x.go s σ st sa ends in
        record { x = ok.x; s = ok.s; y = ok.y; after = ok.after; is = ok.is; alone = ok.alone; value = to ok.x ok.y ok.value; uniforms = ok.uniforms; own_uniforms = ok.own_uniforms; stands = ok.stands };
  }

  pub sim_tick : {A B : Type 0} (a : Mask) (R : A → (ℕ → B) → Type 0) (f : State → Val A) (own : ℕ → Alone → Answer B) → Sim w v a R f own → Sim w v a R (λ s. f (tick s)) own
  sim_tick a R f own x = record { go = λ s σ st sa ends. x.go (tick s) σ st sa ends }

  pub sim_then : {A B C D : Type 0} (a : Mask) (R : A → (ℕ → B) → Type 0) (Q : C → (ℕ → D) → Type 0) (f : State → Val A) (own : ℕ → Alone → Answer B) (go : A → State → Val C) (own_go : ℕ → B → Alone → Answer D)
      → Sim w v a R f own → ((p : ℕ) (y : B) → Up reached (own_go p y)) → ((x : A) (y : ℕ → B) → R x y → Sim w v a Q (go x) (λ p. own_go p (y p)))
      → Sim w v a Q (λ s. bind (f s) go) (λ p s. and_then (own p s) (own_go p))
  sim_then {A} {B} {C} {D} a R Q f own go own_go first up next = record { go = λ s σ st sa ends. join s σ sa ends (first.go s σ st sa (λ p. first_ends (w.last p) (a p) (own p (σ p)) (own_go p) (up p) (ends p))) } where
    join : (s : State) (σ : ℕ → Alone) → Same v a s.uniforms σ → ((p : ℕ) → EndsIf (w.last p) (a p) (and_then (own p (σ p)) (own_go p))) → Agrees w a R (λ p. own p (σ p)) σ (f s) s.uniforms
        → Agrees w a Q (λ p. and_then (own p (σ p)) (own_go p)) σ (bind (f s) go) s.uniforms
    join s σ sa ends ok =
        let ok2 = (next ok.x ok.y ok.value).go ok.s ok.after ok.stands
        (same_on a a s.uniforms ok.s.uniforms σ ok.after (λ p t. t) ok.uniforms ok.own_uniforms sa)
        (λ p. next_ends (w.last p) (a p) (own p (σ p)) (own_go p) (σ p) (ok.after p) (ok.y p) (ok.alone p) (ends p)) in
        record {
          x = ok2.x;
          s = ok2.s;
          y = ok2.y;
          after = ok2.after;
          is = ap (λ z. bind z go) ok.is ∙ ok2.is;
          alone = λ p. next_alone (a p) (own p (σ p)) (own_go p) (σ p) (ok.after p) (ok2.after p) (ok.y p) (ok2.y p) (ok.alone p) (ok2.alone p);
          value = ok2.value;
          uniforms = ok2.uniforms ∙ ok.uniforms;
          own_uniforms = λ p. ok2.own_uniforms p ∙ ok.own_uniforms p;
          stands = ok2.stands;
        }

  -- a value that is checked in each member
  pub sim_checked : {A B : Type 0} (a : Mask) → AreSome w.gang a → (R : A → (ℕ → B) → Type 0) (fails : ℕ → Bool) (n : Payload) (z : ℕ → ℕ) (kind : TrapKind) (sp : Span) (x : A) (y : ℕ → B)
      → ((p : ℕ) → spread a n p ≡ on a z p) → R x y → Sim w v a R (λ s. checked (offender w.gang fails a n) kind sp s x) (λ p s. unless (fails (z p)) kind sp p s (y p))
  sim_checked a in_gang R fails n z kind sp x y at r = record {
    go = λ s σ st sa ends.
        record {
          x = x;
          s = s;
          y = y;
          after = σ;
          is = ap (λ o. checked o kind sp s x) (no_offender w.gang a fails n z in_gang.some at (λ p t. unless_ends (w.last p) (a p) (fails (z p)) kind sp p (σ p) (y p) (ends p) t));
          alone = λ p. unless_alone (a p) (fails (z p)) kind sp p (σ p) (y p) (unless_ends (w.last p) (a p) (fails (z p)) kind sp p (σ p) (y p) (ends p));
          value = r;
          uniforms = refl;
          own_uniforms = λ p. refl;
          stands = st;
        };
  }

  -- ---- operands that are needed by some members alone

  -- over a set that may be empty
  pub some_or_none : (k : Mask) (r : Rate) (f : Mask → State → Val Payload) (own : ℕ → Alone → Answer ℕ) → ((p : ℕ) → k p ≡ true → p < w.gang) → (AreSome w.gang k → Sim w v k (Stand w.gang k r) (f k) own)
      → Sim w v k (Stand w.gang k r) (λ s. value_unless_empty w.gang k s f) own
  some_or_none k r f own inside x = record { go = λ s σ st sa ends. at (any w.gang k) refl s σ st sa ends } where
    none : any w.gang k ≡ false → (p : ℕ) → spread k nothing p ≡ on k (λ q. 0) p
    none e p = ap (λ t. if t then Some 0 else None) (sym (nobody_in w.gang k inside e p))

    at : (t : Bool) → any w.gang k ≡ t → (s : State) (σ : ℕ → Alone) → Stands w s σ → Same v k s.uniforms σ
        → ((p : ℕ) → EndsIf (w.last p) (k p) (own p (σ p)))
        → Agrees w k (Stand w.gang k r) (λ p. own p (σ p)) σ (if_so t (f k) (Gives nothing) s) s.uniforms
    at true e s σ st sa ends = (x (record { inside = inside; some = e })).go s σ st sa ends
    at false e s σ st sa ends = record {
      x = nothing;
      s = s;
      y = λ p. 0;
      after = σ;
      is = refl;
      alone = λ p. off_alone (k p) (own p (σ p)) (σ p) 0 (nobody_in w.gang k inside e p);
      value = record { at = none e; one = λ i d. absurd (true≢false (sym i ∙ e)) };
      uniforms = refl;
      own_uniforms = λ p. refl;
      stands = st;
    }
