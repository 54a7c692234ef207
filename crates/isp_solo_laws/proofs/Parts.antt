-- Operands that are needed by some members alone, and several values.
use Rattle.std.proofs.Common.{◌≡◌, ℕ, Bool, true, false, refl, sym, ap, ◌∙◌, subst, true≢false}
use Rattle.std.specs.Prelude.{Option, Some, None, ◌&&◌, not, if◌then◌else◌}
use Rattle.isp_base.specs.Sets.{Mask, nobody}
use Rattle.isp_base.specs.Maps.{on, where_true}
use Rattle.isp_base.specs.declared.types.Rate.{Rate}
use Rattle.isp_base.specs.declared.types.Rate.TheVariants.{Uniform}
use Rattle.isp_typed.specs.Scoped.{Scope}
use Rattle.isp_typed.specs.declared.variable.Logic.{Logic}
use Rattle.isp_meaning.specs.State.{State}
use Rattle.isp_meaning.specs.Payloads.{Payload, One, Each, spread, kept_by, layer, selected, is_true, is_false}
use Rattle.isp_meaning.specs.Expressions.{needs, settled}
use Rattle.isp_meaning.specs.Outcomes.{Val, Gives, bind, value_unless_empty}
use Rattle.isp_solo_meaning.specs.Alone.{Alone}
use Rattle.isp_solo_meaning.specs.Answers.{Answer, Has, choose}
use Rattle.isp_solo_laws.specs.Stands.{World, EndsWithin, AreSome}
use Rattle.isp_solo_laws.specs.Values.{AnswersAlone, Sim, Stand}
use Rattle.isp_solo_laws.proofs.Lanes.{and_left, kept_is, layer_is, one_is}
use Rattle.isp_solo_laws.proofs.Sims.{EndsIf, some_or_none, same_on}

-- ---- one instance: a later operand, where it is needed

pub side_ends : {A : Type 0} (last : Alone) (t u k : Bool) (f g : Alone → Answer A) (s : Alone) → k ≡ (t && u) → EndsIf last t (choose u f g s) → EndsIf last k (f s)
side_ends last true true k f g s e h = subst (λ z. EndsIf last z (f s)) (sym e) h
side_ends last true false k f g s e h = subst (λ z. EndsIf last z (f s)) (sym e) tt
side_ends last false u k f g s e h = subst (λ z. EndsIf last z (f s)) (sym e) tt

other_ends : {A : Type 0} (last : Alone) (t u k l : Bool) (f g : Alone → Answer A) (s s1 : Alone) (x : A) → k ≡ (t && u) → l ≡ (t && not u) → AnswersAlone k (f s) s x s1 → EndsIf last t (choose u f g s) → EndsIf last l (g s1)
other_ends last true true k l f g s s1 x e d a h = subst (λ z. EndsIf last z (g s1)) (sym d) tt
other_ends last true false k l f g s s1 x e d a h =
    let i : s1 ≡ s = subst (λ z. AnswersAlone z (f s) s x s1) e a in subst (λ z. EndsIf last z (g s1)) (sym d) (subst (λ z. EndsWithin last (g z)) (sym i) h)
other_ends last false u k l f g s s1 x e d a h = subst (λ z. EndsIf last z (g s1)) (sym d) tt

needed_alone : {A : Type 0} (t u k : Bool) (f : Alone → Answer A) (s s1 : Alone) (x y : A) → k ≡ (t && u) → AnswersAlone k (f s) s x s1 → AnswersAlone t (choose u f (Has y) s) s (if u then x else y) s1
needed_alone true true k f s s1 x y e a = subst (λ z. AnswersAlone z (f s) s x s1) e a
needed_alone true false k f s s1 x y e a = let i : s1 ≡ s = subst (λ z. AnswersAlone z (f s) s x s1) e a in ap (Has y) (sym i)
needed_alone false u k f s s1 x y e a = subst (λ z. AnswersAlone z (f s) s x s1) e a

either_alone : {A : Type 0} (t u k l : Bool) (f g : Alone → Answer A) (s s1 s2 : Alone) (x y : A) → k ≡ (t && u) → l ≡ (t && not u) → AnswersAlone k (f s) s x s1 → AnswersAlone l (g s1) s1 y s2
    → AnswersAlone t (choose u f g s) s (if u then x else y) s2
either_alone true true k l f g s s1 s2 x y e d a b =
    let i : f s ≡ Has x s1 = subst (λ z. AnswersAlone z (f s) s x s1) e a in let j : s2 ≡ s1 = subst (λ z. AnswersAlone z (g s1) s1 y s2) d b in i ∙ ap (Has x) (sym j)
either_alone true false k l f g s s1 s2 x y e d a b =
    let i : s1 ≡ s = subst (λ z. AnswersAlone z (f s) s x s1) e a in let j : g s1 ≡ Has y s2 = subst (λ z. AnswersAlone z (g s1) s1 y s2) d b in ap g (sym i) ∙ j
either_alone false u k l f g s s1 s2 x y e d a b =
    let i : s1 ≡ s = subst (λ z. AnswersAlone z (f s) s x s1) e a in let j : s2 ≡ s1 = subst (λ z. AnswersAlone z (g s1) s1 y s2) d b in j ∙ i

-- ---- what the gang has then

if_one : (t : Bool) (a k : Mask) (p : ℕ) → (if t then a else nobody) p ≡ k p → t ≡ true → a p ≡ k p
if_one true a k p h e = h
if_one false a k p h e = absurd (true≢false (sym e))

module _ (gang : ℕ) (a : Mask) where
  settled_stands : (l : Logic) (r1 r2 q : Rate) (m n : Payload) (x y : ℕ → ℕ) → (q ≡ Uniform → r1 ≡ Uniform) → (q ≡ Uniform → r2 ≡ Uniform) → Stand gang a r1 m y → Stand gang (kept_by (needs l) a m) r2 n x
      → Stand gang a q (settled l a m n) (λ p. if needs l (y p) then x p else y p)
  settled_stands l r1 r2 q (Each m) n x y u1 u2 h k = record {
    at = λ p. layer_is a (where_true (needs l) m) (λ p. needs l (y p)) m n x y p (kept_is gang a (needs l) (Each m) y p (h.at p)) (k.at p) (h.at p);
    one = λ i e. absurd (h.one i (u1 e));
  }
  settled_stands l r1 r2 q (One c) n x y u1 u2 h k = go (needs l c) refl where
    on_of : (t : Bool) → t ≡ needs l c → (p : ℕ) → a p ≡ true → t ≡ needs l (y p)
    on_of t e p i = e ∙ ap (needs l) (one_is a c y p (h.at p) i)

    keep : (t : Bool) (x y : ℕ) → (t ≡ true → x ≡ y) → (if t then Some x else None) ≡ (if t then Some y else None)
    keep true x y e = ap Some (e refl)
    keep false x y e = refl

    go : (t : Bool) → t ≡ needs l c → Stand gang a q (if t then n else One c) (λ p. if needs l (y p) then x p else y p)
    go true e =
        let k2 = subst (λ z. Stand gang (if z then a else nobody) r2 n x) (sym e) k in
        record { at = λ p. k2.at p ∙ keep (a p) (x p) _ (λ i. ap (λ z. if z then x p else y p) (on_of true e p i)); one = λ i d. k2.one i (u2 d) }
    go false e = record { at = λ p. h.at p ∙ keep (a p) (y p) _ (λ i. ap (λ z. if z then x p else y p) (on_of false e p i)); one = λ i d. tt }

  selected_stands : (r1 r2 r3 q : Rate) (c m n : Payload) (y x z : ℕ → ℕ) → (q ≡ Uniform → r1 ≡ Uniform) → (q ≡ Uniform → r2 ≡ Uniform) → (q ≡ Uniform → r3 ≡ Uniform) → Stand gang a r1 c y
      → Stand gang (kept_by is_true a c) r2 m x → Stand gang (kept_by is_false a c) r3 n z → Stand gang a q (selected a c m n) (λ p. if is_true (y p) then x p else z p)
  selected_stands r1 r2 r3 q (Each c) m n y x z u1 u2 u3 h k l = record {
    at = λ p. pick (a p) (is_true (y p)) (x p) (z p) _ _
        (k.at p ∙ ap (λ b. if b then Some (x p) else None) (kept_is gang a is_true (Each c) y p (h.at p)))
        (l.at p ∙ ap (λ b. if b then Some (z p) else None) (kept_is gang a is_false (Each c) y p (h.at p)));
    one = λ i e. absurd (h.one i (u1 e));
  } where
    pick : (t u : Bool) (x z : ℕ) (o o2 : Option ℕ) → o ≡ (if t && u then Some x else None) → o2 ≡ (if t && not u then Some z else None) → layer (λ p. o) (λ p. o2) 0 ≡ (if t then Some (if u then x else z) else None)
    pick true true x z o o2 e d = ap (λ w. layer (λ p. w) (λ p. o2) 0) e
    pick true false x z o o2 e d = ap (λ w. layer (λ p. w) (λ p. o2) 0) e ∙ d
    pick false u x z o o2 e d = ap (λ w. layer (λ p. w) (λ p. o2) 0) e ∙ d
  selected_stands r1 r2 r3 q (One c) m n y x z u1 u2 u3 h k l = go (is_true c) refl where
    on_of : (t : Bool) → t ≡ is_true c → (p : ℕ) → a p ≡ true → t ≡ is_true (y p)
    on_of t e p i = e ∙ ap is_true (one_is a c y p (h.at p) i)

    keep : (t : Bool) (x y : ℕ) → (t ≡ true → x ≡ y) → (if t then Some x else None) ≡ (if t then Some y else None)
    keep true x y e = ap Some (e refl)
    keep false x y e = refl

    go : (t : Bool) → t ≡ is_true c → Stand gang a q (if t then m else n) (λ p. if is_true (y p) then x p else z p)
    go true e =
        let k2 = subst (λ z. Stand gang (if z then a else nobody) r2 m x) (sym e) k in
        record { at = λ p. k2.at p ∙ keep (a p) (x p) _ (λ i. ap (λ b. if b then x p else z p) (on_of true e p i)); one = λ i d. k2.one i (u2 d) }
    go false e =
        let l2 = subst (λ b. Stand gang (if not b then a else nobody) r3 n z) (sym e) l in
        record { at = λ p. l2.at p ∙ keep (a p) (z p) _ (λ i. ap (λ b. if b then x p else z p) (on_of false e p i)); one = λ i d. l2.one i (u3 d) }

module _ (w : World) (v : Scope) (a : Mask) (in_gang : AreSome w.gang a) where
  sub : (f : ℕ → Bool) (m : Payload) (y : ℕ → ℕ) → ((p : ℕ) → spread a m p ≡ on a y p) → (p : ℕ) → kept_by f a m p ≡ true → a p ≡ true
  sub f m y at p e = and_left (a p) (f (y p)) (sym (kept_is w.gang a f m y p (at p)) ∙ e)

  -- `&&` and `||` from their left operand on
  pub logic_sim : (l : Logic) (r1 r2 q : Rate) (f : Mask → State → Val Payload) (own : ℕ → Alone → Answer ℕ) (m : Payload) (y : ℕ → ℕ) → (q ≡ Uniform → r1 ≡ Uniform) → (q ≡ Uniform → r2 ≡ Uniform) → Stand w.gang a r1 m y
      → ((k : Mask) → AreSome w.gang k → Sim w v k (Stand w.gang k r2) (f k) own)
      → Sim w v a (Stand w.gang a q) (λ s. bind (value_unless_empty w.gang (kept_by (needs l) a m) s f) (λ n s2. Gives (settled l a m n) s2)) (λ p s. choose (needs l (y p)) (own p) (Has (y p)) s)
  logic_sim l r1 r2 q f own m y u1 u2 h later = record {
    go = λ s σ st sa ends.
        let k = kept_by (needs l) a m in
        let kk = λ (p : ℕ). kept_is w.gang a (needs l) m y p (h.at p) in
        let ok = (some_or_none w v k r2 f own (λ p e. in_gang.inside p (sub (needs l) m y h.at p e)) (later k)).go s σ st
        (λ p n i j. sa p n (sub (needs l) m y h.at p i) j)
        (λ p. side_ends (w.last p) (a p) (needs l (y p)) (k p) (own p) (Has (y p)) (σ p) (kk p) (ends p)) in
        record {
          x = settled l a m ok.x;
          s = ok.s;
          y = λ p. if needs l (y p) then ok.y p else y p;
          after = ok.after;
          is = ap (λ z. bind z (λ n s2. Gives (settled l a m n) s2)) ok.is;
          alone = λ p. needed_alone (a p) (needs l (y p)) (k p) (own p) (σ p) (ok.after p) (ok.y p) (y p) (kk p) (ok.alone p);
          value = settled_stands w.gang a l r1 r2 q m ok.x ok.y y u1 u2 h ok.value;
          uniforms = ok.uniforms;
          own_uniforms = ok.own_uniforms;
          stands = ok.stands;
        };
  }

  -- `?:` from its test on
  pub choose_sim : (r1 r2 r3 q : Rate) (f g : Mask → State → Val Payload) (own own2 : ℕ → Alone → Answer ℕ) (c : Payload) (y : ℕ → ℕ) → (q ≡ Uniform → r1 ≡ Uniform) → (q ≡ Uniform → r2 ≡ Uniform) → (q ≡ Uniform → r3 ≡ Uniform)
      → Stand w.gang a r1 c y → ((k : Mask) → AreSome w.gang k → Sim w v k (Stand w.gang k r2) (f k) own) → ((k : Mask) → AreSome w.gang k → Sim w v k (Stand w.gang k r3) (g k) own2)
      → Sim w v a (Stand w.gang a q)
      (λ s. bind (value_unless_empty w.gang (kept_by is_true a c) s f) (λ m s1. bind (value_unless_empty w.gang (kept_by is_false a c) s1 g) (λ n s2. Gives (selected a c m n) s2)))
      (λ p s. choose (is_true (y p)) (own p) (own2 p) s)
  choose_sim r1 r2 r3 q f g own own2 c y u1 u2 u3 h first second = record {
    go = λ s σ st sa ends.
        let k = kept_by is_true a c in
        let l = kept_by is_false a c in
        let kk = λ (p : ℕ). kept_is w.gang a is_true c y p (h.at p) in
        let ll = λ (p : ℕ). kept_is w.gang a is_false c y p (h.at p) in
        let ok = (some_or_none w v k r2 f own (λ p e. in_gang.inside p (sub is_true c y h.at p e)) (first k)).go s σ st
        (λ p n i j. sa p n (sub is_true c y h.at p i) j)
        (λ p. side_ends (w.last p) (a p) (is_true (y p)) (k p) (own p) (own2 p) (σ p) (kk p) (ends p)) in
        let ok2 = (some_or_none w v l r3 g own2 (λ p e. in_gang.inside p (sub is_false c y h.at p e)) (second l)).go ok.s ok.after ok.stands
        (same_on w v a l s.uniforms ok.s.uniforms σ ok.after (λ p e. sub is_false c y h.at p e) ok.uniforms ok.own_uniforms sa)
        (λ p. other_ends (w.last p) (a p) (is_true (y p)) (k p) (l p) (own p) (own2 p) (σ p) (ok.after p) (ok.y p) (kk p) (ll p) (ok.alone p) (ends p)) in
        record {
          x = selected a c ok.x ok2.x;
          s = ok2.s;
          y = λ p. if is_true (y p) then ok.y p else ok2.y p;
          after = ok2.after;
          is = ap (λ z. bind z (λ m s1. bind (value_unless_empty w.gang l s1 g) (λ n s2. Gives (selected a c m n) s2))) ok.is ∙ ap (λ z. bind z (λ n s2. Gives (selected a c ok.x n) s2)) ok2.is;
          alone = λ p. either_alone (a p) (is_true (y p)) (k p) (l p) (own p) (own2 p) (σ p) (ok.after p) (ok2.after p) (ok.y p) (ok2.y p) (kk p) (ll p) (ok.alone p) (ok2.alone p);
          value = selected_stands w.gang a r1 r2 r3 q c ok.x ok2.x y ok.y ok2.y u1 u2 u3 h ok.value ok2.value;
          uniforms = ok2.uniforms ∙ ok.uniforms;
          own_uniforms = λ p. ok2.own_uniforms p ∙ ok.own_uniforms p;
          stands = ok2.stands;
        };
  }
