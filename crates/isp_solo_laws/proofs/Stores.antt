-- Elements that are stored: each member stores what its own run stores, since no other stores there.
use Rattle.std.proofs.Common.{◌≡◌, ℕ, zero, suc, ◌<◌, ⊎_elim, Bool, true, false, refl, sym, ap, ◌∙◌, subst, arith, true≢false}
use Rattle.std.specs.Prelude.{Option, Some, None, IsSome, ◌&&◌, nat_eq, if◌then◌else◌}
use Rattle.std.proofs.lemmas.Bool.{cases_eq}
use Rattle.std.proofs.lemmas.Bool.Decides.{nat_tests}
use Rattle.isp_base.specs.Access.{element, scatter, put_at}
use Rattle.isp_base.specs.Sets.{Mask}
use Rattle.isp_base.specs.Maps.{Lanes, Map, on, or_old, holds, put}
use Rattle.isp_base.specs.declared.types.Elem.{Elem}
use Rattle.isp_base.specs.declared.types.Rate.{Rate}
use Rattle.isp_base.specs.declared.types.Rate.TheVariants.{Uniform, Varying}
use Rattle.isp_typed.specs.Scoped.{Scope}
use Rattle.isp_typed.specs.declared.variable.ArrayVariable.{ArrayVariable}
use Rattle.isp_meaning.specs.Payloads.{Payload, One, Each, spread, mapped}
use Rattle.isp_meaning.specs.Outcomes.{Gives, Done}
use Rattle.isp_meaning.specs.Places.{stored, own_stored, with_elements}
use Rattle.isp_meaning.specs.Simple.{cleared}
use Rattle.isp_solo_meaning.specs.Alone.{Alone, stored as alone_stored, own_stored as alone_own_stored, own_cleared}
use Rattle.isp_solo_meaning.specs.Answers.{Has}
use Rattle.isp_solo_meaning.specs.Places.{element_kept, cleared as alone_cleared}
use Rattle.isp_solo_laws.specs.Stands.{World, Within, TouchNothing, AreSome, IfIn}
use Rattle.isp_solo_laws.specs.Values.{AnswersAlone, Stand}
use Rattle.isp_solo_laws.specs.Statements.{ActSim}
use Rattle.isp_solo_laws.proofs.Lanes.{member, some_same, none_not, holds_on, mapped_stand}
use Rattle.isp_solo_laws.proofs.Writes.{put_here, put_there}

-- ---- a scatter

put_at_miss : (o u : Option ℕ) (f : Lanes) (j : ℕ) → (o ≡ Some j → ⊥) → put_at o u f j ≡ f j
put_at_miss None u f j h = refl
put_at_miss (Some i) None f j h = refl
put_at_miss (Some i) (Some x) f j h = put_there f i j x (λ e. h (ap Some (sym e)))

-- nobody stores there
scatter_miss : (n : ℕ) (x y : Map) (f : Lanes) (j : ℕ) → ((q : ℕ) → q < n → x q ≡ Some j → ⊥) → scatter n x y f j ≡ f j
scatter_miss zero x y f j h = refl
scatter_miss (suc n) x y f j h =
    put_at_miss (x n) (y n) (scatter n x y f) j (λ e. let lt : n < suc n = omega arith in h n lt e) ∙ scatter_miss n x y f j (λ q lt e. let lt2 : q < suc n = omega (arith, lt) in h q lt2 e)

-- one alone stores there
scatter_hit : (n : ℕ) (x y : Map) (f : Lanes) (j p v : ℕ) → p < n → x p ≡ Some j → y p ≡ Some v → ((q : ℕ) → q < n → (q ≡ p → ⊥) → x q ≡ Some j → ⊥) → scatter n x y f j ≡ v
scatter_hit zero x y f j p v lt ex ey h = let no : ⊥ = omega (arith, lt) in absurd no
scatter_hit (suc n) x y f j p v lt ex ey h = go (λ lt2. scatter_hit n x y f j p v lt2 ex ey (λ q l. let l2 : q < suc n = omega (arith, l) in h q l2)) where
  here : n ≡ p → put_at (x n) (y n) (scatter n x y f) j ≡ v
  here e = ap (λ z. put_at z (y n) (scatter n x y f) j) (ap x e ∙ ex) ∙ ap (λ z. put_at (Some j) z (scatter n x y f) j) (ap y e ∙ ey) ∙ put_here (scatter n x y f) j j v refl

  there : (p < n → scatter n x y f j ≡ v) → (n ≡ p → ⊥) → put_at (x n) (y n) (scatter n x y f) j ≡ v
  there before d =
      let lt2 : p < n = omega (arith, lt, d) in
      put_at_miss (x n) (y n) (scatter n x y f) j (λ e. let ln : n < suc n = omega arith in h n ln d e) ∙ before lt2

  go : (p < n → scatter n x y f j ≡ v) → put_at (x n) (y n) (scatter n x y f) j ≡ v
  go before = ⊎_elim here (there before) (cases_eq n p)

if_some_is : (t : Bool) (x y : ℕ) → (if t then Some x else None) ≡ Some y → x ≡ y
if_some_is true x y e = some_same x y e
if_some_is false x y e = absurd (none_not y e)

module _ (gang : ℕ) (a : Mask) (in_gang : AreSome gang a) where
  stored_miss : (i m : Payload) (f : Lanes) (j : ℕ) → ((q : ℕ) → q < gang → spread a i q ≡ Some j → ⊥) → stored gang a i m f j ≡ f j
  stored_miss (One c) (One x) f j h = put_there f c j x (λ e. hits (member gang a in_gang.some) e) where
    hits : (q : ℕ) × (a q ≡ true) → j ≡ c → ⊥
    hits q e = h q.0 (in_gang.inside q.0 q.1) (ap (λ t. if t then Some c else None) q.1 ∙ ap Some (sym e))
  stored_miss (One c) (Each x) f j h = scatter_miss gang (spread a (One c)) x f j h
  stored_miss (Each i) m f j h = scatter_miss gang i (spread a m) f j h

  stored_hit : (i m : Payload) (f : Lanes) (j p v : ℕ) → p < gang → spread a i p ≡ Some j → spread a m p ≡ Some v → ((q : ℕ) → q < gang → (q ≡ p → ⊥) → spread a i q ≡ Some j → ⊥) → stored gang a i m f j ≡ v
  stored_hit (One c) (One x) f j p v lt ex ey h = put_here f c j x (sym (if_some_is (a p) c j ex)) ∙ if_some_is (a p) x v ey
  stored_hit (One c) (Each x) f j p v lt ex ey h = scatter_hit gang (spread a (One c)) x f j p v lt ex ey h
  stored_hit (Each i) m f j p v lt ex ey h = scatter_hit gang i (spread a m) f j p v lt ex ey h

-- ---- a member stores at element i of array c

abbrev hit : Bool → ℕ → ℕ → ℕ → ℕ → Bool
hit t c i b e = t && (nat_eq b c && nat_eq e i)

abbrev stored_if : Bool → ℕ → ℕ → ℕ → Alone → Alone
stored_if t c i x s = record s { wrote = λ b e. if hit t c i b e then Some x else s.wrote b e }

abbrev own_stored_if : Bool → ℕ → ℕ → ℕ → Alone → Alone
own_stored_if t c i x s = record s { own = λ b e. if hit t c i b e then x else s.own b e }

abbrev clear_if : Bool → (ℕ → ℕ → ℕ) → ℕ → ℕ → ℕ → ℕ
clear_if true f c = put f c (λ e. 0)
clear_if false f c = f

abbrev own_cleared_if : Bool → ℕ → Alone → Alone
own_cleared_if t c s = record s { own = clear_if t s.own c }

clear_here : (t : Bool) (f : ℕ → ℕ → ℕ) (k n e : ℕ) → n ≡ k → clear_if t f k n e ≡ (if t then 0 else f n e)
clear_here true f k n e d = ap (λ h. h e) (put_here f k n (λ i. 0) d)
clear_here false f k n e d = refl

clear_there : (t : Bool) (f : ℕ → ℕ → ℕ) (k n e : ℕ) → (n ≡ k → ⊥) → clear_if t f k n e ≡ f n e
clear_there true f k n e d = ap (λ h. h e) (put_there f k n (λ i. 0) d)
clear_there false f k n e d = refl

first_true : (x y : Bool) → (x && y) ≡ true → x ≡ true
first_true true y e = refl
first_true false y e = e

second_true : (x y : Bool) → (x && y) ≡ true → y ≡ true
second_true true y e = e
second_true false y e = absurd (true≢false (sym e))

equal : (n k : ℕ) → nat_eq n k ≡ true → n ≡ k
equal n k e = grind (arith, e, nat_tests)

hit_array : (t : Bool) (c i b e : ℕ) → hit t c i b e ≡ true → b ≡ c
hit_array t c i b e h = equal b c (first_true _ (nat_eq e i) (second_true t _ h))

hit_element : (t : Bool) (c i b e : ℕ) → hit t c i b e ≡ true → e ≡ i
hit_element t c i b e h = equal e i (second_true (nat_eq b c) _ (second_true t _ h))

is_hit : (t : Bool) (c i b e : ℕ) → t ≡ true → b ≡ c → e ≡ i → hit t c i b e ≡ true
is_hit t c i b e h d f = ap (λ z. z && (nat_eq b c && nat_eq e i)) h ∙ same d f where
  same : b ≡ c → e ≡ i → (nat_eq b c && nat_eq e i) ≡ true
  same d f =
      let x : nat_eq b c ≡ true = grind (arith, d, nat_tests) in
      let y : nat_eq e i ≡ true = grind (arith, f, nat_tests) in
      ap (λ z. z && nat_eq e i) x ∙ y

stored_alone : (t : Bool) (c i x : ℕ) (s : Alone) → AnswersAlone {A = Done} t (Has tt (alone_stored c i x s)) s tt (stored_if t c i x s)
stored_alone true c i x s = refl
stored_alone false c i x s = refl

stored_within : (t : Bool) (c i x : ℕ) (last s : Alone) → IfIn t (Within last (alone_stored c i x s)) → Within last s → Within last (stored_if t c i x s)
stored_within true c i x last s h k = h
stored_within false c i x last s h k = k

own_stored_alone : (t : Bool) (c i x : ℕ) (s : Alone) → AnswersAlone {A = Done} t (Has tt (alone_own_stored c i x s)) s tt (own_stored_if t c i x s)
own_stored_alone true c i x s = refl
own_stored_alone false c i x s = refl

own_cleared_alone : (t : Bool) (c : ℕ) (s : Alone) → AnswersAlone {A = Done} t (Has tt (own_cleared c s)) s tt (own_cleared_if t c s)
own_cleared_alone true c s = refl
own_cleared_alone false c s = refl

own_at : (t u z : Bool) (x o q : ℕ) → o ≡ q → (z ≡ true → u ≡ true) → (u ≡ true → z ≡ true) → (if t && u then or_old (if t then Some x else None) o else o) ≡ (if t && (true && z) then x else q)
own_at false u z x o q e f g = e
own_at true true true x o q e f g = refl
own_at true false false x o q e f g = e
own_at true true false x o q e f g = absurd (true≢false (sym (g refl)))
own_at true false true x o q e f g = absurd (true≢false (sym (f refl)))

off_at : (t z : Bool) (x q : ℕ) → q ≡ (if t && (false && z) then x else q)
off_at true z x q = refl
off_at false z x q = refl

module _ (w : World) (touch : TouchNothing w.gang w.last) (closed : ℕ → Bool) (v v1 : Scope) (a : Mask) (in_gang : AreSome w.gang a) (wider : (n : ℕ) → v1 n ≡ true → v n ≡ true) where
  -- ---- shared arrays

  module _ (i m : Payload) (y z : ℕ → ℕ) (at_i : (p : ℕ) → spread a i p ≡ on a y p) (at_m : (p : ℕ) → spread a m p ≡ on a z p) (c : ℕ) (σ : ℕ → Alone)
      (old : (p : ℕ) → p < w.gang → Within (w.last p) (σ p)) (new : (p : ℕ) → p < w.gang → Within (w.last p) (stored_if (a p) c (y p) (z p) (σ p))) where
    abbrev hits : ℕ → ℕ → ℕ → Bool
    hits p b e = hit (a p) c (y p) b e

    wrote_some : (t : Bool) (x : ℕ) (o : Option ℕ) → t ≡ true → IsSome (if t then Some x else o)
    wrote_some true x o e = refl
    wrote_some false x o e = absurd (true≢false (sym e))

    hit_wrote : (p b e : ℕ) → p < w.gang → hits p b e ≡ true → IsSome ((w.last p).wrote b e)
    hit_wrote p b e lt h = (new p lt).wrote b e (wrote_some (hits p b e) (z p) ((σ p).wrote b e) h)

    -- where the run of p stores no other stores
    others_off : (p q b e : ℕ) → p < w.gang → q < w.gang → (q ≡ p → ⊥) → IsSome ((w.last p).wrote b e) → hits q b e ≡ true → ⊥
    others_off p q b e lp lq d some h = no ((w.last q).wrote b e) (hit_wrote q b e lq h) (touch.unwritten p q b e lp lq (λ k. d (sym k)) some) where
      no : (o : Option ℕ) → IsSome o → o ≡ None → ⊥
      no None i e = true≢false (sym i)
      no (Some x) i e = none_not x (sym e)

    hits_by : (q e : ℕ) → q < w.gang → spread a i q ≡ Some e → hits q c e ≡ true
    hits_by q e lq h = at (a q) refl (sym (at_i q) ∙ h) where
      at : (t : Bool) → a q ≡ t → (if a q then Some (y q) else None) ≡ Some e → hits q c e ≡ true
      at true j k = is_hit (a q) c (y q) c e j refl (sym (if_some_is (a q) (y q) e k))
      at false j k = absurd (none_not e (sym (ap (λ t. if t then Some (y q) else None) j) ∙ k))

    module _ (f : ℕ → ℕ → ℕ) where
      abbrev after : ℕ → ℕ → ℕ
      after = put f c (stored w.gang a i m (f c))

      item_same : (b e : ℕ) → ((q : ℕ) → q < w.gang → hits q b e ≡ true → ⊥) → after b e ≡ f b e
      item_same b e never = ⊎_elim here there (cases_eq b c) where
        here : b ≡ c → after b e ≡ f b e
        here d =
            ap (λ g. g e) (put_here f c b (stored w.gang a i m (f c)) d)
            ∙ stored_miss w.gang a in_gang i m (f c) e (λ q lq h. never q lq (subst (λ n. hits q n e ≡ true) (sym d) (hits_by q e lq h))) ∙ ap (λ n. f n e) (sym d)

        there : (b ≡ c → ⊥) → after b e ≡ f b e
        there d = ap (λ g. g e) (put_there f c b (stored w.gang a i m (f c)) d)

      item_hit : (p b e : ℕ) → p < w.gang → hits p b e ≡ true → after b e ≡ z p
      item_hit p b e lt h =
          let member_is : a p ≡ true = first_true (a p) _ h in
          let array_is : b ≡ c = hit_array (a p) c (y p) b e h in
          let place_is : e ≡ y p = hit_element (a p) c (y p) b e h in
          ap (λ g. g e) (put_here f c b (stored w.gang a i m (f c)) array_is)
          ∙ stored_hit w.gang a in_gang i m (f c) e p (z p) lt (at_i p ∙ ap (λ t. if t then Some (y p) else None) member_is ∙ ap Some (sym place_is)) (at_m p ∙ ap (λ t. if t then Some (z p) else None) member_is)
          (λ q lq d k. others_off p q b e lt lq d (hit_wrote p b e lt h) (subst (λ n. hits q n e ≡ true) (sym array_is) (hits_by q e lq k)))

      new_stored : (p b e x : ℕ) → p < w.gang → ((σ p).wrote b e ≡ Some x → f b e ≡ x) → (if hits p b e then Some (z p) else (σ p).wrote b e) ≡ Some x → after b e ≡ x
      new_stored p b e x lt was k = at (hits p b e) refl k where
        at : (t : Bool) → hits p b e ≡ t → (if t then Some (z p) else (σ p).wrote b e) ≡ Some x → after b e ≡ x
        at true j k = item_hit p b e lt j ∙ some_same (z p) x k
        at false j k =
            item_same b e (λ q lq h. ⊎_elim (λ qp. true≢false (sym h ∙ ap (λ n. hits n b e) qp ∙ j)) (λ d. others_off p q b e lt lq d ((old p lt).wrote b e (subst IsSome (sym k) refl)) h) (cases_eq q p)) ∙ was k

      new_unstored : (b e : ℕ) → (((p : ℕ) → p < w.gang → (σ p).wrote b e ≡ None) → f b e ≡ w.begin b e) → ((p : ℕ) → p < w.gang → (if hits p b e then Some (z p) else (σ p).wrote b e) ≡ None) → after b e ≡ w.begin b e
      new_unstored b e was none = item_same b e (λ q lq h. none_not (z q) (sym (none q lq) ∙ ap (λ t. if t then Some (z q) else (σ q).wrote b e) h)) ∙ was (λ p lt. before (hits p b e) (z p) ((σ p).wrote b e) (none p lt)) where
        before : (t : Bool) (x : ℕ) (o : Option ℕ) → (if t then Some x else o) ≡ None → o ≡ None
        before true x o k = absurd (none_not x (sym k))
        before false x o k = k

  -- ---- the element of an array, shared or of each one's own

  pub element_kept_sim : (r : Rate) (b : ArrayVariable) (t : Elem) (i : Payload) (y : ℕ → ℕ) (j q : Rate) (m : Payload) (z : ℕ → ℕ) → Stand w.gang a j i y → Stand w.gang a q m z
      → ActSim w closed v v1 a (λ s. Gives tt (with_elements w.frame b t i a w.gang r m s)) (λ p s. Has tt (element_kept w.frame r b (element t (y p)) (z p) s))
  element_kept_sim Uniform b t i y j q m z hi hm = record {
    go = λ s σ st sa ends.
        let c = w.frame.named b.number in
        let places = mapped (element t) i in
        let at_i = (mapped_stand w.gang a j j (element t) i y (λ e. e) hi).at in
        let new = λ (p : ℕ) (lt : p < w.gang). stored_within (a p) c (element t (y p)) (z p) (w.last p) (σ p) (ends p) (st.within p lt) in
        record {
          s = with_elements w.frame b t i a w.gang Uniform m s;
          after = λ p. stored_if (a p) c (element t (y p)) (z p) (σ p);
          is = refl;
          alone = λ p. stored_alone (a p) c (element t (y p)) (z p) (σ p);
          quiet = λ n h. refl;
          own_quiet = λ p n h. refl;
          same = λ p n h k. sa p n h (wider n k);
          stands = record {
            varying_is = st.varying_is;
            own_is = st.own_is;
            result_is = st.result_is;
            stored = λ p d e x lt open_ k. new_stored places m (λ n. element t (y n)) z at_i hm.at c σ st.within new s.arrays p d e x lt (st.stored p d e x lt open_) k;
            unstored = λ d e open_ none. new_unstored places m (λ n. element t (y n)) z at_i hm.at c σ st.within new s.arrays d e (st.unstored d e open_) none;
            within = new;
            silent = st.silent;
          };
        };
  }
  element_kept_sim Varying b t i y j q m z hi hm = record {
    go = λ s σ st sa ends.
        record {
          s = with_elements w.frame b t i a w.gang Varying m s;
          after = λ p. own_stored_if (a p) b.number (element t (y p)) (z p) (σ p);
          is = refl;
          alone = λ p. own_stored_alone (a p) b.number (element t (y p)) (z p) (σ p);
          quiet = λ n h. refl;
          own_quiet = λ p n h. refl;
          same = λ p n h k. sa p n h (wider n k);
          stands = record {
            varying_is = st.varying_is;
            own_is = λ k e p. own_is s.own (σ p).own k e p (λ n. st.own_is n e p);
            result_is = st.result_is;
            stored = st.stored;
            unstored = st.unstored;
            within = λ p lt. record { read = (st.within p lt).read; wrote = (st.within p lt).wrote };
            silent = st.silent;
          };
        };
  } where
    swap : (n k : ℕ) → nat_eq n k ≡ true → nat_eq k n ≡ true
    swap n k h = grind (arith, h, nat_tests)

    own_is : (f : ℕ → ℕ → Lanes) (g : ℕ → ℕ → ℕ) (k e p : ℕ) → ((n : ℕ) → f n e p ≡ g n e)
        → put f b.number (own_stored (spread a (mapped (element t) i)) (spread a m) (f b.number)) k e p ≡ (if hit (a p) b.number (element t (y p)) k e then z p else g k e)
    own_is f g k e p was = ⊎_elim here there (cases_eq k b.number) where
      here : k ≡ b.number → put f b.number (own_stored (spread a (mapped (element t) i)) (spread a m) (f b.number)) k e p ≡ (if hit (a p) b.number (element t (y p)) k e then z p else g k e)
      here d =
          let same : nat_eq k b.number ≡ true = grind (arith, d, nat_tests) in
          ap (λ h. h e p) (put_here f b.number k (own_stored (spread a (mapped (element t) i)) (spread a m) (f b.number)) d)
          ∙ ap (λ o. if holds (λ n. nat_eq n e) o then or_old (spread a m p) (f b.number e p) else f b.number e p) ((mapped_stand w.gang a j j (element t) i y (λ h. h) hi).at p)
          ∙ ap (λ o. if holds (λ n. nat_eq n e) (on a (λ n. element t (y n)) p) then or_old o (f b.number e p) else f b.number e p) (hm.at p)
          ∙ ap (λ u. if u then or_old (on a z p) (f b.number e p) else f b.number e p) (holds_on (λ n. nat_eq n e) (a p) (element t (y p)))
          ∙ own_at (a p) (nat_eq (element t (y p)) e) (nat_eq e (element t (y p))) (z p) (f b.number e p) (g k e) (ap (λ n. f n e p) (sym d) ∙ was k) (swap e (element t (y p))) (swap (element t (y p)) e)
          ∙ ap (λ u. if a p && (u && nat_eq e (element t (y p))) then z p else g k e) (sym same)

      there : (k ≡ b.number → ⊥) → put f b.number (own_stored (spread a (mapped (element t) i)) (spread a m) (f b.number)) k e p ≡ (if hit (a p) b.number (element t (y p)) k e then z p else g k e)
      there d =
          let other : nat_eq k b.number ≡ false = grind (arith, d, nat_tests) in
          ap (λ h. h e p) (put_there f b.number k (own_stored (spread a (mapped (element t) i)) (spread a m) (f b.number)) d) ∙ was k
          ∙ off_at (a p) (nat_eq e (element t (y p))) (z p) (g k e)
          ∙ ap (λ u. if a p && (u && nat_eq e (element t (y p))) then z p else g k e) (sym other)

  -- ---- a declared array of which each instance has its own

  pub own_cleared_sim : (k : ℕ) → ActSim w closed v v1 a (λ s. Gives tt (cleared w.frame Varying k a s)) (λ p s. Has tt (alone_cleared w.frame Varying k s))
  own_cleared_sim k = record {
    go = λ s σ st sa ends.
        record {
          s = cleared w.frame Varying k a s;
          after = λ p. own_cleared_if (a p) k (σ p);
          is = refl;
          alone = λ p. own_cleared_alone (a p) k (σ p);
          quiet = λ n h. refl;
          own_quiet = λ p n h. refl;
          same = λ p n h j. sa p n h (wider n j);
          stands = record {
            varying_is = st.varying_is;
            own_is = λ n e p. own_is s.own (σ p).own n e p (λ u. st.own_is u e p);
            result_is = st.result_is;
            stored = st.stored;
            unstored = st.unstored;
            within = λ p lt. record { read = (st.within p lt).read; wrote = (st.within p lt).wrote };
            silent = st.silent;
          };
        };
  } where
    zero_at : (t : Bool) (o q : ℕ) → o ≡ q → (if t then 0 else o) ≡ (if t then 0 else q)
    zero_at true o q h = refl
    zero_at false o q h = h

    own_is : (f : ℕ → ℕ → Lanes) (g : ℕ → ℕ → ℕ) (n e p : ℕ) → ((u : ℕ) → f u e p ≡ g u e) → put f k (λ (d q : ℕ). if a q then 0 else f k d q) n e p ≡ clear_if (a p) g k n e
    own_is f g n e p was = ⊎_elim here there (cases_eq n k) where
      here : n ≡ k → put f k (λ (d q : ℕ). if a q then 0 else f k d q) n e p ≡ clear_if (a p) g k n e
      here d = ap (λ h. h e p) (put_here f k n (λ (d q : ℕ). if a q then 0 else f k d q) d) ∙ zero_at (a p) (f k e p) (g n e) (ap (λ u. f u e p) (sym d) ∙ was n) ∙ sym (clear_here (a p) g k n e d)

      there : (n ≡ k → ⊥) → put f k (λ (d q : ℕ). if a q then 0 else f k d q) n e p ≡ clear_if (a p) g k n e
      there d = ap (λ h. h e p) (put_there f k n (λ (d q : ℕ). if a q then 0 else f k d q) d) ∙ was n ∙ sym (clear_there (a p) g k n e d)
