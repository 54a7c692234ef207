-- Loops over a set, whose body is any statement that does in each member what it does there alone.
use Rattle.std.proofs.Common.{◌≡◌, ℕ, zero, suc, ◌⊎◌, inl, inr, Bool, true, false, refl, sym, ap, ◌∙◌, subst, true≢false}
use Rattle.std.specs.Prelude.{◌&&◌, ◌||◌, not, if◌then◌else◌}
use Rattle.isp_base.specs.Sets.{Mask, any, nobody, union}
use Rattle.isp_meaning.specs.State.{State, tick}
use Rattle.isp_meaning.specs.Payloads.{Payload, One, Each, is_true, kept_by}
use Rattle.isp_meaning.specs.Outcomes.{Res, Done, with_value, go_on, if_so}
use Rattle.isp_meaning.specs.Loops.{loop_end, tested, stepped, turns}
use Rattle.isp_solo_meaning.specs.Alone.{Alone}
use Rattle.isp_solo_meaning.specs.Answers.{Answer, Has, Bad, Long, How, Going, Broke, Continued, Returned, End, Does, Dies, Lasts, with_answer, choose}
use Rattle.isp_solo_meaning.specs.Loops.{turned, tested as own_tested, stepped as own_stepped, turns as own_turns}
use Rattle.isp_solo_laws.specs.Stands.{World, Within, EndsWithin, Stands, Same, AreSome, IfIn, Up, left_at}
use Rattle.isp_solo_laws.specs.Values.{AnswersAlone, Agrees, IsOne, Stand}
use Rattle.isp_solo_laws.specs.Statements.{is_going, is_broke, is_continued, is_returned, is_over, may_leave, may_part, HasAll, LeavesWithin, Acts, LeavesAlone, Leaves, LoopLeaves}
use Rattle.isp_solo_laws.specs.Loops.{LoopParts, LoopSim}
use Rattle.isp_solo_laws.proofs.Grow.{within_then, up_choose, up_with, up_does, turned_up}
use Rattle.isp_solo_laws.proofs.Lanes.{nobody_in, member, and_left, kept_is}
use Rattle.isp_solo_laws.proofs.Sims.{same_on}

-- ---- one instance

abbrev pub LeavesIf : Alone → Bool → End → Type 0
LeavesIf last t r = IfIn t (LeavesWithin last r)

pub leaves_within : (last : Alone) (r : End) → LeavesWithin last r → Within last (left_at r)
leaves_within last (Does s how) h = h
leaves_within last (Dies t s) h = absurd h
leaves_within last (Lasts s) h = absurd h

pub with_first : {A : Type 0} (last : Alone) (t : Bool) (r : Answer A) (go : A → Alone → End) → ((x : A) → Up left_at (go x)) → LeavesIf last t (with_answer r go) → IfIn t (EndsWithin last r)
with_first last false r go up h = tt
with_first last true (Has x s) go up h = within_then s (left_at (go x s)) last ((up x).more s) (leaves_within last (go x s) h)
with_first last true (Bad t s) go up h = absurd h
with_first last true (Long s) go up h = absurd h

pub with_next : {A : Type 0} (last : Alone) (t : Bool) (r : Answer A) (go : A → Alone → End) (s0 s1 : Alone) (x : A) → AnswersAlone t r s0 x s1 → LeavesIf last t (with_answer r go) → LeavesIf last t (go x s1)
with_next last false r go s0 s1 x e h = tt
with_next last true r go s0 s1 x e h = subst (LeavesWithin last) (ap (λ z. with_answer z go) e) h

pub with_alone : {A : Type 0} (t : Bool) (r : Answer A) (go : A → Alone → End) (s0 s1 s2 : Alone) (x : A) (how : How) → AnswersAlone t r s0 x s1 → LeavesAlone t (go x s1) s1 how s2 → LeavesAlone t (with_answer r go) s0 how s2
with_alone false r go s0 s1 s2 x how e d = d ∙ e
with_alone true r go s0 s1 s2 x how e d = ap (λ z. with_answer z go) e ∙ d

-- goes on with the loop
abbrev is_live : How → Bool
is_live Going = true
is_live Broke = false
is_live Continued = true
is_live Returned = false

-- how the loop is left, by how its body was, and by how the turns after it are
abbrev loop_how : How → How → How
loop_how Going h = h
loop_how Broke h = Going
loop_how Continued h = h
loop_how Returned h = Returned

live_is : (t : Bool) (h : How) (g c : Bool) → g ≡ (t && is_going h) → c ≡ (t && is_continued h) → (g || c) ≡ (t && is_live h)
live_is t h g c e d = ap (λ z. z || c) e ∙ ap (λ z. (t && is_going h) || z) d ∙ go t h where
  go : (t : Bool) (h : How) → ((t && is_going h) || (t && is_continued h)) ≡ (t && is_live h)
  go true Going = refl
  go true Broke = refl
  go true Continued = refl
  go true Returned = refl
  go false h = refl

module _ (test : Alone → Answer ℕ) (body : Alone → End) (step : Alone → Answer Done) where
  turned_first : (last : Alone) (t : Bool) (r : End) (next : Alone → End) → Up left_at next → LeavesIf last t (turned test body step r next) → LeavesIf last t r
  turned_first last false r next up h = tt
  turned_first last true (Does s Going) next up h = within_then s (left_at (next s)) last (up.more s) (leaves_within last (next s) h)
  turned_first last true (Does s Broke) next up h = h
  turned_first last true (Does s Continued) next up h = within_then s (left_at (next s)) last (up.more s) (leaves_within last (next s) h)
  turned_first last true (Does s Returned) next up h = h
  turned_first last true (Dies t s) next up h = absurd h
  turned_first last true (Lasts s) next up h = absurd h

  turned_next : (last : Alone) (t l : Bool) (r : End) (next : Alone → End) (s0 s1 : Alone) (h : How) → l ≡ (t && is_live h) → LeavesAlone t r s0 h s1 → LeavesIf last t (turned test body step r next) → LeavesIf last l (next s1)
  turned_next last t l r next s0 s1 h e a k = subst (λ z. LeavesIf last z (next s1)) (sym e) (go t h a k) where
    go : (t : Bool) (h : How) → LeavesAlone t r s0 h s1 → LeavesIf last t (turned test body step r next) → LeavesIf last (t && is_live h) (next s1)
    go false h a k = tt
    go true Going a k = subst (λ z. LeavesWithin last (turned test body step z next)) a k
    go true Broke a k = tt
    go true Continued a k = subst (λ z. LeavesWithin last (turned test body step z next)) a k
    go true Returned a k = tt

  turned_alone : (t l : Bool) (r : End) (next : Alone → End) (s0 s1 s2 : Alone) (h h2 : How) → l ≡ (t && is_live h) → LeavesAlone t r s0 h s1 → LeavesAlone l (next s1) s1 h2 s2
      → LeavesAlone t (turned test body step r next) s0 (loop_how h h2) s2
  turned_alone t l r next s0 s1 s2 h h2 e a b = go t h a (subst (λ z. LeavesAlone z (next s1) s1 h2 s2) e b) where
    go : (t : Bool) (h : How) → LeavesAlone t r s0 h s1 → LeavesAlone (t && is_live h) (next s1) s1 h2 s2 → LeavesAlone t (turned test body step r next) s0 (loop_how h h2) s2
    go false h a b = b ∙ a
    go true Going a b = ap (λ z. turned test body step z next) a ∙ b
    go true Broke a b = ap (λ z. turned test body step z next) a ∙ ap (λ z. Does z Going) (sym b)
    go true Continued a b = ap (λ z. turned test body step z next) a ∙ b
    go true Returned a b = ap (λ z. turned test body step z next) a ∙ ap (λ z. Does z Returned) (sym b)

chosen_alone : (t u l : Bool) (f : Alone → End) (s s2 : Alone) (h : How) → l ≡ (t && u) → LeavesAlone l (f s) s h s2 → LeavesAlone t (choose u f (λ z. Does z Going) s) s (if u then h else Going) s2
chosen_alone t u l f s s2 h e a = go t u (subst (λ z. LeavesAlone z (f s) s h s2) e a) where
  go : (t u : Bool) → LeavesAlone (t && u) (f s) s h s2 → LeavesAlone t (choose u f (λ z. Does z Going) s) s (if u then h else Going) s2
  go true true a = a
  go true false a = ap (λ z. Does z Going) (sym a)
  go false u a = a

chosen_ends : (last : Alone) (t u l : Bool) (f : Alone → End) (s : Alone) → l ≡ (t && u) → LeavesIf last t (choose u f (λ z. Does z Going) s) → LeavesIf last l (f s)
chosen_ends last t u l f s e h = subst (λ z. LeavesIf last z (f s)) (sym e) (go t u h) where
  go : (t u : Bool) → LeavesIf last t (choose u f (λ z. Does z Going) s) → LeavesIf last (t && u) (f s)
  go true true h = h
  go true false h = tt
  go false u h = tt

-- ---- small facts

both_true : (t u : Bool) → t ≡ true → u ≡ true → (t && u) ≡ true
both_true true u e d = d
both_true false u e d = absurd (true≢false (sym e))

and_right : (t u : Bool) → (t && u) ≡ true → u ≡ true
and_right true u e = e
and_right false u e = absurd (true≢false (sym e))

pub either_is : (t : Bool) → (t ≡ true) ⊎ (t ≡ false)
either_is true = inl refl
either_is false = inr refl

or_other : (t u : Bool) → (t || u) ≡ true → t ≡ false → u ≡ true
or_other true u e d = absurd (true≢false d)
or_other false u e d = e

back_kept : (r t u l b : Bool) (h : How) → l ≡ (t && u) → b ≡ (r || (l && is_returned h)) → b ≡ (r || (t && is_returned (if u then h else Going)))
back_kept r t u l b h e d = d ∙ ap (λ z. r || (z && is_returned h)) e ∙ ap (λ z. r || z) (go t u) where
  go : (t u : Bool) → ((t && u) && is_returned h) ≡ (t && is_returned (if u then h else Going))
  go true true = refl
  go true false = refl
  go false u = refl

back_turned : (r t q l b : Bool) (h h2 : How) → q ≡ (t && is_returned h) → l ≡ (t && is_live h) → b ≡ ((r || q) || (l && is_returned h2)) → b ≡ (r || (t && is_returned (loop_how h h2)))
back_turned r t q l b h h2 e d f = f ∙ ap (λ z. (r || z) || (l && is_returned h2)) e ∙ ap (λ z. (r || (t && is_returned h)) || (z && is_returned h2)) d ∙ go r t h where
  or_false : (t : Bool) → (t || false) ≡ t
  or_false true = refl
  or_false false = refl

  go : (r t : Bool) (h : How) → ((r || (t && is_returned h)) || ((t && is_live h) && is_returned h2)) ≡ (r || (t && is_returned (loop_how h h2)))
  go true t h = refl
  go false true Going = refl
  go false true Broke = refl
  go false true Continued = refl
  go false true Returned = refl
  go false false h = refl

back_end : (r t q : Bool) (h : How) → q ≡ (t && is_returned h) → (r || q) ≡ (r || (t && is_returned (loop_how h Going)))
back_end r t q h e = ap (λ z. r || z) e ∙ ap (λ z. r || (t && z)) (go h) where
  go : (h : How) → is_returned h ≡ is_returned (loop_how h Going)
  go Going = refl
  go Broke = refl
  go Continued = refl
  go Returned = refl

over_turned : (h h2 : How) → (is_live h ≡ true → is_over h2 ≡ true) → is_over (loop_how h h2) ≡ true
over_turned Going h2 k = k refl
over_turned Broke h2 k = refl
over_turned Continued h2 k = k refl
over_turned Returned h2 k = refl

live_how : (h h2 : How) → is_live h ≡ true → loop_how h h2 ≡ h2
live_how Going h2 e = refl
live_how Broke h2 e = absurd (true≢false (sym e))
live_how Continued h2 e = refl
live_how Returned h2 e = absurd (true≢false (sym e))

going_turned : (h h2 : How) → is_returned h ≡ false → (is_live h ≡ true → h2 ≡ Going) → loop_how h h2 ≡ Going
going_turned Going h2 e k = k refl
going_turned Broke h2 e k = refl
going_turned Continued h2 e k = k refl
going_turned Returned h2 e k = absurd (true≢false e)

returned_not_going : Returned ≡ Going → ⊥
returned_not_going e = true≢false (ap is_returned e)

-- one value keeps all or nobody
all_kept : (f : ℕ → Bool) (a : Mask) (m : Payload) (q : ℕ) → IsOne m → kept_by f a m q ≡ true → (p : ℕ) → kept_by f a m p ≡ a p
all_kept f a (One c) q one e p = go (f c) e where
  go : (t : Bool) → (if t then a else nobody) q ≡ true → (if t then a else nobody) p ≡ a p
  go true e = refl
  go false e = absurd (true≢false (sym e))
all_kept f a (Each x) q one e p = absurd one

-- ---- the gang and its instances

module _ (w : World) (l : LoopParts w) (all : Mask) where
  abbrev Ended : Mask → Mask → (ℕ → End) → (ℕ → Alone) → Res → (ℕ → ℕ) → Type 0
  Ended a returned own σ res u = LoopLeaves w l.closed l.v l.parts l.joint l.top a returned all own σ res u

  -- ---- the test, and a turn of those that it keeps

  module _ (turn : Mask → Mask → State → Res) (own : ℕ → Alone → End) (sim : LoopSim w l all turn own) where
    choice_up : (p i : ℕ) → Up left_at (λ s1. choose (is_true i) (own p) (λ s2. Does s2 Going) s1)
    choice_up p i = up_choose left_at (is_true i) _ _ (sim.up p) (up_does Going)

    tested_up : (p : ℕ) → Up left_at (own_tested (l.own_test p) (l.own_body p) (l.own_step p) (own p))
    tested_up p = up_with (l.own_test p) _ (l.test_up p) (λ i. choice_up p i)

    -- what the test has come to
    module _ (a returned : Mask) (in_gang : AreSome w.gang a) (σ : ℕ → Alone) (m : Payload) (y : ℕ → ℕ) (s : State) (σ1 : ℕ → Alone)
        (st : Stands w s σ1) (sa : Same l.v a s.uniforms σ1) (stand : Stand w.gang a l.rate m y) (top : l.top ≡ true → HasAll w a)
        (ends : (p : ℕ) → LeavesIf (w.last p) (a p) (choose (is_true (y p)) (own p) (λ s2. Does s2 Going) (σ1 p))) where
      abbrev kept : Mask
      kept = kept_by is_true a m

      kept_in : (p : ℕ) → kept p ≡ (a p && is_true (y p))
      kept_in p = kept_is w.gang a is_true m y p (stand.at p)

      sub : (p : ℕ) → kept p ≡ true → a p ≡ true
      sub p e = and_left (a p) (is_true (y p)) (sym (kept_in p) ∙ e)

      test_true : (p : ℕ) → kept p ≡ true → is_true (y p) ≡ true
      test_true p e = and_right (a p) (is_true (y p)) (sym (kept_in p) ∙ e)

      -- where instances do not part the test keeps all or nobody
      keeps_all : any w.gang kept ≡ true → l.parts ≡ false → (p : ℕ) → a p ≡ true → kept p ≡ true
      keeps_all some e p i = go (member w.gang kept some) where
        go : (q : ℕ) × (kept q ≡ true) → kept p ≡ true
        go q = all_kept is_true a m q.0 (stand.one in_gang.some (l.alike e)) q.1 p ∙ i

      choices : (t : Bool) → any w.gang kept ≡ t → Ended a returned (λ p. choose (is_true (y p)) (own p) (λ s2. Does s2 Going) (σ1 p)) σ1 (if_so t (turn kept returned) (loop_end w.gang l.test l.body l.step all returned) s) s.uniforms
      choices true e = go (sim.go kept returned (record { inside = λ p i. in_gang.inside p (sub p i); some = e }) s σ1 st
          (λ p k i j. sa p k (sub p i) j) (λ i p j. keeps_all e (l.together i).0 p (top i p j))
          (λ p. chosen_ends (w.last p) (a p) (is_true (y p)) (kept p) (own p) (σ1 p) (kept_in p) (ends p))) where
            go : Ended kept returned (λ p. own p (σ1 p)) σ1 (turn kept returned s) s.uniforms → Ended a returned (λ p. choose (is_true (y p)) (own p) (λ s2. Does s2 Going) (σ1 p)) σ1 (turn kept returned s) s.uniforms
            go ok = record {
              s = ok.s;
              back = ok.back;
              after = ok.after;
              how = λ p. if is_true (y p) then ok.how p else Going;
              way = ok.way;
              is = ok.is;
              alone = λ p. chosen_alone (a p) (is_true (y p)) (kept p) (own p) (σ1 p) (ok.after p) (ok.how p) (kept_in p) (ok.alone p);
              back_is = λ p. back_kept (returned p) (a p) (is_true (y p)) (kept p) (ok.back p) (ok.how p) (kept_in p) (ok.back_is p);
              over = λ p i. picked (λ h. is_over h ≡ true) (is_true (y p)) (ok.how p) (λ j. ok.over p (kept_in p ∙ both_true (a p) (is_true (y p)) i j)) refl;
              one_way = λ i p j. let k = keeps_all e (l.together i).0 p j in ap (λ t. if t then ok.how p else Going) (test_true p k) ∙ ok.one_way i p k;
              no_return = λ i d p j. picked (λ h. h ≡ Going) (is_true (y p)) (ok.how p) (λ k. ok.no_return i d p (kept_in p ∙ both_true (a p) (is_true (y p)) j k)) refl;
              quiet = ok.quiet;
              own_quiet = ok.own_quiet;
              same = λ i p k j h d. let n = keeps_all e i p j in ok.same i p k n (sym (ap (λ t. if t then ok.how p else Going) (test_true p n)) ∙ h) d;
              stands = ok.stands;
            } where
              picked : (P : How → Type 0) (t : Bool) (h : How) → (t ≡ true → P h) → P Going → P (if t then h else Going)
              picked P true h x y = x refl
              picked P false h x y = y
      choices false e = record {
        s = s;
        back = returned;
        after = σ1;
        how = λ p. Going;
        way = Going;
        is = refl;
        alone = λ p. none_alone (a p) (is_true (y p)) (own p) (σ1 p) (sym (kept_in p) ∙ nobody_in w.gang kept (λ q i. in_gang.inside q (sub q i)) e p);
        back_is = λ p. none_back (returned p) (a p);
        over = λ p i. refl;
        one_way = λ i p j. refl;
        no_return = λ i d p j. refl;
        quiet = λ k i. refl;
        own_quiet = λ p k i. refl;
        same = λ i p k j h d. sa p k j d;
        stands = st;
      } where
        none_alone : (t u : Bool) (f : Alone → End) (z : Alone) → (t && u) ≡ false → LeavesAlone t (choose u f (λ s2. Does s2 Going) z) z Going z
        none_alone true true f z e = absurd (true≢false e)
        none_alone true false f z e = refl
        none_alone false u f z e = refl

        none_back : (r t : Bool) → r ≡ (r || (t && false))
        none_back true t = refl
        none_back false true = refl
        none_back false false = refl

    pub tested_sim : LoopSim w l all (tested w.gang l.test l.body l.step all turn) (λ p. own_tested (l.own_test p) (l.own_body p) (l.own_step p) (own p))
    tested_sim = record {
      up = tested_up;
      go = λ a returned in_gang s σ st sa top ends. after_test a returned in_gang s σ sa top ends
          ((l.test_sim a in_gang).go s σ st sa (λ p. with_first (w.last p) (a p) (l.own_test p (σ p)) _ (λ i. choice_up p i) (ends p)));
    } where
      after_test : (a returned : Mask) → AreSome w.gang a → (s : State) (σ : ℕ → Alone) → Same l.v a s.uniforms σ → (l.top ≡ true → HasAll w a)
          → ((p : ℕ) → LeavesIf (w.last p) (a p) (own_tested (l.own_test p) (l.own_body p) (l.own_step p) (own p) (σ p)))
          → Agrees w a (Stand w.gang a l.rate) (λ p. l.own_test p (σ p)) σ (l.test a s) s.uniforms
          → Ended a returned (λ p. own_tested (l.own_test p) (l.own_body p) (l.own_step p) (own p) (σ p)) σ
          (tested w.gang l.test l.body l.step all turn a returned s) s.uniforms
      after_test a returned in_gang s σ sa top ends ok =
          let sa1 = same_on w l.v a a s.uniforms ok.s.uniforms σ ok.after (λ p t. t) ok.uniforms ok.own_uniforms sa in
          let ends1 = λ (p : ℕ). with_next (w.last p) (a p) (l.own_test p (σ p)) (λ i s1. choose (is_true i) (own p) (λ s2. Does s2 Going) s1) (σ p) (ok.after p) (ok.y p) (ok.alone p) (ends p) in
          let ok2 = choices a returned in_gang σ ok.x ok.y ok.s ok.after ok.stands sa1 ok.value top ends1 (any w.gang (kept_by is_true a ok.x)) refl in
          record {
            s = ok2.s;
            back = ok2.back;
            after = ok2.after;
            how = ok2.how;
            way = ok2.way;
            is = ap (λ z. with_value z (λ m s1. if_so (any w.gang (kept_by is_true a m)) (turn (kept_by is_true a m) returned) (loop_end w.gang l.test l.body l.step all returned) s1)) ok.is ∙ ok2.is;
            alone = λ p. with_alone (a p) (l.own_test p (σ p)) (λ i s1. choose (is_true i) (own p) (λ s2. Does s2 Going) s1) (σ p) (ok.after p) (ok2.after p) (ok.y p) (ok2.how p) (ok.alone p) (ok2.alone p);
            back_is = ok2.back_is;
            over = ok2.over;
            one_way = ok2.one_way;
            no_return = ok2.no_return;
            quiet = λ k i. ok2.quiet k i ∙ ap (λ f. f k) ok.uniforms;
            own_quiet = λ p k i. ok2.own_quiet p k i ∙ ap (λ f. f k) (ok.own_uniforms p);
            same = ok2.same;
            stands = ok2.stands;
          }

    -- the step, and then the test
    stepped_sim : LoopSim w l all (stepped w.gang l.test l.body l.step all turn) (λ p. own_stepped (l.own_test p) (l.own_body p) (l.own_step p) (own p))
    stepped_sim = record {
      up = λ p. up_with (l.own_step p) _ (l.step_up p) (λ u. tested_up p);
      go = λ a returned in_gang s σ st sa top ends. after_step a returned in_gang s σ top ends ((l.step_sim a in_gang).go s σ st sa (λ p. with_first (w.last p) (a p) (l.own_step p (σ p)) _ (λ u. tested_up p) (ends p)));
    } where
      after_step : (a returned : Mask) → AreSome w.gang a → (s : State) (σ : ℕ → Alone) → (l.top ≡ true → HasAll w a) → ((p : ℕ) → LeavesIf (w.last p) (a p) (own_stepped (l.own_test p) (l.own_body p) (l.own_step p) (own p) (σ p)))
          → Acts w l.closed l.v a (λ p. l.own_step p (σ p)) σ (l.step a s) s.uniforms
          → Ended a returned (λ p. own_stepped (l.own_test p) (l.own_body p) (l.own_step p) (own p) (σ p)) σ
          (stepped w.gang l.test l.body l.step all turn a returned s) s.uniforms
      after_step a returned in_gang s σ top ends ok =
          let go = λ (p : ℕ) (u : Done) (s1 : Alone). own_tested (l.own_test p) (l.own_body p) (l.own_step p) (own p) s1 in
          let ok2 = tested_sim.go a returned in_gang ok.s ok.after ok.stands ok.same top (λ p. with_next (w.last p) (a p) (l.own_step p (σ p)) (go p) (σ p) (ok.after p) tt (ok.alone p) (ends p)) in
          record {
            s = ok2.s;
            back = ok2.back;
            after = ok2.after;
            how = ok2.how;
            way = ok2.way;
            is = ap (λ z. with_value z (λ u s1. tested w.gang l.test l.body l.step all turn a returned s1)) ok.is ∙ ok2.is;
            alone = λ p. with_alone (a p) (l.own_step p (σ p)) (go p) (σ p) (ok.after p) (ok2.after p) tt (ok2.how p) (ok.alone p) (ok2.alone p);
            back_is = ok2.back_is;
            over = ok2.over;
            one_way = ok2.one_way;
            no_return = ok2.no_return;
            quiet = λ k i. ok2.quiet k i ∙ ok.quiet k i;
            own_quiet = λ p k i. ok2.own_quiet p k i ∙ ok.own_quiet p k i;
            same = ok2.same;
            stands = ok2.stands;
          }

  -- ---- a turn: the body, and what follows it for those that are live

  parting_none : (h : How) → l.top ≡ true → may_part l.joint l.ways h ≡ true → ⊥
  parting_none Going i e = true≢false (sym e)
  parting_none Broke i e = true≢false (sym e ∙ l.no_break (l.together i).0)
  parting_none Continued i e = true≢false (sym e ∙ (l.together i).1)
  parting_none Returned i e = true≢false (sym e ∙ ap not (l.together i).2)

  module _ (turn : Mask → Mask → State → Res) (own : ℕ → Alone → End) (next : LoopSim w l all turn own) where
    module _ (a returned : Mask) (in_gang : AreSome w.gang a) (s : State) (σ : ℕ → Alone) (sa : Same l.v a s.uniforms σ) (top : l.top ≡ true → HasAll w a)
        (ends : (p : ℕ) → LeavesIf (w.last p) (a p) (turned (l.own_test p) (l.own_body p) (l.own_step p) (l.own_body p (σ p)) (own p)))
        (res : Res) (ok : Leaves w (record { closed = l.closed_body; joint = l.joint; top = l.top }) l.v l.v1 l.ways a (λ p. l.own_body p (σ p)) σ res s.uniforms) where
      abbrev live : Mask
      live = union ok.went ok.continued

      live_in : (p : ℕ) → live p ≡ (a p && is_live (ok.how p))
      live_in p = live_is (a p) (ok.how p) (ok.went p) (ok.continued p) (ok.went_is p) (ok.continued_is p)

      live_sub : (p : ℕ) → live p ≡ true → a p ≡ true
      live_sub p e = and_left (a p) (is_live (ok.how p)) (sym (live_in p) ∙ e)

      live_goes : (p : ℕ) → live p ≡ true → is_live (ok.how p) ≡ true
      live_goes p e = and_right (a p) (is_live (ok.how p)) (sym (live_in p) ∙ e)

      is_in : (p : ℕ) → a p ≡ true → is_live (ok.how p) ≡ true → live p ≡ true
      is_in p i e = live_in p ∙ both_true (a p) (is_live (ok.how p)) i e

      -- those that are live have the gang's uniforms
      live_same : Same l.v live ok.s.uniforms ok.after
      live_same p k e vk = go (either_is (ok.went p)) where
        continues : ok.continued p ≡ true → (l.ways.some_continue ≡ true) ⊎ (l.ways.some_continue ≡ false) → (ok.after p).uniforms k ≡ ok.s.uniforms k
        continues c (inl i) = ok.own_quiet p k (l.turned i k vk) ∙ sa p k (live_sub p e) vk ∙ sym (ok.quiet k (l.turned i k vk))
        continues c (inr i) = ok.same_continued i p k c vk

        go : (ok.went p ≡ true) ⊎ (ok.went p ≡ false) → (ok.after p).uniforms k ≡ ok.s.uniforms k
        go (inl i) = ok.same p k i (l.wider k vk)
        go (inr i) = continues (or_other (ok.went p) (ok.continued p) e i) (either_is l.ways.some_continue)

      one_way_at_top : l.top ≡ true → (p : ℕ) → a p ≡ true → ok.how p ≡ ok.way
      one_way_at_top i p j = go (ok.one_way p j) where
        go : (ok.how p ≡ ok.way) ⊎ (may_part l.joint l.ways (ok.how p) ≡ true) → ok.how p ≡ ok.way
        go (inl e) = e
        go (inr e) = absurd (parting_none (ok.how p) i e)

      -- at the top who is live is so with all
      all_live : any w.gang live ≡ true → l.top ≡ true → (p : ℕ) → a p ≡ true → live p ≡ true
      all_live some i p j = go (member w.gang live some) where
        go : (q : ℕ) × (live q ≡ true) → live p ≡ true
        go q = is_in p j (ap is_live (one_way_at_top i p j ∙ sym (one_way_at_top i q.0 (live_sub q.0 q.1))) ∙ live_goes q.0 q.1)

      -- where instances do not part and some are live nobody broke
      nobody_broke : any w.gang live ≡ true → l.parts ≡ false → (p : ℕ) → a p ≡ true → ok.how p ≡ Broke → ⊥
      nobody_broke some e p i h = go (member w.gang live some) (ok.one_way p i) where
        later : (q : ℕ) → a q ≡ true → is_live (ok.how q) ≡ true → (x : How) → ok.how q ≡ x → (x ≡ Broke) ⊎ (may_part l.joint l.ways x ≡ true) → ⊥
        later q j g x d (inl o) = true≢false (sym g ∙ ap is_live (d ∙ o))
        later q j g Going d (inr o) = true≢false (sym o)
        later q j g Broke d (inr o) = true≢false (sym g ∙ ap is_live d)
        later q j g Returned d (inr o) = true≢false (sym g ∙ ap is_live d)
        later q j g Continued d (inr o) = go2 (l.no_later_break e) where
          go2 : (l.ways.breaks ≡ false) ⊎ (l.ways.some_continue ≡ false) → ⊥
          go2 (inl b) = true≢false (sym (ok.may p i) ∙ ap (may_leave l.ways) h ∙ b)
          go2 (inr c) = true≢false (sym o ∙ c)

        turned_to : (x : How) → (x ≡ ok.way) ⊎ (may_part l.joint l.ways x ≡ true) → Broke ≡ ok.way → (x ≡ Broke) ⊎ (may_part l.joint l.ways x ≡ true)
        turned_to x (inl o) d = inl (o ∙ sym d)
        turned_to x (inr o) d = inr o

        go : (q : ℕ) × (live q ≡ true) → (ok.how p ≡ ok.way) ⊎ (may_part l.joint l.ways (ok.how p) ≡ true) → ⊥
        go q (inl d) = later q.0 (live_sub q.0 q.1) (live_goes q.0 q.1) (ok.how q.0) refl (turned_to (ok.how q.0) (ok.one_way q.0 (live_sub q.0 q.1)) (sym h ∙ d))
        go q (inr d) = true≢false (sym d ∙ ap (may_part l.joint l.ways) h ∙ l.no_break e)

      abbrev own_turn : ℕ → End
      own_turn p = turned (l.own_test p) (l.own_body p) (l.own_step p) (l.own_body p (σ p)) (own p)

      after_body : (t : Bool) → any w.gang live ≡ t → Ended a returned own_turn σ (if_so t (turn live (union returned ok.returned)) (loop_end w.gang l.test l.body l.step all (union returned ok.returned)) ok.s) s.uniforms
      after_body true e = go (next.go live (union returned ok.returned) (record { inside = λ p i. in_gang.inside p (live_sub p i); some = e }) ok.s
          ok.after ok.stands live_same (λ i p j. all_live e i p (top i p j))
          (λ p. turned_next (l.own_test p) (l.own_body p) (l.own_step p) (w.last p) (a p) (live p) (l.own_body p (σ p)) (own p) (σ p) (ok.after p)
          (ok.how p) (live_in p) (ok.alone p) (ends p))) where
            go : Ended live (union returned ok.returned) (λ p. own p (ok.after p)) ok.after (turn live (union returned ok.returned) ok.s) ok.s.uniforms → Ended a returned own_turn σ (turn live (union returned ok.returned) ok.s) s.uniforms
            go ok2 = record {
              s = ok2.s;
              back = ok2.back;
              after = ok2.after;
              how = λ p. loop_how (ok.how p) (ok2.how p);
              way = ok2.way;
              is = ok2.is;
              alone = λ p. turned_alone (l.own_test p) (l.own_body p) (l.own_step p) (a p) (live p) (l.own_body p (σ p)) (own p) (σ p) (ok.after p) (ok2.after p) (ok.how p) (ok2.how p) (live_in p) (ok.alone p) (ok2.alone p);
              back_is = λ p. back_turned (returned p) (a p) (ok.returned p) (live p) (ok2.back p) (ok.how p) (ok2.how p) (ok.returned_is p) (live_in p) (ok2.back_is p);
              over = λ p i. over_turned (ok.how p) (ok2.how p) (λ j. ok2.over p (is_in p i j));
              one_way = λ i p j. let n = all_live e i p j in live_how (ok.how p) (ok2.how p) (live_goes p n) ∙ ok2.one_way i p n;
              no_return = λ i d p j. going_turned (ok.how p) (ok2.how p) (ok.no_return i d p j) (λ k. ok2.no_return i d p (is_in p j k));
              quiet = λ k i. ok2.quiet k i ∙ ok.quiet k (l.closed_in k i);
              own_quiet = λ p k i. ok2.own_quiet p k i ∙ ok.own_quiet p k (l.closed_in k i);
              same = λ i p k j h d. still p k d i j (ok.how p) refl h;
              stands = ok2.stands;
            } where
              still : (p k : ℕ) → l.v k ≡ true → l.parts ≡ false → a p ≡ true → (x : How) → ok.how p ≡ x → loop_how x (ok2.how p) ≡ Going → (ok2.after p).uniforms k ≡ ok2.s.uniforms k
              still p k d i j Going o h = ok2.same i p k (is_in p j (ap is_live o)) h d
              still p k d i j Continued o h = ok2.same i p k (is_in p j (ap is_live o)) h d
              still p k d i j Broke o h = absurd (nobody_broke e i p j o)
              still p k d i j Returned o h = absurd (returned_not_going h)
      after_body false e = record {
        s = ok.s;
        back = union returned ok.returned;
        after = ok.after;
        how = λ p. loop_how (ok.how p) Going;
        way = loop_how ok.way Going;
        is = refl;
        alone = λ p. turned_alone (l.own_test p) (l.own_body p) (l.own_step p) (a p) (live p) (l.own_body p (σ p)) (own p) (σ p) (ok.after p)
            (ok.after p) (ok.how p) Going (live_in p) (ok.alone p) (off_leaves (live p) (own p (ok.after p)) (ok.after p) (none p));
        back_is = λ p. back_end (returned p) (a p) (ok.returned p) (ok.how p) (ok.returned_is p);
        over = λ p i. over_turned (ok.how p) Going (λ j. refl);
        one_way = λ i p j. ap (λ h. loop_how h Going) (one_way_at_top i p j);
        no_return = λ i d p j. going_turned (ok.how p) Going (ok.no_return i d p j) (λ k. refl);
        quiet = λ k i. ok.quiet k (l.closed_in k i);
        own_quiet = λ p k i. ok.own_quiet p k (l.closed_in k i);
        same = λ i p k j h d. still p k d i j (ok.how p) refl h;
        stands = ok.stands;
      } where
        none : (p : ℕ) → live p ≡ false
        none p = nobody_in w.gang live (λ q i. in_gang.inside q (live_sub q i)) e p

        off_leaves : (t : Bool) (r : End) (z : Alone) → t ≡ false → LeavesAlone t r z Going z
        off_leaves true r z e = absurd (true≢false e)
        off_leaves false r z e = refl

        still : (p k : ℕ) → l.v k ≡ true → l.parts ≡ false → a p ≡ true → (x : How) → ok.how p ≡ x → loop_how x Going ≡ Going → (ok.after p).uniforms k ≡ ok.s.uniforms k
        still p k d i j Going o h = absurd (true≢false (sym (is_in p j (ap is_live o)) ∙ none p))
        still p k d i j Continued o h = absurd (true≢false (sym (is_in p j (ap is_live o)) ∙ none p))
        still p k d i j Broke o h = ok.same_broke (l.no_break i) p k (ok.broke_is p ∙ both_true (a p) (is_broke (ok.how p)) j (ap is_broke o)) d
        still p k d i j Returned o h = absurd (returned_not_going h)

  cut_never : (a : Mask) → AreSome w.gang a → (σ : ℕ → Alone) → ((p : ℕ) → LeavesIf (w.last p) (a p) (Lasts (σ p))) → ⊥
  cut_never a in_gang σ ends = go (member w.gang a in_gang.some) where
    go : (q : ℕ) × (a q ≡ true) → ⊥
    go q = subst (λ t. LeavesIf (w.last q.0) t (Lasts (σ q.0))) q.1 (ends q.0)

  -- so many turns
  pub turns_sim : (n : ℕ) → LoopSim w l all (turns w.gang l.test l.body l.step all n) (λ p. own_turns (l.own_test p) (l.own_body p) (l.own_step p) n)
  turns_sim zero = record { up = λ p. record { more = λ s. record { read = λ b e h. h; wrote = λ b e h. h } }; go = λ a returned in_gang s σ st sa top ends. absurd (cut_never a in_gang σ ends) }
  turns_sim (suc n) = go (stepped_sim _ _ (turns_sim n)) where
    go : LoopSim w l all (stepped w.gang l.test l.body l.step all (turns w.gang l.test l.body l.step all n)) (λ p. own_stepped (l.own_test p) (l.own_body p) (l.own_step p) (own_turns (l.own_test p) (l.own_body p) (l.own_step p) n))
        → LoopSim w l all (turns w.gang l.test l.body l.step all (suc n)) (λ p. own_turns (l.own_test p) (l.own_body p) (l.own_step p) (suc n))
    go next = record {
      up = λ p. turned_up (l.own_test p) (l.own_body p) (l.own_step p) (l.test_up p) (l.body_up p) (l.step_up p) _ (next.up p);
      go = λ a returned in_gang s σ st sa top ends. turn a returned in_gang s σ sa top ends
          ((l.body_sim a in_gang).go (tick s) σ st sa top (λ p. turned_first (l.own_test p) (l.own_body p) (l.own_step p) (w.last p) (a p)
          (l.own_body p (σ p)) _ (next.up p) (ends p)));
    } where
      turn : (a returned : Mask) → AreSome w.gang a → (s : State) (σ : ℕ → Alone) → Same l.v a s.uniforms σ → (l.top ≡ true → HasAll w a)
          → ((p : ℕ) → LeavesIf (w.last p) (a p) (own_turns (l.own_test p) (l.own_body p) (l.own_step p) (suc n) (σ p)))
          → Leaves w (record { closed = l.closed_body; joint = l.joint; top = l.top }) l.v l.v1 l.ways a (λ p. l.own_body p (σ p)) σ (l.body a (tick s)) s.uniforms
          → Ended a returned (λ p. own_turns (l.own_test p) (l.own_body p) (l.own_step p) (suc n) (σ p)) σ (turns w.gang l.test l.body l.step all (suc n) a returned s) s.uniforms
      turn a returned in_gang s σ sa top ends ok =
          let ok2 = after_body _ _ next a returned in_gang s σ sa top ends (l.body a (tick s)) ok (any w.gang (union ok.went ok.continued)) refl in
          record {
            s = ok2.s;
            back = ok2.back;
            after = ok2.after;
            how = ok2.how;
            way = ok2.way;
            is = ap (λ z. go_on z (λ s1 g b c r. if_so (any w.gang (union g c))
                (stepped w.gang l.test l.body l.step all (turns w.gang l.test l.body l.step all n) (union g c) (union returned r))
                (loop_end w.gang l.test l.body l.step all (union returned r)) s1)) ok.is ∙ ok2.is;
            alone = ok2.alone;
            back_is = ok2.back_is;
            over = ok2.over;
            one_way = ok2.one_way;
            no_return = ok2.no_return;
            quiet = ok2.quiet;
            own_quiet = ok2.own_quiet;
            same = ok2.same;
            stands = ok2.stands;
          }
