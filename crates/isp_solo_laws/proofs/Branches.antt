-- Branches of an `if`, and loops as statements.
use Rattle.std.proofs.Common.{◌≡◌, ℕ, ◌<◌, ◌⊎◌, inl, inr, Bool, true, false, refl, sym, ap, ◌∙◌, subst, true≢false}
use Rattle.std.specs.Prelude.{◌&&◌, ◌||◌, not, if◌then◌else◌, Option}
use Rattle.isp_base.specs.Sets.{Mask, any, nobody, union, without}
use Rattle.isp_base.specs.Maps.{on, where_true}
use Rattle.isp_base.specs.declared.types.Rate.{Rate}
use Rattle.isp_typed.specs.Scoped.{Scope}
use Rattle.isp_meaning.specs.State.{State}
use Rattle.isp_meaning.specs.Payloads.{Payload, One, Each, is_true}
use Rattle.isp_meaning.specs.Outcomes.{Res, Went, go_on, went_all, unless_empty, if_so, both_sides}
use Rattle.isp_meaning.specs.Statements.{branches}
use Rattle.isp_solo_meaning.specs.Alone.{Alone}
use Rattle.isp_solo_meaning.specs.Answers.{How, Going, Broke, Continued, Returned, End, Does, choose}
use Rattle.isp_solo_laws.specs.Stands.{World, Stands, Same, AreSome, IfIn}
use Rattle.isp_solo_laws.specs.Values.{Stand}
use Rattle.isp_solo_laws.specs.Statements.{no_ways, ways_of, parted_ways, is_going, is_broke, is_continued, is_returned, Ways, may_leave, may_part, Here, LeavesWithin, LeavesAlone, Leaves, StmtSim}
use Rattle.isp_solo_laws.proofs.Lanes.{nobody_in, and_left, or_left, or_right, kept_is, one_is}
use Rattle.isp_solo_laws.proofs.Loops.{LeavesIf}
use Rattle.isp_solo_laws.proofs.Sequences.{leave_left, leave_right, part_left, part_right}

-- ---- nobody is there

-- all stay, and go on
module _ (w : World) (here : Here) (v v1 : Scope) (x : Ways) (k : Mask) where
  pub none_leaves : (own : ℕ → End) (σ : ℕ → Alone) (s : State) → ((p : ℕ) → k p ≡ false) → Stands w s σ → Leaves w here v v1 x k own σ (went_all k s) s.uniforms
  none_leaves own σ s none st = record {
    s = s;
    went = k;
    broke = nobody;
    continued = nobody;
    returned = nobody;
    after = σ;
    how = λ p. Going;
    way = Going;
    is = refl;
    alone = λ p. off (k p) (own p) (σ p) (none p);
    went_is = λ p. none p ∙ sym (ap (λ z. z && true) (none p));
    broke_is = λ p. sym (ap (λ z. z && false) (none p));
    continued_is = λ p. sym (ap (λ z. z && false) (none p));
    returned_is = λ p. sym (ap (λ z. z && false) (none p));
    may = λ p i. refl;
    one_way = λ p i. inl refl;
    no_return = λ i d p j. refl;
    quiet = λ n i. refl;
    own_quiet = λ p n i. refl;
    same = λ p n i j. absurd (true≢false (sym i ∙ none p));
    same_broke = λ i p n j l. absurd (true≢false (sym j));
    same_continued = λ i p n j l. absurd (true≢false (sym j));
    stands = st;
  } where
    off : (t : Bool) (r : End) (s : Alone) → t ≡ false → LeavesAlone t r s Going s
    off true r s e = absurd (true≢false e)
    off false r s e = refl

  -- over a set that may be empty
  pub unless_leaves : (own : ℕ → End) (σ : ℕ → Alone) (s : State) (f : Mask → State → Res) → ((p : ℕ) → k p ≡ true → p < w.gang) → Stands w s σ
      → (AreSome w.gang k → Leaves w here v v1 x k own σ (f k s) s.uniforms) → Leaves w here v v1 x k own σ (unless_empty w.gang k s f) s.uniforms
  unless_leaves own σ s f inside st ok = at (any w.gang k) refl where
    at : (t : Bool) → any w.gang k ≡ t → Leaves w here v v1 x k own σ (if_so t (f k) (went_all k) s) s.uniforms
    at true e = ok (record { inside = inside; some = e })
    at false e = none_leaves own σ s (nobody_in w.gang k inside e) st

-- what only goes on
pub stop_sim : (w : World) (here : Here) (v : Scope) (a : Mask) → StmtSim w here v v no_ways a (went_all a) (λ p s. Does s Going)
stop_sim w here v a = record {
  go = λ s σ st sa top ends.
      record {
        s = s;
        went = a;
        broke = nobody;
        continued = nobody;
        returned = nobody;
        after = σ;
        how = λ p. Going;
        way = Going;
        is = refl;
        alone = λ p. same (a p) (σ p);
        went_is = λ p. and_true (a p);
        broke_is = λ p. and_false (a p);
        continued_is = λ p. and_false (a p);
        returned_is = λ p. and_false (a p);
        may = λ p i. refl;
        one_way = λ p i. inl refl;
        no_return = λ i d p j. refl;
        quiet = λ n i. refl;
        own_quiet = λ p n i. refl;
        same = sa;
        same_broke = λ i p n j l. absurd (true≢false (sym j));
        same_continued = λ i p n j l. absurd (true≢false (sym j));
        stands = st;
      };
} where
  same : (t : Bool) (s : Alone) → LeavesAlone t (Does s Going) s Going s
  same true s = refl
  same false s = refl

  and_true : (t : Bool) → t ≡ (t && true)
  and_true true = refl
  and_true false = refl

  and_false : (t : Bool) → false ≡ (t && false)
  and_false true = refl
  and_false false = refl

-- ---- one branch for all: what jumps of the other branch does not matter

pub record Widens (joint : Bool) (x z : Ways) : Type 0 where
  pub leave : (h : How) → may_leave x h ≡ true → may_leave z h ≡ true
  pub part : (h : How) → may_part joint x h ≡ true → may_part joint z h ≡ true
  pub broke : z.some_break ≡ false → x.some_break ≡ false
  pub continued : z.some_continue ≡ false → x.some_continue ≡ false

pub widens_left : (joint : Bool) (x y : Ways) → Widens joint x (ways_of x y)
widens_left joint x y = record { leave = λ h. leave_left x y h; part = λ h. part_left joint x y h; broke = λ i. or_left x.some_break y.some_break i; continued = λ i. or_left x.some_continue y.some_continue i }

pub widens_right : (joint : Bool) (x y : Ways) → Widens joint y (ways_of x y)
widens_right joint x y = record { leave = λ h. leave_right x y h; part = λ h. part_right joint x y h; broke = λ i. or_right x.some_break y.some_break i; continued = λ i. or_right x.some_continue y.some_continue i }

module _ (w : World) (here : Here) (v v1 : Scope) (x : Ways) (a : Mask) (wider : (k : ℕ) → v k ≡ true → v1 k ≡ true) where
  pub in_other_words : (z : Ways) → Widens here.joint x z → (own own2 : ℕ → End) (σ : ℕ → Alone) (res : Res) (u : ℕ → ℕ) → ((p : ℕ) → a p ≡ true → own2 p ≡ own p) → Leaves w here v v1 x a own σ res u → Leaves w here v v z a own2 σ res u
  in_other_words z wide own own2 σ res u e ok = record {
    s = ok.s;
    went = ok.went;
    broke = ok.broke;
    continued = ok.continued;
    returned = ok.returned;
    after = ok.after;
    how = ok.how;
    way = ok.way;
    is = ok.is;
    alone = λ p. moved (a p) (own p) (own2 p) (σ p) (ok.after p) (ok.how p) (e p) (ok.alone p);
    went_is = ok.went_is;
    broke_is = ok.broke_is;
    continued_is = ok.continued_is;
    returned_is = ok.returned_is;
    may = λ p i. wide.leave (ok.how p) (ok.may p i);
    one_way = λ p i. way_of p (ok.one_way p i);
    no_return = ok.no_return;
    quiet = ok.quiet;
    own_quiet = ok.own_quiet;
    same = λ p k i j. ok.same p k i (wider k j);
    same_broke = λ i. ok.same_broke (wide.broke i);
    same_continued = λ i. ok.same_continued (wide.continued i);
    stands = ok.stands;
  } where
    moved : (t : Bool) (r q : End) (s s1 : Alone) (h : How) → (t ≡ true → q ≡ r) → LeavesAlone t r s h s1 → LeavesAlone t q s h s1
    moved true r q s s1 h e l = e refl ∙ l
    moved false r q s s1 h e l = l

    way_of : (p : ℕ) → (ok.how p ≡ ok.way) ⊎ (may_part here.joint x (ok.how p) ≡ true) → (ok.how p ≡ ok.way) ⊎ (may_part here.joint z (ok.how p) ≡ true)
    way_of p (inl d) = inl d
    way_of p (inr d) = inr (wide.part (ok.how p) d)

-- ---- branches in which some are: they part, and nobody assigns what is known outside

module _ (w : World) (here : Here) (closed : ℕ → Bool) (v v1 v2 : Scope) (x y : Ways) (a : Mask) (in_gang : AreSome w.gang a) (shut : (k : ℕ) → v k ≡ true → closed k ≡ true) (closed_in : (k : ℕ) → here.closed k ≡ true → closed k ≡ true)
    (first second : Mask → State → Res) (own own2 : ℕ → Alone → End) where
  abbrev branch : Here
  branch = record { closed = closed; joint = here.joint; top = false }

  -- whoever leaves a branch otherwise than by going on may do so alone
  leaves_alone : (h : How) → may_leave (ways_of x y) h ≡ true → (here.joint ≡ true → is_returned h ≡ false) → (h ≡ Going) ⊎ (may_part here.joint (parted_ways x y) h ≡ true)
  leaves_alone Going e r = inl refl
  leaves_alone Broke e r = inr e
  leaves_alone Continued e r = inr e
  leaves_alone Returned e r = inr (go here.joint r) where
    go : (j : Bool) → (j ≡ true → true ≡ false) → not j ≡ true
    go true r = absurd (true≢false (r refl))
    go false r = refl

  as_alone : (h : How) → may_leave (ways_of x y) h ≡ true → may_leave (parted_ways x y) h ≡ true
  as_alone Going e = refl
  as_alone Broke e = e
  as_alone Continued e = e
  as_alone Returned e = refl

  -- of what the branches came to, put together
  module _ (own3 : ℕ → End) (s : State) (σ : ℕ → Alone) (sa : Same v a s.uniforms σ) (s2 : State) (went broke continued returned : Mask) (after : ℕ → Alone) (how : ℕ → How)
      (alone : (p : ℕ) → LeavesAlone (a p) (own3 p) (σ p) (how p) (after p)) (went_is : (p : ℕ) → went p ≡ (a p && is_going (how p)))
      (broke_is : (p : ℕ) → broke p ≡ (a p && is_broke (how p))) (continued_is : (p : ℕ) → continued p ≡ (a p && is_continued (how p)))
      (returned_is : (p : ℕ) → returned p ≡ (a p && is_returned (how p)))
      (may : (p : ℕ) → a p ≡ true → may_leave (ways_of x y) (how p) ≡ true)
      (no_return : here.joint ≡ true → (p : ℕ) → a p ≡ true → is_returned (how p) ≡ false)
      (quiet : (k : ℕ) → closed k ≡ true → s2.uniforms k ≡ s.uniforms k)
      (own_quiet : (p k : ℕ) → closed k ≡ true → (after p).uniforms k ≡ (σ p).uniforms k) (stands : Stands w s2 after) where
    known : (p k : ℕ) → a p ≡ true → v k ≡ true → (after p).uniforms k ≡ s2.uniforms k
    known p k i j = own_quiet p k (shut k j) ∙ sa p k i j ∙ sym (quiet k (shut k j))

    parted : Leaves w here v v (parted_ways x y) a own3 σ (Went s2 went broke continued returned) s.uniforms
    parted = record {
      s = s2;
      went = went;
      broke = broke;
      continued = continued;
      returned = returned;
      after = after;
      how = how;
      way = Going;
      is = refl;
      alone = alone;
      went_is = went_is;
      broke_is = broke_is;
      continued_is = continued_is;
      returned_is = returned_is;
      may = λ p i. as_alone (how p) (may p i);
      one_way = λ p i. leaves_alone (how p) (may p i) (λ j. no_return j p i);
      no_return = λ i d p j. no_return i p j;
      quiet = λ k i. quiet k (closed_in k i);
      own_quiet = λ p k i. own_quiet p k (closed_in k i);
      same = λ p k i j. known p k (and_left (a p) _ (sym (went_is p) ∙ i)) j;
      same_broke = λ d p k i j. known p k (and_left (a p) _ (sym (broke_is p) ∙ i)) j;
      same_continued = λ d p k i j. known p k (and_left (a p) _ (sym (continued_is p) ∙ i)) j;
      stands = stands;
    }

  -- ---- one instance, in one of two sides

  side : (t u k : Bool) (f g : Alone → End) (s s1 s2 : Alone) (h h2 : How) (l : Bool) → k ≡ (t && u) → l ≡ (t && not u) → LeavesAlone k (f s) s h s1 → LeavesAlone l (g s1) s1 h2 s2 → LeavesAlone t (choose u f g s) s (if u then h else h2) s2
  side t u k f g s s1 s2 h h2 l e d a b = go t u (subst (λ z. LeavesAlone z (f s) s h s1) e a) (subst (λ z. LeavesAlone z (g s1) s1 h2 s2) d b) where
    go : (t u : Bool) → LeavesAlone (t && u) (f s) s h s1 → LeavesAlone (t && not u) (g s1) s1 h2 s2 → LeavesAlone t (choose u f g s) s (if u then h else h2) s2
    go true true a b = a ∙ ap (λ z. Does z h) (sym b)
    go true false a b = ap g (sym a) ∙ b
    go false u a b = b ∙ a

  first_ends : (last : Alone) (t u k : Bool) (f g : Alone → End) (s : Alone) → k ≡ (t && u) → LeavesIf last t (choose u f g s) → LeavesIf last k (f s)
  first_ends last t u k f g s e h = subst (λ z. LeavesIf last z (f s)) (sym e) (go t u h) where
    go : (t u : Bool) → LeavesIf last t (choose u f g s) → LeavesIf last (t && u) (f s)
    go true true h = h
    go true false h = tt
    go false u h = tt

  second_ends : (last : Alone) (t u k l : Bool) (f g : Alone → End) (s s1 : Alone) (h1 : How) → k ≡ (t && u) → l ≡ (t && not u) → LeavesAlone k (f s) s h1 s1 → LeavesIf last t (choose u f g s) → LeavesIf last l (g s1)
  second_ends last t u k l f g s s1 h1 e d a h = subst (λ z. LeavesIf last z (g s1)) (sym d) (go t u (subst (λ z. LeavesAlone z (f s) s h1 s1) e a) h) where
    go : (t u : Bool) → LeavesAlone (t && u) (f s) s h1 s1 → LeavesIf last t (choose u f g s) → LeavesIf last (t && not u) (g s1)
    go true true a h = tt
    go true false a h = subst (λ z. LeavesWithin last (g z)) (sym a) h
    go false u a h = tt

  set_of : (f : How → Bool) (t u k l q r : Bool) (h h2 : How) → k ≡ (t && u) → l ≡ (t && not u) → q ≡ (k && f h) → r ≡ (l && f h2) → (q || r) ≡ (t && f (if u then h else h2))
  set_of f t u k l q r h h2 e d c b = ap (λ z. z || r) (c ∙ ap (λ z. z && f h) e) ∙ ap (λ z. ((t && u) && f h) || z) (b ∙ ap (λ z. z && f h2) d) ∙ go t u where
    or_no : (b : Bool) → (b || false) ≡ b
    or_no true = refl
    or_no false = refl

    go : (t u : Bool) → (((t && u) && f h) || ((t && not u) && f h2)) ≡ (t && f (if u then h else h2))
    go true true = or_no (f h)
    go true false = refl
    go false u = refl

  and_both : (t u : Bool) → t ≡ true → u ≡ true → (t && u) ≡ true
  and_both true u e d = d
  and_both false u e d = absurd (true≢false (sym e))

  module _ (sim : (k : Mask) → AreSome w.gang k → StmtSim w branch v v1 x k (first k) own) (sim2 : (k : Mask) → AreSome w.gang k → StmtSim w branch v v2 y k (second k) own2) where
    no_top : {A : Type 0} → false ≡ true → A
    no_top e = absurd (true≢false (sym e))

    -- both sides, each over the members whose test is such
    module _ (c : ℕ → Option ℕ) (val : ℕ → ℕ) (at : (p : ℕ) → c p ≡ on a val p) (s : State) (σ : ℕ → Alone) (st : Stands w s σ)
        (sa : Same v a s.uniforms σ) (ends : (p : ℕ) → LeavesIf (w.last p) (a p) (choose (is_true (val p)) (own p) (own2 p) (σ p))) where
      abbrev these : Mask
      these = where_true is_true c

      these_are : (p : ℕ) → these p ≡ (a p && is_true (val p))
      these_are p = kept_is w.gang a is_true (Each c) val p (at p)

      others_are : (p : ℕ) → without a these p ≡ (a p && not (is_true (val p)))
      others_are p = ap (λ z. a p && not z) (these_are p) ∙ go (a p) (is_true (val p)) where
        go : (t u : Bool) → (t && not (t && u)) ≡ (t && not u)
        go true u = refl
        go false u = refl

      sub1 : (p : ℕ) → these p ≡ true → a p ≡ true
      sub1 p e = and_left (a p) _ (sym (these_are p) ∙ e)

      sub2 : (p : ℕ) → without a these p ≡ true → a p ≡ true
      sub2 p e = and_left (a p) _ e

      one : Leaves w branch v v1 x these (λ p. own p (σ p)) σ (unless_empty w.gang these s first) s.uniforms
      one = unless_leaves w branch v v1 x these (λ p. own p (σ p)) σ s first (λ p e. in_gang.inside p (sub1 p e)) st
          (λ i. (sim these i).go s σ st (λ p k e j. sa p k (sub1 p e) j) (λ e. no_top e) (λ p. first_ends (w.last p) (a p) (is_true (val p)) (these p) (own p) (own2 p) (σ p) (these_are p) (ends p)))

      two : (ok : Leaves w branch v v1 x these (λ p. own p (σ p)) σ (unless_empty w.gang these s first) s.uniforms)
          → Leaves w branch v v2 y (without a these) (λ p. own2 p (ok.after p)) ok.after (unless_empty w.gang (without a these) ok.s second)
          ok.s.uniforms
      two ok = unless_leaves w branch v v2 y (without a these) (λ p. own2 p (ok.after p)) ok.after ok.s second (λ p e. in_gang.inside p (sub2 p e)) ok.stands
          (λ i. (sim2 (without a these) i).go ok.s ok.after ok.stands (λ p k e j. ok.own_quiet p k (shut k j) ∙ sa p k (sub2 p e) j ∙ sym (ok.quiet k (shut k j))) (λ e. no_top e)
          (λ p. second_ends (w.last p) (a p) (is_true (val p)) (these p) (without a these p) (own p) (own2 p) (σ p) (ok.after p) (ok.how p) (these_are p) (others_are p) (ok.alone p) (ends p)))

      sides : Leaves w here v v (parted_ways x y) a (λ p. choose (is_true (val p)) (own p) (own2 p) (σ p)) σ (both_sides (unless_empty w.gang these s first) (λ s1. unless_empty w.gang (without a these) s1 second)) s.uniforms
      sides = join one (two one) where
        join : (ok : Leaves w branch v v1 x these (λ p. own p (σ p)) σ (unless_empty w.gang these s first) s.uniforms)
            → Leaves w branch v v2 y (without a these) (λ p. own2 p (ok.after p)) ok.after (unless_empty w.gang (without a these) ok.s second)
            ok.s.uniforms
            → Leaves w here v v (parted_ways x y) a (λ p. choose (is_true (val p)) (own p) (own2 p) (σ p)) σ (both_sides (unless_empty w.gang these s first) (λ s1. unless_empty w.gang (without a these) s1 second)) s.uniforms
        join ok ok2 = subst (λ z. Leaves w here v v (parted_ways x y) a (λ p. choose (is_true (val p)) (own p) (own2 p) (σ p)) σ z s.uniforms)
            (sym (ap (λ z. both_sides z (λ s1. unless_empty w.gang (without a these) s1 second)) ok.is ∙ ap (λ z. go_on z (λ s2 g b c r. Went s2 (union ok.went g) (union ok.broke b) (union ok.continued c) (union ok.returned r))) ok2.is))
            (parted (λ p. choose (is_true (val p)) (own p) (own2 p) (σ p)) s σ sa ok2.s (union ok.went ok2.went) (union ok.broke ok2.broke)
            (union ok.continued ok2.continued) (union ok.returned ok2.returned) ok2.after (λ p. if is_true (val p) then ok.how p else ok2.how p)
            (λ p. side (a p) (is_true (val p)) (these p) (own p) (own2 p) (σ p) (ok.after p) (ok2.after p) (ok.how p) (ok2.how p) (without a these p) (these_are p) (others_are p) (ok.alone p) (ok2.alone p))
            (λ p. set_of is_going (a p) (is_true (val p)) (these p) (without a these p) (ok.went p) (ok2.went p) (ok.how p) (ok2.how p) (these_are p) (others_are p) (ok.went_is p) (ok2.went_is p))
            (λ p. set_of is_broke (a p) (is_true (val p)) (these p) (without a these p) (ok.broke p) (ok2.broke p) (ok.how p) (ok2.how p) (these_are p) (others_are p) (ok.broke_is p) (ok2.broke_is p))
            (λ p. set_of is_continued (a p) (is_true (val p)) (these p) (without a these p) (ok.continued p) (ok2.continued p) (ok.how p) (ok2.how p) (these_are p) (others_are p) (ok.continued_is p) (ok2.continued_is p))
            (λ p. set_of is_returned (a p) (is_true (val p)) (these p) (without a these p) (ok.returned p) (ok2.returned p) (ok.how p) (ok2.how p) (these_are p) (others_are p) (ok.returned_is p) (ok2.returned_is p))
            (λ p i. picked (λ h. may_leave (ways_of x y) h ≡ true) (is_true (val p)) (ok.how p) (ok2.how p)
            (λ u. leave_left x y (ok.how p) (ok.may p (these_are p ∙ and_both (a p) _ i u)))
            (λ u. leave_right x y (ok2.how p) (ok2.may p (others_are p ∙ and_both (a p) _ i (ap not u)))))
            (λ j p i. picked (λ h. is_returned h ≡ false) (is_true (val p)) (ok.how p) (ok2.how p) (λ u. ok.no_return j refl p (these_are p ∙ and_both (a p) _ i u)) (λ u. ok2.no_return j refl p (others_are p ∙ and_both (a p) _ i (ap not u))))
            (λ k i. ok2.quiet k i ∙ ok.quiet k i) (λ p k i. ok2.own_quiet p k i ∙ ok.own_quiet p k i) ok2.stands) where
              picked : (P : How → Type 0) (t : Bool) (h h2 : How) → (t ≡ true → P h) → (t ≡ false → P h2) → P (if t then h else h2)
              picked P true h h2 f g = f refl
              picked P false h h2 f g = g refl

    -- one side for all, as the test has one value
    module _ (val : ℕ → ℕ) (s : State) (σ : ℕ → Alone) (st : Stands w s σ) (sa : Same v a s.uniforms σ) (ends : (p : ℕ) → LeavesIf (w.last p) (a p) (choose (is_true (val p)) (own p) (own2 p) (σ p))) where
      chosen : (u : Bool) (f g : Alone → End) (z : Alone) (t : Bool) (last : Alone) → u ≡ true → LeavesIf last t (choose u f g z) → LeavesIf last t (f z)
      chosen true f g z t last e h = h
      chosen false f g z t last e h = absurd (true≢false (sym e))

      other : (u : Bool) (f g : Alone → End) (z : Alone) (t : Bool) (last : Alone) → u ≡ false → LeavesIf last t (choose u f g z) → LeavesIf last t (g z)
      other true f g z t last e h = absurd (true≢false e)
      other false f g z t last e h = h

      member_ends : (t : Bool) (T : Type 0) → (t ≡ true → IfIn t T) → IfIn t T
      member_ends true T h = h refl
      member_ends false T h = tt

      took : (t : Bool) → ((p : ℕ) → a p ≡ true → is_true (val p) ≡ t) → Leaves w here v v (parted_ways x y) a (λ p. choose (is_true (val p)) (own p) (own2 p) (σ p)) σ (if_so t (first a) (second a) s) s.uniforms
      took true all = go ((sim a in_gang).go s σ st sa (λ e. no_top e) (λ p. member_ends (a p) _ (λ i. chosen (is_true (val p)) (own p) (own2 p) (σ p) (a p) (w.last p) (all p i) (ends p)))) where
        go : Leaves w branch v v1 x a (λ p. own p (σ p)) σ (first a s) s.uniforms → Leaves w here v v (parted_ways x y) a (λ p. choose (is_true (val p)) (own p) (own2 p) (σ p)) σ (first a s) s.uniforms
        go ok = subst (λ z. Leaves w here v v (parted_ways x y) a (λ p. choose (is_true (val p)) (own p) (own2 p) (σ p)) σ z s.uniforms) (sym ok.is)
            (parted (λ p. choose (is_true (val p)) (own p) (own2 p) (σ p)) s σ sa ok.s ok.went ok.broke ok.continued ok.returned ok.after ok.how (λ p. moved (a p) (is_true (val p)) (own p) (own2 p) (σ p) (ok.after p) (ok.how p) (all p) (ok.alone p))
            ok.went_is ok.broke_is ok.continued_is ok.returned_is (λ p i. leave_left x y (ok.how p) (ok.may p i)) (λ j p i. ok.no_return j refl p i) ok.quiet ok.own_quiet ok.stands) where
              moved : (t u : Bool) (f g : Alone → End) (z z1 : Alone) (h : How) → (t ≡ true → u ≡ true) → LeavesAlone t (f z) z h z1 → LeavesAlone t (choose u f g z) z h z1
              moved true u f g z z1 h e l = ap (λ b. choose b f g z) (e refl) ∙ l
              moved false u f g z z1 h e l = l
      took false all = go ((sim2 a in_gang).go s σ st sa (λ e. no_top e) (λ p. member_ends (a p) _ (λ i. other (is_true (val p)) (own p) (own2 p) (σ p) (a p) (w.last p) (all p i) (ends p)))) where
        go : Leaves w branch v v2 y a (λ p. own2 p (σ p)) σ (second a s) s.uniforms → Leaves w here v v (parted_ways x y) a (λ p. choose (is_true (val p)) (own p) (own2 p) (σ p)) σ (second a s) s.uniforms
        go ok = subst (λ z. Leaves w here v v (parted_ways x y) a (λ p. choose (is_true (val p)) (own p) (own2 p) (σ p)) σ z s.uniforms) (sym ok.is)
            (parted (λ p. choose (is_true (val p)) (own p) (own2 p) (σ p)) s σ sa ok.s ok.went ok.broke ok.continued ok.returned ok.after ok.how (λ p. moved (a p) (is_true (val p)) (own p) (own2 p) (σ p) (ok.after p) (ok.how p) (all p) (ok.alone p))
            ok.went_is ok.broke_is ok.continued_is ok.returned_is (λ p i. leave_right x y (ok.how p) (ok.may p i)) (λ j p i. ok.no_return j refl p i) ok.quiet ok.own_quiet ok.stands) where
              moved : (t u : Bool) (f g : Alone → End) (z z1 : Alone) (h : How) → (t ≡ true → u ≡ false) → LeavesAlone t (g z) z h z1 → LeavesAlone t (choose u f g z) z h z1
              moved true u f g z z1 h e l = ap (λ b. choose b f g z) (e refl) ∙ l
              moved false u f g z z1 h e l = l

    -- from a varying test on
    pub varying_sides : (r : Rate) (m : Payload) (val : ℕ → ℕ) → Stand w.gang a r m val → (s : State) (σ : ℕ → Alone) → Stands w s σ → Same v a s.uniforms σ → ((p : ℕ) → LeavesIf (w.last p) (a p) (choose (is_true (val p)) (own p) (own2 p) (σ p)))
        → Leaves w here v v (parted_ways x y) a (λ p. choose (is_true (val p)) (own p) (own2 p) (σ p)) σ (branches w.gang a first second m s) s.uniforms
    varying_sides r (One c) val h s σ st sa ends = took val s σ st sa ends (is_true c) (λ p i. ap is_true (sym (one_is a c val p (h.at p) i)))
    varying_sides r (Each c) val h s σ st sa ends = sides c val h.at s σ st sa ends
