-- One statement after the other.
use Rattle.std.proofs.Common.{◌≡◌, ℕ, ◌⊎◌, inl, inr, Bool, true, false, refl, sym, ap, ◌∙◌, subst, true≢false}
use Rattle.std.specs.Prelude.{◌&&◌, ◌||◌, not}
use Rattle.isp_base.specs.Sets.{Mask, any, nobody, union}
use Rattle.isp_typed.specs.Scoped.{Scope}
use Rattle.isp_meaning.specs.State.{State}
use Rattle.isp_meaning.specs.Outcomes.{Res, Went, go_on, then_run, went_all, unless_empty, if_so}
use Rattle.isp_solo_meaning.specs.Alone.{Alone}
use Rattle.isp_solo_meaning.specs.Answers.{How, Going, Broke, Continued, Returned, End, Does, Dies, Lasts, then_on}
use Rattle.isp_solo_laws.specs.Stands.{World, AreSome, Up, left_at}
use Rattle.isp_solo_laws.specs.Statements.{ways_of, is_going, is_broke, is_continued, is_returned, Ways, may_leave, may_part, Here, HasAll, LeavesWithin, LeavesAlone, Leaves, StmtSim}
use Rattle.isp_solo_laws.proofs.Grow.{within_then}
use Rattle.isp_solo_laws.proofs.Lanes.{nobody_in, member, and_left, or_left, or_right}
use Rattle.isp_solo_laws.proofs.Loops.{LeavesIf, leaves_within, either_is}

-- ---- one instance

abbrev pub then_how : How → How → How
then_how Going h = h
then_how Broke h = Broke
then_how Continued h = Continued
then_how Returned h = Returned

on_first : (last : Alone) (t : Bool) (r : End) (next : Alone → End) → Up left_at next → LeavesIf last t (then_on r next) → LeavesIf last t r
on_first last false r next up h = tt
on_first last true (Does s Going) next up h = within_then s (left_at (next s)) last (up.more s) (leaves_within last (next s) h)
on_first last true (Does s Broke) next up h = h
on_first last true (Does s Continued) next up h = h
on_first last true (Does s Returned) next up h = h
on_first last true (Dies t s) next up h = absurd h
on_first last true (Lasts s) next up h = absurd h

on_next : (last : Alone) (t g : Bool) (r : End) (next : Alone → End) (s0 s1 : Alone) (h : How) → g ≡ (t && is_going h) → LeavesAlone t r s0 h s1 → LeavesIf last t (then_on r next) → LeavesIf last g (next s1)
on_next last t g r next s0 s1 h e a k = subst (λ z. LeavesIf last z (next s1)) (sym e) (go t h a k) where
  go : (t : Bool) (h : How) → LeavesAlone t r s0 h s1 → LeavesIf last t (then_on r next) → LeavesIf last (t && is_going h) (next s1)
  go false h a k = tt
  go true Going a k = subst (λ z. LeavesWithin last (then_on z next)) a k
  go true Broke a k = tt
  go true Continued a k = tt
  go true Returned a k = tt

on_alone : (t g : Bool) (r : End) (next : Alone → End) (s0 s1 s2 : Alone) (h h2 : How) → g ≡ (t && is_going h) → LeavesAlone t r s0 h s1 → LeavesAlone g (next s1) s1 h2 s2 → LeavesAlone t (then_on r next) s0 (then_how h h2) s2
on_alone t g r next s0 s1 s2 h h2 e a b = go t h a (subst (λ z. LeavesAlone z (next s1) s1 h2 s2) e b) where
  go : (t : Bool) (h : How) → LeavesAlone t r s0 h s1 → LeavesAlone (t && is_going h) (next s1) s1 h2 s2 → LeavesAlone t (then_on r next) s0 (then_how h h2) s2
  go false h a b = b ∙ a
  go true Going a b = ap (λ z. then_on z next) a ∙ b
  go true Broke a b = ap (λ z. then_on z next) a ∙ ap (λ z. Does z Broke) (sym b)
  go true Continued a b = ap (λ z. then_on z next) a ∙ ap (λ z. Does z Continued) (sym b)
  go true Returned a b = ap (λ z. then_on z next) a ∙ ap (λ z. Does z Returned) (sym b)

-- ---- sets

went_then : (t g x : Bool) (h h2 : How) → g ≡ (t && is_going h) → x ≡ (g && is_going h2) → x ≡ (t && is_going (then_how h h2))
went_then t g x h h2 e d = d ∙ ap (λ z. z && is_going h2) e ∙ go t h where
  go : (t : Bool) (h : How) → ((t && is_going h) && is_going h2) ≡ (t && is_going (then_how h h2))
  go true Going = refl
  go true Broke = refl
  go true Continued = refl
  go true Returned = refl
  go false h = refl

-- left in a way other than going on, by the first or by the second
left_then : (f : How → Bool) → f Going ≡ false → (t g x y : Bool) (h h2 : How) → g ≡ (t && is_going h) → x ≡ (t && f h) → y ≡ (g && f h2) → (x || y) ≡ (t && f (then_how h h2))
left_then f no_going t g x y h h2 e d c = ap (λ z. z || y) d ∙ ap (λ z. (t && f h) || z) (c ∙ ap (λ z. z && f h2) e) ∙ go t h where
  or_false : (b : Bool) → (b || false) ≡ b
  or_false true = refl
  or_false false = refl

  go : (t : Bool) (h : How) → ((t && f h) || ((t && is_going h) && f h2)) ≡ (t && f (then_how h h2))
  go true Going = ap (λ z. z || f h2) no_going
  go true Broke = or_false (f Broke)
  go true Continued = or_false (f Continued)
  go true Returned = or_false (f Returned)
  go false h = refl

or_in_left : (x y : Bool) → x ≡ true → (x || y) ≡ true
or_in_left true y e = refl
or_in_left false y e = absurd (true≢false (sym e))

or_in_right : (x y : Bool) → y ≡ true → (x || y) ≡ true
or_in_right true y e = refl
or_in_right false y e = e

pub leave_left : (x y : Ways) (h : How) → may_leave x h ≡ true → may_leave (ways_of x y) h ≡ true
leave_left x y Going e = e
leave_left x y Broke e = or_in_left x.breaks y.breaks e
leave_left x y Continued e = or_in_left x.continues y.continues e
leave_left x y Returned e = e

pub leave_right : (x y : Ways) (h : How) → may_leave y h ≡ true → may_leave (ways_of x y) h ≡ true
leave_right x y Going e = e
leave_right x y Broke e = or_in_right x.breaks y.breaks e
leave_right x y Continued e = or_in_right x.continues y.continues e
leave_right x y Returned e = e

pub part_left : (j : Bool) (x y : Ways) (h : How) → may_part j x h ≡ true → may_part j (ways_of x y) h ≡ true
part_left j x y Going e = e
part_left j x y Broke e = or_in_left x.some_break y.some_break e
part_left j x y Continued e = or_in_left x.some_continue y.some_continue e
part_left j x y Returned e = e

pub part_right : (j : Bool) (x y : Ways) (h : How) → may_part j y h ≡ true → may_part j (ways_of x y) h ≡ true
part_right j x y Going e = e
part_right j x y Broke e = or_in_right x.some_break y.some_break e
part_right j x y Continued e = or_in_right x.some_continue y.some_continue e
part_right j x y Returned e = e

is_going_true : (h : How) → is_going h ≡ true → h ≡ Going
is_going_true Going e = refl
is_going_true Broke e = absurd (true≢false (sym e))
is_going_true Continued e = absurd (true≢false (sym e))
is_going_true Returned e = absurd (true≢false (sym e))

is_broke_true : (h : How) → is_broke h ≡ true → h ≡ Broke
is_broke_true Going e = absurd (true≢false (sym e))
is_broke_true Broke e = refl
is_broke_true Continued e = absurd (true≢false (sym e))
is_broke_true Returned e = absurd (true≢false (sym e))

is_continued_true : (h : How) → is_continued h ≡ true → h ≡ Continued
is_continued_true Going e = absurd (true≢false (sym e))
is_continued_true Broke e = absurd (true≢false (sym e))
is_continued_true Continued e = refl
is_continued_true Returned e = absurd (true≢false (sym e))

and_of : (t u : Bool) → (t && u) ≡ true → u ≡ true
and_of true u e = e
and_of false u e = absurd (true≢false (sym e))

both_of : (t u : Bool) → t ≡ true → u ≡ true → (t && u) ≡ true
both_of true u e d = d
both_of false u e d = absurd (true≢false (sym e))

-- ---- the gang: at the top nobody breaks or continues alone in the first

module _ (w : World) (here : Here) (v v1 : Scope) (x y : Ways) (a : Mask) (in_gang : AreSome w.gang a) (wider : (k : ℕ) → v k ≡ true → v1 k ≡ true)
    (together : here.top ≡ true → (x.some_break ≡ false) × (x.some_continue ≡ false) × (here.joint ≡ true))
    (f : State → Res) (own : ℕ → Alone → End) (first : StmtSim w here v v1 x a f own) (f2 : Mask → State → Res) (own2 : ℕ → Alone → End)
    (up2 : (p : ℕ) → Up left_at (own2 p)) (second : (k : Mask) → AreSome w.gang k → StmtSim w here v1 v1 y k (f2 k) own2) where
  module _ (s : State) (σ : ℕ → Alone) (top : here.top ≡ true → HasAll w a) (ends : (p : ℕ) → LeavesIf (w.last p) (a p) (then_on (own p (σ p)) (own2 p))) (ok : Leaves w here v v1 x a (λ p. own p (σ p)) σ (f s) s.uniforms) where
    went_sub : (p : ℕ) → ok.went p ≡ true → a p ≡ true
    went_sub p e = and_left (a p) (is_going (ok.how p)) (sym (ok.went_is p) ∙ e)

    went_how : (p : ℕ) → ok.went p ≡ true → ok.how p ≡ Going
    went_how p e = is_going_true (ok.how p) (and_of (a p) (is_going (ok.how p)) (sym (ok.went_is p) ∙ e))

    in_went : (p : ℕ) → a p ≡ true → ok.how p ≡ Going → ok.went p ≡ true
    in_went p i e = ok.went_is p ∙ both_of (a p) (is_going (ok.how p)) i (ap is_going e)

    no_part : (h : How) → here.top ≡ true → may_part here.joint x h ≡ true → ⊥
    no_part Going i e = true≢false (sym e)
    no_part Broke i e = true≢false (sym e ∙ (together i).0)
    no_part Continued i e = true≢false (sym e ∙ (together i).1)
    no_part Returned i e = true≢false (sym e ∙ ap not (together i).2)

    -- where some go on, all leave by going on but those who part
    way_going : any w.gang ok.went ≡ true → ok.way ≡ Going
    way_going e = go (member w.gang ok.went e) where
      go : (q : ℕ) × (ok.went q ≡ true) → ok.way ≡ Going
      go q = go2 (ok.one_way q.0 (went_sub q.0 q.1)) where
        go2 : (ok.how q.0 ≡ ok.way) ⊎ (may_part here.joint x (ok.how q.0) ≡ true) → ok.way ≡ Going
        go2 (inl d) = sym d ∙ went_how q.0 q.1
        go2 (inr d) = absurd (true≢false (sym d ∙ ap (may_part here.joint x) (went_how q.0 q.1)))

    goes_or_parts : any w.gang ok.went ≡ true → (p : ℕ) → a p ≡ true → (ok.how p ≡ Going) ⊎ (may_part here.joint x (ok.how p) ≡ true)
    goes_or_parts e p i = go (ok.one_way p i) where
      go : (ok.how p ≡ ok.way) ⊎ (may_part here.joint x (ok.how p) ≡ true) → (ok.how p ≡ Going) ⊎ (may_part here.joint x (ok.how p) ≡ true)
      go (inl d) = inl (d ∙ way_going e)
      go (inr d) = inr d

    all_went : any w.gang ok.went ≡ true → here.top ≡ true → HasAll w ok.went
    all_went e i p c = go (goes_or_parts e p (top i p c)) where
      go : (ok.how p ≡ Going) ⊎ (may_part here.joint x (ok.how p) ≡ true) → ok.went p ≡ true
      go (inl d) = in_went p (top i p c) d
      go (inr d) = absurd (no_part (ok.how p) i d)

    abbrev Both : Res → Type 0
    Both res = Leaves w here v v (ways_of x y) a (λ p. then_on (own p (σ p)) (own2 p)) σ res s.uniforms

    both_at : (t : Bool) → any w.gang ok.went ≡ t → Both (then_run (Went ok.s ok.went ok.broke ok.continued ok.returned) (λ g s1. if_so t (f2 g) (went_all g) s1))
    both_at true e = go ((second ok.went (record { inside = λ p i. in_gang.inside p (went_sub p i); some = e })).go ok.s ok.after ok.stands ok.same
        (all_went e) (λ p. on_next (w.last p) (a p) (ok.went p) (own p (σ p)) (own2 p) (σ p) (ok.after p) (ok.how p) (ok.went_is p) (ok.alone p)
        (ends p))) where
          go : Leaves w here v1 v1 y ok.went (λ p. own2 p (ok.after p)) ok.after (f2 ok.went ok.s) ok.s.uniforms → Both (then_run (Went ok.s ok.went ok.broke ok.continued ok.returned) (λ g s1. f2 g s1))
          go ok2 = record {
            s = ok2.s;
            went = ok2.went;
            broke = union ok.broke ok2.broke;
            continued = union ok.continued ok2.continued;
            returned = union ok.returned ok2.returned;
            after = ok2.after;
            how = λ p. then_how (ok.how p) (ok2.how p);
            way = ok2.way;
            is = ap (λ z. go_on z (λ s2 g b c r. Went s2 g (union ok.broke b) (union ok.continued c) (union ok.returned r))) ok2.is;
            alone = λ p. on_alone (a p) (ok.went p) (own p (σ p)) (own2 p) (σ p) (ok.after p) (ok2.after p) (ok.how p) (ok2.how p) (ok.went_is p) (ok.alone p) (ok2.alone p);
            went_is = λ p. went_then (a p) (ok.went p) (ok2.went p) (ok.how p) (ok2.how p) (ok.went_is p) (ok2.went_is p);
            broke_is = λ p. left_then is_broke refl (a p) (ok.went p) (ok.broke p) (ok2.broke p) (ok.how p) (ok2.how p) (ok.went_is p) (ok.broke_is p) (ok2.broke_is p);
            continued_is = λ p. left_then is_continued refl (a p) (ok.went p) (ok.continued p) (ok2.continued p) (ok.how p) (ok2.how p) (ok.went_is p) (ok.continued_is p) (ok2.continued_is p);
            returned_is = λ p. left_then is_returned refl (a p) (ok.went p) (ok.returned p) (ok2.returned p) (ok.how p) (ok2.how p) (ok.went_is p) (ok.returned_is p) (ok2.returned_is p);
            may = λ p i. may_of p i (ok.how p) refl;
            one_way = λ p i. way_of p i (ok.how p) refl (goes_or_parts e p i);
            no_return = λ i d p j. return_of i d p j (ok.how p) refl;
            quiet = λ k i. ok2.quiet k i ∙ ok.quiet k i;
            own_quiet = λ p k i. ok2.own_quiet p k i ∙ ok.own_quiet p k i;
            same = λ p k i j. ok2.same p k i (wider k j);
            same_broke = λ i p k j l. broke_same p k l (or_left x.some_break y.some_break i) (or_right x.some_break y.some_break i) (either_is (ok.broke p)) j;
            same_continued = λ i p k j l. continued_same p k l (or_left x.some_continue y.some_continue i) (or_right x.some_continue y.some_continue i) (either_is (ok.continued p)) j;
            stands = ok2.stands;
          } where
            may_of : (p : ℕ) → a p ≡ true → (h : How) → ok.how p ≡ h → may_leave (ways_of x y) (then_how h (ok2.how p)) ≡ true
            may_of p i Going d = leave_right x y (ok2.how p) (ok2.may p (in_went p i d))
            may_of p i Broke d = leave_left x y Broke (ap (may_leave x) (sym d) ∙ ok.may p i)
            may_of p i Continued d = leave_left x y Continued (ap (may_leave x) (sym d) ∙ ok.may p i)
            may_of p i Returned d = refl

            second_way : (p : ℕ) → (ok2.how p ≡ ok2.way) ⊎ (may_part here.joint y (ok2.how p) ≡ true) → (ok2.how p ≡ ok2.way) ⊎ (may_part here.joint (ways_of x y) (ok2.how p) ≡ true)
            second_way p (inl d) = inl d
            second_way p (inr d) = inr (part_right here.joint x y (ok2.how p) d)

            parted : (h : How) → (h ≡ Going → ⊥) → (p : ℕ) → ok.how p ≡ h → (ok.how p ≡ Going) ⊎ (may_part here.joint x (ok.how p) ≡ true) → may_part here.joint (ways_of x y) h ≡ true
            parted h no_going p d (inl o) = absurd (no_going (sym d ∙ o))
            parted h no_going p d (inr o) = part_left here.joint x y h (ap (may_part here.joint x) (sym d) ∙ o)

            way_of : (p : ℕ) → a p ≡ true → (h : How) → ok.how p ≡ h → (ok.how p ≡ Going) ⊎ (may_part here.joint x (ok.how p) ≡ true) → (then_how h (ok2.how p) ≡ ok2.way) ⊎ (may_part here.joint (ways_of x y) (then_how h (ok2.how p)) ≡ true)
            way_of p i Going d o = second_way p (ok2.one_way p (in_went p i d))
            way_of p i Broke d o = inr (parted Broke (λ c. true≢false (sym (ap is_going c))) p d o)
            way_of p i Continued d o = inr (parted Continued (λ c. true≢false (sym (ap is_going c))) p d o)
            way_of p i Returned d o = inr (parted Returned (λ c. true≢false (sym (ap is_going c))) p d o)

            return_of : here.joint ≡ true → here.top ≡ false → (p : ℕ) → a p ≡ true → (h : How) → ok.how p ≡ h → is_returned (then_how h (ok2.how p)) ≡ false
            return_of i d p j Going o = ok2.no_return i d p (in_went p j o)
            return_of i d p j Broke o = refl
            return_of i d p j Continued o = refl
            return_of i d p j Returned o = sym (ap is_returned o) ∙ ok.no_return i d p j

            never : (p : ℕ) (h : How) → (h ≡ Going → ⊥) → ok.how p ≡ h → may_part here.joint x h ≡ false → a p ≡ true → ⊥
            never p h no_going d o i = go2 (goes_or_parts e p i) where
              go2 : (ok.how p ≡ Going) ⊎ (may_part here.joint x (ok.how p) ≡ true) → ⊥
              go2 (inl c) = no_going (sym d ∙ c)
              go2 (inr c) = true≢false (sym c ∙ ap (may_part here.joint x) d ∙ o)

            broke_same : (p k : ℕ) → v k ≡ true → x.some_break ≡ false → y.some_break ≡ false → (ok.broke p ≡ true) ⊎ (ok.broke p ≡ false) → (ok.broke p || ok2.broke p) ≡ true → (ok2.after p).uniforms k ≡ ok2.s.uniforms k
            broke_same p k l i j (inl b) o =
                absurd (never p Broke (λ c. true≢false (sym (ap is_going c))) (is_broke_true (ok.how p) (and_of (a p) (is_broke (ok.how p)) (sym (ok.broke_is p) ∙ b))) i (and_left (a p) (is_broke (ok.how p)) (sym (ok.broke_is p) ∙ b)))
            broke_same p k l i j (inr b) o = ok2.same_broke j p k (sym (ap (λ z. z || ok2.broke p) b) ∙ o) (wider k l)

            continued_same : (p k : ℕ) → v k ≡ true → x.some_continue ≡ false → y.some_continue ≡ false → (ok.continued p ≡ true) ⊎ (ok.continued p ≡ false) → (ok.continued p || ok2.continued p) ≡ true → (ok2.after p).uniforms k ≡ ok2.s.uniforms k
            continued_same p k l i j (inl b) o =
                absurd (never p Continued (λ c. true≢false (sym (ap is_going c)))
                (is_continued_true (ok.how p) (and_of (a p) (is_continued (ok.how p)) (sym (ok.continued_is p) ∙ b))) i
                (and_left (a p) (is_continued (ok.how p)) (sym (ok.continued_is p) ∙ b)))
            continued_same p k l i j (inr b) o = ok2.same_continued j p k (sym (ap (λ z. z || ok2.continued p) b) ∙ o) (wider k l)
    both_at false e = record {
      s = ok.s;
      went = ok.went;
      broke = union ok.broke nobody;
      continued = union ok.continued nobody;
      returned = union ok.returned nobody;
      after = ok.after;
      how = ok.how;
      way = ok.way;
      is = refl;
      alone = λ p. not_on (a p) (own p (σ p)) (own2 p) (σ p) (ok.after p) (ok.how p) (sym (ok.went_is p) ∙ nobody_in w.gang ok.went (λ q i. in_gang.inside q (went_sub q i)) e p) (ok.alone p);
      went_is = ok.went_is;
      broke_is = λ p. or_no (ok.broke p) ∙ ok.broke_is p;
      continued_is = λ p. or_no (ok.continued p) ∙ ok.continued_is p;
      returned_is = λ p. or_no (ok.returned p) ∙ ok.returned_is p;
      may = λ p i. leave_left x y (ok.how p) (ok.may p i);
      one_way = λ p i. first_way p (ok.one_way p i);
      no_return = ok.no_return;
      quiet = ok.quiet;
      own_quiet = ok.own_quiet;
      same = λ p k i j. ok.same p k i (wider k j);
      same_broke = λ i p k j l. ok.same_broke (or_left x.some_break y.some_break i) p k (sym (or_no (ok.broke p)) ∙ j) l;
      same_continued = λ i p k j l. ok.same_continued (or_left x.some_continue y.some_continue i) p k (sym (or_no (ok.continued p)) ∙ j) l;
      stands = ok.stands;
    } where
      or_no : (b : Bool) → (b || false) ≡ b
      or_no true = refl
      or_no false = refl

      first_way : (p : ℕ) → (ok.how p ≡ ok.way) ⊎ (may_part here.joint x (ok.how p) ≡ true) → (ok.how p ≡ ok.way) ⊎ (may_part here.joint (ways_of x y) (ok.how p) ≡ true)
      first_way p (inl d) = inl d
      first_way p (inr d) = inr (part_left here.joint x y (ok.how p) d)

      not_on : (t : Bool) (r : End) (next : Alone → End) (s0 s1 : Alone) (h : How) → (t && is_going h) ≡ false → LeavesAlone t r s0 h s1 → LeavesAlone t (then_on r next) s0 h s1
      not_on false r next s0 s1 h g l = l
      not_on true r next s0 s1 Going g l = absurd (true≢false g)
      not_on true r next s0 s1 Broke g l = ap (λ z. then_on z next) l
      not_on true r next s0 s1 Continued g l = ap (λ z. then_on z next) l
      not_on true r next s0 s1 Returned g l = ap (λ z. then_on z next) l

    both : Both (then_run (f s) (λ g s1. unless_empty w.gang g s1 f2))
    both = subst (λ z. Both (then_run z (λ g s1. unless_empty w.gang g s1 f2))) (sym ok.is) (both_at (any w.gang ok.went) refl)

  pub then_sim : StmtSim w here v v (ways_of x y) a (λ s. then_run (f s) (λ g s1. unless_empty w.gang g s1 f2)) (λ p s. then_on (own p s) (own2 p))
  then_sim = record { go = λ s σ st sa top ends. both s σ top ends (first.go s σ st sa top (λ p. on_first (w.last p) (a p) (own p (σ p)) (own2 p) (up2 p) (ends p))) }
