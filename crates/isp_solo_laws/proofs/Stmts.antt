-- Statements put together: after a value, after an assignment, branches of a uniform test, loops, jumps.
use Rattle.std.proofs.Common.{◌≡◌, ℕ, ◌⊎◌, inl, inr, Bool, true, false, refl, sym, ap, ◌∙◌, subst, true≢false}
use Rattle.std.specs.Prelude.{◌&&◌, ◌||◌, not}
use Rattle.isp_base.specs.Sets.{Mask, nobody, without}
use Rattle.isp_base.specs.declared.types.Rate.TheVariants.{Uniform}
use Rattle.isp_tree.specs.declared.stmt.Jump.TheVariants.{Break, Continue}
use Rattle.isp_typed.specs.Scoped.{Scope}
use Rattle.isp_meaning.specs.State.{State}
use Rattle.isp_meaning.specs.Payloads.{One, is_true}
use Rattle.isp_meaning.specs.Outcomes.{Val, Res, Done, with_value, if_so}
use Rattle.isp_meaning.specs.Statements.{jumped}
use Rattle.isp_solo_meaning.specs.Alone.{Alone}
use Rattle.isp_solo_meaning.specs.Answers.{Answer, How, Going, Broke, Continued, Returned, End, Does, with_answer, choose}
use Rattle.isp_solo_laws.specs.Stands.{World, Stands, Same, AreSome, IfIn, Up, left_at}
use Rattle.isp_solo_laws.specs.Values.{Agrees, Sim, Stand}
use Rattle.isp_solo_laws.specs.Statements.{no_ways, ways_of, is_going, is_broke, is_continued, is_returned, is_over, Ways, may_leave, may_part, Here, HasAll, LeavesWithin, Acts, ActSim, LeavesAlone, Leaves, StmtSim, LoopLeaves}
use Rattle.isp_solo_laws.proofs.Lanes.{and_left, one_is}
use Rattle.isp_solo_laws.proofs.Sims.{same_on}
use Rattle.isp_solo_laws.proofs.Loops.{LeavesIf, with_first, with_next, with_alone, either_is}
use Rattle.isp_solo_laws.proofs.Branches.{widens_left, widens_right, in_other_words}

module _ (w : World) (here : Here) (v : Scope) (a : Mask) where
  -- ---- after a value

  pub with_sim : {A B : Type 0} (R : A → (ℕ → B) → Type 0) (v1 : Scope) (z : Ways) (f : State → Val A) (own : ℕ → Alone → Answer B) (go : A → State → Res) (own_go : ℕ → B → Alone → End)
      → Sim w v a R f own → ((p : ℕ) (y : B) → Up left_at (own_go p y)) → ((x : A) (y : ℕ → B) → R x y → StmtSim w here v v1 z a (go x) (λ p. own_go p (y p)))
      → StmtSim w here v v1 z a (λ s. with_value (f s) go) (λ p s. with_answer (own p s) (own_go p))
  with_sim {A} {B} R v1 z f own go own_go first up next = record { go = λ s σ st sa top ends. join s σ sa top ends (first.go s σ st sa (λ p. with_first (w.last p) (a p) (own p (σ p)) (own_go p) (up p) (ends p))) } where
    join : (s : State) (σ : ℕ → Alone) → Same v a s.uniforms σ → (here.top ≡ true → HasAll w a) → ((p : ℕ) → LeavesIf (w.last p) (a p) (with_answer (own p (σ p)) (own_go p))) → Agrees w a R (λ p. own p (σ p)) σ (f s) s.uniforms
        → Leaves w here v v1 z a (λ p. with_answer (own p (σ p)) (own_go p)) σ (with_value (f s) go) s.uniforms
    join s σ sa top ends ok =
        let ok2 = (next ok.x ok.y ok.value).go ok.s ok.after ok.stands
        (same_on w v a a s.uniforms ok.s.uniforms σ ok.after (λ p t. t) ok.uniforms ok.own_uniforms sa) top
        (λ p. with_next (w.last p) (a p) (own p (σ p)) (own_go p) (σ p) (ok.after p) (ok.y p) (ok.alone p) (ends p)) in
        record {
          s = ok2.s;
          went = ok2.went;
          broke = ok2.broke;
          continued = ok2.continued;
          returned = ok2.returned;
          after = ok2.after;
          how = ok2.how;
          way = ok2.way;
          is = ap (λ z. with_value z go) ok.is ∙ ok2.is;
          alone = λ p. with_alone (a p) (own p (σ p)) (own_go p) (σ p) (ok.after p) (ok2.after p) (ok.y p) (ok2.how p) (ok.alone p) (ok2.alone p);
          went_is = ok2.went_is;
          broke_is = ok2.broke_is;
          continued_is = ok2.continued_is;
          returned_is = ok2.returned_is;
          may = ok2.may;
          one_way = ok2.one_way;
          no_return = ok2.no_return;
          quiet = λ k i. ok2.quiet k i ∙ ap (λ f. f k) ok.uniforms;
          own_quiet = λ p k i. ok2.own_quiet p k i ∙ ap (λ f. f k) (ok.own_uniforms p);
          same = ok2.same;
          same_broke = ok2.same_broke;
          same_continued = ok2.same_continued;
          stands = ok2.stands;
        }

  -- after an assignment or a declaration: what it declares is known in what follows, not after that
  pub with_act : (v1 v2 : Scope) (f : State → Val Done) (own : ℕ → Alone → Answer Done) (go : State → Res) (own_go : ℕ → Alone → End) → ((k : ℕ) → v k ≡ true → v2 k ≡ true)
      → ActSim w here.closed v v1 a f own → ((p : ℕ) → Up left_at (own_go p)) → StmtSim w here v1 v2 no_ways a go own_go → StmtSim w here v v no_ways a (λ s. with_value (f s) (λ u s1. go s1)) (λ p s. with_answer (own p s) (λ u s1. own_go p s1))
  with_act v1 v2 f own go own_go wider first up next = record { go = λ s σ st sa top ends. join s σ top ends (first.go s σ st sa (λ p. with_first (w.last p) (a p) (own p (σ p)) (λ u s1. own_go p s1) (λ u. up p) (ends p))) } where
    join : (s : State) (σ : ℕ → Alone) → (here.top ≡ true → HasAll w a) → ((p : ℕ) → LeavesIf (w.last p) (a p) (with_answer (own p (σ p)) (λ u s1. own_go p s1))) → Acts w here.closed v1 a (λ p. own p (σ p)) σ (f s) s.uniforms
        → Leaves w here v v no_ways a (λ p. with_answer (own p (σ p)) (λ u s1. own_go p s1)) σ (with_value (f s) (λ u s1. go s1)) s.uniforms
    join s σ top ends ok =
        let ok2 = next.go ok.s ok.after ok.stands ok.same top (λ p. with_next (w.last p) (a p) (own p (σ p)) (λ u s1. own_go p s1) (σ p) (ok.after p) tt (ok.alone p) (ends p)) in
        record {
          s = ok2.s;
          went = ok2.went;
          broke = ok2.broke;
          continued = ok2.continued;
          returned = ok2.returned;
          after = ok2.after;
          how = ok2.how;
          way = ok2.way;
          is = ap (λ z. with_value z (λ u s1. go s1)) ok.is ∙ ok2.is;
          alone = λ p. with_alone (a p) (own p (σ p)) (λ u s1. own_go p s1) (σ p) (ok.after p) (ok2.after p) tt (ok2.how p) (ok.alone p) (ok2.alone p);
          went_is = ok2.went_is;
          broke_is = ok2.broke_is;
          continued_is = ok2.continued_is;
          returned_is = ok2.returned_is;
          may = ok2.may;
          one_way = ok2.one_way;
          no_return = ok2.no_return;
          quiet = λ k i. ok2.quiet k i ∙ ok.quiet k i;
          own_quiet = λ p k i. ok2.own_quiet p k i ∙ ok.own_quiet p k i;
          same = λ p k i j. ok2.same p k i (wider k j);
          same_broke = λ i p k j l. no_broke p ok2.how (ok2.broke p) j (ok2.broke_is p) (ok2.may p);
          same_continued = λ i p k j l. no_continued p ok2.how (ok2.continued p) j (ok2.continued_is p) (ok2.may p);
          stands = ok2.stands;
        } where
          no_broke : {A : Type 0} (p : ℕ) (how : ℕ → How) (b : Bool) → b ≡ true → b ≡ (a p && is_broke (how p)) → (a p ≡ true → may_leave no_ways (how p) ≡ true) → A
          no_broke p how b e d m = find (how p) (a p) (sym d ∙ e) m where
            find : {A : Type 0} (h : How) (t : Bool) → (t && is_broke h) ≡ true → (t ≡ true → may_leave no_ways h ≡ true) → A
            find Broke true e m = absurd (true≢false (sym (m refl)))
            find Going true e m = absurd (true≢false (sym e))
            find Continued true e m = absurd (true≢false (sym e))
            find Returned true e m = absurd (true≢false (sym e))
            find h false e m = absurd (true≢false (sym e))

          no_continued : {A : Type 0} (p : ℕ) (how : ℕ → How) (b : Bool) → b ≡ true → b ≡ (a p && is_continued (how p)) → (a p ≡ true → may_leave no_ways (how p) ≡ true) → A
          no_continued p how b e d m = find (how p) (a p) (sym d ∙ e) m where
            find : {A : Type 0} (h : How) (t : Bool) → (t && is_continued h) ≡ true → (t ≡ true → may_leave no_ways h ≡ true) → A
            find Continued true e m = absurd (true≢false (sym (m refl)))
            find Going true e m = absurd (true≢false (sym e))
            find Broke true e m = absurd (true≢false (sym e))
            find Returned true e m = absurd (true≢false (sym e))
            find h false e m = absurd (true≢false (sym e))

  -- ---- branches of a uniform test: all take one

  pub uniform_sides : (v1 v2 : Scope) (x y : Ways) (first second : State → Res) (own own2 : ℕ → Alone → End) → AreSome w.gang a → ((k : ℕ) → v k ≡ true → v1 k ≡ true) → ((k : ℕ) → v k ≡ true → v2 k ≡ true)
      → StmtSim w here v v1 x a first own → StmtSim w here v v2 y a second own2 → (c : ℕ) (val : ℕ → ℕ) → Stand w.gang a Uniform (One c) val
      → StmtSim w here v v (ways_of x y) a (λ s. if_so (is_true c) first second s) (λ p s. choose (is_true (val p)) (own p) (own2 p) s)
  uniform_sides v1 v2 x y first second own own2 in_gang wider1 wider2 sim sim2 c val h = record { go = λ s σ st sa top ends. took s σ st sa top ends (is_true c) (λ p i. ap is_true (sym (one_is a c val p (h.at p) i))) } where
    on_member : (t : Bool) (T U : Type 0) → (t ≡ true → T → U) → IfIn t T → IfIn t U
    on_member true T U f x = f refl x
    on_member false T U f x = tt

    took : (s : State) (σ : ℕ → Alone) → Stands w s σ → Same v a s.uniforms σ → (here.top ≡ true → HasAll w a) → ((p : ℕ) → LeavesIf (w.last p) (a p) (choose (is_true (val p)) (own p) (own2 p) (σ p)))
        → (t : Bool) → ((p : ℕ) → a p ≡ true → is_true (val p) ≡ t) → Leaves w here v v (ways_of x y) a (λ p. choose (is_true (val p)) (own p) (own2 p) (σ p)) σ (if_so t first second s) s.uniforms
    took s σ st sa top ends true all =
        in_other_words w here v v1 x a wider1 (ways_of x y) (widens_left here.joint x y) (λ p. own p (σ p)) _ σ (first s) s.uniforms (λ p i. ap (λ b. choose b (own p) (own2 p) (σ p)) (all p i))
        (sim.go s σ st sa top (λ p. on_member (a p) _ _ (λ i e. subst (λ b. LeavesWithin (w.last p) (choose b (own p) (own2 p) (σ p))) (all p i) e) (ends p)))
    took s σ st sa top ends false all =
        in_other_words w here v v2 y a wider2 (ways_of x y) (widens_right here.joint x y) (λ p. own2 p (σ p)) _ σ (second s) s.uniforms (λ p i. ap (λ b. choose b (own p) (own2 p) (σ p)) (all p i))
        (sim2.go s σ st sa top (λ p. on_member (a p) _ _ (λ i e. subst (λ b. LeavesWithin (w.last p) (choose b (own p) (own2 p) (σ p))) (all p i) e) (ends p)))

  -- ---- a loop as a statement: it is left by going on or by a return

  pub loop_leaves : (vl : Scope) (closed : ℕ → Bool) (parts top : Bool) (own : ℕ → End) (σ : ℕ → Alone) (s : State) (res : Res) → ((k : ℕ) → v k ≡ true → vl k ≡ true) → ((k : ℕ) → here.closed k ≡ true → closed k ≡ true)
      → (parts ≡ true → (k : ℕ) → v k ≡ true → closed k ≡ true) → (top ≡ true → here.top ≡ true) → Same v a s.uniforms σ → LoopLeaves w closed vl parts here.joint top a nobody a own σ res s.uniforms → Leaves w here v v no_ways a own σ res s.uniforms
  loop_leaves vl closed parts top own σ s res wider closed_in shut top_in sa ok = record {
    s = ok.s;
    went = without a ok.back;
    broke = nobody;
    continued = nobody;
    returned = ok.back;
    after = ok.after;
    how = ok.how;
    way = way_for here.joint top;
    is = ok.is;
    alone = ok.alone;
    went_is = λ p. went_of (a p) (ok.how p) (ok.back p) (ok.over p) (ok.back_is p);
    broke_is = λ p. none_of is_broke (a p) (ok.how p) refl refl (ok.over p);
    continued_is = λ p. none_of is_continued (a p) (ok.how p) refl refl (ok.over p);
    returned_is = ok.back_is;
    may = λ p i. may_of (ok.how p) (ok.over p i);
    one_way = λ p i. way_of (either_is here.joint) (either_is top) p i (ok.how p) refl (ok.over p i);
    no_return = λ i d p j. ap is_returned (ok.no_return i (not_top d) p j);
    quiet = λ k i. ok.quiet k (closed_in k i);
    own_quiet = λ p k i. ok.own_quiet p k (closed_in k i);
    same = λ p k i j. known p k (and_left (a p) _ i) (going_of (a p) (ok.how p) (ok.back p) (ok.over p) (ok.back_is p) i) j (either_is parts);
    same_broke = λ i p k j l. absurd (true≢false (sym j));
    same_continued = λ i p k j l. absurd (true≢false (sym j));
    stands = ok.stands;
  } where
    way_for : Bool → Bool → How
    way_for true true = ok.way
    way_for true false = Going
    way_for false t = Going

    went_of : (t : Bool) (h : How) (b : Bool) → (t ≡ true → is_over h ≡ true) → b ≡ (false || (t && is_returned h)) → (t && not b) ≡ (t && is_going h)
    went_of false h b o e = refl
    went_of true Going b o e = ap not e
    went_of true Broke b o e = absurd (true≢false (sym (o refl)))
    went_of true Continued b o e = absurd (true≢false (sym (o refl)))
    went_of true Returned b o e = ap not e

    none_of : (f : How → Bool) (t : Bool) (h : How) → f Going ≡ false → f Returned ≡ false → (t ≡ true → is_over h ≡ true) → false ≡ (t && f h)
    none_of f false h g r o = refl
    none_of f true Going g r o = sym g
    none_of f true Broke g r o = absurd (true≢false (sym (o refl)))
    none_of f true Continued g r o = absurd (true≢false (sym (o refl)))
    none_of f true Returned g r o = sym r

    may_of : (h : How) → is_over h ≡ true → may_leave no_ways h ≡ true
    may_of Going o = refl
    may_of Broke o = absurd (true≢false (sym o))
    may_of Continued o = absurd (true≢false (sym o))
    may_of Returned o = refl

    going_of : (t : Bool) (h : How) (b : Bool) → (t ≡ true → is_over h ≡ true) → b ≡ (false || (t && is_returned h)) → (t && not b) ≡ true → h ≡ Going
    going_of false h b o e d = absurd (true≢false (sym d))
    going_of true Going b o e d = refl
    going_of true Broke b o e d = absurd (true≢false (sym (o refl)))
    going_of true Continued b o e d = absurd (true≢false (sym (o refl)))
    going_of true Returned b o e d = absurd (true≢false (sym (sym (ap not e) ∙ d)))

    not_top : here.top ≡ false → top ≡ false
    not_top d = go (either_is top) where
      go : (top ≡ true) ⊎ (top ≡ false) → top ≡ false
      go (inl i) = absurd (true≢false (sym (top_in i) ∙ d))
      go (inr i) = i

    known : (p k : ℕ) → a p ≡ true → ok.how p ≡ Going → v k ≡ true → (parts ≡ true) ⊎ (parts ≡ false) → (ok.after p).uniforms k ≡ ok.s.uniforms k
    known p k i h j (inl e) = ok.own_quiet p k (shut e k j) ∙ sa p k i j ∙ sym (ok.quiet k (shut e k j))
    known p k i h j (inr e) = ok.same e p k i h (wider k j)

    way_of : (here.joint ≡ true) ⊎ (here.joint ≡ false) → (top ≡ true) ⊎ (top ≡ false) → (p : ℕ) → a p ≡ true → (h : How) → ok.how p ≡ h → is_over h ≡ true → (ok.how p ≡ way_for here.joint top) ⊎ (may_part here.joint no_ways (ok.how p) ≡ true)
    way_of (inl j) (inl t) p i h e o = inl (ok.one_way t p i ∙ sym (ap (λ b. way_for b top) j ∙ ap (way_for true) t))
    way_of (inl j) (inr t) p i h e o = inl (ok.no_return j t p i ∙ sym (ap (λ b. way_for b top) j ∙ ap (way_for true) t))
    way_of (inr j) t p i Going e o = inl (e ∙ sym (ap (λ b. way_for b top) j))
    way_of (inr j) t p i Broke e o = absurd (true≢false (sym o))
    way_of (inr j) t p i Continued e o = absurd (true≢false (sym o))
    way_of (inr j) t p i Returned e o = inr (ap (may_part here.joint no_ways) e ∙ ap not j)

  -- ---- jumps: all leave that way

  jump_alone : (t : Bool) (s : Alone) (h : How) → LeavesAlone t (Does s h) s h s
  jump_alone true s h = refl
  jump_alone false s h = refl

  and_true : (t : Bool) → t ≡ (t && true)
  and_true true = refl
  and_true false = refl

  and_false : (t : Bool) → false ≡ (t && false)
  and_false true = refl
  and_false false = refl

  pub break_sim : StmtSim w here v v (record { breaks = true; continues = false; some_break = false; some_continue = false }) a (jumped Break a) (λ p s. Does s Broke)
  break_sim = record {
    go = λ s σ st sa top ends.
        record {
          s = s;
          went = nobody;
          broke = a;
          continued = nobody;
          returned = nobody;
          after = σ;
          how = λ p. Broke;
          way = Broke;
          is = refl;
          alone =
              λ p. jump_alone (a p) (σ p) Broke;
          went_is = λ p. and_false (a p);
          broke_is = λ p. and_true (a p);
          continued_is = λ p. and_false (a p);
          returned_is = λ p. and_false (a p);
          may = λ p i. refl;
          one_way = λ p i. inl refl;
          no_return = λ i d p j. refl;
          quiet = λ k i. refl;
          own_quiet = λ p k i. refl;
          same = λ p k i j. absurd (true≢false (sym i));
          same_broke = λ i. sa;
          same_continued = λ i p k j l. absurd
              (true≢false (sym j));
          stands = st;
        };
  }

  pub continue_sim : StmtSim w here v v (record { breaks = false; continues = true; some_break = false; some_continue = false }) a (jumped Continue a) (λ p s. Does s Continued)
  continue_sim = record {
    go = λ s σ st sa top ends.
        record {
          s = s;
          went = nobody;
          broke = nobody;
          continued = a;
          returned = nobody;
          after = σ;
          how = λ p. Continued;
          way = Continued;
          is = refl;
          alone = λ p. jump_alone (a p) (σ p) Continued;
          went_is = λ p. and_false (a p);
          broke_is = λ p. and_false (a p);
          continued_is = λ p.
              and_true (a p);
          returned_is = λ p. and_false (a p);
          may = λ p i. refl;
          one_way = λ p i. inl refl;
          no_return = λ i d p j. refl;
          quiet = λ k
              i. refl;
          own_quiet = λ p k i. refl;
          same = λ p k i j. absurd (true≢false (sym i));
          same_broke = λ i p k j l. absurd (true≢false (sym j));
          same_continued = λ i. sa;
          stands = st;
        };
  }
