-- The runs of a `foreach`: the gang makes each of them over its members, an instance those in which it is on.
use Rattle.std.proofs.Common.{◌≡◌, ℕ, ◌<◌, Bool, true, false, refl, sym, ap, ◌∙◌, subst, true≢false}
use Rattle.std.specs.Prelude.{List, [], ◌∷◌, map, ℤ}
use Rattle.isp_base.specs.Sets.{Mask}
use Rattle.isp_base.specs.Maps.{on}
use Rattle.isp_base.specs.Values.{wrap}
use Rattle.isp_base.specs.declared.types.Elem.TheVariants.{I32}
use Rattle.isp_base.specs.declared.types.Rate.TheVariants.{Varying}
use Rattle.isp_typed.specs.Scoped.{Scope}
use Rattle.isp_meaning.specs.State.{State}
use Rattle.isp_meaning.specs.Payloads.{Each}
use Rattle.isp_meaning.specs.Outcomes.{Val, Gives, Fails, Stops, Res, Done, go_on}
use Rattle.isp_meaning.specs.Rounds.{Run, rounds, set_indices, round_of_run}
use Rattle.isp_solo_meaning.specs.Alone.{Alone}
use Rattle.isp_solo_meaning.specs.Answers.{Answer, Has, Bad, Long, How, End, Does, Dies, Lasts, choose, then_always}
use Rattle.isp_solo_meaning.specs.Loops.{at_indices, rounds as own_rounds}
use Rattle.isp_solo_laws.specs.Stands.{World, Within, Same, AreSome, IfIn, Up, left_at}
use Rattle.isp_solo_laws.specs.Values.{AnswersAlone}
use Rattle.isp_solo_laws.specs.Statements.{Ways, no_ways, Here, HasAll, LeavesWithin, Acts, ActSim, LeavesAlone, Leaves, StmtSim}
use Rattle.isp_solo_laws.proofs.Grow.{within_then}
use Rattle.isp_solo_laws.proofs.Grows.{indices_more}
use Rattle.isp_solo_laws.proofs.Held.{not_uniform}
use Rattle.isp_solo_laws.proofs.Loops.{LeavesIf, leaves_within}
use Rattle.isp_solo_laws.proofs.Branches.{stop_sim}
use Rattle.isp_solo_laws.proofs.Writes.{written_sim}
use Rattle.isp_solo_laws.proofs.Acts.{act_done, act_then}

abbrev state_of : State → Val Done → State
state_of s (Gives x t) = t
state_of s (Fails x t) = s
state_of s (Stops t) = s

abbrev alone_of : Alone → Answer Done → Alone
alone_of s (Has x t) = t
alone_of s (Bad x t) = s
alone_of s (Long t) = s

-- ---- one instance: t tells that it is on in this run

module _ (last : Alone) (own : Alone → End) (up : Up left_at own) (set : Alone → Alone) (rest : Alone → End) (rest_up : Up left_at rest) where
  abbrev one : Bool → Alone → End
  one t s = choose t (λ s1. then_always (own (set s1)) rest) rest s

  always_first : (r : End) → LeavesWithin last (then_always r rest) → LeavesWithin last r
  always_first (Does s how) h = within_then s (left_at (rest s)) last (rest_up.more s) (leaves_within last (rest s) h)
  always_first (Dies t s) h = h
  always_first (Lasts s) h = h

  body_ends : (t u : Bool) (s s1 : Alone) → (t ≡ true → u ≡ true) → AnswersAlone {A = Done} t (Has tt (set s)) s tt s1 → LeavesIf last u (one t s) → LeavesIf last t (own s1)
  body_ends false u s s1 sub e h = tt
  body_ends true true s s1 sub e h = subst (λ z. LeavesWithin last (own z)) (ap (alone_of s) e) (always_first (own (set s)) h)
  body_ends true false s s1 sub e h = absurd (true≢false (sym (sub refl)))

  set_ends : (t u : Bool) (s : Alone) → (t ≡ true → u ≡ true) → LeavesIf last u (one t s) → IfIn t (Within last (set s))
  set_ends false u s sub h = tt
  set_ends true true s sub h = within_then (set s) (left_at (own (set s))) last (up.more (set s)) (leaves_within last (own (set s)) (always_first (own (set s)) h))
  set_ends true false s sub h = absurd (true≢false (sym (sub refl)))

  -- what follows begins where the body was left, or where it stood
  one_is : (t : Bool) (s s1 s2 : Alone) (how : How) → AnswersAlone {A = Done} t (Has tt (set s)) s tt s1 → LeavesAlone t (own s1) s1 how s2 → one t s ≡ rest s2
  one_is true s s1 s2 how e d = ap (λ z. then_always (own z) rest) (ap (alone_of s) e) ∙ ap (λ z. then_always z rest) d
  one_is false s s1 s2 how e d = ap rest (sym e ∙ sym d)

  -- one who is not on stays
  off_is : (t : Bool) (s s1 s2 : Alone) (how : How) → t ≡ false → AnswersAlone {A = Done} t (Has tt (set s)) s tt s1 → LeavesAlone t (own s1) s1 how s2 → s2 ≡ s
  off_is true s s1 s2 how f e d = absurd (true≢false f)
  off_is false s s1 s2 how f e d = d ∙ e

  rest_ends : (t u : Bool) (s s1 s2 : Alone) (how : How) → AnswersAlone {A = Done} t (Has tt (set s)) s tt s1 → LeavesAlone t (own s1) s1 how s2 → LeavesIf last u (one t s) → LeavesIf last u (rest s2)
  rest_ends t false s s1 s2 how e d h = tt
  rest_ends t true s s1 s2 how e d h = subst (LeavesWithin last) (one_is t s s1 s2 how e d) h

  one_alone : (t u : Bool) (s s1 s2 s3 : Alone) (how how2 : How) → (t ≡ true → u ≡ true) → AnswersAlone {A = Done} t (Has tt (set s)) s tt s1 → LeavesAlone t (own s1) s1 how s2 → LeavesAlone u (rest s2) s2 how2 s3 → LeavesAlone u (one t s) s how2 s3
  one_alone t true s s1 s2 s3 how how2 sub e d f = one_is t s s1 s2 how e d ∙ f
  one_alone true false s s1 s2 s3 how how2 sub e d f = absurd (true≢false (sym (sub refl)))
  one_alone false false s s1 s2 s3 how how2 sub e d f = f ∙ d ∙ e

-- ---- the gang

module _ (w : World) (closed : ℕ → Bool) (v : Scope) where
  -- the indices are varying
  set_sim : (b : Mask) → AreSome w.gang b → (is : List (ℕ × (ℕ → ℤ))) → ActSim w closed v v b (λ s. Gives tt (set_indices b is s)) (λ p s. Has tt (at_indices p is s))
  set_sim b some [] = act_done w closed v v b (λ k i. i)
  set_sim b some (x ∷ is) =
      act_then w closed v v b v _ _ _ _
      (written_sim w closed v v b some Varying x.0 (Each (on b (λ p. wrap I32 (x.1 p)))) (λ p. wrap I32 (x.1 p)) (record { at = λ p. refl; one = λ i e. absurd (not_uniform e) }) (λ e. absurd (not_uniform e)) (λ n i d. i) (λ e n i. i))
      (λ p. record { more = λ s. indices_more p is s }) (set_sim b some is)

-- each run has members, all of them instances of the gang
abbrev pub AllSome : ℕ → List Run → Type 0
AllSome gang [] = Unit {0}
AllSome gang (r ∷ rs) = AreSome gang r.members × AllSome gang rs

-- All of the gang are there, and nobody assigns in the body what is known outside. The body is left in any way.
module _ (w : World) (here inner : Here) (v vb v1 : Scope) (x : Ways) (a : Mask) (full : (p : ℕ) → p < w.gang → a p ≡ true)
    (shut : (k : ℕ) → v k ≡ true → inner.closed k ≡ true) (closed_in : (k : ℕ) → here.closed k ≡ true → inner.closed k ≡ true)
    (no_top : inner.top ≡ false)
    (narrow : (k : ℕ) → vb k ≡ true → v k ≡ true) (body : Mask → State → Res) (own : ℕ → Alone → End) (up : (p : ℕ) → Up left_at (own p))
    (runs_up : (p : ℕ) (rs : List Run) → Up left_at (own_rounds (own p) p rs))
    (sim : (b : Mask) → AreSome w.gang b → StmtSim w inner vb v1 x b (body b) own) where
  pub rounds_sim : (rs : List Run) → AllSome w.gang rs → StmtSim w here v v no_ways a (rounds body a (map round_of_run rs)) (λ p. own_rounds (own p) p rs)
  rounds_sim [] q = stop_sim w here v a
  rounds_sim (r ∷ rs) q = turn (rounds_sim rs q.1) where
    later : (p : ℕ) → Up left_at (own_rounds (own p) p rs)
    later p = runs_up p rs

    on : (p : ℕ) → r.members p ≡ true → a p ≡ true
    on p i = full p (q.0.inside p i)

    turn : StmtSim w here v v no_ways a (rounds body a (map round_of_run rs)) (λ p. own_rounds (own p) p rs) → StmtSim w here v v no_ways a (rounds body a (map round_of_run (r ∷ rs))) (λ p. own_rounds (own p) p (r ∷ rs))
    turn next = record {
      go = λ s σ st sa top ends.
          first s σ sa top ends ((set_sim w inner.closed v r.members q.0 r.indices).go s σ st (λ p k i j. sa p k (on p i) j)
          (λ p. set_ends (w.last p) (own p) (up p) (at_indices p r.indices) (own_rounds (own p) p rs) (later p) (r.members p) (a p) (σ p) (on p)
          (ends p)));
    } where
      second : (s : State) (σ : ℕ → Alone) → Same v a s.uniforms σ → (here.top ≡ true → HasAll w a)
          → ((p : ℕ) → LeavesIf (w.last p) (a p) (own_rounds (own p) p (r ∷ rs) (σ p)))
          → (set : Acts w inner.closed v r.members (λ p. Has tt (at_indices p r.indices (σ p))) σ (Gives tt (set_indices r.members r.indices s))
          s.uniforms)
          → Leaves w inner vb v1 x r.members (λ p. own p (set.after p)) set.after (body r.members set.s) set.s.uniforms
          → Leaves w here v v no_ways a (λ p. own_rounds (own p) p (r ∷ rs) (σ p)) σ (rounds body a (map round_of_run (r ∷ rs)) s) s.uniforms
      second s σ sa top ends set bod =
          let ok = next.go bod.s bod.after bod.stands
          (λ p k i j. bod.own_quiet p k (shut k j) ∙ set.own_quiet p k (shut k j) ∙ sa p k i j ∙ sym (set.quiet k (shut k j)) ∙ sym (bod.quiet k (shut k j))) top
          (λ p. rest_ends (w.last p) (own p) (up p) (at_indices p r.indices) (own_rounds (own p) p rs) (later p) (r.members p) (a p) (σ p) (set.after p) (bod.after p) (bod.how p) (set.alone p) (bod.alone p) (ends p)) in
          record {
            s = ok.s;
            went = ok.went;
            broke = ok.broke;
            continued = ok.continued;
            returned = ok.returned;
            after = ok.after;
            how = ok.how;
            way = ok.way;
            is = ap (λ z. go_on (body r.members z) (λ s1 g b c d. rounds body a (map round_of_run rs) s1)) (ap (state_of s) set.is) ∙ ap (λ z. go_on z (λ s1 g b c d. rounds body a (map round_of_run rs) s1)) bod.is ∙ ok.is;
            alone = λ p. one_alone (w.last p) (own p) (up p) (at_indices p r.indices) (own_rounds (own p) p rs) (later p) (r.members p) (a p) (σ p)
                (set.after p) (bod.after p) (ok.after p) (bod.how p) (ok.how p) (on p) (set.alone p) (bod.alone p) (ok.alone p);
            went_is = ok.went_is;
            broke_is = ok.broke_is;
            continued_is = ok.continued_is;
            returned_is = ok.returned_is;
            may = ok.may;
            one_way = ok.one_way;
            no_return = ok.no_return;
            quiet = λ k i. ok.quiet k i ∙ bod.quiet k (closed_in k i) ∙ set.quiet k (closed_in k i);
            own_quiet = λ p k i. ok.own_quiet p k i ∙ bod.own_quiet p k (closed_in k i) ∙ set.own_quiet p k (closed_in k i);
            same = ok.same;
            same_broke = ok.same_broke;
            same_continued = ok.same_continued;
            stands = ok.stands;
          }

      first : (s : State) (σ : ℕ → Alone) → Same v a s.uniforms σ → (here.top ≡ true → HasAll w a)
          → ((p : ℕ) → LeavesIf (w.last p) (a p) (own_rounds (own p) p (r ∷ rs) (σ p)))
          → Acts w inner.closed v r.members (λ p. Has tt (at_indices p r.indices (σ p))) σ (Gives tt (set_indices r.members r.indices s)) s.uniforms
          → Leaves w here v v no_ways a (λ p. own_rounds (own p) p (r ∷ rs) (σ p)) σ (rounds body a (map round_of_run (r ∷ rs)) s) s.uniforms
      first s σ sa top ends set =
          second s σ sa top ends set ((sim r.members q.0).go set.s set.after set.stands (λ p k i j. set.same p k i (narrow k j)) (λ e. absurd (true≢false (sym e ∙ no_top)))
          (λ p. body_ends (w.last p) (own p) (up p) (at_indices p r.indices) (own_rounds (own p) p rs) (later p) (r.members p) (a p) (σ p) (set.after p) (on p) (set.alone p) (ends p)))
