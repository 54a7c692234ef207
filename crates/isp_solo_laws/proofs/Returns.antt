-- Statements that all leave one way after a value: by a return, and by going on.
use Rattle.std.proofs.Common.{◌≡◌, ℕ, inl, Bool, true, false, refl, sym, ap, ◌∙◌, true≢false}
use Rattle.std.specs.Prelude.{Option, Some, None, ◌&&◌, if◌then◌else◌}
use Rattle.isp_base.specs.Sets.{Mask, nobody}
use Rattle.isp_base.specs.Maps.{Lanes, on, over, or_old}
use Rattle.isp_base.specs.declared.types.Rate.{Rate}
use Rattle.isp_base.specs.declared.types.Rate.TheVariants.{Uniform, Varying}
use Rattle.isp_base.specs.declared.types.Ty.{Ty}
use Rattle.isp_typed.specs.Scoped.{Scope}
use Rattle.isp_meaning.specs.State.{State}
use Rattle.isp_meaning.specs.Payloads.{Payload, One, Each, sole, spread}
use Rattle.isp_meaning.specs.Outcomes.{Val, Went, Done}
use Rattle.isp_meaning.specs.Statements.{all_go, answered, answered_at}
use Rattle.isp_solo_meaning.specs.Alone.{Alone}
use Rattle.isp_solo_meaning.specs.Answers.{Answer, Has, Bad, Long, Going, Returned, Does}
use Rattle.isp_solo_meaning.specs.Does.{goes_on}
use Rattle.isp_solo_laws.specs.Stands.{World, AreSome, IfIn, EndsWithin, ResultOf, ResultIs}
use Rattle.isp_solo_laws.specs.Values.{AnswersAlone, Stand, IsOne}
use Rattle.isp_solo_laws.specs.Statements.{no_ways, Here, HasAll, LeavesWithin, Acts, ActSim, LeavesAlone, Leaves, StmtSim}
use Rattle.isp_solo_laws.proofs.Lanes.{one_is}

and_true : (t : Bool) → t ≡ (t && true)
and_true true = refl
and_true false = refl

and_false : (t : Bool) → false ≡ (t && false)
and_false true = refl
and_false false = refl

-- ---- all go on

goes_first : (last : Alone) (t : Bool) (r : Answer Done) → IfIn t (LeavesWithin last (goes_on r)) → IfIn t (EndsWithin last r)
goes_first last false r h = tt
goes_first last true (Has x s) h = h
goes_first last true (Bad k s) h = absurd h
goes_first last true (Long s) h = absurd h

goes_alone : (t : Bool) (r : Answer Done) (s0 s1 : Alone) → AnswersAlone t r s0 tt s1 → LeavesAlone t (goes_on r) s0 Going s1
goes_alone true r s0 s1 e = ap goes_on e
goes_alone false r s0 s1 e = e

module _ (w : World) (here : Here) (v : Scope) (a : Mask) where
  pub goes_sim : (v1 : Scope) (f : State → Val Done) (own : ℕ → Alone → Answer Done) → ActSim w here.closed v v1 a f own → StmtSim w here v v1 no_ways a (λ s. all_go a (f s)) (λ p s. goes_on (own p s))
  goes_sim v1 f own x = record { go = λ s σ st sa top ends. went s σ (x.go s σ st sa (λ p. goes_first (w.last p) (a p) (own p (σ p)) (ends p))) } where
    went : (s : State) (σ : ℕ → Alone) → Acts w here.closed v1 a (λ p. own p (σ p)) σ (f s) s.uniforms → Leaves w here v v1 no_ways a (λ p. goes_on (own p (σ p))) σ (all_go a (f s)) s.uniforms
    went s σ ok = record {
      s = ok.s;
      went = a;
      broke = nobody;
      continued = nobody;
      returned = nobody;
      after = ok.after;
      how = λ p. Going;
      way = Going;
      is = ap (all_go a) ok.is;
      alone = λ p. goes_alone (a p) (own p (σ p)) (σ p) (ok.after p) (ok.alone p);
      went_is = λ p. and_true (a p);
      broke_is = λ p. and_false (a p);
      continued_is = λ p. and_false (a p);
      returned_is = λ p. and_false (a p);
      may = λ p i. refl;
      one_way = λ p i. inl refl;
      no_return = λ i d p j. refl;
      quiet = ok.quiet;
      own_quiet = ok.own_quiet;
      same = ok.same;
      same_broke = λ i p k j l. absurd (true≢false (sym j));
      same_continued = λ i p k j l. absurd (true≢false (sym j));
      stands = ok.stands;
    }

-- ---- all return

-- what a result is once it is set
abbrev new_result_at : Rate → Payload → ℕ → ℕ
new_result_at Uniform m old = sole m
new_result_at Varying m old = old

abbrev new_results_at : Rate → Mask → Payload → Lanes → Lanes
new_results_at Uniform a m old = old
new_results_at Varying a m old = over (spread a m) old

abbrev new_result : Option Ty → Payload → ℕ → ℕ
new_result None m old = old
new_result (Some t) m old = new_result_at t.rate m old

abbrev new_results : Option Ty → Mask → Payload → Lanes → Lanes
new_results None a m old = old
new_results (Some t) a m old = new_results_at t.rate a m old

set_at : (r : Rate) (a : Mask) (m : Payload) (s : State) → answered_at r a m s ≡ record s { result = new_result_at r m s.result; results = new_results_at r a m s.results }
set_at Uniform a m s = refl
set_at Varying a m s = refl

set_is : (o : Option Ty) (a : Mask) (m : Payload) (s : State) → answered o a m s ≡ record s { result = new_result o m s.result; results = new_results o a m s.results }
set_is None a m s = refl
set_is (Some t) a m s = set_at t.rate a m s

abbrev returned_if : Bool → ℕ → Alone → Alone
returned_if t x s = record s { result = if t then x else s.result }

returned_alone : (t : Bool) (x : ℕ) (s : Alone) → LeavesAlone t (Does (record s { result = x }) Returned) s Returned (returned_if t x s)
returned_alone true x s = refl
returned_alone false x s = refl

module _ (w : World) (here : Here) (v : Scope) (a : Mask) (some : AreSome w.gang a) where
  old_or_new : (t : Bool) (x o q : ℕ) → o ≡ q → or_old (if t then Some x else None) o ≡ (if t then x else q)
  old_or_new true x o q e = refl
  old_or_new false x o q e = e

  sole_is : (m : Payload) (y : ℕ → ℕ) (p : ℕ) (q : ℕ) → spread a m p ≡ on a y p → IsOne m → a p ≡ true → sole m ≡ (if a p then y p else q)
  sole_is (One c) y p q h i j = one_is a c y p h j ∙ ap (λ t. if t then y p else q) (sym j)
  sole_is (Each x) y p q h i j = absurd i

  result_at : (r q : Rate) (m : Payload) (y : ℕ → ℕ) (result : ℕ) (results own : Lanes) → Stand w.gang a q m y → (r ≡ Uniform → q ≡ Uniform) → (r ≡ Uniform → HasAll w a) → ResultOf r w.callers result results own
      → ResultOf r w.callers (new_result_at r m result) (new_results_at r a m results) (λ p. if a p then y p else own p)
  result_at Uniform q m y result results own h u all was = λ p c. sole_is m y p (own p) (h.at p) (h.one some.some (u refl)) (all refl p c)
  result_at Varying q m y result results own h u all was = λ p. ap (λ o. or_old o (results p)) (h.at p) ∙ old_or_new (a p) (y p) (results p) (own p) (was p)

  result_is : (o : Option Ty) (q : Rate) (m : Payload) (y : ℕ → ℕ) (result : ℕ) (results own : Lanes) → Stand w.gang a q m y → ((t : Ty) → o ≡ Some t → t.rate ≡ Uniform → q ≡ Uniform) → ((t : Ty) → o ≡ Some t → t.rate ≡ Uniform → HasAll w a)
      → ResultIs o w.callers result results own → ResultIs o w.callers (new_result o m result) (new_results o a m results) (λ p. if a p then y p else own p)
  result_is None q m y result results own h u all was = tt
  result_is (Some t) q m y result results own h u all was = result_at t.rate q m y result results own h (u t refl) (all t refl) was

  -- a uniform result is set where all that made the call are, and so is every result of a function that gives one value for the gang
  pub return_sim : (q : Rate) (m : Payload) (y : ℕ → ℕ) → Stand w.gang a q m y → ((t : Ty) → w.frame.answer ≡ Some t → t.rate ≡ Uniform → q ≡ Uniform)
      → ((t : Ty) → w.frame.answer ≡ Some t → t.rate ≡ Uniform → here.top ≡ true) → (here.joint ≡ true → here.top ≡ true)
      → StmtSim w here v v no_ways a (λ s. Went (answered w.frame.answer a m s) nobody nobody nobody a) (λ p s. Does (record s { result = y p }) Returned)
  return_sim q m y h u uniform joint = record {
    go = λ s σ st sa top ends.
        record {
          s = record s { result = new_result w.frame.answer m s.result; results = new_results w.frame.answer a m s.results };
          went = nobody;
          broke = nobody;
          continued = nobody;
          returned = a;
          after = λ p. returned_if (a p) (y p) (σ p);
          how = λ p. Returned;
          way = Returned;
          is = ap (λ z. Went z nobody nobody nobody a) (set_is w.frame.answer a m s);
          alone = λ p. returned_alone (a p) (y p) (σ p);
          went_is = λ p. and_false (a p);
          broke_is = λ p. and_false (a p);
          continued_is = λ p. and_false (a p);
          returned_is = λ p. and_true (a p);
          may = λ p i. refl;
          one_way = λ p i. inl refl;
          no_return = λ i d p j. absurd (true≢false (sym (joint i) ∙ d));
          quiet = λ k i. refl;
          own_quiet = λ p k i. refl;
          same = λ p k i j. absurd (true≢false (sym i));
          same_broke = λ i p k j l. absurd (true≢false (sym j));
          same_continued = λ i p k j l. absurd (true≢false (sym j));
          stands = record {
            varying_is = st.varying_is;
            own_is = st.own_is;
            result_is = result_is w.frame.answer q m y s.result s.results (λ p. (σ p).result) h u (λ t e i. top (uniform t e i)) st.result_is;
            stored = st.stored;
            unstored = st.unstored;
            within = λ p lt. record { read = (st.within p lt).read; wrote = (st.within p lt).wrote };
            silent = st.silent;
          };
        };
  }

  -- without a value
  pub leave_sim : (here.joint ≡ true → here.top ≡ true) → StmtSim w here v v no_ways a (λ s. Went s nobody nobody nobody a) (λ p s. Does s Returned)
  leave_sim joint = record {
    go = λ s σ st sa top ends.
        record {
          s = s;
          went = nobody;
          broke = nobody;
          continued = nobody;
          returned = a;
          after = σ;
          how = λ p. Returned;
          way = Returned;
          is = refl;
          alone = λ p. left_alone (a p) (σ p);
          went_is = λ p. and_false (a p);
          broke_is = λ p. and_false (a p);
          continued_is = λ p. and_false (a p);
          returned_is = λ p. and_true (a p);
          may = λ p i. refl;
          one_way = λ p i. inl refl;
          no_return = λ i d p j. absurd (true≢false (sym (joint i) ∙ d));
          quiet = λ k i. refl;
          own_quiet = λ p k i. refl;
          same = λ p k i j. absurd (true≢false (sym i));
          same_broke = λ i p k j l. absurd (true≢false (sym j));
          same_continued = λ i p k j l. absurd (true≢false (sym j));
          stands = st;
        };
  } where
    left_alone : (t : Bool) (s : Alone) → LeavesAlone t (Does s Returned) s Returned s
    left_alone true s = refl
    left_alone false s = refl
