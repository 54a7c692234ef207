-- The run of an independent entry leaves what its instances leave one by one.
use Rattle.std.proofs.Common.{◌≡◌, ℕ, zero, suc, ◌+◌, ◌<◌, ◌⊎◌, inl, inr, ⊎_elim, Bool, true, false, refl, sym, ap, ◌∙◌, subst, arith, true≢false}
use Rattle.std.specs.Prelude.{List, [], ◌∷◌, length, take, Option, Some, None, Contains, ◌&&◌, not, option_map, is_some, IsSome, slice_get}
use Rattle.std.specs.List.{All}
use Rattle.std.proofs.lemmas.Bool.{cases_eq}
use Rattle.std.proofs.lemmas.Option.{get_or_from_slice_get, slice_get_within}
use Rattle.isp_base.specs.Arguments.{rows, rows_now, tabulate}
use Rattle.isp_base.specs.Binding.{is_for, has_signature}
use Rattle.isp_base.specs.Maps.{Lanes, on}
use Rattle.isp_base.specs.Outcomes.{Ends}
use Rattle.isp_base.specs.Rows.{Row}
use Rattle.isp_base.specs.Sets.{Mask, any, everyone}
use Rattle.isp_base.specs.Types.{gang_width}
use Rattle.isp_base.specs.declared.signature.Argument.{Argument}
use Rattle.isp_base.specs.declared.signature.Argument.TheVariants.{Value as AValue, Array as AnArray}
use Rattle.isp_base.specs.declared.signature.Parameter.{Parameter}
use Rattle.isp_base.specs.declared.types.Rate.{Rate}
use Rattle.isp_base.specs.declared.types.Rate.TheVariants.{Uniform, Varying}
use Rattle.isp_base.specs.declared.types.Span.{Span}
use Rattle.isp_base.specs.declared.types.Ty.{Ty}
use Rattle.isp_lex.specs.declared.fault.Fault.{Fault}
use Rattle.isp_typed.specs.declared.variable.Holds.{Holds}
use Rattle.isp_typed.specs.declared.variable.Holds.TheVariants as holds
use Rattle.isp_typed.specs.declared.variable.Variable.{Variable}
use Rattle.isp_typed.specs.Fine.{IsParam, AreParams, FineFunction}
use Rattle.isp_typed.specs.Scoped.{ScopedFunction}
use Rattle.isp_typed.specs.Typed.{TFunction, Program}
use Rattle.isp_rates.specs.Breaches.{OfAny, OfEach}
use Rattle.isp_rates.specs.Rates.{goes_to}
use Rattle.isp_rates.specs.Program.{ResultBreach, FunctionBreach}
use Rattle.isp_rates.specs.Accepted.{IsAccepted}
use Rattle.isp_independence.specs.Control.{start}
use Rattle.isp_independence.specs.Independent.{leaves_early_block, IsCalled, IsIndependent}
use Rattle.isp_independence.specs.Reaches.{block_calls, Reaches, itself, by_call}
use Rattle.isp_meaning.specs.Payloads.{Payload, One, Each, sole, spread}
use Rattle.isp_meaning.specs.Expressions.{Values, Store}
use Rattle.isp_meaning.specs.Runs.{handed, first_frame, first_state, no_place, meaning, gives_of, answer_as, outcome_of, run_of}
use Rattle.isp_solo_meaning.specs.Answers.{Answer, Has, Bad, Long, reached}
use Rattle.isp_solo_meaning.specs.Runs.{bound, fresh, solo_run, IsEnded, value_of}
use Rattle.isp_solo_meaning.specs.Touched.{AreApart}
use Rattle.isp_solo_meaning.specs.OneByOne.{one_by_one, IsOrder}
use Rattle.isp_solo_meaning.proofs.Orders.{any_order}
use Rattle.isp_solo_laws.specs.Stands.{World, TouchNothing, EndsWithin, Stands, AreSome, IfIn}
use Rattle.isp_solo_laws.specs.Values.{AnswersAlone, Agrees, IsOne, AllPassedAt, Suits, AllSuit, AnswerStands}
use Rattle.isp_solo_laws.specs.Correct.{SoloRunsAgree}
use Rattle.isp_solo_laws.proofs.Grow.{stays}
use Rattle.isp_solo_laws.proofs.Lanes.{and_left, not_true, none_not, one_is}
use Rattle.isp_solo_laws.proofs.Full.{any_of}
use Rattle.isp_solo_laws.proofs.Scopes.{lt_of, of_lt}
use Rattle.isp_solo_laws.proofs.Calls.{FairBody, inner, level_agrees, calls_agree}

-- ---- what an accepted program promises of each function

abbrev some_or : {A : Type 0} → A → Option A → A
some_or y None = y
some_or y (Some x) = x

breach_of : {A : Type 0} (B : A → Fault → Type 0) (xs : List A) (k : ℕ) (x : A) → slice_get xs k ≡ Some x → (f : Fault) → B x f → OfEach B xs f
breach_of B [] k x e f b = absurd (cc)
breach_of B (y ∷ ys) zero x e f b = inl (subst (λ z. B z f) (sym (ap (some_or y) e)) b)
breach_of B (y ∷ ys) (suc k) x e f b = inr (breach_of B ys k x e f b)

of_each : {A : Type 0} (P : A → Type 0) (xs : List A) (k : ℕ) (x : A) → All P xs → slice_get xs k ≡ Some x → P x
of_each P xs k x all e = subst P (get_or_from_slice_get xs k x x e) (all k x (slice_get_within xs k x e))

-- some may leave the entry before others
abbrev early_in : TFunction → Bool
early_in g = leaves_early_block (start false g) g.body

module _ (program : Program) (accepted : IsAccepted program) (entry : ℕ) (independent : IsIndependent program entry) where
  callees : (f : ℕ) (g : TFunction) → slice_get program.functions f ≡ Some g → Reaches program.functions entry f → (k : ℕ) → Contains (block_calls g.body) k → IsCalled program.functions entry k
  callees f g found reaches k c = record { caller = f; reached = reaches; calls = record { by = (g, found, c) } }

  reach_it : (f : ℕ) → IsCalled program.functions entry f → Reaches program.functions entry f
  reach_it f c = by_call c.caller f c.reached c.calls

  pub called_fair : (f : ℕ) (g : TFunction) → slice_get program.functions f ≡ Some g → IsCalled program.functions entry f → FairBody program entry true g
  called_fair f g found c = record {
    fine = (of_each (FineFunction program.functions) program.functions f g accepted.fine.each found).body;
    clean = λ z b. accepted.sound z (breach_of (FunctionBreach program.functions) program.functions f g found z (inr b));
    alone = λ d b. independent d (inr (f, g, c, found, b));
    scoped = of_each ScopedFunction program.functions f g accepted.scoped.each found;
    called = callees f g found (reach_it f c);
    early = λ e. absurd (true≢false e);
  }

  entry_fair : (g : TFunction) → slice_get program.functions entry ≡ Some g → FairBody program entry (early_in g) g
  entry_fair g found = record {
    fine = (of_each (FineFunction program.functions) program.functions entry g accepted.fine.each found).body;
    clean = λ z b. accepted.sound z (breach_of (FunctionBreach program.functions) program.functions entry g found z (inr b));
    alone = λ d b. independent d (inl (g, found, b));
    scoped = of_each ScopedFunction program.functions entry g accepted.scoped.each found;
    called = callees entry g found itself;
    early = λ e. ap (λ t. leaves_early_block (start t g) g.body) e ∙ e;
  }

-- ---- what the run begins with

and_right : (x y : Bool) → (x && y) ≡ true → y ≡ true
and_right true y e = e
and_right false y e = absurd (true≢false (sym e))

-- an array is one of those that are bound
handed_suits : (opened n : ℕ) (vs : List Variable) (ps : List Parameter) (xs : List Argument) (b : ℕ) → AreParams ps (take n vs) → has_signature ps xs ≡ true → b + length (rows xs) ≡ opened → AllSuit opened (take n vs) (handed b xs)
handed_suits opened n vs [] (x ∷ xs) b a e l = absurd (true≢false (sym e))
handed_suits opened n vs (p ∷ ps) [] b a e l = absurd (true≢false (sym e))
handed_suits opened zero [] [] [] b a e l = tt
handed_suits opened (suc n) [] [] [] b a e l = tt
handed_suits opened zero (v ∷ vs) [] [] b a e l = tt
handed_suits opened (suc n) (v ∷ vs) [] [] b a e l = absurd a
handed_suits opened zero [] (p ∷ ps) (x ∷ xs) b a e l = absurd a
handed_suits opened (suc n) [] (p ∷ ps) (x ∷ xs) b a e l = absurd a
handed_suits opened zero (v ∷ vs) (p ∷ ps) (x ∷ xs) b a e l = absurd a
handed_suits opened (suc n) (v ∷ vs) (p ∷ ps) (AValue y ∷ xs) b a e l = (value v.holds a.0 _, handed_suits opened n vs ps xs b a.1 (and_right (is_for p (AValue y)) (has_signature ps xs) e) l) where
  no_array : (s : Bool) → not s ≡ true → s ≡ true → ⊥
  no_array true e d = true≢false (sym e)
  no_array false e d = true≢false (sym d)

  is_value : not p.is_array ≡ true
  is_value = and_left (not p.is_array) _ (and_left (is_for p (AValue y)) (has_signature ps xs) e)

  value : (o : Holds) → IsParam p o → (z : ℕ) → Suits opened o (Values (One z))
  value (holds.Value t) i z = λ u. tt
  value (holds.Given u) i z = absurd (no_array p.is_array is_value i.0)
  value (holds.Local t m) i z = absurd i
handed_suits opened (suc n) (v ∷ vs) (p ∷ ps) (AnArray r ∷ xs) b a e l = (array v.holds a.0, handed_suits opened n vs ps xs (suc b) a.1 (and_right (is_for p (AnArray r)) (has_signature ps xs) e) (omega (arith, l))) where
  is_array : p.is_array ≡ true
  is_array = and_left p.is_array _ (and_left (is_for p (AnArray r)) (has_signature ps xs) e)

  array : (o : Holds) → IsParam p o → Suits opened o (Store b)
  array (holds.Value t) i = absurd (true≢false (sym is_array ∙ i.0))
  array (holds.Given u) i = omega (arith, l)
  array (holds.Local t m) i = absurd i

handed_same : (a : Mask) (p b : ℕ) (xs : List Argument) → AllPassedAt a p (handed b xs) (handed b xs)
handed_same a p b [] = tt
handed_same a p b (AValue y ∷ xs) = (refl, handed_same a p b xs)
handed_same a p b (AnArray r ∷ xs) = (refl, handed_same a p (suc b) xs)

-- ---- what the instances touch

touch_nothing : (gang : ℕ) (run : ℕ → Answer ℕ) → AreApart gang run → TouchNothing gang (λ p. reached (run p))
touch_nothing gang run apart = record {
  unread = λ p q b e lp lq two h. not_true ((reached (run q)).read b e) (λ r. absurd (apart b e (record { writer = p; other = q; writer_is = lp; other_is = lq; two = two; writes = h; touches = inl r })));
  unwritten = λ p q b e lp lq two h. none ((reached (run q)).wrote b e) (λ r. apart b e (record { writer = p; other = q; writer_is = lp; other_is = lq; two = two; writes = h; touches = inr r }));
} where
  none : (o : Option ℕ) → (IsSome o → ⊥) → o ≡ None
  none None h = refl
  none (Some x) h = absurd (h refl)

ended_within : (r : Answer ℕ) → IsEnded r → EndsWithin (reached r) r
ended_within (Has x s) h = stays s
ended_within (Bad t s) h = h
ended_within (Long s) h = h

if_in : (t : Bool) (T : Type 0) → (t ≡ true → T) → IfIn t T
if_in true T h = h refl
if_in false T h = tt

-- ---- what it ends with

tabulate_same : (n : ℕ) (f g : Lanes) → ((e : ℕ) → f e ≡ g e) → tabulate n f ≡ tabulate n g
tabulate_same zero f g h = refl
tabulate_same (suc n) f g h = ap (λ z. z ∷ tabulate n (λ i. f (suc i))) (h 0) ∙ ap (λ zs. g 0 ∷ zs) (tabulate_same n (λ i. f (suc i)) (λ i. g (suc i)) (λ e. h (suc e)))

rows_same : (rs : List Row) (f g : ℕ → Lanes) → ((b e : ℕ) → b < length rs → f b e ≡ g b e) → rows_now rs f ≡ rows_now rs g
rows_same [] f g h = refl
rows_same (r ∷ rs) f g h =
    ap (λ bits. record { elem = r.elem; bits = bits } ∷ rows_now rs (λ b. f (suc b))) (tabulate_same (length r.bits) (f 0) (g 0) (λ e. h 0 e (omega arith)))
    ∙ ap (λ z. record { elem = r.elem; bits = tabulate (length r.bits) (g 0) } ∷ z) (rows_same rs (λ b. f (suc b)) (λ b. g (suc b)) (λ b e lt. h (suc b) e (omega (arith, lt))))

-- an exported function gives one value
given_same : (gang : ℕ) (a : Mask) (s : Span) (t : Option Ty) (m : Payload) (y : ℕ → ℕ) (p z : ℕ) → ((f : Fault) → OfAny (ResultBreach s) t f → ⊥) → any gang a ≡ true → a p ≡ true → y p ≡ z → AnswerStands gang a t m y
    → answer_as (option_map (λ u. u.elem) t) m ≡ answer_as (option_map (λ u. u.elem) t) (One z)
given_same gang a s None m y p z r some i e h = refl
given_same gang a s (Some t) m y p z r some i e h = ap (λ x. Some (record { elem = t.elem; bits = x })) (by m (h.one some (uniform t.rate (λ d. r _ (d, refl)))) (h.at p)) where
  uniform : (q : Rate) → (goes_to Uniform q ≡ false → ⊥) → q ≡ Uniform
  uniform Uniform h = refl
  uniform Varying h = absurd (h refl)

  by : (m : Payload) → IsOne m → spread a m p ≡ on a y p → sole m ≡ z
  by (One x) o h = one_is a x y p h i ∙ e
  by (Each x) o h = absurd o

-- one of the first n is in the set, or none is
some_or_none : (n : ℕ) (a : Mask) → ((p : ℕ) × (p < n) × (a p ≡ true)) ⊎ ((p : ℕ) → p < n → a p ≡ false)
some_or_none zero a = inr (λ p lt. let no : ⊥ = omega (arith, lt) in absurd no)
some_or_none (suc n) a = go (a n) refl (some_or_none n a) where
  go : (t : Bool) → a n ≡ t → ((p : ℕ) × (p < n) × (a p ≡ true)) ⊎ ((p : ℕ) → p < n → a p ≡ false) → ((p : ℕ) × (p < suc n) × (a p ≡ true)) ⊎ ((p : ℕ) → p < suc n → a p ≡ false)
  go true e h = inl (n, omega arith, e)
  go false e (inl q) = let lt = q.1 in inl (q.0, omega (arith, lt), q.2)
  go false e (inr h) = inr (λ p lt. ⊎_elim (λ d. ap a d ∙ e) (λ d. let lt2 : p < n = omega (arith, lt, d) in h p lt2) (cases_eq p n))

-- ---- the law

module _ (program : Program) (f : ℕ) (h : TFunction) (xs : List Argument) (n : ℕ) (accepted : IsAccepted program) (found : slice_get program.functions f ≡ Some h) (exported : h.exported ≡ true) (fits : has_signature h.parameters xs ≡ true)
    (independent : IsIndependent program f) (ends : (p : ℕ) → p < gang_width program.gang → IsEnded (solo_run program f n xs (bound xs) p)) (apart : AreApart (gang_width program.gang) (solo_run program f n xs (bound xs))) where
  abbrev gang : ℕ
  gang = gang_width program.gang

  abbrev alone : ℕ → Answer ℕ
  alone p = solo_run program f n xs (bound xs) p

  abbrev whole : World
  whole = record { gang = gang; begin = bound xs; last = λ p. reached (alone p); frame = first_frame xs; callers = everyone gang }

  touch : TouchNothing gang (λ p. reached (alone p))
  touch = touch_nothing gang alone apart

  own : FineFunction program.functions h
  own = of_each (FineFunction program.functions) program.functions f h accepted.fine.each found

  begins : Stands whole (first_state xs) (λ p. fresh)
  begins = record {
    varying_is = λ k p. refl;
    own_is = λ k e p. refl;
    result_is = tt;
    stored = λ p b e x lp lb i. absurd (none_not x i);
    unstored = λ b e lb i. refl;
    within = λ p lp. record { read = λ b e i. absurd (true≢false (sym i)); wrote = λ b e i. absurd (true≢false (sym i)) };
    silent = refl;
  }

  module _ (some : AreSome gang (everyone gang)) where
    agrees : Agrees whole (everyone gang) (AnswerStands gang (everyone gang) h.answer) alone (λ p. fresh) (meaning program f n xs) (λ v. 0)
    agrees =
        (level_agrees program f n 255 (early_in h) f h found (entry_fair program accepted f independent h found) whole touch refl no_place (handed 0 xs) (λ p. handed 0 xs) (everyone gang) some
        (record { at = λ p. handed_same (everyone gang) p 0 xs; suit = handed_suits (length (rows xs)) (length h.params) h.variables h.parameters xs 0 own.params fits (zero_then (length (rows xs))) })
        (λ e p lt. of_lt p gang lt)
        (calls_agree program f n (called_fair program accepted f independent) 255 (inner whole h (handed 0 xs) (everyone gang)) touch refl)
        (λ k. false)).go
        (first_state xs) (λ p. fresh) begins (λ p k i j. refl) (λ p. if_in (everyone gang p) (EndsWithin (reached (alone p)) (alone p)) (λ e. ended_within (alone p) (ends p (lt_of p gang e))))
      where
        zero_then : (m : ℕ) → 0 + m ≡ m
        zero_then m = omega arith

    -- each instance has what its run alone answers
    answers : (p : ℕ) → p < gang → alone p ≡ Has (agrees.y p) (agrees.after p)
    answers p lt = by (everyone gang p) (of_lt p gang lt) (agrees.alone p) where
      by : (t : Bool) → t ≡ true → AnswersAlone t (alone p) fresh (agrees.y p) (agrees.after p) → alone p ≡ Has (agrees.y p) (agrees.after p)
      by true e h = h
      by false e h = absurd (true≢false (sym e))

    module _ (ps : List ℕ) (order : IsOrder gang ps) where
      same_element : (b e : ℕ) → b < length (rows xs) → agrees.s.arrays b e ≡ one_by_one program f n xs ps (bound xs) b e
      same_element b e lb = go (some_or_none gang (λ p. is_some ((reached (alone p)).wrote b e))) where
        law : ((p x : ℕ) → p < gang → (reached (alone p)).wrote b e ≡ Some x → one_by_one program f n xs ps (bound xs) b e ≡ x)
            × (((p : ℕ) → p < gang → (reached (alone p)).wrote b e ≡ None) → one_by_one program f n xs ps (bound xs) b e ≡ bound xs b e)
        law = any_order program f n xs (bound xs) ps apart order b e

        after_is : (p : ℕ) → p < gang → (agrees.after p).wrote b e ≡ (reached (alone p)).wrote b e
        after_is p lt = ap (λ r. (reached r).wrote b e) (sym (answers p lt))

        at : (p : ℕ) → p < gang → (o : Option ℕ) → (reached (alone p)).wrote b e ≡ o → is_some o ≡ true → agrees.s.arrays b e ≡ one_by_one program f n xs ps (bound xs) b e
        at p lt None w i = absurd (true≢false (sym i))
        at p lt (Some x) w i = agrees.stands.stored p b e x lt lb (after_is p lt ∙ w) ∙ sym (law.0 p x lt w)

        is_none : (o : Option ℕ) → is_some o ≡ false → o ≡ None
        is_none None i = refl
        is_none (Some x) i = absurd (true≢false i)

        go : ((p : ℕ) × (p < gang) × (is_some ((reached (alone p)).wrote b e) ≡ true)) ⊎ ((p : ℕ) → p < gang → is_some ((reached (alone p)).wrote b e) ≡ false) → agrees.s.arrays b e ≡ one_by_one program f n xs ps (bound xs) b e
        go (inl q) = at q.0 q.1 ((reached (alone q.0)).wrote b e) refl q.2
        go (inr none) = agrees.stands.unstored b e lb (λ p lt. after_is p lt ∙ is_none ((reached (alone p)).wrote b e) (none p lt)) ∙ sym (law.1 (λ p lt. is_none ((reached (alone p)).wrote b e) (none p lt)))

      run_is : (p : ℕ) → p < gang → run_of program f n xs ≡ Ends (rows_now (rows xs) (one_by_one program f n xs ps (bound xs))) (answer_as h.gives (One (value_of (alone p)))) []
      run_is p lt =
          ap (λ t. outcome_of (gives_of t) xs (meaning program f n xs)) found
          ∙ ap (outcome_of h.gives xs) agrees.is
          ∙ ap (λ z. Ends z (answer_as h.gives agrees.x) agrees.s.out) (rows_same (rows xs) agrees.s.arrays (one_by_one program f n xs ps (bound xs)) same_element)
          ∙ ap (λ z. Ends (rows_now (rows xs) (one_by_one program f n xs ps (bound xs))) z agrees.s.out)
          (subst (λ t. answer_as t agrees.x ≡ answer_as t (One (value_of (alone p)))) (sym own.gives)
          (given_same gang (everyone gang) h.span h.answer agrees.x agrees.y p (value_of (alone p))
          (λ z b. accepted.sound z (breach_of (FunctionBreach program.functions) program.functions f h found z (inl (exported, inr b)))) some.some
          (of_lt p gang lt)
          (ap value_of (sym (answers p lt))) agrees.value))
          ∙ ap (λ z. Ends (rows_now (rows xs) (one_by_one program f n xs ps (bound xs))) (answer_as h.gives (One (value_of (alone p)))) z) agrees.stands.silent

pub solo_runs_agree : SoloRunsAgree
solo_runs_agree program name f h xs n accepted entry independent ends apart ps order p lt =
    run_is program f h xs n accepted entry.export.found entry.export.exported entry.fits independent ends apart
    (record { inside = λ q e. lt_of q (gang_width program.gang) e; some = any_of (gang_width program.gang) (everyone (gang_width program.gang)) p lt (of_lt p (gang_width program.gang) lt) }) ps order p lt
