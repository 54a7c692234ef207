-- How one goes on from another: where the gang comes over the set of one instance to what that instance does alone.
use Rattle.std.proofs.Common.{◌≡◌, ℕ, ◌<◌, inl, inr, Bool, true, false, refl, sym, ap, ap₂, ◌∙◌, subst}
use Rattle.std.specs.Prelude.{Option, Some, None, if◌then◌else◌}
use Rattle.isp_base.specs.Sets.{Mask, nobody, union, without, any, lowest, lone}
use Rattle.isp_base.specs.declared.trap.TrapKind.{TrapKind}
use Rattle.isp_base.specs.declared.types.Rate.{Rate}
use Rattle.isp_base.specs.declared.types.Rate.TheVariants.{Uniform, Varying}
use Rattle.isp_base.specs.declared.types.Span.{Span}
use Rattle.isp_meaning.specs.Outcomes.{Val, Gives, Fails, Stops, Res, Went, Trapped, Cut, bind, with_value, checked, go_on, went_all, then_run, both_sides, if_so, unless_empty, value_unless_empty}
use Rattle.isp_meaning.specs.Payloads.{Payload, One, Each, is_true, spread, nothing, mapped, joined, kept_by, offender, if_fails}
use Rattle.isp_meaning.specs.State.{State}
use Rattle.isp_meaning.specs.Statements.{branches}
use Rattle.isp_solo_meaning.specs.Alone.{Alone}
use Rattle.isp_solo_meaning.specs.Answers.{Answer, Has, Bad, Long, How, Going, Broke, Continued, Returned, End, Does, Dies, Lasts, and_then, with_answer, unless, choose, then_on}
use Rattle.isp_meaning_laws.specs.Lone.{World, Stands, Comes, IsValue, left, ComesTo}
use Rattle.isp_meaning_laws.proofs.LoneSets.{any_nobody, any_lone, lowest_nobody, lowest_lone, just, each_just, both_just, where_just, lone_if, union_nobody, without_nobody, without_itself}

-- the relations, as records

pub record CameTo {A B : Type 0} (w : World) (R : A → B → Type 0) (v : Val A) (r : Answer B) : Type 0 where
  pub by : Comes w R v r

pub record Left (w : World) (v : Res) (r : End) : Type 0 where
  pub by : ComesTo w v r

-- ---- values

pub not_uniform : Varying ≡ Uniform → ⊥
not_uniform e = subst (λ (r : Rate). IsVarying r) e tt where
  IsVarying : Rate → Type 0
  IsVarying Varying = Unit {0}
  IsVarying Uniform = ⊥

-- where q is uniform, r is
abbrev pub Follows : Rate → Rate → Type 0
Follows q r = q ≡ Uniform → r ≡ Uniform

module _ (p : ℕ) where
  pub rated : (q r : Rate) → Follows q r → r ≡ Varying → q ≡ Varying
  rated Varying r f e = refl
  rated Uniform r f e = absurd (not_uniform (sym e ∙ f refl))

  pub as_rate : (q r : Rate) (m : Payload) (y : ℕ) → Follows q r → IsValue p r m y → IsValue p q m y
  as_rate q r m y f (inl e) = inl e
  as_rate q r m y f (inr e) = inr (rated q r f e.0, e.1)

  pub one_value : (r : Rate) (y : ℕ) → IsValue p r (One y) y
  one_value r y = inl refl

  pub uniform_value : (r : Rate) (m : Payload) (y : ℕ) → r ≡ Uniform → IsValue p r m y → m ≡ One y
  uniform_value r m y u (inl e) = e
  uniform_value r m y u (inr e) = absurd (not_uniform (sym e.0 ∙ u))

  pub spread_value : (r : Rate) (m : Payload) (y : ℕ) → IsValue p r m y → spread (lone (Some p)) m ≡ just p y
  spread_value r m y (inl e) = ap (spread (lone (Some p))) e
  spread_value r m y (inr e) = ap (spread (lone (Some p))) e.1

  pub mapped_value : (f : ℕ → ℕ) (r : Rate) (m : Payload) (y : ℕ) → IsValue p r m y → IsValue p r (mapped f m) (f y)
  mapped_value f r m y (inl e) = inl (ap (mapped f) e)
  mapped_value f r m y (inr e) = inr (e.0, ap (mapped f) e.1 ∙ ap Each (each_just p f y))

  pub joined_value : (f : ℕ → ℕ → ℕ) (q r t : Rate) (m n : Payload) (y z : ℕ) → Follows t q → Follows t r → IsValue p q m y → IsValue p r n z
      → IsValue p t (joined f (lone (Some p)) m n) (f y z)
  joined_value f q r t m n y z i j (inl d) (inl e) = inl (ap₂ (joined f (lone (Some p))) d e)
  joined_value f q r t m n y z i j (inl d) (inr e) =
      inr (rated t r j e.0, ap₂ (joined f (lone (Some p))) d e.1 ∙ ap Each (both_just p f y z))
  joined_value f q r t m n y z i j (inr d) (inl e) =
      inr (rated t q i d.0, ap₂ (joined f (lone (Some p))) d.1 e ∙ ap Each (both_just p f y z))
  joined_value f q r t m n y z i j (inr d) (inr e) =
      inr (rated t q i d.0, ap₂ (joined f (lone (Some p))) d.1 e.1 ∙ ap Each (both_just p f y z))

  pub kept_value : (f : ℕ → Bool) (r : Rate) (m : Payload) (y : ℕ) → IsValue p r m y → kept_by f (lone (Some p)) m ≡ lone_if p (f y)
  kept_value f r m y (inl e) = ap (kept_by f (lone (Some p))) e
  kept_value f r m y (inr e) = ap (kept_by f (lone (Some p))) e.1 ∙ where_just p f y

  abbrev pub some_if : Bool → Option ℕ
  some_if b = if b then Some p else None

  lowest_if : (gang : ℕ) → p < gang → (b : Bool) → lowest gang (lone_if p b) ≡ some_if b
  lowest_if gang lt true = lowest_lone p gang lt
  lowest_if gang lt false = lowest_nobody gang

  fails_if : (gang : ℕ) → p < gang → (fails : ℕ → Bool) (b : Bool) → if_fails gang fails (lone (Some p)) b ≡ some_if b
  fails_if gang lt fails true = lowest_lone p gang lt
  fails_if gang lt fails false = refl

  pub offender_value : (gang : ℕ) → p < gang → (fails : ℕ → Bool) (r : Rate) (m : Payload) (y : ℕ) → IsValue p r m y → offender gang fails (lone (Some p)) m ≡ some_if (fails y)
  offender_value gang lt fails r m y (inl e) = ap (offender gang fails (lone (Some p))) e ∙ fails_if gang lt fails (fails y)
  offender_value gang lt fails r m y (inr e) = ap (offender gang fails (lone (Some p))) e.1 ∙ ap (lowest gang) (where_just p fails y) ∙ lowest_if gang lt (fails y)

  -- this instance has a value of its own here, or there is none
  pub any_if : (gang : ℕ) → p < gang → (b : Bool) → any gang (lone_if p b) ≡ b
  any_if gang lt true = any_lone p gang lt
  any_if gang lt false = any_nobody gang

-- ---- expressions

module _ (w : World) where
  pub came_has : {A B : Type 0} (R : A → B → Type 0) (x : A) (y : B) (s : State) (t : Alone) → R x y → Stands w s t → CameTo w R (Gives x s) (Has y t)
  came_has R x y s t r st = record { by = (r, st) }

  pub came_then : {A B C D : Type 0} (R : A → B → Type 0) (Q : C → D → Type 0) (v : Val A) (r : Answer B) (go : A → State → Val C) (own : B → Alone → Answer D)
      → CameTo w R v r → ((x : A) (y : B) (s : State) (t : Alone) → R x y → Stands w s t → CameTo w Q (go x s) (own y t)) → CameTo w Q (bind v go) (and_then r own)
  came_then R Q (Gives x s) (Has y t) go own h k = k x y s t h.by.0 h.by.1
  came_then R Q (Fails e s) (Bad d t) go own h k = record { by = h.by }
  came_then R Q (Stops s) (Long t) go own h k = record { by = h.by }
  came_then R Q (Gives x s) (Bad d t) go own h k = absurd h.by
  came_then R Q (Gives x s) (Long t) go own h k = absurd h.by
  came_then R Q (Fails e s) (Has y t) go own h k = absurd h.by
  came_then R Q (Fails e s) (Long t) go own h k = absurd h.by
  came_then R Q (Stops s) (Has y t) go own h k = absurd h.by
  came_then R Q (Stops s) (Bad d t) go own h k = absurd h.by

  pub left_with : {A B : Type 0} (R : A → B → Type 0) (v : Val A) (r : Answer B) (go : A → State → Res) (own : B → Alone → End)
      → CameTo w R v r → ((x : A) (y : B) (s : State) (t : Alone) → R x y → Stands w s t → Left w (go x s) (own y t)) → Left w (with_value v go) (with_answer r own)
  left_with R (Gives x s) (Has y t) go own h k = k x y s t h.by.0 h.by.1
  left_with R (Fails e s) (Bad d t) go own h k = record { by = h.by }
  left_with R (Stops s) (Long t) go own h k = record { by = h.by }
  left_with R (Gives x s) (Bad d t) go own h k = absurd h.by
  left_with R (Gives x s) (Long t) go own h k = absurd h.by
  left_with R (Fails e s) (Has y t) go own h k = absurd h.by
  left_with R (Fails e s) (Long t) go own h k = absurd h.by
  left_with R (Stops s) (Has y t) go own h k = absurd h.by
  left_with R (Stops s) (Bad d t) go own h k = absurd h.by

  -- what stands for more stands for less
  pub came_as : {A B : Type 0} (R Q : A → B → Type 0) (v : Val A) (r : Answer B) → ((x : A) (y : B) → R x y → Q x y) → CameTo w R v r → CameTo w Q v r
  came_as R Q (Gives x s) (Has y t) f h = record { by = (f x y h.by.0, h.by.1) }
  came_as R Q (Fails e s) (Bad d t) f h = record { by = h.by }
  came_as R Q (Stops s) (Long t) f h = record { by = h.by }
  came_as R Q (Gives x s) (Bad d t) f h = absurd h.by
  came_as R Q (Gives x s) (Long t) f h = absurd h.by
  came_as R Q (Fails e s) (Has y t) f h = absurd h.by
  came_as R Q (Fails e s) (Long t) f h = absurd h.by
  came_as R Q (Stops s) (Has y t) f h = absurd h.by
  came_as R Q (Stops s) (Bad d t) f h = absurd h.by

  -- a test that fails is a trap of this instance, in both
  pub came_checked : {A B : Type 0} (R : A → B → Type 0) (o : Option ℕ) (b : Bool) (kind : TrapKind) (place : Span) (x : A) (y : B) (s : State) (t : Alone)
      → o ≡ some_if w.instance b → R x y → Stands w s t → CameTo w R (checked o kind place s x) (unless b kind place w.instance t y)
  came_checked R o b kind place x y s t e r st = subst (λ z. CameTo w R (checked z kind place s x) (unless b kind place w.instance t y)) (sym e) (by b) where
    by : (c : Bool) → CameTo w R (checked (some_if w.instance c) kind place s x) (unless c kind place w.instance t y)
    by true = record { by = (refl, (st.4)) }
    by false = record { by = (r, st) }

  -- the same, where the instance has only the first part to do
  has_same : {B : Type 0} (r : Answer B) → and_then r (λ y t. Has y t) ≡ r
  has_same (Has x s) = refl
  has_same (Bad t s) = refl
  has_same (Long s) = refl

  pub came_alone : {A B C : Type 0} (R : A → B → Type 0) (Q : C → B → Type 0) (v : Val A) (r : Answer B) (go : A → State → Val C)
      → CameTo w R v r → ((x : A) (y : B) (s : State) (t : Alone) → R x y → Stands w s t → CameTo w Q (go x s) (Has y t)) → CameTo w Q (bind v go) r
  came_alone R Q v r go h k = subst (λ z. CameTo w Q (bind v go) z) (has_same r) (came_then R Q v r go (λ y t. Has y t) h k)

  -- an operand over those that need it: this instance, or nobody
  pub came_unless : {C D : Type 0} (gang : ℕ) → w.instance < gang → (Q : C → D → Type 0) (k : Mask) (b : Bool) (f : Mask → State → Val Payload) (go : Payload → State → Val C) (r : Answer D) (s : State)
      → k ≡ lone_if w.instance b → CameTo w Q (bind (if_so b (f (lone_if w.instance b)) (Gives nothing) s) go) r → CameTo w Q (bind (value_unless_empty gang k s f) go) r
  came_unless gang lt Q k b f go r s e h =
      subst (λ z. CameTo w Q (bind (value_unless_empty gang z s f) go) r) (sym e)
      (subst (λ c. CameTo w Q (bind (if_so c (f (lone_if w.instance b)) (Gives nothing) s) go) r) (sym (any_if w.instance gang lt b)) h)

  -- ---- statements

  lone_runs : (gang : ℕ) → w.instance < gang → (f : Mask → State → Res) (s : State) → unless_empty gang (lone (Some w.instance)) s f ≡ f (lone (Some w.instance)) s
  lone_runs gang lt f s = ap (λ b. if_so b (f (lone (Some w.instance))) (went_all (lone (Some w.instance))) s) (any_lone w.instance gang lt)

  nobody_runs : (gang : ℕ) (f : Mask → State → Res) (s : State) → unless_empty gang nobody s f ≡ went_all nobody s
  nobody_runs gang f s = ap (λ b. if_so b (f nobody) (went_all nobody) s) (any_nobody gang)

  with_nobody : (s : State) (g b c r : Mask) → Went s (union g nobody) (union b nobody) (union c nobody) (union r nobody) ≡ Went s g b c r
  with_nobody s g b c r =
      ap (λ z. Went s z (union b nobody) (union c nobody) (union r nobody)) (union_nobody g) ∙ ap (λ z. Went s g z (union c nobody) (union r nobody)) (union_nobody b)
      ∙ ap (λ z. Went s g b z (union r nobody)) (union_nobody c) ∙ ap (λ z. Went s g b c z) (union_nobody r)

  -- after nobody, and before nobody
  after_nobody : (v : Res) (r : End) → Left w v r → Left w (go_on v (λ s g b c q. Went s (union nobody g) (union nobody b) (union nobody c) (union nobody q))) r
  after_nobody (Went s g b c q) (Does t how) h = record { by = h.by }
  after_nobody (Trapped e s) (Dies d t) h = record { by = h.by }
  after_nobody (Cut s) (Lasts t) h = record { by = h.by }
  after_nobody (Went s g b c q) (Dies d t) h = absurd h.by
  after_nobody (Went s g b c q) (Lasts t) h = absurd h.by
  after_nobody (Trapped e s) (Does t how) h = absurd h.by
  after_nobody (Trapped e s) (Lasts t) h = absurd h.by
  after_nobody (Cut s) (Does t how) h = absurd h.by
  after_nobody (Cut s) (Dies d t) h = absurd h.by

  before_nobody : (v : Res) (r : End) → Left w v r → Left w (both_sides v (λ s. went_all nobody s)) r
  before_nobody (Went s g b c q) (Does t how) h = record { by = (with_nobody s g b c q ∙ h.by.0, h.by.1) }
  before_nobody (Trapped e s) (Dies d t) h = record { by = h.by }
  before_nobody (Cut s) (Lasts t) h = record { by = h.by }
  before_nobody (Went s g b c q) (Dies d t) h = absurd h.by
  before_nobody (Went s g b c q) (Lasts t) h = absurd h.by
  before_nobody (Trapped e s) (Does t how) h = absurd h.by
  before_nobody (Trapped e s) (Lasts t) h = absurd h.by
  before_nobody (Cut s) (Does t how) h = absurd h.by
  before_nobody (Cut s) (Dies d t) h = absurd h.by

  -- by a test, one of two
  pub left_branches : (gang : ℕ) → w.instance < gang → (r : Rate) (m : Payload) (y : ℕ) (first second : Mask → State → Res) (own other : Alone → End) (s : State) (t : Alone) → IsValue w.instance r m y
      → Left w (first (lone (Some w.instance)) s) (own t) → Left w (second (lone (Some w.instance)) s) (other t)
      → Left w (branches gang (lone (Some w.instance)) first second m s) (choose (is_true y) own other t)
  left_branches gang lt r m y first second own other s t (inl e) h k = subst (λ z. Left w (branches gang (lone (Some w.instance)) first second z s) (choose (is_true y) own other t)) (sym e) (at (is_true y)) where
    at : (b : Bool) → Left w (if_so b (first (lone (Some w.instance))) (second (lone (Some w.instance))) s) (choose b own other t)
    at true = h
    at false = k
  left_branches gang lt r m y first second own other s t (inr e) h k =
      subst (λ z. Left w (branches gang (lone (Some w.instance)) first second z s) (choose (is_true y) own other t)) (sym e.1)
      (subst (λ z. Left w (both_sides (unless_empty gang z s first) (λ s1. unless_empty gang (without (lone (Some w.instance)) z) s1 second)) (choose (is_true y) own other t)) (sym (where_just w.instance is_true y)) (at (is_true y))) where
        at : (b : Bool) → Left w (both_sides (unless_empty gang (lone_if w.instance b) s first) (λ s1. unless_empty gang (without (lone (Some w.instance)) (lone_if w.instance b)) s1 second)) (choose b own other t)
        at true =
            subst (λ z. Left w (both_sides (unless_empty gang (lone (Some w.instance)) s first) (λ s1. unless_empty gang z s1 second)) (own t)) (sym (without_itself (lone (Some w.instance))))
            (subst (λ z. Left w (both_sides z (λ s1. unless_empty gang nobody s1 second)) (own t)) (sym (lone_runs gang lt first s))
            (subst (λ b. Left w (both_sides (first (lone (Some w.instance)) s) (λ s1. if_so b (second nobody) (went_all nobody) s1)) (own t)) (sym (any_nobody gang)) (before_nobody _ _ h)))
        at false =
            subst (λ z. Left w (both_sides (unless_empty gang nobody s first) (λ s1. unless_empty gang z s1 second)) (other t)) (sym (without_nobody (lone (Some w.instance))))
            (subst (λ z. Left w (both_sides z (λ s1. unless_empty gang (lone (Some w.instance)) s1 second)) (other t)) (sym (nobody_runs gang first s))
            (subst (λ z. Left w (go_on z (λ s1 g b c q. Went s1 (union nobody g) (union nobody b) (union nobody c) (union nobody q))) (other t)) (sym (lone_runs gang lt second s)) (after_nobody _ _ k)))

  -- the next statement, if this instance went on
  pub left_then : (gang : ℕ) → w.instance < gang → (v : Res) (r : End) (next : Mask → State → Res) (own : Alone → End) → Left w v r → ((s : State) (t : Alone) → Stands w s t → Left w (next (lone (Some w.instance)) s) (own t))
      → Left w (then_run v (λ g s1. unless_empty gang g s1 next)) (then_on r own)
  left_then gang lt (Went s g b c q) (Does t how) next own h k = subst (λ z. Left w (then_run z (λ g s1. unless_empty gang g s1 next)) (then_on (Does t how) own)) (sym h.by.0) (at how) where
    at : (how : How) → Left w (then_run (left w.instance how s) (λ g s1. unless_empty gang g s1 next)) (then_on (Does t how) own)
    at Going = subst (λ z. Left w (go_on z (λ s' g' b' c' q'. Went s' g' (union nobody b') (union nobody c') (union nobody q'))) (own t)) (sym (lone_runs gang lt next s)) (after_nobody _ _ (k s t h.by.1))
    at Broke =
        subst (λ z. Left w (go_on z (λ s' g' b' c' q'. Went s' g' (union (lone (Some w.instance)) b') (union nobody c') (union nobody q'))) (Does t Broke)) (sym (nobody_runs gang next s))
        (record { by = (ap (λ z. Went s nobody z nobody nobody) (union_nobody (lone (Some w.instance))), h.by.1) })
    at Continued =
        subst (λ z. Left w (go_on z (λ s' g' b' c' q'. Went s' g' (union nobody b') (union (lone (Some w.instance)) c') (union nobody q'))) (Does t Continued)) (sym (nobody_runs gang next s))
        (record { by = (ap (λ z. Went s nobody nobody z nobody) (union_nobody (lone (Some w.instance))), h.by.1) })
    at Returned =
        subst (λ z. Left w (go_on z (λ s' g' b' c' q'. Went s' g' (union nobody b') (union nobody c') (union (lone (Some w.instance)) q'))) (Does t Returned)) (sym (nobody_runs gang next s))
        (record { by = (ap (λ z. Went s nobody nobody nobody z) (union_nobody (lone (Some w.instance))), h.by.1) })
  left_then gang lt (Trapped e s) (Dies d t) next own h k = record { by = h.by }
  left_then gang lt (Cut s) (Lasts t) next own h k = record { by = h.by }
  left_then gang lt (Went s g b c q) (Dies d t) next own h k = absurd h.by
  left_then gang lt (Went s g b c q) (Lasts t) next own h k = absurd h.by
  left_then gang lt (Trapped e s) (Does t how) next own h k = absurd h.by
  left_then gang lt (Trapped e s) (Lasts t) next own h k = absurd h.by
  left_then gang lt (Cut s) (Does t how) next own h k = absurd h.by
  left_then gang lt (Cut s) (Dies d t) next own h k = absurd h.by
