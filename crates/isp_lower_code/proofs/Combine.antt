-- How code is put together: what follows a value, what comes before it, and one instruction that writes.
use Rattle.std.proofs.Common.{◌≡◌, ◌≢◌, ℕ, ◌+◌, ◌*◌, ◌<◌, ◌≤◌, length, Option, Some, None, refl, sym, ap, ◌∙◌, subst, arith}
use Rattle.std.specs.Prelude.{slice_get}
use Rattle.isp_base.specs.Maps.{on, over, put}
use Rattle.isp_base.specs.Sets.{Mask, nobody}
use Rattle.isp_base.specs.Traps.{trap}
use Rattle.isp_base.specs.declared.trap.Trap.{Trap}
use Rattle.isp_base.specs.declared.trap.TrapKind.{TrapKind}
use Rattle.isp_base.specs.declared.trap.TrapKind.TheVariants.{Divide}
use Rattle.isp_base.specs.declared.types.Elem.{Elem}
use Rattle.isp_base.specs.declared.types.Rate.{Rate}
use Rattle.isp_base.specs.declared.types.Rate.TheVariants.{Uniform, Varying}
use Rattle.isp_base.specs.declared.types.Span.{Span}
use Rattle.isp_code.specs.Calls.{no_place}
use Rattle.isp_code.specs.Conf.{Conf, Go}
use Rattle.isp_code.specs.Lines.{act}
use Rattle.isp_code.specs.declared.instr.Instr.{Instr}
use Rattle.isp_code.specs.declared.instr.Instr.TheVariants as instr
use Rattle.isp_code.specs.declared.instr.VectorInstr.TheVariants as vector
use Rattle.isp_meaning.specs.State.{State}
use Rattle.isp_meaning.specs.Payloads.{Payload, One, Each, sole, spread}
use Rattle.isp_meaning.specs.Outcomes.{Val, Gives, Fails, Stops, bind, checked}
use Rattle.isp_lower_code.specs.Layout.{register, mask_register}
use Rattle.isp_lower_code.specs.Setting.{Setting, IsSettled, AreAt, At, Stands, at_rate, held_at, Holds, Spares, gang_of}
use Rattle.isp_lower_code.specs.Runs.{Comes, Ok, Failed, Stopped, Runs}
use Rattle.isp_lower_code.specs.Found.{lifted, lift_code}
use Rattle.isp_lower_code.proofs.Base.{put_same, put_other, comes_on, fails_on, step_go, step_fail, next_at, at_to, moved_by, spares_less, spares_on}
use Rattle.isp_lower_code.proofs.Constants.{scalar_put, vector_put}
use Rattle.isp_lower_code.proofs.Rates.{Filled, filled_on}
use Rattle.isp_lower_code.proofs.Lines.{set_at}
use Rattle.isp_lower_code.specs.Rated.{Reaches}
use Rattle.isp_lower_code.proofs.Consecutive.{run_place}
use Rattle.isp_lower_code.proofs.Fixed.{known_put}

module _ (w : Setting) (ready : IsSettled w) where
  -- ---- a stretch before

  pub failed_after : (c c1 : Conf) (t q : ℕ) (p : Trap) (s : State) → Comes w c t c1 → Failed w c1 (t + q) p s → Failed w c q p s
  failed_after c c1 t q p s h f = record { conf = f.conf; steps = t + f.steps; fails = fails_on w c c1 f.conf t f.steps p h f.fails; arrays_are = f.arrays_are; out_is = f.out_is; bound = omega (arith, f.bound) }

  pub stopped_after : (turns : ℕ) (c c1 : Conf) (t q : ℕ) (s : State) → Comes w c t c1 → Stopped w turns c1 (t + q) s → Stopped w turns c q s
  stopped_after turns c c1 t q s h f = record { conf = f.conf; steps = t + f.steps; far = omega (arith, f.far); goes = comes_on w c c1 f.conf t f.steps h f.goes; out_is = f.out_is; bound = omega (arith, f.bound) }

  pub ok_after : (c c1 : Conf) (t pc n q : ℕ) (P : Conf → Type 0) (s : State) → Comes w c t c1 → Spares w n c c1 → ((r : ℕ) → r < n → c1.masks r ≡ c.masks r) → Ok w c1 pc n (t + q) P s → Ok w c pc n q P s
  ok_after c c1 t pc n q P s h k m r = record {
    conf = r.conf;
    steps = t + r.steps;
    comes = comes_on w c c1 r.conf t r.steps h r.comes;
    at = r.at;
    stands = r.stands;
    spares = spares_on w n c c1 r.conf k r.spares;
    masks = λ i lt. r.masks i lt ∙ m i lt;
    holds = r.holds;
    bound = omega (arith, r.bound);
  }

  pub runs_after : {A : Type 0} (c c1 : Conf) (t pc n q : ℕ) (P : A → Conf → Type 0) (v : Val A) → Comes w c t c1 → Spares w n c c1 → ((r : ℕ) → r < n → c1.masks r ≡ c.masks r) → Runs w c1 pc n (t + q) P v → Runs w c pc n q P v
  runs_after c c1 t pc n q P (Gives x s) h k m r = ok_after c c1 t pc n q (P x) s h k m r
  runs_after c c1 t pc n q P (Fails p s) h k m r = failed_after c c1 t q p s h r
  runs_after c c1 t pc n q P (Stops s) h k m r = stopped_after w.turns c c1 t q s h r

  -- ---- what follows; d steps are set aside for it

  pub failed_less : (c : Conf) (d q : ℕ) (p : Trap) (s : State) → Failed w c (d + q) p s → Failed w c q p s
  failed_less c d q p s f = record { conf = f.conf; steps = f.steps; fails = f.fails; arrays_are = f.arrays_are; out_is = f.out_is; bound = omega (arith, f.bound) }

  pub stopped_less : (turns : ℕ) (c : Conf) (d q : ℕ) (s : State) → Stopped w turns c (d + q) s → Stopped w turns c q s
  stopped_less turns c d q s f = record { conf = f.conf; steps = f.steps; far = f.far; goes = f.goes; out_is = f.out_is; bound = omega (arith, f.bound) }

  pub bind_runs : {A B : Type 0} (c : Conf) (pc n d q : ℕ) (P : A → Conf → Type 0) (v : Val A) (go : A → State → Val B) (pc' n' : ℕ)
      (P' : B → Conf → Type 0) → Runs w c pc n (d + q) P v → ((x : A) (s : State) → Ok w c pc n (d + q) (P x) s → Runs w c pc' n' q P' (go x s))
      → Runs w c pc' n' q P' (bind v go)
  bind_runs c pc n d q P (Gives x s) go pc' n' P' r f = f x s r
  bind_runs c pc n d q P (Fails p s) go pc' n' P' r f = failed_less c d q p s r
  bind_runs c pc n d q P (Stops s) go pc' n' P' r f = stopped_less w.turns c d q s r

  -- more that is done with the same value
  pub runs_on : {A : Type 0} (c : Conf) (pc n d q : ℕ) (P : A → Conf → Type 0) (v : Val A) (pc' n' : ℕ) (P' : A → Conf → Type 0)
      → Runs w c pc n (d + q) P v → ((x : A) (s : State) → Ok w c pc n (d + q) (P x) s → Ok w c pc' n' q (P' x) s) → Runs w c pc' n' q P' v
  runs_on c pc n d q P (Gives x s) pc' n' P' r f = f x s r
  runs_on c pc n d q P (Fails p s) pc' n' P' r f = failed_less c d q p s r
  runs_on c pc n d q P (Stops s) pc' n' P' r f = stopped_less w.turns c d q s r

  pub ok_less : (c : Conf) (pc pc' n d q : ℕ) (P : Conf → Type 0) (s : State) → pc ≡ pc' → Ok w c pc n (d + q) P s → Ok w c pc' n q P s
  ok_less c pc pc' n d q P s e r = record {
    conf = r.conf;
    steps = r.steps;
    comes = r.comes;
    at = at_to w r.conf pc pc' r.at e;
    stands = r.stands;
    spares = r.spares;
    masks = r.masks;
    holds = r.holds;
    bound = omega (arith, r.bound);
  }

  -- ---- a register of a rate is written

  pub set_goes : (r : Rate) (c : Conf) (d : ℕ) (x : Payload) (pc : ℕ) → At w c pc → At w (set_at r c d x) (pc + 1)
  set_goes Uniform c d x pc at = next_at w c (set_at Uniform c d x) pc at refl refl refl
  set_goes Varying c d x pc at = next_at w c (set_at Varying c d x) pc at refl refl refl

  pub set_comes : (r : Rate) (c : Conf) (d : ℕ) (x : Payload) (pc : ℕ) (i : Instr) → At w c pc → slice_get w.routine.code pc ≡ Some i → act w.code w.routine c i ≡ Go (set_at r c d x) → Comes w c 1 (set_at r c d x)
  set_comes Uniform c d x pc i at has is = step_go w c pc i (set_at Uniform c d x) ready at has is
  set_comes Varying c d x pc i at has is = step_go w c pc i (set_at Varying c d x) ready at has is

  pub set_masks : (r : Rate) (c : Conf) (d : ℕ) (x : Payload) (k : ℕ) → (set_at r c d x).masks k ≡ c.masks k
  set_masks Uniform c d x k = refl
  set_masks Varying c d x k = refl

  pub set_spares : (r : Rate) (c : Conf) (t : Elem) (n j : ℕ) (x : Payload) → n ≤ j → Spares w n c (set_at r c (w.layout.spare r t j) x)
  set_spares Uniform c t n j x le = record {
    scalars_stay = λ u i lt. let ne : i ≢ j = omega arith in put_other c.scalars (w.layout.spare Uniform t j)
        (sole x) (w.layout.spare Uniform u i) (ready.apart.spares Uniform u t i j ne);
    vectors_stay = λ u i lt. refl;
    fresh_scalars = λ i. put_other c.scalars (w.layout.spare Uniform t j) (sole x) (w.layout.fresh Uniform i) (λ e. ready.apart.spare_fresh Uniform t j i (sym e));
    fresh_vectors = λ i. refl;
    singles_stay = λ v is. put_other c.scalars (w.layout.spare Uniform t j) (sole x) (w.layout.variable Uniform v) (ready.apart.variable_spare Uniform t v j);
  }
  set_spares Varying c t n j x le = record {
    scalars_stay = λ u i lt. refl;
    vectors_stay = λ u i lt. let ne : i ≢ j = omega arith in put_other
        c.vectors (w.layout.spare Varying t j) (over (spread nobody x) (c.vectors (w.layout.spare Varying t j))) (w.layout.spare Varying u i)
        (ready.apart.spares Varying u t i j ne);
    fresh_scalars = λ i. refl;
    fresh_vectors = λ i. put_other
        c.vectors (w.layout.spare Varying t j) (over (spread nobody x) (c.vectors (w.layout.spare Varying t j))) (w.layout.fresh Varying i)
        (λ e. ready.apart.spare_fresh Varying t j i (sym e));
    singles_stay = λ v is. refl;
  }

  pub set_stands : (r : Rate) (c : Conf) (t : Elem) (j : ℕ) (x : Payload) (s : State) → Stands w s c → Stands w s (set_at r c (w.layout.spare r t j) x)
  set_stands Uniform c t j x s st = record {
    uniforms = λ v is. put_other c.scalars (w.layout.spare Uniform t j) (sole x) (w.layout.variable Uniform v) (ready.apart.variable_spare Uniform t v j) ∙ st.uniforms v is;
    varying = st.varying;
    result = put_other c.scalars (w.layout.spare Uniform t j) (sole x) (w.layout.result Uniform) (ready.apart.result_spare Uniform t j) ∙ st.result;
    results = st.results;
    own_arrays = st.own_arrays;
    arrays_are = st.arrays_are;
    out_is = st.out_is;
    run = run_place w.layout.run w.start w.members (c.scalars (w.layout.place Uniform))
        (put c.scalars (w.layout.spare Uniform t j) (sole x) (w.layout.place Uniform)) s.varying
        (sym (put_other c.scalars (w.layout.spare Uniform t j) (sole x) (w.layout.place Uniform) (ready.apart.place_spare Uniform t j))) st.run;
    known = known_put w.function.variables w.layout w.members c.scalars (w.layout.spare Uniform t j) (sole x) s.varying (λ v k. ready.apart.variable_spare Uniform t v j) st.known;
    constants = scalar_put w.layout (gang_of w) c.scalars c.vectors (w.layout.spare Uniform t j) (sole x) (λ u b k. ready.apart.kept_spare Uniform u b t j k) st.constants;
  }
  set_stands Varying c t j x s st =
      let y = over (spread nobody x) (c.vectors (w.layout.spare Varying t j)) in
      record {
        uniforms = st.uniforms;
        varying = λ v. put_other c.vectors (w.layout.spare Varying t j) y (w.layout.variable Varying v) (ready.apart.variable_spare Varying t v j) ∙ st.varying v;
        result = st.result;
        results = put_other c.vectors (w.layout.spare Varying t j) y (w.layout.result Varying) (ready.apart.result_spare Varying t j) ∙ st.results;
        own_arrays = st.own_arrays;
        arrays_are = st.arrays_are;
        out_is = st.out_is;
        run = st.run;
        known = st.known;
        constants = vector_put w.layout (gang_of w) c.scalars c.vectors (w.layout.spare Varying t j) y (λ u b k. ready.apart.kept_spare Varying u b t j k) st.constants;
      }

  pub set_holds : (r : Rate) (c : Conf) (d : ℕ) (a : Mask) (x : Payload) → Filled r a x → x ≡ held_at r (set_at r c d x).scalars (set_at r c d x).vectors a d
  set_holds Uniform c d a x f = sym (ap One (put_same c.scalars d (sole x)) ∙ f)
  set_holds Varying c d a x f = sym (ap (λ v. Each (on a v)) (put_same c.vectors d (over (spread nobody x) (c.vectors d))) ∙ f (c.vectors d))

  -- one instruction that writes slot n, or traps
  pub write_any : (c c2 : Conf) (t pc pc' n q : ℕ) (a : Mask) (s : State) (i : Instr) (r : Rate) (e : Elem) (o : Option ℕ) (kind : TrapKind)
      (sp : Span) (x y : Payload) → Comes w c t c2 → At w c2 pc → pc + 1 ≡ pc' → slice_get w.routine.code pc ≡ Some i → Stands w s c2
      → Spares w n c c2 → ((r : ℕ) → r < n → c2.masks r ≡ c.masks r) → t + 1 + q ≤ 32 * s.work
      → (o ≡ None → at_rate r a x ≡ held_at r (set_at r c2 (w.layout.spare r e n) y).scalars (set_at r c2 (w.layout.spare r e n) y).vectors a
      (w.layout.spare r e n)) → act w.code w.routine c2 i ≡ moved_by o kind sp (set_at r c2 (w.layout.spare r e n) y)
      → Runs w c pc' n q (Holds r a (w.layout.spare r e n)) (checked o kind sp s x)
  write_any c c2 t pc pc' n q a s i r e None kind sp x y h at to has st ke ma le ex is = record {
    conf = set_at r c2 (w.layout.spare r e n) y;
    steps = t + 1;
    comes = comes_on w c c2 (set_at r c2 (w.layout.spare r e n) y) t 1 h (set_comes r c2 (w.layout.spare r e n) y pc i at has is);
    at = at_to w (set_at r c2 (w.layout.spare r e n) y) (pc + 1) pc' (set_goes r c2 (w.layout.spare r e n) y pc at) to;
    stands = set_stands r c2 e n y s st;
    spares = spares_on w n c c2 (set_at r c2 (w.layout.spare r e n) y) ke (set_spares r c2 e n n y (omega arith));
    masks = λ k lt. set_masks r c2 (w.layout.spare r e n) y k ∙ ma k lt;
    holds = ex refl;
    bound = le;
  }
  write_any c c2 t pc pc' n q a s i r e (Some p) kind sp x y h at to has st ke ma le ex is =
      record { conf = c2; steps = t + 1; fails = fails_on w c c2 c2 t 1 (trap kind sp p) h (step_fail w c2 pc i (trap kind sp p) ready at has is); arrays_are = st.arrays_are; out_is = st.out_is; bound = le }

  pub write_checked : (c c2 : Conf) (t pc pc' n q : ℕ) (a : Mask) (s : State) (i : Instr) (r : Rate) (e : Elem) (o : Option ℕ) (kind : TrapKind)
      (sp : Span) (x y : Payload) → Comes w c t c2 → At w c2 pc → pc + 1 ≡ pc' → slice_get w.routine.code pc ≡ Some i → Stands w s c2
      → Spares w n c c2 → ((r : ℕ) → r < n → c2.masks r ≡ c.masks r) → t + 1 + q ≤ 32 * s.work → (o ≡ None → at_rate r a x ≡ y) → Filled r a y
      → act w.code w.routine c2 i ≡ moved_by o kind sp (set_at r c2 (w.layout.spare r e n) y)
      → Runs w c pc' n q (Holds r a (w.layout.spare r e n)) (checked o kind sp s x)
  write_checked c c2 t pc pc' n q a s i r e o kind sp x y h at to has st ke ma le ex fill is = write_any c c2 t pc pc' n q a s i r e o kind sp x y h at to has st ke ma le (λ none. ex none ∙ set_holds r c2 (w.layout.spare r e n) a y fill) is

  pub write_runs : (c c2 : Conf) (t pc pc' n q : ℕ) (a : Mask) (s : State) (i : Instr) (r : Rate) (e : Elem) (o : Option ℕ) (kind : TrapKind)
      (sp : Span) (x y : Payload) → Comes w c t c2 → At w c2 pc → pc + 1 ≡ pc' → slice_get w.routine.code pc ≡ Some i → Stands w s c2
      → Spares w n c c2 → ((r : ℕ) → r < n → c2.masks r ≡ c.masks r) → t + 1 + q ≤ 32 * s.work → at_rate r a x ≡ y → Filled r a y
      → act w.code w.routine c2 i ≡ moved_by o kind sp (set_at r c2 (w.layout.spare r e n) y)
      → Runs w c pc' n q (Holds r a (w.layout.spare r e n)) (checked o kind sp s x)
  write_runs c c2 t pc pc' n q a s i r e o kind sp x y h at to has st ke ma le ex fill is = write_checked c c2 t pc pc' n q a s i r e o kind sp x y h at to has st ke ma le (λ none. ex) fill is

  -- ---- a value of one rate where another is wanted

  pub lift_runs : (c : Conf) (pc k n q : ℕ) (a : Mask) (v : Val Payload) (r given : Rate) (e : Elem) (f : ℕ) → Reaches given r → c.masks k ≡ a → k < n
      → AreAt w.routine.code pc (lift_code w.layout r given e f k n) → Runs w c pc n (1 + q) (Holds given a f) v
      → Runs w c (pc + length (lift_code w.layout r given e f k n)) n q (Holds r a (lifted w.layout r given e f n)) v
  lift_runs c pc k n q a v Uniform Uniform e f re em lt has run = runs_on c pc n 1 q _ v _ n _ run (λ x s ok. ok_less c pc _ n 1 q _ s (omega arith) ok)
  lift_runs c pc k n q a v Uniform Varying e f re em lt has run = absurd re
  lift_runs c pc k n q a v Varying Varying e f re em lt has run = runs_on c pc n 1 q _ v _ n _ run (λ x s ok. ok_less c pc _ n 1 q _ s (omega arith) ok)
  lift_runs c pc k n q a v Varying Uniform e f re em lt has run =
      runs_on c pc n 1 q _ v _ n _ run
      (λ x s ok.
      let c2 = ok.conf in
      let y = Each (on a (λ p. c2.scalars f)) in
      let is : act w.code w.routine c2 (instr.Vector (register Varying (w.layout.spare Varying e n))
      (vector.Splat (register Uniform f) (mask_register k)))
      ≡ Go (set_at Varying c2 (w.layout.spare Varying e n) y) = ap
      (λ m. Go (set_at Varying c2 (w.layout.spare Varying e n) (Each (on m (λ p. c2.scalars f))))) (ok.masks k lt ∙ em) in
      write_runs c c2 ok.steps pc _ n q a s _ Varying e None Divide no_place x y ok.comes ok.at refl has.0 ok.stands ok.spares ok.masks
      (omega (arith, ok.bound)) (ap (λ z. Each (spread a z)) ok.holds) (λ old. ap Each (filled_on a (λ p. c2.scalars f) old)) is)

  -- ---- the same run with another name for what is given

  pub renamed : {A B D : Type 0} (c : Conf) (pc n q : ℕ) (P : B → Conf → Type 0) (Q : D → Conf → Type 0) (v : Val A) (f : A → B) (g : A → D)
      → ((x : A) (c : Conf) → P (f x) c → Q (g x) c) → Runs w c pc n q P (bind v (λ x s. Gives (f x) s))
      → Runs w c pc n q Q (bind v (λ x s. Gives (g x) s))
  renamed c pc n q P Q (Gives x s) f g h r = record { conf = r.conf; steps = r.steps; comes = r.comes; at = r.at; stands = r.stands; spares = r.spares; masks = r.masks; holds = h x r.conf r.holds; bound = r.bound }
  renamed c pc n q P Q (Fails p s) f g h r = r
  renamed c pc n q P Q (Stops s) f g h r = r

  -- a value that is told as another one
  pub told_as : {A B : Type 0} (c : Conf) (pc n q : ℕ) (P : A → Conf → Type 0) (Q : B → Conf → Type 0) (v : Val A) (g : A → B) → ((x : A) (c : Conf) → P x c → Q (g x) c) → Runs w c pc n q P v → Runs w c pc n q Q (bind v (λ x s. Gives (g x) s))
  told_as c pc n q P Q (Gives x s) g h r = record { conf = r.conf; steps = r.steps; comes = r.comes; at = r.at; stands = r.stands; spares = r.spares; masks = r.masks; holds = h x r.conf r.holds; bound = r.bound }
  told_as c pc n q P Q (Fails p s) g h r = r
  told_as c pc n q P Q (Stops s) g h r = r

  pub ok_to : (c : Conf) (pc pc' n q : ℕ) (P : Conf → Type 0) (s : State) → pc ≡ pc' → Ok w c pc n q P s → Ok w c pc' n q P s
  ok_to c pc pc' n q P s e ok = subst (λ z. Ok w c z n q P s) e ok

  -- fewer slots are said to be kept
  abbrev pub ok_down : (c : Conf) (pc n m q : ℕ) (P : Conf → Type 0) (s : State) → n ≤ m → Ok w c pc m q P s → Ok w c pc n q P s
  ok_down c pc n m q P s le r = record { conf = r.conf; steps = r.steps; comes = r.comes; at = r.at; stands = r.stands; spares = spares_less w n m c r.conf le r.spares; masks = λ i lt. r.masks i (omega arith); holds = r.holds; bound = r.bound }
