-- What a variable or an element is after it is written.
use Rattle.std.proofs.Common.{◌≡◌, ◌≢◌, ℕ, zero, suc, ◌+◌, ◌*◌, ◌<◌, ◌≤◌, ◌^◌, Option, Some, None, Bool, true, false, refl, sym, ap, ◌∙◌, subst, eqb-true}
use Rattle.std.specs.Prelude.{slice_get, nat_eq, if◌then◌else◌, ◌||◌}
use Rattle.std.proofs.lemmas.Bool.{eqb-false}
use Rattle.std.proofs.Math.Path.{fun_ext}
use Rattle.isp_base.specs.Access.{is_outside, element, scatter, put_at}
use Rattle.isp_base.specs.Maps.{Lanes, Map, on, over, or_old, each1, map1, holds, lowest_failing, put}
use Rattle.isp_base.specs.Sets.{Mask, nobody, any, lowest}
use Rattle.isp_base.specs.Stores.{own_put}
use Rattle.isp_base.specs.Types.{gang_width}
use Rattle.isp_base.specs.declared.trap.TrapKind.TheVariants.{Index}
use Rattle.isp_base.specs.declared.types.Elem.{Elem}
use Rattle.isp_base.specs.declared.types.Elem.TheVariants.{I64}
use Rattle.isp_base.specs.declared.types.Rate.{Rate}
use Rattle.isp_base.specs.declared.types.Rate.TheVariants.{Uniform, Varying}
use Rattle.isp_base.specs.declared.types.Span.{Span}
use Rattle.isp_code.specs.Calls.{place_at}
use Rattle.isp_code.specs.Conf.{Conf}
use Rattle.isp_code.specs.Lines.{act, size, failing, set_array, set_own, stored, scattered}
use Rattle.isp_code.specs.Listing.{Listing, Routine}
use Rattle.isp_code.specs.Registers.{is_per_lane}
use Rattle.isp_typed.specs.declared.variable.ArrayVariable.{ArrayVariable}
use Rattle.isp_meaning.specs.State.{State, extent_at}
use Rattle.isp_meaning.specs.Payloads.{Payload, One, Each, sole, spread, mapped, offender}
use Rattle.isp_meaning.specs.Places as meant
use Rattle.isp_meaning.specs.Places.{written, own_stored, with_elements}
use Rattle.isp_lower_code.specs.Layout.{register, mask_register, array_register}
use Rattle.isp_lower_code.specs.Setting.{ArrayFitsAt, Setting, IsSettled, gang_of, At, Stands, Spares, at_rate, held_at, Holds, Allowed}
use Rattle.isp_lower_code.specs.Instructions.{write, write_by}
use Rattle.isp_lower_code.proofs.Base.{MayWrite, put_same, put_other, moved_by, comes_on, fails_on, step_go, step_fail, next_at, at_to}
use Rattle.isp_lower_code.proofs.Constants.{scalar_put, vector_put}
use Rattle.isp_lower_code.proofs.Fixed.{known_on, known_put, other_known, other_run, uniform_known}
use Rattle.isp_lower_code.proofs.Rates.{at_mapped}
use Rattle.isp_base.specs.Traps.{trap}
use Rattle.isp_base.specs.declared.trap.TrapKind.{TrapKind}
use Rattle.isp_code.specs.declared.instr.Instr.{Instr}
use Rattle.isp_meaning.specs.Outcomes.{Gives, bind, checked}
use Rattle.isp_lower_code.specs.Runs.{Comes, DoneRuns}
use Rattle.isp_lower_code.specs.Found.{is_whole}
use Rattle.isp_lower_code.proofs.Access.{as_whole, size_at, outside_is, index_element, same_elements, one_inside, map_of}
use Rattle.isp_lower_code.proofs.Rates.{at_offender}
use Rattle.isp_lower_code.proofs.Lines.{set_at, value_at, unless_is, failing_is, place_named}
use Rattle.isp_lower_code.specs.Rated.{Reaches}
use Rattle.isp_lower_code.proofs.Consecutive.{IndexHolds, RunFits, lanes_by, run_lane, run_outside_is, run_places_are, run_place, run_each}
use Rattle.isp_base.specs.Cross.{run_outside, run_places}
use Rattle.isp_base.specs.Values.{number}

-- functions that agree, changed at one place each, where one numbers the other
pub put_through : {A : Type 0} (f g : ℕ → A) (h : ℕ → ℕ) (d : ℕ) (x y : A) → ((u v : ℕ) → u ≢ v → h u ≢ h v) → x ≡ y → (u : ℕ) → f (h u) ≡ g u → put f (h d) x (h u) ≡ put g d y u
put_through f g h d x y apart ex u same = go (nat_eq u d) refl
  where
    go : (b : Bool) → nat_eq u d ≡ b → put f (h d) x (h u) ≡ put g d y u
    go true e =
        let eu : u ≡ d = eqb-true u d e in
        subst (λ z. put f (h d) x (h z) ≡ put g d y z) (sym eu) (put_same f (h d) x ∙ ex ∙ sym (put_same g d y))
    go false e =
        let ne : u ≢ d = eqb-false u d e in
        put_other f (h d) x (h u) (apart u d ne) ∙ same ∙ sym (put_other g d y u ne)

-- one value stored at one place by all of a set with members
scatter_one : (n : ℕ) (a : Mask) (i x : ℕ) (f : Lanes) → scatter n (on a (λ p. i)) (on a (λ p. x)) f ≡ (if any n a then put f i x else f)
scatter_one zero a i x f = refl
scatter_one (suc n) a i x f = ap (put_at (on a (λ p. i) n) (on a (λ p. x) n)) (scatter_one n a i x f) ∙ go (any n a) (a n)
  where
    twice : put (put f i x) i x ≡ put f i x
    twice = fun_ext (λ r. at (nat_eq r i) r)
      where
        at : (b : Bool) (r : ℕ) → (if b then x else (if b then x else f r)) ≡ (if b then x else f r)
        at true r = refl
        at false r = refl

    go : (b d : Bool) → put_at (if d then Some i else None) (if d then Some x else None) (if b then put f i x else f) ≡ (if b || d then put f i x else f)
    go true true = twice
    go true false = refl
    go false true = refl
    go false false = refl

-- what is stored, by maps alone
pub stored_is : (gang : ℕ) (a : Mask) (i x : Payload) (f : Lanes) → any gang a ≡ true → meant.stored gang a i x f ≡ scatter gang (spread a i) (spread a x) f
stored_is gang a (One i) (One x) f some = sym (scatter_one gang a i x f ∙ ap (λ b. if b then put f i x else f) some)
stored_is gang a (One i) (Each x) f some = refl
stored_is gang a (Each i) x f some = refl

-- each lane's own value at its own place
pub own_is : (a : Mask) (places : Map) (y : Lanes) (f : ℕ → Lanes) → ((p : ℕ) → a p ≡ false → places p ≡ None) → own_stored places (on a y) f ≡ own_put places y f
own_is a places y f out = fun_ext (λ e. fun_ext (λ p. at e p (a p) refl))
  where
    at : (e p : ℕ) (b : Bool) → a p ≡ b → own_stored places (on a y) f e p ≡ own_put places y f e p
    at e p true h = ap (λ b. if holds (λ i. nat_eq i e) (places p) then or_old (if b then Some (y p) else None) (f e p) else f e p) h
    at e p false h = ap (λ o. if holds (λ i. nat_eq i e) o then or_old (on a y p) (f e p) else f e p) (out p h) ∙ sym (ap (λ o. if holds (λ i. nat_eq i e) o then y p else f e p) (out p h))

-- ---- instructions that store

abbrev pub wrote : Listing → Routine → Conf → Rate → ℕ → ℕ → ℕ → ℕ → Conf
wrote code h c Uniform b i x k = stored code h c (array_register b) (register Uniform i) (register Uniform x)
wrote code h c Varying b i x k = scattered code h c (is_per_lane h (array_register b)) (array_register b) (register Varying i) (register Varying x) (mask_register k)

pub write_line : (code : Listing) (h : Routine) (c : Conf) (r : Rate) (b i x k q : ℕ) → any (gang_width code.gang) (c.masks k) ≡ true
    → act code h c (write r b i x k q) ≡ moved_by (offender (gang_width code.gang) (is_outside I64 (size code h c (array_register b))) (c.masks k)
    (value_at r c k i)) Index (place_at code q) (wrote code h c r b i x k)
write_line code h c Uniform b i x k q some =
    unless_is code h c (failing code h c (is_outside I64 (size code h c (array_register b)) (c.scalars i)) (mask_register k)) Index q (wrote code h c Uniform b i x k) (λ c1. c1)
    ∙ ap (λ z. moved_by z Index (place_at code q) (wrote code h c Uniform b i x k)) (failing_is code h c (is_outside I64 (size code h c (array_register b)) (c.scalars i)) k (is_outside I64 (size code h c (array_register b))) some)
write_line code h c Varying b i x k q some =
    unless_is code h c (lowest_failing (gang_width code.gang) (is_outside I64 (size code h c (array_register b))) (on (c.masks k) (c.vectors i))) Index q (wrote code h c Varying b i x k) (λ c1. c1)

-- the same by an index in each lane, or as a run
abbrev pub wrote_by : Bool → Listing → Routine → Conf → Rate → ℕ → ℕ → ℕ → ℕ → Conf
wrote_by true code h c r b i x k =
    set_array c (array_register b) (scatter (gang_width code.gang) (map1 (element I64) (on (c.masks k) (run_lane (c.scalars i)))) (on (c.masks k) (c.vectors x)) (c.arrays (c.home.named b)))
wrote_by false code h c r b i x k = wrote code h c r b i x k

pub write_by_line : (z : Bool) (br : Rate) (code : Listing) (h : Routine) (c : Conf) (r : Rate) (b i x k q : ℕ)
    → any (gang_width code.gang) (c.masks k) ≡ true → RunFits z br r (c.masks k) (c.scalars i)
    → act code h c (write_by z r b i x k q) ≡ moved_by
    (offender (gang_width code.gang) (is_outside I64 (size code h c (array_register b))) (c.masks k)
    (held_at r c.scalars (lanes_by z c.scalars c.vectors) (c.masks k) i)) Index (place_at code q) (wrote_by z code h c r b i x k)
write_by_line false br code h c r b i x k q some f = write_line code h c r b i x k q some
write_by_line true br code h c Uniform b i x k q some f = let no = f.1 in absurd (cc)
write_by_line true br code h c Varying b i x k q some f =
    let a = c.masks k in
    let at = c.scalars i in
    let g = gang_width code.gang in
    let n = size code h c (array_register b) in
    let put_at_places = λ (m : Map). set_array c (array_register b) (scatter g m (on a (c.vectors x)) (c.arrays (c.home.named b))) in
    unless_is code h c (lowest g (run_outside n (number I64 at) a)) Index q (put_at_places (run_places (number I64 at) a)) (λ c1. c1)
    ∙ ap (λ m. moved_by (lowest g m) Index (place_at code q) (put_at_places (run_places (number I64 at) a))) (run_outside_is a at f.2 n)
    ∙ ap (λ m. moved_by (lowest_failing g (is_outside I64 n) (on a (run_lane at))) Index (place_at code q) (put_at_places m)) (run_places_are a at f.2)

-- ---- a variable is written

module _ (w : Setting) (ready : IsSettled w) where
  pub written_stands : (r : Rate) (v : ℕ) (c : Conf) (a : Mask) (m : Payload) (s : State) (y : Payload) → Stands w s c → at_rate r a m ≡ y → MayWrite w r v → Stands w (written r v a m s) (set_at r c (w.layout.variable r v) y)
  written_stands Uniform v c a m s y st e other = record {
    uniforms = λ u is. put_through c.scalars s.uniforms (w.layout.variable Uniform) v (sole y) (sole m) (ready.apart.variables Uniform) (ap sole (sym e)) u (st.uniforms u is);
    varying = st.varying;
    result = put_other c.scalars (w.layout.variable Uniform v) (sole y) (w.layout.result Uniform) (ready.apart.result_variable Uniform v) ∙ st.result;
    results = st.results;
    own_arrays = st.own_arrays;
    arrays_are = st.arrays_are;
    out_is = st.out_is;
    run = run_place w.layout.run w.start w.members (c.scalars (w.layout.place Uniform))
        (put c.scalars (w.layout.variable Uniform v) (sole y) (w.layout.place Uniform)) s.varying
        (sym (put_other c.scalars (w.layout.variable Uniform v) (sole y) (w.layout.place Uniform) (ready.apart.place_variable Uniform v))) st.run;
    known = known_put w.function.variables w.layout w.members c.scalars (w.layout.variable Uniform v) (sole y) s.varying (λ u k. ready.apart.variables Uniform u v (uniform_known w ready v u other.1 k)) st.known;
    constants = scalar_put w.layout (gang_of w) c.scalars c.vectors (w.layout.variable Uniform v) (sole y) (λ t b k. ready.apart.kept_variable Uniform t b v k) st.constants;
  }
  written_stands Varying v c a m s y st e other =
      let x = over (spread nobody y) (c.vectors (w.layout.variable Varying v)) in
      record {
        uniforms = st.uniforms;
        varying = λ u. put_through
            c.vectors s.varying (w.layout.variable Varying) v x (over (spread a m) (s.varying v)) (ready.apart.variables Varying)
            (ap (λ z. over (spread nobody z) (c.vectors (w.layout.variable Varying v))) (sym e) ∙ ap (over (spread a m)) (st.varying v)) u (st.varying u);
        result = st.result;
        results = put_other c.vectors (w.layout.variable Varying v) x (w.layout.result Varying) (ready.apart.result_variable Varying v) ∙ st.results;
        own_arrays = st.own_arrays;
        arrays_are = st.arrays_are;
        out_is = st.out_is;
        run = run_each w.layout.run w.start w.members (c.scalars (w.layout.place Uniform)) s.varying (put s.varying v (over (spread a m) (s.varying v))) (λ i ei. sym (put_other s.varying v (over (spread a m) (s.varying v)) i (other_run w v i other.0 ei))) st.run;
        known = known_on w.function.variables w.layout w.members c.scalars c.scalars s.varying (put s.varying v (over (spread a m) (s.varying v))) (λ u k. refl) (λ u k. put_other s.varying v (over (spread a m) (s.varying v)) u (other_known w v u other.0 k)) st.known;
        constants = vector_put w.layout (gang_of w) c.scalars c.vectors (w.layout.variable Varying v) x (λ t b k. ready.apart.kept_variable Varying t b v k) st.constants;
      }

  -- one instruction that changes the state, or traps
  pub step_done : {A : Type 0} (c c2 c3 : Conf) (t pc pc' n q : ℕ) (i : Instr) (o : Option ℕ) (kind : TrapKind) (sp : Span) (m : A) (s : State)
      (go : A → State → State) → Comes w c t c2 → At w c2 pc → pc + 1 ≡ pc' → slice_get w.routine.code pc ≡ Some i
      → act w.code w.routine c2 i ≡ moved_by o kind sp c3 → record c3 { out = c2.out } ≡ c3 → At w c3 (pc + 1) → Stands w s c2
      → (o ≡ None → Stands w (go m s) c3) → Spares w n c c3 → ((r : ℕ) → r < n → c3.masks r ≡ c.masks r) → t + 1 + q ≤ 32 * s.work
      → t + 1 + q ≤ 32 * (go m s).work → DoneRuns w c pc' n q (bind (checked o kind sp s m) (λ x s3. Gives tt (go x s3)))
  step_done c c2 c3 t pc pc' n q i None kind sp m s go h at to has is out at3 st st3 spares masks le le2 = record {
    conf = c3;
    steps = t + 1;
    comes = comes_on w c c2 c3 t 1 h (subst (λ z. Comes w c2 1 z) out (step_go w c2 pc i c3 ready at has is));
    at = at_to w c3 (pc + 1) pc' at3 to;
    stands = st3 refl;
    spares = spares;
    masks = masks;
    bound = le2;
  }
  step_done c c2 c3 t pc pc' n q i (Some p) kind sp m s go h at to has is out at3 st st3 spares masks le le2 =
      record { conf = c2; steps = t + 1; fails = fails_on w c c2 c2 t 1 (trap kind sp p) h (step_fail w c2 pc i (trap kind sp p) ready at has is); arrays_are = st.arrays_are; out_is = st.out_is; bound = le }

  -- ---- an element is written

  -- indices of a set, as elements
  places_are : (t : Elem) (z : Bool) (i : Payload) (a : Mask) (v : Lanes) (g : ℕ) → is_whole t ≡ z → g ≤ 2 ^ 63 → ((p : ℕ) → a p ≡ true → Allowed w p)
      → at_rate Varying a (mapped (as_whole z t) i) ≡ Each (on a v) → offender (gang_of w) (is_outside t g) a i ≡ None
      → map1 (element I64) (on a v) ≡ spread a (mapped (element t) i)
  places_are t z i a v g ez few inside hold none =
      sym (ap map_of (at_mapped Varying a (element t) i)
      ∙ same_elements (gang_of w) g z t a (spread a i) v (λ e p. e) ez few (λ p h. (inside p h).0)
      (sym (at_offender Varying (gang_of w) a (is_outside t g) i) ∙ none) (ap map_of (sym (at_mapped Varying a (as_whole z t) i) ∙ hold)))

  pub arrays_put : (c : Conf) (s : State) (n n' : ℕ) (x y : Lanes) → c.arrays ≡ s.arrays → n ≡ n' → x ≡ y → put c.arrays n x ≡ put s.arrays n' y
  arrays_put c s n n' x y ea en ex = ap (λ z. put z n x) ea ∙ ap (λ z. put s.arrays z x) en ∙ ap (put s.arrays n') ex

  pub named_is : (b : ArrayVariable) (c : Conf) (pc : ℕ) → At w c pc → w.home.named (w.layout.array b.number) ≡ w.frame.named b.number → c.home.named (w.layout.array b.number) ≡ w.frame.named b.number
  named_is b c pc at e = ap (λ h. h.named (w.layout.array b.number)) at.home_is ∙ e

  none_out : (a : Mask) (v : Lanes) (p : ℕ) → a p ≡ false → map1 (element I64) (on a v) p ≡ None
  none_out a v p e = ap (λ b. each1 (element I64) (if b then Some (v p) else None)) e

  -- what the instruction does, in the words of the meaning
  store_line : (z : Bool) (r br : Rate) (y : ArrayVariable) (t : Elem) (i : Payload) (a : Mask) (c2 : Conf) (pc k j x p : ℕ) (sp : Span)
      → ArrayFitsAt w br y → extent_at br w.frame y.number ≤ 2 ^ 63 → any (gang_of w) a ≡ true → At w c2 pc → slice_get w.code.places p ≡ Some sp
      → c2.masks k ≡ a → IndexHolds z br r a j (mapped (as_whole (is_whole t) t) i) c2.scalars c2.vectors
      → act w.code w.routine c2 (write_by z r (w.layout.array y.number) j x k p)
      ≡ moved_by (offender (gang_of w) (is_outside t (extent_at br w.frame y.number)) a i) Index sp
      (wrote_by z w.code w.routine c2 r (w.layout.array y.number) j x k)
  store_line z r br y t i a c2 pc k j x p sp fy few some at place em hold =
      let c3 = wrote_by z w.code w.routine c2 r (w.layout.array y.number) j x k in
      let ve = lanes_by z c2.scalars c2.vectors in
      write_by_line z br w.code w.routine c2 r (w.layout.array y.number) j x k p (ap (any (gang_of w)) em ∙ some) (subst (λ m. RunFits z br r m (c2.scalars j)) (sym em) hold.fits)
      ∙ ap (λ u. moved_by (offender (gang_of w) (is_outside I64 (size w.code w.routine c2 (array_register (w.layout.array y.number)))) u (held_at r c2.scalars ve u j)) Index (place_at w.code p) c3) em
      ∙ ap (λ u. moved_by (offender (gang_of w) (is_outside I64 u) a (held_at r c2.scalars ve a j)) Index (place_at w.code p) c3) (size_at w br y c2 pc ready.sizes at fy)
      ∙ ap (λ u. moved_by u Index (place_at w.code p) c3) (outside_is w r t (is_whole t) i a c2.scalars ve j (extent_at br w.frame y.number) refl few hold.holds)
      ∙ ap (λ u. moved_by (offender (gang_of w) (is_outside t (extent_at br w.frame y.number)) a i) Index u c3) (place_named w.code w.routine c2 p sp place)

  -- elements of an array that all share
  shared_line : (z : Bool) (y : ArrayVariable) (t : Elem) (i : Payload) (a : Mask) (c2 : Conf) (pc k j x p : ℕ) (sp : Span) → ArrayFitsAt w Uniform y
      → extent_at Uniform w.frame y.number ≤ 2 ^ 63 → any (gang_of w) a ≡ true → At w c2 pc → slice_get w.code.places p ≡ Some sp → c2.masks k ≡ a
      → IndexHolds z Uniform Varying a j (mapped (as_whole (is_whole t) t) i) c2.scalars c2.vectors
      → act w.code w.routine c2 (write_by z Varying (w.layout.array y.number) j x k p)
      ≡ moved_by (offender (gang_of w) (is_outside t (extent_at Uniform w.frame y.number)) a i) Index sp
      (set_array c2 (array_register (w.layout.array y.number))
      (scatter (gang_of w) (map1 (element I64) (on (c2.masks k) (lanes_by z c2.scalars c2.vectors j))) (on (c2.masks k) (c2.vectors x))
      (c2.arrays (c2.home.named (w.layout.array y.number)))))
  shared_line true y t i a c2 pc k j x p sp fy few some at place em hold = store_line true Varying Uniform y t i a c2 pc k j x p sp fy few some at place em hold
  shared_line false y t i a c2 pc k j x p sp fy few some at place em hold =
      let o = offender (gang_of w) (is_outside t (extent_at Uniform w.frame y.number)) a i in
      store_line false Varying Uniform y t i a c2 pc k j x p sp fy few some at place em hold
      ∙ ap (λ u. moved_by o Index sp (scattered w.code w.routine c2 u (array_register (w.layout.array y.number)) (register Varying j) (register Varying x) (mask_register k))) fy.0

  pub element_done : (z : Bool) (r br : Rate) (y : ArrayVariable) (t : Elem) (i m : Payload) (a : Mask) (s : State) (c c2 : Conf)
      (st pc pc' k j x n q p : ℕ) (sp : Span) → ArrayFitsAt w br y → Reaches br r → extent_at br w.frame y.number ≤ 2 ^ 63 → any (gang_of w) a ≡ true
      → ((p : ℕ) → a p ≡ true → Allowed w p) → Comes w c st c2 → At w c2 pc → pc + 1 ≡ pc'
      → slice_get w.routine.code pc ≡ Some (write_by z r (w.layout.array y.number) j x k p) → slice_get w.code.places p ≡ Some sp → Stands w s c2
      → Spares w n c c2 → ((r : ℕ) → r < n → c2.masks r ≡ c.masks r) → c2.masks k ≡ a → st + 1 + q ≤ 32 * s.work
      → IndexHolds z br r a j (mapped (as_whole (is_whole t) t) i) c2.scalars c2.vectors → Holds r a x m c2
      → DoneRuns w c pc' n q (bind (checked (offender (gang_of w) (is_outside t (extent_at br w.frame y.number)) a i) Index sp s m)
      (λ b s3. Gives tt (with_elements w.frame y t i a (gang_of w) br b s3)))
  element_done true Uniform br y t i m a s c c2 st pc pc' k j x n q p sp fy re few some inside h at to has place stands spares masks em le hold hx = let no = hold.fits.1 in absurd (cc)
  element_done true Varying Varying y t i m a s c c2 st pc pc' k j x n q p sp fy re few some inside h at to has place stands spares masks em le hold hx = let no = hold.fits.0 in absurd (cc)
  element_done false Uniform Varying y t i m a s c c2 st pc pc' k j x n q p sp fy re few some inside h at to has place stands spares masks em le hold hx = absurd re
  element_done false Uniform Uniform y t (Each i) m a s c c2 st pc pc' k j x n q p sp fy re few some inside h at to has place stands spares masks em le hold hx = let no = hold.holds in absurd (cc)
  element_done false Uniform Uniform y t (One i) m a s c c2 st pc pc' k j x n q p sp fy re few some inside h at to has place stands spares masks em le hold hx =
      let A = w.layout.array y.number in
      let N = c2.home.named A in
      let F = put (c2.arrays N) (element I64 (c2.scalars j)) (c2.scalars x) in
      let c3 = set_array c2 (array_register A) F in
      step_done c c2 c3 st pc pc' n q (write Uniform A j x k p) (offender (gang_of w) (is_outside t (extent_at Uniform w.frame y.number)) a (One i))
      Index sp m s (with_elements w.frame y t (One i) a (gang_of w) Uniform) h at to has
      (store_line false Uniform Uniform y t (One i) a c2 pc k j x p sp fy few some at place em hold) refl (next_at w c2 c3 pc at refl refl refl)
      stands
      (λ none.
      let fine : is_outside t (extent_at Uniform w.frame y.number) i ≡ false = one_inside (gang_of w) a (is_outside t (extent_at Uniform w.frame y.number)) i some none in
      let ei : element I64 (c2.scalars j) ≡ element t i = ap (element I64) (sym (ap sole hold.holds)) ∙ index_element (is_whole t) t (extent_at Uniform w.frame y.number) i refl few fine in
      let en : N ≡ w.frame.named y.number = named_is y c2 pc at fy.1 in
      let ef : F ≡ meant.stored (gang_of w) a (One (element t i)) m (s.arrays (w.frame.named y.number)) = ap (λ u. put (c2.arrays N) u (c2.scalars x))
      ei ∙ ap (λ g. put (g N) (element t i) (c2.scalars x)) stands.arrays_are ∙ ap (λ u. put (s.arrays u) (element t i) (c2.scalars x)) en
      ∙ ap (λ u. meant.stored (gang_of w) a (One (element t i)) u (s.arrays (w.frame.named y.number))) (sym hx) in
      record {
        uniforms = stands.uniforms;
        varying = stands.varying;
        result = stands.result;
        results = stands.results;
        own_arrays = stands.own_arrays;
        known = stands.known;
        arrays_are = arrays_put c2 s N (w.frame.named y.number) F _ stands.arrays_are en ef;
        out_is = stands.out_is;
        run = stands.run;
        constants =
            stands.constants;
      })
      spares masks le le
  element_done z Varying Uniform y t i m a s c c2 st pc pc' k j x n q p sp fy re few some inside h at to has place stands spares masks em le hold hx =
      let A = w.layout.array y.number in
      let N = c2.home.named A in
      let V = lanes_by z c2.scalars c2.vectors j in
      let F = scatter (gang_of w) (map1 (element I64) (on (c2.masks k) V)) (on (c2.masks k) (c2.vectors x)) (c2.arrays N) in
      let c3 = set_array c2 (array_register A) F in
      let o = offender (gang_of w) (is_outside t (extent_at Uniform w.frame y.number)) a i in
      step_done c c2 c3 st pc pc' n q (write_by z Varying A j x k p) o Index sp m s (with_elements w.frame y t i a (gang_of w) Uniform) h at to has
      (shared_line z y t i a c2 pc k j x p sp fy few some at place em hold) refl (next_at w c2 c3 pc at refl refl refl) stands
      (λ none.
      let en : N ≡ w.frame.named y.number = named_is y c2 pc at fy.1 in
      let ex : on a (c2.vectors x) ≡ spread a m = sym (ap map_of hx) in
      let ef : F ≡ meant.stored (gang_of w) a (mapped (element t) i) m (s.arrays (w.frame.named y.number)) =
      ap (λ g. scatter (gang_of w) (map1 (element I64) (on g V)) (on g (c2.vectors x)) (c2.arrays N)) em
      ∙ ap (λ g. scatter (gang_of w) g (on a (c2.vectors x)) (c2.arrays N)) (places_are t (is_whole t) i a V (extent_at Uniform w.frame y.number) refl few inside hold.holds none)
      ∙ ap (λ g. scatter (gang_of w) (spread a (mapped (element t) i)) g (c2.arrays N)) ex
      ∙ ap (λ g. scatter (gang_of w) (spread a (mapped (element t) i)) (spread a m) (g N)) stands.arrays_are
      ∙ ap (λ u. scatter (gang_of w) (spread a (mapped (element t) i)) (spread a m) (s.arrays u)) en
      ∙ sym (stored_is (gang_of w) a (mapped (element t) i) m (s.arrays (w.frame.named y.number)) some) in
      record {
        uniforms = stands.uniforms;
        varying = stands.varying;
        result = stands.result;
        results = stands.results;
        own_arrays = stands.own_arrays;
        known = stands.known;
        arrays_are = arrays_put c2 s N (w.frame.named y.number) F _ stands.arrays_are en ef;
        out_is = stands.out_is;
        run = stands.run;
        constants =
            stands.constants;
      })
      spares masks le le
  element_done false Varying Varying y t i m a s c c2 st pc pc' k j x n q p sp fy re few some inside h at to has place stands spares masks em le hold hx =
      let A = w.layout.array y.number in
      let F = own_put (map1 (element I64) (on (c2.masks k) (c2.vectors j))) (c2.vectors x) (c2.own A) in
      let c3 = set_own c2 (array_register A) F in
      let o = offender (gang_of w) (is_outside t (extent_at Varying w.frame y.number)) a i in
      step_done c c2 c3 st pc pc' n q (write Varying A j x k p) o Index sp m s (with_elements w.frame y t i a (gang_of w) Varying) h at to has
      (store_line false Varying Varying y t i a c2 pc k j x p sp fy few some at place em hold
      ∙ ap (λ u. moved_by o Index sp (scattered w.code w.routine c2 u (array_register A) (register Varying j) (register Varying x)
      (mask_register k))) fy.0) refl (next_at w c2 c3 pc at refl refl refl) stands
      (λ none.
      let ex : on a (c2.vectors x) ≡ spread a m = sym (ap map_of hx) in
      let ef : F ≡ own_stored (spread a (mapped (element t) i)) (spread a m) (s.own y.number) =
      ap (λ g. own_put (map1 (element I64) (on g (c2.vectors j))) (c2.vectors x) (c2.own A)) em
      ∙ sym (own_is a (map1 (element I64) (on a (c2.vectors j))) (c2.vectors x) (c2.own A) (none_out a (c2.vectors j)))
      ∙ ap (λ g. own_stored g (on a (c2.vectors x)) (c2.own A)) (places_are t (is_whole t) i a (c2.vectors j) (extent_at Varying w.frame y.number) refl few inside hold.holds none)
      ∙ ap (λ g. own_stored (spread a (mapped (element t) i)) g (c2.own A)) ex
      ∙ ap (own_stored (spread a (mapped (element t) i)) (spread a m)) (stands.own_arrays y.number) in
      record {
        uniforms = stands.uniforms;
        varying = stands.varying;
        result = stands.result;
        results = stands.results;
        known = stands.known;
        own_arrays = λ v. put_through c2.own s.own w.layout.array y.number F _ ready.apart.arrays ef v (stands.own_arrays v);
        arrays_are = stands.arrays_are;
        out_is = stands.out_is;
        run =
            stands.run;
        constants = stands.constants;
      })
      spares masks le le
