-- Packed calls: the members of a set and consecutive elements, from the number of the first on, as code has it.
use Rattle.std.proofs.Common.{◌≡◌, ℕ, zero, suc, ◌+◌, ◌*◌, ◌<◌, ◌≤◌, ◌^◌, Option, Some, None, Bool, true, false, refl, sym, ap, ◌∙◌, subst, arith, ℤ, pos, inl, inr}
use Rattle.std.specs.Prelude.{slice_get, ◌&&◌, ◌+ℤ◌, if◌then◌else◌, unsigned_abs}
use Rattle.std.proofs.lemmas.Int.{ints}
use Rattle.isp_base.specs.Access.{is_beyond, scatter}
use Rattle.isp_base.specs.Cross.{rank, packed_index, packed_outside, packed_places}
use Rattle.isp_base.specs.Maps.{Map, on, over, put}
use Rattle.isp_base.specs.Sets.{Mask, nobody, any, lowest, or_this}
use Rattle.isp_base.specs.Traps.{trap}
use Rattle.isp_base.specs.Types.{gang_width}
use Rattle.isp_base.specs.Values.{number}
use Rattle.isp_base.specs.declared.trap.TrapKind.TheVariants.{Index}
use Rattle.isp_base.specs.declared.types.Elem.{Elem}
use Rattle.isp_base.specs.declared.types.Elem.TheVariants.{I32, I64}
use Rattle.isp_base.specs.declared.types.Rate.TheVariants.{Uniform, Varying}
use Rattle.isp_base.specs.declared.types.Span.{Span}
use Rattle.isp_code.specs.Calls.{place_at}
use Rattle.isp_code.specs.Conf.{Conf}
use Rattle.isp_code.specs.Lines.{act, size, packed_stored, packed_loaded}
use Rattle.isp_code.specs.Listing.{Listing, Routine}
use Rattle.isp_code.specs.declared.instr.Instr.{Instr}
use Rattle.isp_meaning.specs.Expressions.{packed_held, packed_kept}
use Rattle.isp_meaning.specs.Outcomes.{Gives, bind, checked}
use Rattle.isp_meaning.specs.Payloads.{Payload, One, Each, spread}
use Rattle.isp_meaning.specs.Places.{written}
use Rattle.isp_meaning.specs.State.{State, extent}
use Rattle.isp_typed.specs.declared.variable.ArrayVariable.{ArrayVariable}
use Rattle.isp_lower_code.specs.Found.{is_whole}
use Rattle.isp_lower_code.specs.Instructions.{packed_store, packed_load}
use Rattle.isp_lower_code.specs.Layout.{register, mask_register, array_register}
use Rattle.isp_lower_code.specs.Runs.{Comes}
use Rattle.isp_lower_code.specs.Setting.{ArrayFits, ArrayFitsAt, Setting, IsSettled, gang_of, At, Stands, Spares, Holds, IsOther}
use Rattle.isp_lower_code.proofs.Access.{as_whole, size_at}
use Rattle.isp_lower_code.proofs.Base.{comes_on, fails_on, step_go, step_fail, moved_by, spares_on}
use Rattle.isp_lower_code.proofs.Done.{variable_spares}
use Rattle.isp_lower_code.proofs.Found.{whole_is}
use Rattle.isp_lower_code.proofs.Lines.{set_at, unless_is, place_named}
use Rattle.isp_lower_code.proofs.Rates.{some_lowest}
use Rattle.isp_lower_code.proofs.Targets.{Target, InSlot, InVariable, target, Leaves, came_leaves}
use Rattle.isp_lower_code.proofs.Values.{IsFirst, past_is, whole_first}
use Rattle.isp_lower_code.proofs.Writes.{arrays_put, named_is, written_stands}

-- ---- the number of the first element

-- what code has of an index
pub first_is : (b : Bool) (t : Elem) (x : ℕ) → is_whole t ≡ b → IsFirst (number t x) (as_whole b t x)
first_is true t x e = inl (ap (λ u. number u x) (sym (whole_is t e)))
first_is false t x e = whole_first t x

-- below the lowest member there is none
rank_none : (n : ℕ) (a : Mask) → lowest n a ≡ None → rank a n ≡ 0
rank_none zero a e = refl
rank_none (suc n) a e = go (rank_none n a) (lowest n a) (a n) refl refl e
  where
    go : (lowest n a ≡ None → rank a n ≡ 0) → (o : Option ℕ) (b : Bool) → lowest n a ≡ o → a n ≡ b → or_this o b n ≡ None → rank a n + (if a n then 1 else 0) ≡ 0
    go ih (Some p) b e1 e2 h = absurd (cc)
    go ih None true e1 e2 h = absurd (cc)
    go ih None false e1 e2 h = ap (λ z. z + (if a n then 1 else 0)) (ih e1) ∙ ap (λ b. 0 + (if b then 1 else 0)) e2

-- a part of a set with its lowest member has the same lowest member
lowest_same : (n : ℕ) (a b : Mask) → ((p : ℕ) → b p ≡ true → a p ≡ true) → ((p : ℕ) → a p ≡ true → rank a p ≡ 0 → b p ≡ true) → lowest n b ≡ lowest n a
lowest_same zero a b part first = refl
lowest_same (suc n) a b part first = ap (λ o. or_this o (b n) n) (lowest_same n a b part first) ∙ go (lowest n a) refl
  where
    same : lowest n a ≡ None → (x y : Bool) → a n ≡ x → b n ≡ y → b n ≡ a n
    same e true true ea eb = eb ∙ sym ea
    same e false false ea eb = eb ∙ sym ea
    same e true false ea eb = let no : true ≡ false = sym (first n ea (rank_none n a e)) ∙ eb in absurd (cc)
    same e false true ea eb = let no : true ≡ false = sym (part n eb) ∙ ea in absurd (cc)

    go : (o : Option ℕ) → lowest n a ≡ o → or_this o (b n) n ≡ or_this o (a n) n
    go (Some p) e = refl
    go None e = ap (λ d. or_this None d n) (same e (a n) (b n) refl refl)

both_first : (a b : Bool) → (a && b) ≡ true → a ≡ true
both_first true b e = refl
both_first false b e = absurd (cc)

-- where the first element is past the array, the lowest member traps
all_past : (n g : ℕ) (z : ℤ) (a : Mask) → is_beyond g z ≡ true → lowest n (packed_outside g z a) ≡ lowest n a
all_past n g z a past =
    let same : z +ℤ pos 0 ≡ z = omega (arith, ints) in
    lowest_same n a (packed_outside g z a) (λ p e. both_first (a p) (is_beyond g (packed_index z a p)) e)
    (λ p e r. ap (λ d. d && is_beyond g (packed_index z a p)) e ∙ ap (λ k. is_beyond g (z +ℤ pos k)) r ∙ ap (is_beyond g) same ∙ past)

-- the same member is the lowest that is outside
first_outside : (n g : ℕ) (z : ℤ) (b : ℕ) (a : Mask) → g ≤ 2 ^ 63 → IsFirst z b → lowest n (packed_outside g (number I64 b) a) ≡ lowest n (packed_outside g z a)
first_outside n g z b a few (inl e) = ap (λ u. lowest n (packed_outside g u a)) e
first_outside n g z b a few (inr h) =
    all_past n g (number I64 b) a (ap (is_beyond g) h.4) ∙ sym (all_past n g z a (ap (is_beyond g) h.2 ∙ past_is h.0 g (omega (arith, h.3, few))))

-- and where none is, the numbers are the same
first_same : (n g : ℕ) (z : ℤ) (b : ℕ) (a : Mask) → g ≤ 2 ^ 63 → IsFirst z b → any n a ≡ true → lowest n (packed_outside g z a) ≡ None → number I64 b ≡ z
first_same n g z b a few (inl e) some none = e
first_same n g z b a few (inr h) some none =
    let all = all_past n g z a (ap (is_beyond g) h.2 ∙ past_is h.0 g (omega (arith, h.3, few))) in
    let no = some_lowest n a some ∙ sym all ∙ none in
    absurd (cc)

-- ---- the instructions

-- members have stored at consecutive elements, or loaded from them
abbrev pub with_stored : Listing → Conf → ℕ → ℤ → Mask → ℕ → Conf
with_stored code c b z a y =
    record c { arrays = put c.arrays (c.home.named b) (scatter (gang_width code.gang) (packed_places z a) (on a (c.vectors y)) (c.arrays (c.home.named b))) }

abbrev pub elements_at : Conf → ℕ → ℤ → Mask → Map
elements_at c b z a = on a (λ p. c.arrays (c.home.named b) (unsigned_abs (packed_index z a p)))

abbrev pub with_loaded : Conf → ℕ → Map → Conf
with_loaded c v x = record c { vectors = put c.vectors v (over x (c.vectors v)) }

module _ (code : Listing) (h : Routine) (c : Conf) where
  store_line : (d b i y k q : ℕ) → act code h c (packed_store d b i y k q)
      ≡ moved_by (lowest (gang_width code.gang) (packed_outside (size code h c (array_register b)) (number I64 (c.scalars i)) (c.masks k))) Index
      (place_at code q) (set_at Uniform (with_stored code c b (number I64 (c.scalars i)) (c.masks k) y) d
      (One (rank (c.masks k) (gang_width code.gang))))
  store_line d b i y k q =
      unless_is code h c (lowest (gang_width code.gang) (packed_outside (size code h c (array_register b)) (number I64 (c.scalars i)) (c.masks k)))
      Index q (packed_stored code h c (register Uniform d) (array_register b) (number I64 (c.scalars i)) (register Varying y) (mask_register k))
      (λ c1. c1)

  load_line : (d b i y k q : ℕ) → act code h c (packed_load d b i y k q)
      ≡ moved_by (lowest (gang_width code.gang) (packed_outside (size code h c (array_register b)) (number I64 (c.scalars i)) (c.masks k))) Index
      (place_at code q) (set_at Uniform (with_loaded c y (elements_at c b (number I64 (c.scalars i)) (c.masks k))) d
      (One (rank (c.masks k) (gang_width code.gang))))
  load_line d b i y k q =
      unless_is code h c (lowest (gang_width code.gang) (packed_outside (size code h c (array_register b)) (number I64 (c.scalars i)) (c.masks k)))
      Index q (packed_loaded code h c (register Uniform d) (array_register b) (number I64 (c.scalars i)) (register Varying y) (mask_register k))
      (λ c1. c1)

module _ (w : Setting) (ready : IsSettled w) where
  -- an instruction that counts, and changes the state besides, or traps
  counted_leaves : (u : Target) (c c1 c2 : Conf) (t pc pc' n q : ℕ) (a : Mask) (s : State) (i : Instr) (o : Option ℕ) (sp : Span) (count : ℕ)
      (m : Payload) (go : Payload → State → State) → Comes w c t c1 → At w c1 pc → pc + 1 ≡ pc' → slice_get w.routine.code pc ≡ Some i → Stands w s c1
      → Spares w n c c1 → act w.code w.routine c1 i ≡ moved_by o Index sp (set_at Uniform c2 (target w.layout u Uniform I32 n) (One count))
      → record (set_at Uniform c2 (target w.layout u Uniform I32 n) (One count)) { out = c1.out }
      ≡ set_at Uniform c2 (target w.layout u Uniform I32 n) (One count) → At w c2 pc → (o ≡ None → Stands w (go m s) c2) → Spares w n c c2
      → ((r : ℕ) → r < n → c2.masks r ≡ c.masks r) → t + 1 + q ≤ 32 * s.work → t + 1 + q ≤ 32 * (go m s).work
      → Leaves w u (target w.layout u Uniform I32 n) c pc' n q Uniform a (bind (checked o Index sp s m) (λ x s2. Gives (One count) (go x s2)))
  counted_leaves u c c1 c2 t pc pc' n q a s i None sp count m go h at to has st ke is out at2 st2 ke2 ma2 le le2 =
      let d = target w.layout u Uniform I32 n in
      let c3 = set_at Uniform c2 d (One count) in
      came_leaves w ready u c c2 (t + 1) pc pc' n q a (go m s) Uniform I32 (One count) (One count) (comes_on w c c1 c3 t 1 h (subst (λ z. Comes w c1 1 z) out (step_go w c1 pc i c3 ready at has is))) at2 to (st2 refl) ke2 ma2 le2 refl refl
  counted_leaves InSlot c c1 c2 t pc pc' n q a s i (Some p) sp count m go h at to has st ke is out at2 st2 ke2 ma2 le le2 =
      record { conf = c1; steps = t + 1; fails = fails_on w c c1 c1 t 1 (trap Index sp p) h (step_fail w c1 pc i (trap Index sp p) ready at has is); arrays_are = st.arrays_are; out_is = st.out_is; bound = le }
  counted_leaves (InVariable v) c c1 c2 t pc pc' n q a s i (Some p) sp count m go h at to has st ke is out at2 st2 ke2 ma2 le le2 = λ other.
      record { conf = c1; steps = t + 1; fails = fails_on w c c1 c1 t 1 (trap Index sp p) h (step_fail w c1 pc i (trap Index sp p) ready at has is); arrays_are = st.arrays_are; out_is = st.out_is; bound = le }

  -- one array for the gang
  named_here : (y : ArrayVariable) (c : Conf) (pc : ℕ) → ArrayFits w y → y.ty.rate ≡ Uniform → At w c pc → c.home.named (w.layout.array y.number) ≡ w.frame.named y.number
  named_here y c pc fy er at =
      let is : ArrayFitsAt w Uniform y = subst (λ r. ArrayFitsAt w r y) er fy.is in
      named_is w ready y c pc at is.1

  -- who traps, in the words of the meaning
  traps_are : (y : ArrayVariable) (z : ℤ) (a : Mask) (c : Conf) (pc k j p : ℕ) (sp : Span) (c3 : Mask → Conf) → ArrayFits w y → At w c pc
      → slice_get w.code.places p ≡ Some sp → c.masks k ≡ a → IsFirst z (c.scalars j)
      → moved_by (lowest (gang_of w) (packed_outside (size w.code w.routine c (array_register (w.layout.array y.number))) (number I64 (c.scalars j))
      (c.masks k))) Index (place_at w.code p) (c3 (c.masks k)) ≡ moved_by (lowest (gang_of w) (packed_outside (extent w.frame y) z a)) Index sp (c3 a)
  traps_are y z a c pc k j p sp c3 fy at place em first =
      ap (λ m. moved_by (lowest (gang_of w) (packed_outside (size w.code w.routine c (array_register (w.layout.array y.number))) (number I64 (c.scalars j)) m)) Index (place_at w.code p) (c3 m)) em
      ∙ ap (λ g. moved_by (lowest (gang_of w) (packed_outside g (number I64 (c.scalars j)) a)) Index (place_at w.code p) (c3 a)) (size_at w y.ty.rate y c pc ready.sizes at fy.is)
      ∙ ap (λ o. moved_by o Index (place_at w.code p) (c3 a)) (first_outside (gang_of w) (extent w.frame y) z (c.scalars j) a fy.few first)
      ∙ ap (λ l. moved_by (lowest (gang_of w) (packed_outside (extent w.frame y) z a)) Index l (c3 a)) (place_named w.code w.routine c p sp place)

  pub store_leaves : (u : Target) (y : ArrayVariable) (z : ℤ) (m : Payload) (a : Mask) (s : State) (c c1 : Conf) (t pc pc' k j x n q p : ℕ)
      (sp : Span) → ArrayFits w y → y.ty.rate ≡ Uniform → any (gang_of w) a ≡ true → Comes w c t c1 → At w c1 pc → pc + 1 ≡ pc'
      → slice_get w.routine.code pc ≡ Some (packed_store (target w.layout u Uniform I32 n) (w.layout.array y.number) j x k p)
      → slice_get w.code.places p ≡ Some sp → Stands w s c1 → Spares w n c c1 → ((r : ℕ) → r < n → c1.masks r ≡ c.masks r) → c1.masks k ≡ a
      → t + 1 + q ≤ 32 * s.work → IsFirst z (c1.scalars j) → Holds Varying a x m c1
      → Leaves w u (target w.layout u Uniform I32 n) c pc' n q Uniform a
      (bind (checked (lowest (gang_of w) (packed_outside (extent w.frame y) z a)) Index sp s m)
      (λ v s3. Gives (One (rank a (gang_of w))) (packed_kept (gang_of w) (w.frame.named y.number) z a v s3)))
  store_leaves u y z m a s c c1 t pc pc' k j x n q p sp fy er some h at to has place st ke ma em le first hold =
      let d = target w.layout u Uniform I32 n in
      let A = w.layout.array y.number in
      let N = c1.home.named A in
      let z1 = number I64 (c1.scalars j) in
      let c2 = with_stored w.code c1 A z1 a x in
      let F = scatter (gang_of w) (packed_places z1 a) (on a (c1.vectors x)) (c1.arrays N) in
      let en : N ≡ w.frame.named y.number = named_here y c1 pc fy er at in
      counted_leaves u c c1 c2 t pc pc' n q a s (packed_store d A j x k p) (lowest (gang_of w) (packed_outside (extent w.frame y) z a)) sp (rank a (gang_of w)) m (packed_kept (gang_of w) (w.frame.named y.number) z a) h at to has st ke
      (store_line w.code w.routine c1 d A j x k p ∙ traps_are y z a c1 pc k j p sp (λ b. set_at Uniform (with_stored w.code c1 A z1 b x) d (One (rank b (gang_of w)))) fy at place em first)
      refl
      (record { home_is = at.home_is; waiting_is = at.waiting_is; pc_is = at.pc_is })
      (λ none.
      let ez : z1 ≡ z = first_same (gang_of w) (extent w.frame y) z (c1.scalars j) a fy.few first some none in
      let ex : on a (c1.vectors x) ≡ spread a m = ap (spread nobody) (sym hold) in
      let ea : c1.arrays N ≡ s.arrays (w.frame.named y.number) = ap c1.arrays en ∙ ap (λ g. g (w.frame.named y.number)) st.arrays_are in
      let ef : F ≡ scatter (gang_of w) (packed_places z a) (spread a m) (s.arrays (w.frame.named y.number)) = ap
      (λ v. scatter (gang_of w) (packed_places v a) (on a (c1.vectors x)) (c1.arrays N)) ez
      ∙ ap (λ v. scatter (gang_of w) (packed_places z a) v (c1.arrays N)) ex ∙ ap (scatter (gang_of w) (packed_places z a) (spread a m)) ea in
      record {
        uniforms = st.uniforms;
        varying = st.varying;
        result = st.result;
        results = st.results;
        own_arrays = st.own_arrays;
        arrays_are =
            arrays_put w ready c1 s N (w.frame.named y.number) F _ st.arrays_are en ef;
        out_is = st.out_is;
        run = st.run;
        known = st.known;
        constants = st.constants;
      })
      (record { scalars_stay = ke.scalars_stay; vectors_stay = ke.vectors_stay; fresh_scalars = ke.fresh_scalars; fresh_vectors = ke.fresh_vectors; singles_stay = ke.singles_stay }) ma le le

  pub load_leaves : (u : Target) (y : ArrayVariable) (z : ℤ) (v : ℕ) (a : Mask) (s : State) (c c1 : Conf) (t pc pc' k j n q p : ℕ) (sp : Span)
      → IsOther w v → ArrayFits w y → y.ty.rate ≡ Uniform → any (gang_of w) a ≡ true → Comes w c t c1 → At w c1 pc → pc + 1 ≡ pc'
      → slice_get w.routine.code pc ≡ Some (packed_load (target w.layout u Uniform I32 n) (w.layout.array y.number) j (w.layout.variable Varying v) k
      p) → slice_get w.code.places p ≡ Some sp → Stands w s c1 → Spares w n c c1 → ((r : ℕ) → r < n → c1.masks r ≡ c.masks r) → c1.masks k ≡ a
      → t + 1 + q ≤ 32 * s.work → IsFirst z (c1.scalars j)
      → Leaves w u (target w.layout u Uniform I32 n) c pc' n q Uniform a
      (bind (checked (lowest (gang_of w) (packed_outside (extent w.frame y) z a)) Index sp s (packed_held (w.frame.named y.number) z a s))
      (λ m s3. Gives (One (rank a (gang_of w))) (written Varying v a m s3)))
  load_leaves u y z v a s c c1 t pc pc' k j n q p sp other fy er some h at to has place st ke ma em le first =
      let d = target w.layout u Uniform I32 n in
      let A = w.layout.array y.number in
      let V = w.layout.variable Varying v in
      let z1 = number I64 (c1.scalars j) in
      let x = elements_at c1 A z1 a in
      let c2 = with_loaded c1 V x in
      let m = packed_held (w.frame.named y.number) z a s in
      let en : c1.home.named A ≡ w.frame.named y.number = named_here y c1 pc fy er at in
      counted_leaves u c c1 c2 t pc pc' n q a s (packed_load d A j V k p) (lowest (gang_of w) (packed_outside (extent w.frame y) z a)) sp (rank a (gang_of w)) m (written Varying v a) h at to has st ke
      (load_line w.code w.routine c1 d A j V k p ∙ traps_are y z a c1 pc k j p sp (λ b. set_at Uniform (with_loaded c1 V (elements_at c1 A z1 b)) d (One (rank b (gang_of w)))) fy at place em first)
      refl
      (record { home_is = at.home_is; waiting_is = at.waiting_is; pc_is = at.pc_is })
      (λ none.
      let ez : z1 ≡ z = first_same (gang_of w) (extent w.frame y) z (c1.scalars j) a fy.few first some none in
      let ea : c1.arrays (c1.home.named A) ≡ s.arrays (w.frame.named y.number) = ap c1.arrays en ∙ ap (λ g. g (w.frame.named y.number)) st.arrays_are in
      let ex : Each (on a (λ p. s.arrays (w.frame.named y.number) (unsigned_abs (packed_index z a p))))
      ≡ Each x = sym (ap (λ g. Each (on a (λ p. c1.arrays (c1.home.named A) (unsigned_abs (packed_index g a p))))) ez
      ∙ ap (λ g. Each (on a (λ p. g (unsigned_abs (packed_index z a p))))) ea) in
      let g = written_stands w ready Varying v c1 a m s (Each x) st ex (other, tt) in
      record { uniforms = g.uniforms; varying = g.varying; result = g.result; results = g.results; own_arrays = g.own_arrays; arrays_are = g.arrays_are; out_is = g.out_is; run = g.run; known = g.known; constants = g.constants })
      (let k2 = spares_on w n c c1 (set_at Varying c1 V (Each x)) ke (variable_spares w ready Varying v n c1 (Each x) tt) in record { scalars_stay = k2.scalars_stay; vectors_stay = k2.vectors_stay; fresh_scalars = k2.fresh_scalars; fresh_vectors = k2.fresh_vectors; singles_stay = k2.singles_stay }) ma le le
