-- The law of what stays: an array in which the code does not store, the element of an instance that is off, and the output.
use Rattle.std.proofs.Common.{◌≡◌, ℕ, zero, suc, ◌<◌, ◌≤◌, inl, inr, Bool, true, false, refl, sym, ap, ◌∙◌, subst, arith, true≢false, eq-eqb}
use Rattle.std.proofs.lemmas.Bool.Decides.{nat_tests}
use Rattle.std.proofs.lemmas.Nat.{mod-mul-add}
use Rattle.std.specs.Prelude.{◌+◌, ◌-◌, ◌*◌, ◌%◌, ◌^◌, List, [], ◌∷◌, Option, Some, None, nat_eq, nat_lt, slice_get, if◌then◌else◌, pos, ◌-ℤ◌, unsigned_abs, take, length}
use Rattle.isp_base.specs.Access.{element, scatter, put_at}
use Rattle.isp_base.specs.Cross.{or_zero}
use Rattle.isp_base.specs.Maps.{Lanes, Map, each1, put}
use Rattle.isp_base.specs.Sets.{Mask, any, lowest}
use Rattle.isp_base.specs.Types.{gang_width}
use Rattle.isp_base.specs.Values.{number_to}
use Rattle.isp_base.specs.declared.types.Elem.{Elem}
use Rattle.isp_base.specs.declared.types.Elem.TheVariants.{I32}
use Rattle.isp_base.specs.declared.types.Gang.{Gang}
use Rattle.isp_base.specs.declared.types.Gang.TheVariants.{W4, W8, W16, W32}
use Rattle.isp_base.specs.declared.types.Rate.{Rate}
use Rattle.isp_base.specs.declared.types.Rate.TheVariants.{Uniform, Varying}
use Rattle.isp_base.specs.declared.types.Span.{Span}
use Rattle.isp_typed.specs.declared.variable.ArrayVariable.{ArrayVariable}
use Rattle.isp_typed.specs.Typed.{t_program_index, TStmt, TBlock, t_braces, t_no_stmts, TFunction, Program, type_of}
use Rattle.isp_meaning.specs.Calls.{begun, called, calls_at, frame_of, shared_sizes, store_or}
use Rattle.isp_meaning.specs.Expressions.{Passed, Values, Store, value}
use Rattle.isp_meaning.specs.Laws.{Masked, MaskedBlock}
use Rattle.isp_meaning.specs.Outcomes.{Val, Gives, Fails, Stops}
use Rattle.isp_meaning.specs.Payloads.{Payload, One, Each, mapped, spread}
use Rattle.isp_meaning.specs.Places.{stored, with_elements}
use Rattle.isp_meaning.specs.Simple.{cleared}
use Rattle.isp_meaning.specs.State.{State, Frame, below}
use Rattle.isp_meaning_laws.specs.Acts.{Act, At, Packed, Whole, Handed, Called, Printed, OfStmt, OfBlock}
use Rattle.isp_meaning_laws.specs.Members.{run_over}
use Rattle.isp_meaning_laws.specs.Samples.{doubles}
use Rattle.isp_meaning_laws.specs.Words.{at, program as sample}
use Rattle.isp_meaning_laws.specs.Stays.{left_by, Shared, Misses, Spares, Owners, Owned, KeepsTo, AtOwn, KeepToOwn, Silent, AreSilent, ArraysStay}
use Rattle.isp_meaning_laws.proofs.LoneSets.{eq_true, eq_false}
use Rattle.isp_meaning_laws.proofs.Decided.{program_outs, program_parts}
use Rattle.isp_meaning_laws.proofs.Kept.{Stay, Leaves, SafeBy, grounded, ended_kept, value_has, run_has, below_is}
use Rattle.isp_meaning_laws.proofs.MemberSets.{lowest_named}
use Rattle.isp_meaning_laws.proofs.Twins.{Free, Part, Out, OutBy, Twin}
use Rattle.isp_meaning_laws.proofs.TwinValues.{AllOf, value_same}
use Rattle.isp_meaning_laws.proofs.TwinRuns.{run_same, block_same}

abbrev everybody : Mask
everybody p = true

abbrev Any : Passed → Type 0
Any x = Unit {0}

all_any : (xs : List Passed) → AllOf Any xs
all_any [] = tt
all_any (x ∷ xs) = (tt, all_any xs)

-- another store is as it was
put_other : (f : ℕ → Lanes) (d : ℕ) (x : Lanes) (k e : ℕ) → (d ≡ k → ⊥) → put f d x k e ≡ f k e
put_other f d x k e ne = ap (λ t. (if t then x else f k) e) (eq_false k d (λ i. ne (sym i)))

-- ---- an array in which the code does not store

module _ (k e old : ℕ) where
  abbrev K : (ℕ → ℕ → ℕ) → List ℕ → Type 0
  K arrays out = arrays k e ≡ old

  abbrev Other : Passed → Type 0
  Other (Values x) = Unit {0}
  Other (Store b) = b ≡ k → ⊥

  module _ (program : Program) (most : ℕ) where
    abbrev Asks : ℕ → Type 0
    Asks left =
        (f : ℕ) (sp : Span) (a : Mask) (xs : List Passed) (caller : Frame) (s : State) → k < caller.opened → AllOf Other xs → any (gang_width program.gang) a ≡ true → K s.arrays s.out
        → Twin everybody (Stay (gang_width program.gang) everybody K) Free (calls_at program most left f sp a xs caller s) (calls_at program most left f sp a xs caller s)

    elements_miss : (frame : Frame) (b : ArrayVariable) (t : Elem) (i : Payload) (a : Mask) (r : Rate) → (r ≡ Uniform → frame.named b.number ≡ k → ⊥) → (x : Payload) (s : State) → K s.arrays s.out
        → K (with_elements frame b t i a (gang_width program.gang) r x s).arrays s.out
    elements_miss frame b t i a Uniform ne x s h = put_other s.arrays (frame.named b.number) _ k e (ne refl) ∙ h
    elements_miss frame b t i a Varying ne x s h = h

    cleared_miss : (frame : Frame) (r : Rate) (v : ℕ) (a : Mask) → (r ≡ Uniform → frame.named v ≡ k → ⊥) → (s : State) → K s.arrays s.out → K (cleared frame r v a s).arrays s.out
    cleared_miss frame Uniform v a ne s h = put_other s.arrays (frame.named v) _ k e (ne refl) ∙ h
    cleared_miss frame Varying v a ne s h = h

    leaves : (left : ℕ) → Asks left → (frame : Frame) → k < frame.opened → Leaves (gang_width program.gang) everybody K frame (calls_at program most left) (Spares frame k) Other
    leaves left asked frame lt =
        record {
          stores = λ b i ne a s _ _. safe b (type_of i).elem a ne (value (gang_width program.gang) frame (calls_at program most left) i a s);
          run_stores = λ b ne z a x s h. put_other s.arrays (frame.named b.number) _ k e ne ∙ h;
          clears = λ b ne a s h. cleared_miss frame b.ty.rate b.number a ne s h;
          prints = λ _ w s h. h;
          gives_value = λ x. tt;
          hands = λ b ne. ne;
          asks = λ f _ sp a xs s g _ some h. asked f sp a xs frame s lt g some h;
          outs = program_outs everybody program most left frame;
        } where
          safe : (b : ArrayVariable) (t : Elem) (a : Mask) → Misses frame k b → (v : Val Payload) → SafeBy (gang_width program.gang) everybody K frame (calls_at program most left) (Spares frame k) Other b t a v
          safe b t a ne (Gives i s1) = λ x s h. elements_miss frame b t i a b.ty.rate ne x s h
          safe b t a ne (Fails d s1) = tt
          safe b t a ne (Stops s1) = tt

    -- a callee stores in what it is handed, and in its own
    other_at : (xs : List Passed) (v : ℕ) → AllOf Other xs → (new : ℕ) → (new ≡ k → ⊥) → store_or (slice_get xs v) new ≡ k → ⊥
    other_at [] v g new ne i = ne i
    other_at (Values x ∷ xs) zero g new ne i = ne i
    other_at (Store b ∷ xs) zero g new ne i = g.0 i
    other_at (x ∷ xs) (suc v) g new ne i = other_at xs v g.1 new ne i

    spares_all : (frame : Frame) → ((v : ℕ) → frame.named v ≡ k → ⊥) → (d : Act) → Spares frame k d
    spares_all frame ne (At b i) = λ _ j. ne b.number j
    spares_all frame ne (Packed b) = ne b.number
    spares_all frame ne (Whole b) = λ _ j. ne b.number j
    spares_all frame ne (Handed b) = ne b.number
    spares_all frame ne (Called f) = tt
    spares_all frame ne Printed = tt

    asks : (left : ℕ) → Asks left
    asks zero f sp a xs caller s lt g some h = record { by = (refl, (refl, h)) }
    asks (suc left) f sp a xs caller s lt g some h = by (asks left) (slice_get program.functions f) where
      by : Asks left → (o : Option TFunction) → Twin everybody (Stay (gang_width program.gang) everybody K) Free (called program most (calls_at program most left) o a xs caller s) (called program most (calls_at program most left) o a xs caller s)
      by below None = record { by = (refl, h) }
      by below (Some c) =
          let frame : Frame = frame_of c xs caller in
          let apart : (v : ℕ) → frame.named v ≡ k → ⊥ = λ v i. other_at xs v g (caller.opened + length (shared_sizes (take v c.variables))) (λ j. let no : ⊥ = omega (arith, lt, j) in no) i in
          ended_kept (gang_width program.gang) everybody K c.answer caller a s _ (λ arrays out z. below_is caller.opened arrays k e lt ∙ z)
          (block_same (gang_width program.gang) frame (calls_at program most left) (calls_at program most left) everybody (Spares frame k) Other (Stay (gang_width program.gang) everybody K)
          (grounded (gang_width program.gang) everybody K frame (calls_at program most left) (Spares frame k) Other (leaves left below frame (omega (arith, lt)))) most (program_parts everybody program most left frame)
          c.body (inl (λ p. refl)) (inl (spares_all frame apart)) a (begun c xs caller a s) (begun c xs caller a s) (λ p _. refl) some (refl, below_is caller.opened s.arrays k e lt ∙ h))

-- ---- the element of an instance that is off

same_sum : (q : ℕ) → q ≡ 0 * 2 ^ 32 + q
same_sum q = omega arith

-- a number below 32 is what it means as an index
small : (q : ℕ) → q < 32 → element I32 q ≡ q
unfolding number_to
small q lt =
    let e : q % 2 ^ 32 ≡ q = ap (λ z. z % 2 ^ 32) (same_sum q) ∙ mod-mul-add 0 (2 ^ 32) q (omega (arith, lt)) in let t : nat_lt (2 ^ 31 - 1) q ≡ false = grind (arith, lt, nat_tests) in
    ap (λ z. unsigned_abs (number_to 32 (2 ^ 31 - 1) z)) e ∙ ap (λ b. unsigned_abs (if b then pos q -ℤ pos (2 ^ 32) else pos q)) t

gang_small : (g : Gang) → gang_width g ≤ 32
gang_small W4 = omega arith
gang_small W8 = omega arith
gang_small W16 = omega arith
gang_small W32 = omega arith

-- what is stored at other places leaves an element
scatter_off : (n : ℕ) (i x : Map) (f : Lanes) (p : ℕ) → ((q y : ℕ) → q < n → i q ≡ Some y → y ≡ p → ⊥) → scatter n i x f p ≡ f p
scatter_off zero i x f p h = refl
scatter_off (suc n) i x f p h = by (i n) refl (x n) ∙ scatter_off n i x f p (λ q y lt. h q y (omega (arith, lt))) where
  by : (o : Option ℕ) → i n ≡ o → (z : Option ℕ) → put_at o z (scatter n i x f) p ≡ scatter n i x f p
  by None e z = refl
  by (Some y) e None = refl
  by (Some y) e (Some z) = ap (λ t. if t then z else scatter n i x f p) (eq_false p y (λ d. h n y (omega arith) e (sym d)))

-- what a member finds after a function of all values
abbrev Before : (ℕ → ℕ) → Mask → Payload → ℕ → ℕ → Type 0
Before g a m p y = (n : ℕ) × (spread a m p ≡ Some n) × (g n ≡ y)

abbrev some_or : ℕ → Option ℕ → ℕ
some_or z None = z
some_or z (Some u) = u

before : (g : ℕ → ℕ) (a : Mask) (m : Payload) (p y : ℕ) → spread a (mapped g m) p ≡ Some y → Before g a m p y
before g a (One c) p y e = go (a p) e where
  go : (t : Bool) → (if t then Some (g c) else None) ≡ Some y → (n : ℕ) × ((if t then Some c else None) ≡ Some n) × (g n ≡ y)
  go true d = (c, refl, ap (some_or (g c)) d)
  go false d = absurd (cc)
before g a (Each x) p y e = go (x p) e where
  go : (o : Option ℕ) → each1 g o ≡ Some y → (n : ℕ) × (o ≡ Some n) × (g n ≡ y)
  go (Some n) d = (n, refl, ap (some_or (g n)) d)
  go None d = absurd (cc)

-- who has a value is a member
member : (a : Mask) (m : Payload) (p n : ℕ) → Out a m → spread a m p ≡ Some n → a p ≡ true
member a m p n out e = go (a p) refl where
  none : (m : Payload) → Out a m → a p ≡ false → spread a m p ≡ None
  none (One c) o i = ap (λ b. if b then Some c else None) i
  none (Each x) o i = o p i

  go : (t : Bool) → a p ≡ t → t ≡ true
  go true i = refl
  go false i = let d : None ≡ Some n = sym (none m out i) ∙ e in absurd (cc)

-- what a set that is not empty stores at other places leaves an element
stored_off : (gang : ℕ) (a : Mask) (i x : Payload) (f : Lanes) (e : ℕ) → any gang a ≡ true → ((p y : ℕ) → p < gang → spread a i p ≡ Some y → y ≡ e → ⊥) → stored gang a i x f e ≡ f e
stored_off gang a (One i) (Each x) f e some h = scatter_off gang (spread a (One i)) x f e h
stored_off gang a (Each i) x f e some h = scatter_off gang i (spread a x) f e h
stored_off gang a (One i) (One x) f e some h =
    let low = lowest_named gang a some in
    ap (λ t. if t then x else f e) (eq_false e i (λ d. h (or_zero (lowest gang a)) i low.0 (ap (λ b. if b then Some i else None) low.1) (sym d)))

module _ (k e old : ℕ) (m : Mask) (program : Program) (D : Owners) (not_owned : (p : ℕ) → p < gang_width program.gang → m p ≡ true → D p e ≡ false) (F : ℕ → Bool) (keep : KeepToOwn program D F) (most : ℕ) where
  abbrev E : (ℕ → ℕ → ℕ) → List ℕ → Type 0
  E arrays out = arrays k e ≡ old

  abbrev Answers : ℕ → Type 0
  Answers left =
      (f : ℕ) → F f ≡ true → (sp : Span) (a : Mask) (xs : List Passed) (caller : Frame) (s : State) → k < caller.opened → Part m a → any (gang_width program.gang) a ≡ true → E s.arrays s.out
      → Twin m (Stay (gang_width program.gang) m E) Free (calls_at program most left f sp a xs caller s) (calls_at program most left f sp a xs caller s)

  -- a store at an index that keeps to what members own
  owned_stays : (frame : Frame) (b : ArrayVariable) (t : Elem) (i : Payload) (a : Mask) (r : Rate) → Part m a → any (gang_width program.gang) a ≡ true → Out a i
      → (r ≡ Uniform → (p y : ℕ) → p < gang_width program.gang → a p ≡ true → spread a i p ≡ Some y → D p (element t y) ≡ true) → (x : Payload) (s : State) → E s.arrays s.out
      → E (with_elements frame b t i a (gang_width program.gang) r x s).arrays s.out
  owned_stays frame b t i a Varying sub some out own x s h = h
  owned_stays frame b t i a Uniform sub some out own x s h = by (nat_eq k (frame.named b.number)) refl where
    apart : (p y : ℕ) → p < gang_width program.gang → spread a (mapped (element t) i) p ≡ Some y → y ≡ e → ⊥
    apart p y lt d j =
        let n = before (element t) a i p y d in let on = member a i p n.0 out n.1 in
        true≢false (sym (own refl p n.0 lt on n.1) ∙ ap (D p) (n.2 ∙ j) ∙ not_owned p lt (sub p on))

    by : (c : Bool) → nat_eq k (frame.named b.number) ≡ c
        → (if c then stored (gang_width program.gang) a (mapped (element t) i) x (s.arrays (frame.named b.number)) else s.arrays k) e ≡ old
    by false d = h
    by true d = stored_off (gang_width program.gang) a (mapped (element t) i) x (s.arrays (frame.named b.number)) e some apart ∙ ap (λ c. s.arrays c e) (sym (eq_true k (frame.named b.number) d)) ∙ h

  own_leaves : (left : ℕ) → Answers left → (frame : Frame) → k < frame.opened → Leaves (gang_width program.gang) m E frame (calls_at program most left) (AtOwn program D F) Any
  own_leaves left asked frame lt =
      record {
        stores = λ b i own a s sub some. safe b (type_of i).elem a sub some _ (λ c. own c most left frame a s some) (program_outs a program most left frame i a s (λ p d. d));
        run_stores = λ b bad z a x s h. absurd bad;
        clears = λ b bad a s h. cleared_not b.ty.rate b.number a bad s h;
        prints = λ _ w s h. h;
        gives_value = λ x. tt;
        hands = λ b _. tt;
        asks = λ f known sp a xs s _ sub some h. asked f known sp a xs frame s lt sub some h;
        outs = program_outs m program most left frame;
      } where
        cleared_not : (r : Rate) (v : ℕ) (a : Mask) → (r ≡ Uniform → ⊥) → (s : State) → E s.arrays s.out → E (cleared frame r v a s).arrays s.out
        cleared_not Uniform v a bad s h = absurd (bad refl)
        cleared_not Varying v a bad s h = h

        safe : (b : ArrayVariable) (t : Elem) (a : Mask) → Part m a → any (gang_width program.gang) a ≡ true → (v : Val Payload) → (Shared b → Owned D (gang_width program.gang) a t v) → OutBy a v
            → SafeBy (gang_width program.gang) m E frame (calls_at program most left) (AtOwn program D F) Any b t a v
        safe b t a sub some (Gives i s1) own out = λ x s h. owned_stays frame b t i a b.ty.rate sub some out own x s h
        safe b t a sub some (Fails d s1) own out = tt
        safe b t a sub some (Stops s1) own out = tt

  own_answers : (left : ℕ) → Answers left
  own_answers zero f known sp a xs caller s lt sub some h = record { by = (refl, (refl, h)) }
  own_answers (suc left) f known sp a xs caller s lt sub some h = by (own_answers left) (slice_get program.functions f) refl where
    by : Answers left → (o : Option TFunction) → slice_get program.functions f ≡ o
        → Twin m (Stay (gang_width program.gang) m E) Free (called program most (calls_at program most left) o a xs caller s) (called program most (calls_at program most left) o a xs caller s)
    by below None i = record { by = (refl, h) }
    by below (Some c) i =
        let frame : Frame = frame_of c xs caller in
        ended_kept (gang_width program.gang) m E c.answer caller a s _ (λ arrays out z. below_is caller.opened arrays k e lt ∙ z)
        (block_same (gang_width program.gang) frame (calls_at program most left) (calls_at program most left) m (AtOwn program D F) Any (Stay (gang_width program.gang) m E)
        (grounded (gang_width program.gang) m E frame (calls_at program most left) (AtOwn program D F) Any (own_leaves left below frame (omega (arith, lt)))) most (program_parts m program most left frame)
        c.body (inr (keep.masked f c known i)) (inr (keep.stores f c known i)) a (begun c xs caller a s) (begun c xs caller a s) sub some (refl, below_is caller.opened s.arrays k e lt ∙ h))

-- [programIndex] gives each member its own number
program_index : (program : Program) (sp : Span) → KeepsTo nat_eq program (t_program_index sp)
program_index program sp most levels frame a s some p i lt on e =
    let le : gang_width program.gang ≤ 32 = gang_small program.gang in
    let here : p ≡ i = ap (some_or p) (ap (λ b. if b then Some p else None) (sym on) ∙ e) in
    eq-eqb p (element I32 i) (here ∙ sym (small i (omega (arith, lt, le, here))))

-- ---- the output

module _ (old : List ℕ) (program : Program) (F : ℕ → Bool) (silent : AreSilent program F) (most : ℕ) where
  abbrev O : (ℕ → ℕ → ℕ) → List ℕ → Type 0
  O arrays out = out ≡ old

  abbrev Replies : ℕ → Type 0
  Replies left =
      (f : ℕ) → F f ≡ true → (sp : Span) (a : Mask) (xs : List Passed) (caller : Frame) (s : State) → any (gang_width program.gang) a ≡ true → O s.arrays s.out
      → Twin everybody (Stay (gang_width program.gang) everybody O) Free (calls_at program most left f sp a xs caller s) (calls_at program most left f sp a xs caller s)

  silent_leaves : (left : ℕ) → Replies left → (frame : Frame) → Leaves (gang_width program.gang) everybody O frame (calls_at program most left) (Silent F) Any
  silent_leaves left asked frame =
      record {
        stores = λ b i _ a s _ _. safe b (type_of i).elem a (value (gang_width program.gang) frame (calls_at program most left) i a s);
        run_stores = λ b _ z a x s h. h;
        clears = λ b _ a s h. cleared_out b.ty.rate b.number a s h;
        prints = λ bad w s h. absurd bad;
        gives_value = λ x. tt;
        hands = λ b _. tt;
        asks = λ f known sp a xs s _ _ some h. asked f known sp a xs frame s some h;
        outs = program_outs everybody program most left frame;
      } where
        cleared_out : (r : Rate) (v : ℕ) (a : Mask) (s : State) → s.out ≡ old → (cleared frame r v a s).out ≡ old
        cleared_out Uniform v a s h = h
        cleared_out Varying v a s h = h

        stored_out : (b : ArrayVariable) (t : Elem) (i : Payload) (a : Mask) (r : Rate) (x : Payload) (s : State) → s.out ≡ old → (with_elements frame b t i a (gang_width program.gang) r x s).out ≡ old
        stored_out b t i a Uniform x s h = h
        stored_out b t i a Varying x s h = h

        safe : (b : ArrayVariable) (t : Elem) (a : Mask) (v : Val Payload) → SafeBy (gang_width program.gang) everybody O frame (calls_at program most left) (Silent F) Any b t a v
        safe b t a (Gives i s1) = λ x s h. stored_out b t i a b.ty.rate x s h
        safe b t a (Fails d s1) = tt
        safe b t a (Stops s1) = tt

  silent_replies : (left : ℕ) → Replies left
  silent_replies zero f known sp a xs caller s some h = record { by = (refl, (refl, h)) }
  silent_replies (suc left) f known sp a xs caller s some h = by (silent_replies left) (slice_get program.functions f) refl where
    by : Replies left → (o : Option TFunction) → slice_get program.functions f ≡ o
        → Twin everybody (Stay (gang_width program.gang) everybody O) Free (called program most (calls_at program most left) o a xs caller s) (called program most (calls_at program most left) o a xs caller s)
    by below None i = record { by = (refl, h) }
    by below (Some c) i =
        let frame : Frame = frame_of c xs caller in
        ended_kept (gang_width program.gang) everybody O c.answer caller a s _ (λ arrays out z. z)
        (block_same (gang_width program.gang) frame (calls_at program most left) (calls_at program most left) everybody (Silent F) Any (Stay (gang_width program.gang) everybody O)
        (grounded (gang_width program.gang) everybody O frame (calls_at program most left) (Silent F) Any (silent_leaves left below frame)) most (program_parts everybody program most left frame)
        c.body (inl (λ p. refl)) (inr (silent f c known i)) a (begun c xs caller a s) (begun c xs caller a s) (λ p _. refl) some (refl, h))

-- the body of a function, if there is one
abbrev body_or : Option TFunction → TBlock
body_or None = t_braces t_no_stmts at
body_or (Some g) = g.body

doubling : KeepToOwn (sample doubles) nat_eq (λ f. true)
doubling = record { stores = stores; masked = masked } where
  stores : (j : ℕ) (g : TFunction) → true ≡ true → slice_get doubles j ≡ Some g → OfBlock (AtOwn (sample doubles) nat_eq (λ f. true)) g.body
  stores zero g t e = subst (λ z. OfBlock (AtOwn (sample doubles) nat_eq (λ f. true)) (body_or z)) e (((λ _. program_index (sample doubles) at, tt), ((tt, tt), tt)), tt)
  stores (suc j) g t e = absurd (cc)

  masked : (j : ℕ) (g : TFunction) → true ≡ true → slice_get doubles j ≡ Some g → MaskedBlock g.body
  masked zero g t e = subst (λ z. MaskedBlock (body_or z)) e (tt, tt)
  masked (suc j) g t e = absurd (cc)

element_stays : (program : Program) (D : Owners) (F : ℕ → Bool) (most levels : ℕ) (frame : Frame) (x : TStmt) (a : Mask) (s : State) (k e : ℕ)
    → KeepToOwn program D F → Masked x → OfStmt (AtOwn program D F) x → any (gang_width program.gang) a ≡ true → k < frame.opened
    → ((p : ℕ) → p < gang_width program.gang → a p ≡ true → D p e ≡ false)
    → (left_by (run_over program most levels frame x a s)).arrays k e ≡ s.arrays k e
element_stays program D F most levels frame x a s k e keep masked own some lt not_owned =
    let n = gang_width program.gang in let K0 = K k e (s.arrays k e) in
    let below = own_answers k e (s.arrays k e) a program D not_owned F keep most levels in
    run_has n a K0 _ (run_same n frame _ _ a (AtOwn program D F) Any (Stay n a K0)
    (grounded n a K0 frame _ (AtOwn program D F) Any (own_leaves k e (s.arrays k e) a program D not_owned F keep most levels below frame lt))
    most (program_parts a program most levels frame) x (inr masked) (inr own) a s s (λ q d. d) some (refl, refl))

pub arrays_stay : ArraysStay
arrays_stay =
    record {
      expression = λ program most levels frame x a s k e spares some lt. let n = gang_width program.gang in let K0 = K k e (s.arrays k e) in
          value_has n everybody K0 _ (value_same n frame _ _ everybody (Spares frame k) (Other k e (s.arrays k e)) (Stay n everybody K0)
          (grounded n everybody K0 frame _ (Spares frame k) (Other k e (s.arrays k e)) (leaves k e (s.arrays k e) program most levels (asks k e (s.arrays k e) program most levels) frame lt))
          x (inr spares) a s s (λ p _. refl) some (refl, refl));
      statement = λ program most levels frame x a s k e spares some lt. let n = gang_width program.gang in let K0 = K k e (s.arrays k e) in
          run_has n everybody K0 _ (run_same n frame _ _ everybody (Spares frame k) (Other k e (s.arrays k e)) (Stay n everybody K0)
          (grounded n everybody K0 frame _ (Spares frame k) (Other k e (s.arrays k e)) (leaves k e (s.arrays k e) program most levels (asks k e (s.arrays k e) program most levels) frame lt))
          most (program_parts everybody program most levels frame) x (inl (λ p. refl)) (inr spares) a s s (λ p _. refl) some (refl, refl));
      element = element_stays;
      program_index = program_index;
      off = λ program F most levels frame x a s k p keep masked own some lt off. element_stays program nat_eq F most levels frame x a s k p keep masked own some lt (λ q _ on. eq_false q p (λ d. true≢false (sym on ∙ ap a d ∙ off)));
      doubling = doubling;
      output = λ program F most levels frame x a s silent quiet some. let n = gang_width program.gang in let K0 = O s.out program F silent most in
          run_has n everybody K0 _ (run_same n frame _ _ everybody (Silent F) Any (Stay n everybody K0)
          (grounded n everybody K0 frame _ (Silent F) Any (silent_leaves s.out program F silent most levels (silent_replies s.out program F silent most levels) frame))
          most (program_parts everybody program most levels frame) x (inl (λ p. refl)) (inr quiet) a s s (λ p _. refl) some (refl, refl));
    }
