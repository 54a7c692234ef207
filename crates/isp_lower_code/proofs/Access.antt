-- Reads and writes of elements.
use Rattle.std.proofs.Common.{◌≡◌, ℕ, ◌-◌, ◌<◌, ◌≤◌, ◌^◌, Option, Some, None, Bool, true, false, refl, sym, ap, ◌∙◌, subst}
use Rattle.std.specs.Prelude.{slice_get, if◌then◌else◌, unsigned_abs}
use Rattle.std.proofs.Math.Path.{fun_ext}
use Rattle.isp_base.specs.Access.{is_outside, element}
use Rattle.isp_base.specs.Cross.{or_zero, run_index, run_outside}
use Rattle.isp_base.specs.Maps.{Lanes, Map, on, over, each1, map1, holds, where_true, lowest_failing}
use Rattle.isp_base.specs.Sets.{Mask, nobody, any, lowest}
use Rattle.isp_base.specs.Types.{gang_width}
use Rattle.isp_base.specs.declared.trap.TrapKind.TheVariants.{Index}
use Rattle.isp_base.specs.declared.types.Elem.{Elem}
use Rattle.isp_base.specs.declared.types.Elem.TheVariants.{I64}
use Rattle.isp_base.specs.declared.types.Rate.{Rate}
use Rattle.isp_base.specs.declared.types.Rate.TheVariants.{Uniform, Varying}
use Rattle.isp_code.specs.Calls.{place_at}
use Rattle.isp_code.specs.Conf.{Conf}
use Rattle.isp_code.specs.Lines.{act, size, item, failing, set_scalar, set_vector, local_size}
use Rattle.isp_code.specs.Listing.{Listing, Routine}
use Rattle.isp_code.specs.Registers.{passed}
use Rattle.isp_typed.specs.declared.variable.ArrayVariable.{ArrayVariable}
use Rattle.isp_meaning.specs.State.{State, extent_at}
use Rattle.isp_meaning.specs.Payloads.{Payload, One, Each, sole, spread, mapped, converted, offender, if_fails}
use Rattle.isp_meaning.specs.Places.{elements}
use Rattle.isp_lower_code.specs.Layout.{register, mask_register, array_register}
use Rattle.isp_lower_code.specs.Setting.{ArrayFitsAt, Setting, gang_of, At, Stands, at_rate, held_at}
use Rattle.isp_base.specs.Values.{number}
use Rattle.isp_lower_code.specs.Found.{is_whole}
use Rattle.isp_lower_code.specs.Instructions.{read, read_by}
use Rattle.isp_lower_code.proofs.Base.{moved_by}
use Rattle.isp_lower_code.proofs.Rates.{Filled, filled_on, at_mapped, at_offender, offender_mapped, lowest_below, some_lowest}
use Rattle.isp_lower_code.proofs.Values.{whole_outside, whole_element}
use Rattle.isp_lower_code.proofs.Consecutive.{RunFits, lanes_by, run_items_are, run_lane, run_outside_is}
use Rattle.isp_lower_code.proofs.Found.{whole_is}
use Rattle.isp_lower_code.proofs.Lines.{set_at, value_at, unless_is, failing_is}
use Rattle.isp_lower_code.specs.Rated.{Reaches}

-- an index as code has it
abbrev pub as_whole : Bool → Elem → ℕ → ℕ
as_whole true t x = x
as_whole false t x = converted t I64 x

pub index_outside : (b : Bool) (t : Elem) (n x : ℕ) → is_whole t ≡ b → n ≤ 2 ^ 63 → is_outside I64 n (as_whole b t x) ≡ is_outside t n x
index_outside true t n x e few = ap (λ u. is_outside u n x) (sym (whole_is t e))
index_outside false t n x e few = whole_outside t n x few

pub index_element : (b : Bool) (t : Elem) (n x : ℕ) → is_whole t ≡ b → n ≤ 2 ^ 63 → is_outside t n x ≡ false → element I64 (as_whole b t x) ≡ element t x
index_element true t n x e few inside = ap (λ u. element u x) (sym (whole_is t e))
index_element false t n x e few inside = whole_element t n x few inside

-- what an instruction finds at the indices of a rate
abbrev pub found_items : Rate → (ℕ → ℕ → ℕ) → (ℕ → ℕ) → (ℕ → Lanes) → Mask → ℕ → Payload
found_items Uniform get sc ve a i = One (get (element I64 (sc i)) 0)
found_items Varying get sc ve a i = Each (λ p. each1 (λ b. get (element I64 b) p) (on a (ve i) p))

pub filled_items : (r : Rate) (get : ℕ → ℕ → ℕ) (sc : ℕ → ℕ) (ve : ℕ → Lanes) (a : Mask) (i : ℕ) → Filled r a (found_items r get sc ve a i)
filled_items Uniform get sc ve a i = refl
filled_items Varying get sc ve a i = λ old. subst (λ m. Each (on a (over m old)) ≡ Each m) (fun_ext (λ p. at (a p) p)) (ap Each (filled_on a (λ p. get (element I64 (ve i p)) p) old))
  where
    at : (b : Bool) (p : ℕ) → (if b then Some (get (element I64 (ve i p)) p) else None) ≡ each1 (λ x. get (element I64 x) p) (if b then Some (ve i p) else None)
    at true p = refl
    at false p = refl

pub read_line : (code : Listing) (h : Routine) (c : Conf) (r : Rate) (d b i k q : ℕ) → any (gang_width code.gang) (c.masks k) ≡ true
    → act code h c (read r d b i k q) ≡ moved_by (offender (gang_width code.gang) (is_outside I64 (size code h c (array_register b))) (c.masks k)
    (value_at r c k i)) Index (place_at code q) (set_at r c d (found_items r (item code h c (array_register b)) c.scalars c.vectors (c.masks k) i))
read_line code h c Uniform d b i k q some =
    unless_is code h c (failing code h c (is_outside I64 (size code h c (array_register b)) (c.scalars i)) (mask_register k)) Index q (item code h c (array_register b) (element I64 (c.scalars i)) 0) (set_scalar c (register Uniform d))
    ∙ ap (λ z. moved_by z Index (place_at code q) (set_at Uniform c d (One (item code h c (array_register b) (element I64 (c.scalars i)) 0))))
    (failing_is code h c (is_outside I64 (size code h c (array_register b)) (c.scalars i)) k (is_outside I64 (size code h c (array_register b)))
    some)
read_line code h c Varying d b i k q some =
    unless_is code h c (lowest_failing (gang_width code.gang) (is_outside I64 (size code h c (array_register b))) (on (c.masks k) (c.vectors i)))
    Index q (λ p. each1 (λ x. item code h c (array_register b) (element I64 x) p) (on (c.masks k) (c.vectors i) p))
    (set_vector c (register Varying d))

-- the same by an index in each lane, or as a run
pub read_by_line : (z : Bool) (br : Rate) (code : Listing) (h : Routine) (c : Conf) (r : Rate) (d b i k q : ℕ)
    → any (gang_width code.gang) (c.masks k) ≡ true → RunFits z br r (c.masks k) (c.scalars i)
    → act code h c (read_by z r d b i k q) ≡ moved_by
    (offender (gang_width code.gang) (is_outside I64 (size code h c (array_register b))) (c.masks k)
    (held_at r c.scalars (lanes_by z c.scalars c.vectors) (c.masks k) i)) Index (place_at code q)
    (set_at r c d (found_items r (item code h c (array_register b)) c.scalars (lanes_by z c.scalars c.vectors) (c.masks k) i))
read_by_line false br code h c r d b i k q some f = read_line code h c r d b i k q some
read_by_line true br code h c Uniform d b i k q some f = let no = f.1 in absurd (cc)
read_by_line true br code h c Varying d b i k q some f =
    let a = c.masks k in
    let x = c.scalars i in
    let g = gang_width code.gang in
    let n = size code h c (array_register b) in
    let get = item code h c (array_register b) in
    let go = set_vector c (register Varying d) in
    unless_is code h c (lowest g (run_outside n (number I64 x) a)) Index q (on a (λ p. get (unsigned_abs (run_index (number I64 x) p)) p)) go
    ∙ ap (λ m. moved_by (lowest g m) Index (place_at code q) (go (on a (λ p. get (unsigned_abs (run_index (number I64 x) p)) p)))) (run_outside_is a x f.2 n)
    ∙ ap (λ m. moved_by (lowest_failing g (is_outside I64 n) (on a (run_lane x))) Index (place_at code q) (go m)) (run_items_are a x f.2 get)

-- ---- the array of a variable

module _ (w : Setting) where
  pub size_at : (r : Rate) (b : ArrayVariable) (c : Conf) (pc : ℕ) → w.home.sizes ≡ w.frame.sizes → At w c pc → ArrayFitsAt w r b → size w.code w.routine c (array_register (w.layout.array b.number)) ≡ extent_at r w.frame b.number
  size_at Uniform b c pc same at f =
      ap (λ z. if z then local_size (slice_get w.routine.locals (w.layout.array b.number - passed w.routine)) else c.home.sizes (c.home.named (w.layout.array b.number))) f.0
      ∙ ap (λ h. h.sizes (h.named (w.layout.array b.number))) at.home_is ∙ ap w.home.sizes f.1 ∙ ap (λ g. g (w.frame.named b.number)) same
  size_at Varying b c pc same at f =
      ap (λ z. if z then local_size (slice_get w.routine.locals (w.layout.array b.number - passed w.routine)) else c.home.sizes (c.home.named (w.layout.array b.number))) f.0 ∙ f.1

  -- the elements of an array, by element and instance
  abbrev pub get_at : Rate → ArrayVariable → State → ℕ → ℕ → ℕ
  get_at Uniform b s e p = s.arrays (w.frame.named b.number) e
  get_at Varying b s e p = s.own b.number e p

  pub item_at : (r : Rate) (b : ArrayVariable) (c : Conf) (pc : ℕ) (s : State) → At w c pc → ArrayFitsAt w r b → Stands w s c → item w.code w.routine c (array_register (w.layout.array b.number)) ≡ get_at r b s
  item_at Uniform b c pc s at f st =
      ap (λ z. (λ (e p : ℕ). if z then c.own (w.layout.array b.number) e p else c.arrays (c.home.named (w.layout.array b.number)) e)) f.0
      ∙ ap (λ h. (λ (e p : ℕ). c.arrays (h.named (w.layout.array b.number)) e)) at.home_is
      ∙ ap (λ n. (λ (e p : ℕ). c.arrays n e)) f.1
      ∙ ap (λ g. (λ (e p : ℕ). g (w.frame.named b.number) e)) st.arrays_are
  item_at Varying b c pc s at f st =
      ap (λ z. (λ (e p : ℕ). if z then c.own (w.layout.array b.number) e p else c.arrays (c.home.named (w.layout.array b.number)) e)) f.0
      ∙ ap (λ g. (λ (e p : ℕ). g e p)) (st.own_arrays b.number)

-- ---- indices of another type mean the same elements where none is outside

abbrev pub map_of : Payload → Map
map_of x = spread nobody x

abbrev pub meant : Elem → (ℕ → ℕ → ℕ) → Map → Map
meant t get x p = each1 (λ b. get (element t b) p) (x p)

pub same_elements : (gang n : ℕ) (z : Bool) (t : Elem) (a : Mask) (x : Map) (v : Lanes) (get : ℕ → ℕ → ℕ) → is_whole t ≡ z → n ≤ 2 ^ 63
    → ((p : ℕ) → a p ≡ true → p < gang) → lowest_failing gang (is_outside t n) x ≡ None → map1 (as_whole z t) x ≡ on a v
    → meant t get x ≡ meant I64 get (on a v)
same_elements gang n z t a x v get ez few inside none e = fun_ext (λ p. at p (x p) refl)
  where
    member : (p b : ℕ) → on a v p ≡ Some b → (d : Bool) → a p ≡ d → d ≡ true
    member p b h true ed = refl
    member p b h false ed = let no : None ≡ Some b = sym (ap (λ d. if d then Some (v p) else None) ed) ∙ h in absurd (cc)

    at : (p : ℕ) (o : Option ℕ) → x p ≡ o → each1 (λ b. get (element t b) p) (x p) ≡ each1 (λ b. get (element I64 b) p) (on a v p)
    at p None ex = ap (each1 (λ b. get (element t b) p)) ex ∙ sym (ap (each1 (λ b. get (element I64 b) p)) (sym (ap (λ f. f p) e) ∙ ap (each1 (as_whole z t)) ex))
    at p (Some b) ex =
        let ev : on a v p ≡ Some (as_whole z t b) = sym (ap (λ f. f p) e) ∙ ap (each1 (as_whole z t)) ex in
        let on_p : a p ≡ true = ap (λ d. d) (member p (as_whole z t b) ev (a p) refl) in
        let fine : is_outside t n b ≡ false = sym (ap (holds (is_outside t n)) ex) ∙ lowest_below gang (where_true (is_outside t n) x) none p (inside p on_p) in
        ap (each1 (λ b. get (element t b) p)) ex ∙ ap (λ j. Some (get j p)) (sym (index_element z t n b ez few fine)) ∙ sym (ap (each1 (λ b. get (element I64 b) p)) ev)

-- one value that does not fail
pub one_inside : (gang : ℕ) (a : Mask) (f : ℕ → Bool) (x : ℕ) → any gang a ≡ true → if_fails gang f a (f x) ≡ None → f x ≡ false
one_inside gang a f x some none = go (f x) refl none
  where
    go : (d : Bool) → f x ≡ d → if_fails gang f a d ≡ None → d ≡ false
    go false e h = refl
    go true e h = let no : Some (or_zero (lowest gang a)) ≡ None = some_lowest gang a some ∙ h in absurd (cc)

-- what is read is what the meaning holds
pub read_is : (w : Setting) (r br : Rate) (b : ArrayVariable) (t : Elem) (z : Bool) (m : Payload) (a : Mask) (s : State) (sc : ℕ → ℕ) (ve : ℕ → Lanes)
    (i n : ℕ) → Reaches br r → is_whole t ≡ z → n ≤ 2 ^ 63 → any (gang_of w) a ≡ true → ((p : ℕ) → a p ≡ true → p < gang_of w)
    → at_rate r a (mapped (as_whole z t) m) ≡ held_at r sc ve a i → offender (gang_of w) (is_outside t n) a m ≡ None
    → at_rate r a (elements w.frame b t m a br s) ≡ found_items r (get_at w br b s) sc ve a i
read_is w Uniform Uniform b t z (One x) a s sc ve i n re ez few some inside hold none =
    let fine : is_outside t n x ≡ false = one_inside (gang_of w) a (is_outside t n) x some none in
    let ex : as_whole z t x ≡ sc i = ap sole hold in
    ap (λ j. One (s.arrays (w.frame.named b.number) j)) (sym (index_element z t n x ez few fine) ∙ ap (element I64) ex)
read_is w Uniform Uniform b t z (Each x) a s sc ve i n re ez few some inside hold none = absurd (cc)
read_is w Uniform Varying b t z m a s sc ve i n re ez few some inside hold none = absurd re
read_is w Varying Uniform b t z m a s sc ve i n re ez few some inside hold none =
    at_mapped Varying a (λ x. s.arrays (w.frame.named b.number) (element t x)) m
    ∙ ap Each (same_elements (gang_of w) n z t a (spread a m) (ve i) (get_at w Uniform b s) ez few inside (sym (at_offender Varying (gang_of w) a (is_outside t n) m) ∙ none) (ap map_of (sym (at_mapped Varying a (as_whole z t) m) ∙ hold)))
read_is w Varying Varying b t z m a s sc ve i n re ez few some inside hold none =
    ap Each (same_elements (gang_of w) n z t a (spread a m) (ve i) (get_at w Varying b s) ez few inside (sym (at_offender Varying (gang_of w) a (is_outside t n) m) ∙ none) (ap map_of (sym (at_mapped Varying a (as_whole z t) m) ∙ hold)))

-- who is outside
pub outside_is : (w : Setting) (r : Rate) (t : Elem) (z : Bool) (m : Payload) (a : Mask) (sc : ℕ → ℕ) (ve : ℕ → Lanes) (i n : ℕ) → is_whole t ≡ z
    → n ≤ 2 ^ 63 → at_rate r a (mapped (as_whole z t) m) ≡ held_at r sc ve a i
    → offender (gang_of w) (is_outside I64 n) a (held_at r sc ve a i) ≡ offender (gang_of w) (is_outside t n) a m
outside_is w r t z m a sc ve i n ez few hold =
    ap (offender (gang_of w) (is_outside I64 n) a) (sym hold)
    ∙ sym (at_offender r (gang_of w) a (is_outside I64 n) (mapped (as_whole z t) m))
    ∙ offender_mapped (gang_of w) a (is_outside I64 n) (is_outside t n) (as_whole z t) m (λ x. index_outside z t n x ez few)
