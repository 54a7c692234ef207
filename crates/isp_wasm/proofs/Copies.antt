-- The stores of a function that begins, with those that are arrays of each lane's own: all lie apart, and are zeros.
use Rattle.std.proofs.Common.{◌≡◌, ℕ, suc, ◌+◌, ◌-◌, ◌*◌, ◌/◌, ◌%◌, ◌^◌, ◌<◌, ◌≤◌, ◌⊎◌, inl, inr, List, [], ◌∷◌, length, take, map, Option, Some, None, Bool, true, false, ◌&&◌, refl, sym, ap, ap₂, ◌∙◌, subst, arith}
use Rattle.std.specs.Prelude.{slice_get, slice_index_or, nat_lt, nat_le, if◌then◌else◌}
use Rattle.std.proofs.lemmas.Bool.{cases_lt, cases_order, lt-ltb, le-ltb, le-leb, lt-leb, leb-true, ltb-true, cond-true, cond-false}
use Rattle.std.proofs.lemmas.Option.{slice_get_past}
use Rattle.std.proofs.lemmas.List.{length-append, length-map}
use Rattle.std.proofs.lemmas.Nat.{mul-le, pow_pos}
use Rattle.isp_base.specs.Maps.{Lanes}
use Rattle.isp_base.specs.Values.{width}
use Rattle.isp_base.specs.declared.types.Elem.TheVariants.{Bool as Truth}
use Rattle.isp_code.specs.Conf.{Frame}
use Rattle.isp_code.specs.Fine.{IsThere}
use Rattle.isp_code.specs.Lines.{local_size}
use Rattle.isp_code.specs.Listing.{Routine}
use Rattle.isp_code.specs.Registers.{is_own, is_per_instance, is_per_lane, is_local, passed, param_elems, local_elem, arrays_of, elem_of, types_in, table_of}
use Rattle.isp_code.specs.declared.function.Local.{Local}
use Rattle.isp_code.specs.declared.register.Class.TheVariants as class
use Rattle.isp_code.specs.declared.register.Register.{Register}
use Rattle.isp_wasm_meaning.specs.Meaning.{loaded}
use Rattle.isp_wasm.specs.Places.{Setting, Place, gang, text, bytes_of}
use Rattle.isp_wasm.specs.Lanes.{array_register, store_at, with_lanes, own_local, own_size, own_elem, own_start, copy_start, elem_declared}
use Rattle.isp_wasm.specs.Lines.{HasArrays}
use Rattle.isp_wasm.specs.Module.{text_start}
use Rattle.isp_wasm.specs.Stack.{IsBelow, none_open, start, waiting_bytes, floor, copies, local_bytes, bytes_in, opened_memory}
use Rattle.isp_wasm.specs.Standing.{Keeps, IsBeside, IsSettled, shared_of}
use Rattle.isp_wasm.specs.Thin.{IsArray, IsOpened, IsOwn}
use Rattle.isp_wasm.proofs.Indices.{in_row}
use Rattle.isp_wasm.proofs.Opening.{some_lanes, some_copies, size_low}
use Rattle.isp_wasm.proofs.Opened as opened
use Rattle.isp_wasm.proofs.Opened.{AreLaid, IsUnder, get_low, loaded_zero}
use Rattle.isp_wasm.proofs.Shared.{none_there}
use Rattle.isp_wasm.proofs.Shares.{IsShared, is_shared, start_of, end_of, part_before, part_within}
use Rattle.isp_wasm.proofs.Vectors.{narrow}

opens_some : (ls : List Local) (i : ℕ) (l : Local) → slice_get ls i ≡ Some l → none_open ls ≡ false
opens_some [] i l e = absurd cc
opens_some (x ∷ ls) i l e = refl

-- ---- which arrays are each lane's own

-- one that the function opens, as it is declared
pub per_lane_at : (g : Routine) (i : ℕ) (l : Local) → slice_get g.locals i ≡ Some l → is_per_lane g (array_register (passed g + i)) ≡ is_per_instance l.sharing
per_lane_at g i l has =
    ap₂ (λ b o. b && is_own o) (le-leb (passed g) (passed g + i) (omega arith)) (ap (slice_get g.locals) (let same : passed g + i - passed g ≡ i = omega arith in same) ∙ has)

-- and no other one
pub none_per_lane : (g : Routine) (a : ℕ) → ((i : ℕ) → i < length g.locals → a ≡ passed g + i → ⊥) → is_per_lane g (array_register a) ≡ false
none_per_lane g a out = by (cases_lt a (passed g)) (cases_lt a (passed g + length g.locals))
  where
    off : (b o : Bool) → o ≡ false → (b && o) ≡ false
    off true o e = e
    off false o e = refl

    by : (a < passed g) ⊎ (passed g ≤ a) → (a < passed g + length g.locals) ⊎ (passed g + length g.locals ≤ a) → is_per_lane g (array_register a) ≡ false
    by (inl lt) h = ap (λ b. b && is_own (slice_get g.locals (a - passed g))) (lt-leb (passed g) a lt)
    by (inr le) (inl lt) = absurd (out (a - passed g) (omega (arith, le, lt)) (omega (arith, le)))
    by (inr le) (inr ge) = off (nat_le (passed g) a) (is_own (slice_get g.locals (a - passed g))) (ap is_own (slice_get_past g.locals (a - passed g) (omega (arith, ge))))

pub record IsDeclared (g : Routine) (a : ℕ) : Type 0 where
  pub number : ℕ
  pub local : Local
  pub is : a ≡ passed g + number
  pub has : slice_get g.locals number ≡ Some local
  pub own : is_per_instance local.sharing ≡ true

some_own : (c d : Bool) (o : Option Local) (l : Local) → (if (c && is_own o) && d then o else None) ≡ Some l → (c ≡ true) × (d ≡ true) × (o ≡ Some l) × (is_own o ≡ true)
some_own true true (Some x) l e = by (is_own (Some x)) refl
  where
    by : (b : Bool) → is_own (Some x) ≡ b → (true ≡ true) × (true ≡ true) × (Some x ≡ Some l) × (is_own (Some x) ≡ true)
    by true f = (refl, refl, sym (ap (λ b. if b && true then Some x else None) f) ∙ e, f)
    by false f = absurd (let none : None ≡ Some l = sym (ap (λ b. if b && true then Some x else None) f) ∙ e in cc)
some_own true true None l e = absurd cc
some_own true false (Some x) l e = absurd (none (is_own (Some x)) (sym e))
  where
    none : (b : Bool) → Some l ≡ (if (true && b) && false then Some x else None) → ⊥
    none true f = cc
    none false f = cc
some_own true false None l e = absurd cc
some_own false true o l e = absurd cc
some_own false false o l e = absurd cc

-- an array of each lane's own is one that the function opens
pub declared_own : (g : Routine) (a : ℕ) → is_per_lane g (array_register a) ≡ true → IsDeclared g a
declared_own g a e = by (slice_get g.locals (a - passed g)) refl
  where
    first : (b o : Bool) → (b && o) ≡ true → b ≡ true
    first true o e = refl
    first false o e = absurd cc

    second : (b o : Bool) → (b && o) ≡ true → o ≡ true
    second true o e = e
    second false o e = absurd cc

    by : (o : Option Local) → slice_get g.locals (a - passed g) ≡ o → IsDeclared g a
    by None has = absurd (let impossible : false ≡ true = sym (ap is_own has) ∙ second (nat_le (passed g) a) (is_own (slice_get g.locals (a - passed g))) e in cc)
    by (Some l) has =
        record {
          number = a - passed g;
          local = l;
          is = (let le = leb-true (passed g) a (first (nat_le (passed g) a) (is_own (slice_get g.locals (a - passed g))) e) in omega (arith, le));
          has = has;
          own = sym (ap is_own has) ∙ second (nat_le (passed g) a) (is_own (slice_get g.locals (a - passed g))) e;
        }

-- ---- what is laid out stays so without the lanes' own

pub laid_of : (w : Setting) → IsSettled w → w.text_at ≡ text_start w.code.texts → AreLaid (shared_of w)
laid_of w ready texts =
    record {
      texts_at = texts;
      closed = ready.closed;
      bounded = λ b. bounded b (cases_lt w.home.opened b);
      text_apart = λ t b. subst (λ f. (f t + length (text w t) ≤ w.begins b) ⊎ (w.begins b + w.home.sizes b * bytes_of (w.elems b) ≤ f t)) texts (texts_so t b (ready.text_apart t b));
      disjoint = λ a b ne. so a b (ready.disjoint a b ne);
    }
  where
    smaller : (b : ℕ) → w.begins b + w.home.sizes b * bytes_of (w.elems b) ≤ w.begins b + w.sizes b * bytes_of (w.elems b)
    smaller b = by (cases_lt w.home.opened b)
      where
        by : (w.home.opened < b) ⊎ (b ≤ w.home.opened) → w.begins b + w.home.sizes b * bytes_of (w.elems b) ≤ w.begins b + w.sizes b * bytes_of (w.elems b)
        by (inr le) = subst (λ n. w.begins b + n * bytes_of (w.elems b) ≤ w.begins b + w.sizes b * bytes_of (w.elems b)) (ready.sizes_are b le) (omega arith)
        by (inl gt) = subst (λ n. n ≤ w.begins b + w.sizes b * bytes_of (w.elems b)) (sym (none_there w ready b (omega (arith, gt)))) (omega arith)

    bounded : (b : ℕ) → (w.home.opened < b) ⊎ (b ≤ w.home.opened) → w.home.sizes b ≤ 2 ^ 32
    bounded b (inr le) = subst (λ n. n ≤ 2 ^ 32) (ready.sizes_are b le) (ready.bounded b)
    bounded b (inl gt) = subst (λ n. n ≤ 2 ^ 32) (sym (ready.closed b (omega (arith, gt)))) (omega arith)

    texts_so : (t b : ℕ) → (w.text_at t + length (text w t) ≤ w.begins b) ⊎ (w.begins b + w.sizes b * bytes_of (w.elems b) ≤ w.text_at t)
        → (w.text_at t + length (text w t) ≤ w.begins b) ⊎ (w.begins b + w.home.sizes b * bytes_of (w.elems b) ≤ w.text_at t)
    texts_so t b (inl le) = inl le
    texts_so t b (inr le) = inr (let less = smaller b in omega (arith, le, less))

    so : (a b : ℕ) → (w.begins a + w.sizes a * bytes_of (w.elems a) ≤ w.begins b) ⊎ (w.begins b + w.sizes b * bytes_of (w.elems b) ≤ w.begins a)
        → (w.begins a + w.home.sizes a * bytes_of (w.elems a) ≤ w.begins b) ⊎ (w.begins b + w.home.sizes b * bytes_of (w.elems b) ≤ w.begins a)
    so a b (inl le) = inl (let less = smaller a in omega (arith, le, less))
    so a b (inr le) = inr (let less = smaller b in omega (arith, le, less))

module _ (v : Setting) (g : Routine) (f : ℕ) (names : ℕ → ℕ) (local : Place → ℕ) (waiting : List Frame) (t : ℕ) (before : ℕ → ℕ) where
  abbrev pub u : Setting
  u = shared_of v

  -- without the lanes' own, and with them
  abbrev pub inside : Setting
  inside = opened.inside v g f names local waiting t before

  abbrev pub last : ℕ
  last = inside.home.opened

  abbrev pub whole : Setting
  whole =
      record inside {
        begins = with_lanes inside.home.opened inside.begins (own_start (gang u) t g);
        sizes = with_lanes inside.home.opened inside.home.sizes (own_size (gang u) g);
        elems = with_lanes inside.home.opened inside.elems (own_elem (gang u) g);
      }

  abbrev pub all : ℕ
  all = bytes_in (gang u) g.locals

  abbrev pub end_at : ℕ → ℕ
  end_at b = whole.begins b + whole.sizes b * bytes_of (whole.elems b)

  -- ---- a store of the machine

  pub low_begin : (b : ℕ) → b ≤ last → whole.begins b ≡ inside.begins b
  low_begin b le = cond-true (nat_lt b (suc last)) (inside.begins b) (own_start (gang u) t g (b - suc last)) (lt-ltb b (suc last) (omega (arith, le)))

  pub low_size : (b : ℕ) → b ≤ last → whole.sizes b ≡ inside.home.sizes b
  low_size b le = cond-true (nat_lt b (suc last)) (inside.home.sizes b) (own_size (gang u) g (b - suc last)) (lt-ltb b (suc last) (omega (arith, le)))

  pub low_elem : (b : ℕ) → b ≤ last → whole.elems b ≡ inside.elems b
  low_elem b le = cond-true (nat_lt b (suc last)) (inside.elems b) (own_elem (gang u) g (b - suc last)) (lt-ltb b (suc last) (omega (arith, le)))

  low_end : (b : ℕ) → b ≤ last → end_at b ≡ inside.begins b + inside.home.sizes b * bytes_of (inside.elems b)
  low_end b le = ap₂ (λ x y. x + y) (low_begin b le) (ap₂ (λ x y. x * bytes_of y) (low_size b le) (low_elem b le))

  -- ---- a lane's

  high_begin : (b : ℕ) → last < b → whole.begins b ≡ own_start (gang u) t g (b - suc last)
  high_begin b lt = cond-false (nat_lt b (suc last)) (inside.begins b) (own_start (gang u) t g (b - suc last)) (le-ltb b (suc last) (omega (arith, lt)))

  high_size : (b : ℕ) → last < b → whole.sizes b ≡ own_size (gang u) g (b - suc last)
  high_size b lt = cond-false (nat_lt b (suc last)) (inside.home.sizes b) (own_size (gang u) g (b - suc last)) (le-ltb b (suc last) (omega (arith, lt)))

  high_elem : (b : ℕ) → last < b → whole.elems b ≡ own_elem (gang u) g (b - suc last)
  high_elem b lt = cond-false (nat_lt b (suc last)) (inside.elems b) (own_elem (gang u) g (b - suc last)) (le-ltb b (suc last) (omega (arith, lt)))

  -- array i in lane p
  pub record IsLane (b : ℕ) : Type 0 where
    pub array : ℕ
    pub lane : ℕ
    pub declared : Local
    pub number_is : b ≡ suc (last + (32 * (passed g + array) + lane))
    pub has : slice_get g.locals array ≡ Some declared
    pub own : is_per_instance declared.sharing ≡ true
    pub low : lane < gang u
    pub begin_is : whole.begins b ≡ t + bytes_in (gang u) (take array g.locals) + lane * (declared.size * bytes_of declared.elem)
    pub size_is : whole.sizes b ≡ declared.size
    pub elem_is : whole.elems b ≡ declared.elem

  pub record IsNone (b : ℕ) : Type 0 where
    pub begin_is : whole.begins b ≡ 0
    pub size_is : whole.sizes b ≡ 0

  none_end : (b : ℕ) → IsNone b → end_at b ≡ 0
  none_end b h = ap₂ (λ x y. x + y * bytes_of (whole.elems b)) h.begin_is h.size_is ∙ (let n = bytes_of (whole.elems b) in let same : 0 + 0 * n ≡ 0 = omega arith in same)

  pub kind_of : (b : ℕ) → last < b → IsLane b ⊎ IsNone b
  kind_of b lt = by (own_local (gang u) g k) refl
    where
      k : ℕ
      k = b - suc last

      by : (o : Option Local) → own_local (gang u) g (b - suc last) ≡ o → IsLane b ⊎ IsNone b
      by None e =
          inr
          (record {
            begin_is = high_begin b lt ∙ ap (λ o. copy_start o (t + bytes_in (gang u) (take ((b - suc last) / 32 - passed g) g.locals)) ((b - suc last) % 32)) e;
            size_is = high_size b lt ∙ ap local_size e;
          })
      by (Some l) e =
          let all = some_own (nat_le (passed g) ((b - suc last) / 32)) (nat_lt ((b - suc last) % 32) (gang u)) (slice_get g.locals ((b - suc last) / 32 - passed g)) l e in
          let le = leb-true (passed g) ((b - suc last) / 32) all.0 in
          inl
          (record {
            array = (b - suc last) / 32 - passed g;
            lane = (b - suc last) % 32;
            declared = l;
            number_is = number (b - suc last) (passed g) le (omega (arith, lt));
            has = all.2;
            own = sym (ap is_own all.2) ∙ all.3;
            low = ltb-true ((b - suc last) % 32) (gang u) all.1;
            begin_is = high_begin b lt ∙ ap (λ o. copy_start o (t + bytes_in (gang u) (take ((b - suc last) / 32 - passed g) g.locals)) ((b - suc last) % 32)) e;
            size_is = high_size b lt ∙ ap local_size e;
            elem_is = high_elem b lt ∙ ap elem_declared e;
          })
        where
          number : (k n : ℕ) → n ≤ k / 32 → b ≡ suc (last + k) → b ≡ suc (last + (32 * (n + (k / 32 - n)) + k % 32))
          number k n le e = e ∙ ap (λ k. suc (last + k)) (let same : k ≡ 32 * (n + (k / 32 - n)) + k % 32 = omega (arith, le) in same)

  -- the bytes of the array
  abbrev pub first_of : (b : ℕ) → IsLane b → ℕ
  first_of b h = t + bytes_in (gang u) (take h.array g.locals)

  lane_begin : (b : ℕ) (h : IsLane b) → first_of b h ≤ whole.begins b
  lane_begin b h = let is = h.begin_is in let n = h.lane * ((h.declared).size * bytes_of (h.declared).elem) in omega (arith, is)

  all_copies : (lanes : ℕ) (l : Local) → is_per_instance l.sharing ≡ true → local_bytes lanes l ≡ lanes * (l.size * bytes_of l.elem)
  all_copies lanes l e = ap (λ b. copies lanes b * (l.size * bytes_of l.elem)) e

  end_is : (b : ℕ) (h : IsLane b) → end_at b ≡ first_of b h + h.lane * ((h.declared).size * bytes_of (h.declared).elem) + (h.declared).size * bytes_of (h.declared).elem
  end_is b h = ap₂ (λ x y. x + y) h.begin_is (ap₂ (λ x y. x * bytes_of y) h.size_is h.elem_is)

  row_end : (p q n : ℕ) → p < q → p * n + n ≤ q * n
  row_end p q n lt = let le : (p + 1) * n ≤ q * n = mul-le (p + 1) n q n (omega (arith, lt)) (omega arith) in omega (arith, le)

  lane_end : (b : ℕ) (h : IsLane b) → end_at b ≤ first_of b h + local_bytes (gang u) h.declared
  lane_end b h =
      let is = end_is b h in
      let copies = all_copies (gang u) h.declared h.own in
      let le = row_end h.lane (gang u) ((h.declared).size * bytes_of (h.declared).elem) h.low in omega (arith, is, copies, le)

  lane_low : (b : ℕ) → IsLane b → t ≤ whole.begins b
  lane_low b h = let le = lane_begin b h in omega (arith, le)

  lane_high : (b : ℕ) → IsLane b → end_at b ≤ t + all
  lane_high b h = let le = lane_end b h in let part = part_within (gang u) g.locals h.array h.declared h.has in omega (arith, le, part)

  lane_opens : (b : ℕ) → IsLane b → none_open g.locals ≡ false
  lane_opens b h = opens_some g.locals h.array h.declared h.has

  -- ---- they lie apart

  -- arrays that the function opens, one after the other
  order : (x y : ℕ) (k l : Local) (from to : ℕ) → slice_get g.locals x ≡ Some k → x < y → from ≤ t + bytes_in (gang u) (take x g.locals) + local_bytes (gang u) k → t + bytes_in (gang u) (take y g.locals) ≤ to → from ≤ to
  order x y k l from to has up a b = let le = part_before (gang u) g.locals x k y has up in omega (arith, le, a, b)

  abbrev Apart : ℕ → ℕ → Type 0
  Apart a b = (end_at a ≤ whole.begins b) ⊎ (end_at b ≤ whole.begins a)

  turned : (a b : ℕ) → Apart a b → Apart b a
  turned a b (inl h) = inr h
  turned a b (inr h) = inl h

  two_lanes : (a b : ℕ) → (a ≡ b → ⊥) → IsLane a → IsLane b → Apart a b
  two_lanes a b ne x y = by (cases_order x.array y.array) (cases_order x.lane y.lane)
    where
      bytes : ℕ
      bytes = (x.declared).size * bytes_of (x.declared).elem

      by : (x.array ≡ y.array) ⊎ ((x.array < y.array) ⊎ (y.array < x.array)) → (x.lane ≡ y.lane) ⊎ ((x.lane < y.lane) ⊎ (y.lane < x.lane)) → Apart a b
      by (inr (inl lt)) h = inl (order x.array y.array x.declared y.declared (end_at a) (whole.begins b) x.has lt (lane_end a x) (lane_begin b y))
      by (inr (inr lt)) h = inr (order y.array x.array y.declared x.declared (end_at b) (whole.begins a) y.has lt (lane_end b y) (lane_begin a x))
      by (inl e) (inl f) = absurd (ne (x.number_is ∙ ap₂ (λ i p. suc (last + (32 * (passed g + i) + p))) e f ∙ sym y.number_is))
      by (inl e) (inr (inl lt)) =
          inl
          (let same : Some x.declared ≡ Some y.declared = sym x.has ∙ ap (slice_get g.locals) e ∙ y.has in let one : x.declared ≡ y.declared = cc in
          let is = end_is a x in let start : whole.begins b ≡ first_of a x + y.lane * bytes = y.begin_is ∙ ap₂ (λ i l. t + bytes_in (gang u) (take i g.locals) + y.lane * (l.size * bytes_of l.elem)) (sym e) (sym one) in
          let le = row_end x.lane y.lane bytes lt in omega (arith, is, start, le))
      by (inl e) (inr (inr lt)) =
          inr
          (let same : Some x.declared ≡ Some y.declared = sym x.has ∙ ap (slice_get g.locals) e ∙ y.has in let one : x.declared ≡ y.declared = cc in
          let start = x.begin_is in let is : end_at b ≡ first_of a x + y.lane * bytes + bytes = end_is b y ∙ ap₂ (λ i l. t + bytes_in (gang u) (take i g.locals) + y.lane * (l.size * bytes_of l.elem) + l.size * bytes_of l.elem) (sym e) (sym one) in
          let le = row_end y.lane x.lane bytes lt in omega (arith, is, start, le))

  module _ (laid : AreLaid u) (under : none_open g.locals ≡ false → IsUnder u t) (small : suc all < 2 ^ 32) (from_stack : t ≡ start u.stack + waiting_bytes u.code waiting) where
    low_and_lane : (a b : ℕ) → a ≤ last → IsLane b → Apart a b
    low_and_lane a b le h = by (opened.which v g f names local waiting t before a)
      where
        begins_so : (n : ℕ) → whole.begins a ≡ inside.begins a → n ≤ inside.begins a → n ≤ whole.begins a
        begins_so n e le = subst (λ m. n ≤ m) (sym e) le

        by : opened.Which v g f names local waiting t before a → Apart a b
        by (inl p) =
            let is = low_end a le in
            let was = opened.old_last v g f names local waiting t before a p in
            let end = (under (lane_opens b h)).arrays a in let start = lane_low b h in inl (omega (arith, is, was, end, start))
        by (inr (inr p)) = let is = low_end a le in let was = opened.past_last v g f names local waiting t before a p in inl (omega (arith, is, was))
        by (inr (inl (k, e, p))) = beside (is_shared (gang u) t g.locals k p)
          where
            begin_is : whole.begins a ≡ start_of (gang u) t g.locals k
            begin_is = low_begin a le ∙ ap inside.begins e ∙ opened.new_begin v g f names local waiting t before k

            end_so : end_at a ≡ end_of (gang u) t g.locals k
            end_so = low_end a le ∙ ap (λ a. inside.begins a + inside.home.sizes a * bytes_of (inside.elems a)) e ∙ opened.new_last v g f names local waiting t before k

            beside : IsShared (gang u) t g.locals k → Apart a b
            beside one = order_of (cases_order one.number h.array)
              where
                order_of : (one.number ≡ h.array) ⊎ ((one.number < h.array) ⊎ (h.array < one.number)) → Apart a b
                order_of (inl same) =
                    absurd
                    (let both : Some one.local ≡ Some h.declared = sym one.has ∙ ap (slice_get g.locals) same ∙ h.has in let l : one.local ≡ h.declared = cc in
                    let impossible : false ≡ true = sym one.shared ∙ ap (λ (l : Local). is_per_instance l.sharing) l ∙ h.own in cc)
                order_of (inr (inl lt)) =
                    inl (order one.number h.array one.local h.declared (end_at a) (whole.begins b) one.has lt (let is = end_so in let end = one.end_low in omega (arith, is, end)) (lane_begin b h))
                order_of (inr (inr lt)) =
                    inr (order h.array one.number h.declared one.local (end_at b) (whole.begins a) h.has lt (lane_end b h) (let is = begin_is in let start = one.start_is in omega (arith, is, start)))

    pub disjoint : (a b : ℕ) → (a ≡ b → ⊥) → (end_at a ≤ whole.begins b) ⊎ (end_at b ≤ whole.begins a)
    disjoint a b ne = by (cases_lt last a) (cases_lt last b)
      where
        lows : a ≤ last → b ≤ last → Apart a b
        lows p q =
            subst (λ n. (n ≤ whole.begins b) ⊎ (end_at b ≤ whole.begins a)) (sym (low_end a p)) (subst (λ n. (inside.begins a + inside.home.sizes a * bytes_of (inside.elems a) ≤ whole.begins b) ⊎ (n ≤ whole.begins a)) (sym (low_end b q))
            (subst (λ n. (inside.begins a + inside.home.sizes a * bytes_of (inside.elems a) ≤ n) ⊎ (inside.begins b + inside.home.sizes b * bytes_of (inside.elems b) ≤ whole.begins a)) (sym (low_begin b q))
            (subst (λ n. (inside.begins a + inside.home.sizes a * bytes_of (inside.elems a) ≤ inside.begins b) ⊎ (inside.begins b + inside.home.sizes b * bytes_of (inside.elems b) ≤ n)) (sym (low_begin a p))
            (opened.disjoint v g f names local waiting t before laid under small from_stack a b ne))))

        by : (last < a) ⊎ (a ≤ last) → (last < b) ⊎ (b ≤ last) → Apart a b
        by (inr p) (inr q) = lows p q
        by (inr p) (inl q) = high (kind_of b q)
          where
            high : IsLane b ⊎ IsNone b → Apart a b
            high (inl h) = low_and_lane a b p h
            high (inr h) = inr (let none = none_end b h in omega (arith, none))
        by (inl p) q = high (kind_of a p)
          where
            high : IsLane a ⊎ IsNone a → Apart a b
            high (inr h) = inl (let none = none_end a h in omega (arith, none))
            high (inl h) = other q
              where
                other : (last < b) ⊎ (b ≤ last) → Apart a b
                other (inr q) = turned b a (low_and_lane b a q h)
                other (inl q) = both (kind_of b q)
                  where
                    both : IsLane b ⊎ IsNone b → Apart a b
                    both (inl k) = two_lanes a b ne h k
                    both (inr k) = inr (let none = none_end b k in omega (arith, none))

    pub text_apart : (i b : ℕ) → (text_start u.code.texts i + length (text u i) ≤ whole.begins b) ⊎ (end_at b ≤ text_start u.code.texts i)
    text_apart i b = by (cases_lt last b)
      where
        by : (last < b) ⊎ (b ≤ last) → (text_start u.code.texts i + length (text u i) ≤ whole.begins b) ⊎ (end_at b ≤ text_start u.code.texts i)
        by (inr p) =
            subst (λ n. (text_start u.code.texts i + length (text u i) ≤ n) ⊎ (end_at b ≤ text_start u.code.texts i)) (sym (low_begin b p))
            (subst (λ n. (text_start u.code.texts i + length (text u i) ≤ inside.begins b) ⊎ (n ≤ text_start u.code.texts i)) (sym (low_end b p)) (opened.text_apart v g f names local waiting t before laid under small from_stack i b))
        by (inl p) = high (kind_of b p)
          where
            high : IsLane b ⊎ IsNone b → (text_start u.code.texts i + length (text u i) ≤ whole.begins b) ⊎ (end_at b ≤ text_start u.code.texts i)
            high (inl h) = inl (let end = (under (lane_opens b h)).texts i in let start = lane_low b h in omega (arith, end, start))
            high (inr h) = inr (let none = none_end b h in omega (arith, none))

    pub bounded : (b : ℕ) → whole.sizes b ≤ 2 ^ 32
    bounded b = by (cases_lt last b)
      where
        by : (last < b) ⊎ (b ≤ last) → whole.sizes b ≤ 2 ^ 32
        by (inr p) = subst (λ n. n ≤ 2 ^ 32) (sym (low_size b p)) (opened.bounded v g f names local waiting t before laid under small from_stack b)
        by (inl p) = high (kind_of b p)
          where
            high : IsLane b ⊎ IsNone b → whole.sizes b ≤ 2 ^ 32
            high (inl h) =
                let is = h.size_is in
                let le = size_low u.code.gang h.declared in
                let part = part_within (gang u) g.locals h.array h.declared h.has in omega (arith, is, le, part, small)
            high (inr h) = let is = h.size_is in omega (arith, is)

    pub lanes_apart : (b : ℕ) → last < b → (a : ℕ) → IsBelow (floor whole) a → (a < whole.begins b) ⊎ (end_at b ≤ a)
    lanes_apart b lt a below = by (kind_of b lt)
      where
        by : IsLane b ⊎ IsNone b → (a < whole.begins b) ⊎ (end_at b ≤ a)
        by (inl h) = inl (let low = opened.low_byte v g f names local waiting t before laid under small from_stack (under (lane_opens b h)) a below in let start = lane_low b h in omega (arith, low, start))
        by (inr h) = inr (let none = none_end b h in omega (arith, none))

    pub under_all : IsUnder u t → IsUnder whole (t + all)
    under_all h = let low = opened.under_all v g f names local waiting t before laid under small from_stack h in record { arrays = λ b. by b (cases_lt last b); texts = low.texts; above = low.above; stacked = low.stacked }
      where
        by : (b : ℕ) → (last < b) ⊎ (b ≤ last) → end_at b ≤ t + all
        by b (inr p) = let is = low_end b p in let le = (opened.under_all v g f names local waiting t before laid under small from_stack h).arrays b in omega (arith, is, le)
        by b (inl p) = high (kind_of b p)
          where
            high : IsLane b ⊎ IsNone b → end_at b ≤ t + all
            high (inl k) = lane_high b k
            high (inr k) = let none = none_end b k in omega (arith, none)

    -- ---- the memory

    beside_low : (a : ℕ) → IsBeside whole a → IsBeside inside a
    beside_low a h = (λ b. by b (cases_lt last b), h.1)
      where
        by : (b : ℕ) → (last < b) ⊎ (b ≤ last) → (a < inside.begins b) ⊎ (inside.begins b + inside.home.sizes b * bytes_of (inside.elems b) ≤ a)
        by b (inr p) = subst (λ n. (a < n) ⊎ (inside.begins b + inside.home.sizes b * bytes_of (inside.elems b) ≤ a)) (low_begin b p) (subst (λ n. (a < whole.begins b) ⊎ (n ≤ a)) (low_end b p) (h.0 b))
        by b (inl p) = inr (let none = opened.past_last v g f names local waiting t before b (omega (arith, p)) in omega (arith, none))

    pub keeps_in : (arrays others : ℕ → Lanes) (memory : ℕ → ℕ) (size : ℕ) → (none_open g.locals ≡ false → t + all < size) → ((b e : ℕ) → b < u.home.opened → others b e ≡ arrays b e) → ((b e : ℕ) → u.home.opened ≤ b → others b e ≡ 0)
        → ((a : ℕ) → before a ≡ memory a) → Keeps u arrays memory size → Keeps whole others (opened_memory (gang u) t g.locals memory) size
    keeps_in arrays others memory size fits same none first keeps =
        record {
          bytes_fit = k.bytes_fit;
          elements = λ b e lt. elements b e lt (cases_lt last b);
          elements_fit = λ b e lt. elements_fit b e lt (cases_lt last b);
          room = λ b. room b (cases_lt last b);
          small = k.small;
          whole = k.whole;
          texts = k.texts;
          text_room = k.text_room;
          rest = λ a h. k.rest a (beside_low a h);
        }
      where
        now : ℕ → ℕ
        now = opened_memory (gang u) t g.locals memory

        k : Keeps inside others now size
        k = opened.keeps_in v g f names local waiting t before laid under small from_stack arrays others memory size fits same none first keeps

        elements : (b e : ℕ) → e < whole.sizes b → (last < b) ⊎ (b ≤ last) → loaded (bytes_of (whole.elems b)) (whole.begins b + e * bytes_of (whole.elems b)) now ≡ others b e
        elements b e lt (inr p) = ap₂ (λ x y. loaded (bytes_of x) (y + e * bytes_of x) now) (low_elem b p) (low_begin b p) ∙ k.elements b e (subst (λ n. e < n) (low_size b p) lt)
        elements b e lt (inl p) = high (kind_of b p)
          where
            high : IsLane b ⊎ IsNone b → loaded (bytes_of (whole.elems b)) (whole.begins b + e * bytes_of (whole.elems b)) now ≡ others b e
            high (inl h) =
                loaded_zero (gang u) t g.locals memory (bytes_of (whole.elems b)) (whole.begins b + e * bytes_of (whole.elems b)) (lane_opens b h) (let start = lane_low b h in omega (arith, start))
                (let le = in_row e (whole.sizes b) (bytes_of (whole.elems b)) lt in let end = lane_high b h in omega (arith, le, end)) ∙ sym (none b e (omega (arith, p)))
            high (inr h) = absurd (let nothing = h.size_is in omega (arith, lt, nothing))

        elements_fit : (b e : ℕ) → e < whole.sizes b → (last < b) ⊎ (b ≤ last) → others b e < 2 ^ width (whole.elems b)
        elements_fit b e lt (inr p) = subst (λ x. others b e < 2 ^ width x) (sym (low_elem b p)) (k.elements_fit b e (subst (λ n. e < n) (low_size b p) lt))
        elements_fit b e lt (inl p) = subst (λ n. n < 2 ^ width (whole.elems b)) (sym (none b e (omega (arith, p)))) (pow_pos (width (whole.elems b)))

        room : (b : ℕ) → (last < b) ⊎ (b ≤ last) → end_at b ≤ size
        room b (inr p) = subst (λ n. n ≤ size) (sym (low_end b p)) (k.room b)
        room b (inl p) = high (kind_of b p)
          where
            high : IsLane b ⊎ IsNone b → end_at b ≤ size
            high (inl h) = let end = lane_high b h in let lt = fits (lane_opens b h) in omega (arith, end, lt)
            high (inr h) = let none = none_end b h in omega (arith, none)

  -- what is said of the machine's stores, without the places of the lanes' own
  pub without_lanes : (arrays : ℕ → Lanes) (memory : ℕ → ℕ) (size : ℕ) → Keeps (shared_of whole) arrays memory size → Keeps inside arrays memory size
  without_lanes arrays memory size k =
      record {
        bytes_fit = k.bytes_fit;
        elements = λ b e lt. elements b e lt (cases_lt last b);
        elements_fit = λ b e lt. fits b e lt (cases_lt last b);
        room = λ b. room b (cases_lt last b);
        small = k.small;
        whole = k.whole;
        texts = k.texts;
        text_room = k.text_room;
        rest = λ a h. k.rest a (λ b. beside a b (cases_lt last b) (h.0 b), h.1);
      }
    where
      shared_end : (b : ℕ) → b ≤ last → whole.begins b + inside.home.sizes b * bytes_of (whole.elems b) ≡ inside.begins b + inside.home.sizes b * bytes_of (inside.elems b)
      shared_end b le = ap₂ (λ x y. x + inside.home.sizes b * bytes_of y) (low_begin b le) (low_elem b le)

      none_past : (b : ℕ) → last < b → inside.home.sizes b ≡ 0
      none_past b lt = opened.past_size v g f names local waiting t before b (omega (arith, lt))

      elements : (b e : ℕ) → e < inside.home.sizes b → (last < b) ⊎ (b ≤ last) → loaded (bytes_of (inside.elems b)) (inside.begins b + e * bytes_of (inside.elems b)) memory ≡ arrays b e
      elements b e lt (inr le) = sym (ap₂ (λ x y. loaded (bytes_of x) (y + e * bytes_of x) memory) (low_elem b le) (low_begin b le)) ∙ k.elements b e lt
      elements b e lt (inl gt) = absurd (let none = none_past b gt in omega (arith, lt, none))

      fits : (b e : ℕ) → e < inside.home.sizes b → (last < b) ⊎ (b ≤ last) → arrays b e < 2 ^ width (inside.elems b)
      fits b e lt (inr le) = subst (λ x. arrays b e < 2 ^ width x) (low_elem b le) (k.elements_fit b e lt)
      fits b e lt (inl gt) = absurd (let none = none_past b gt in omega (arith, lt, none))

      room : (b : ℕ) → (last < b) ⊎ (b ≤ last) → inside.begins b + inside.home.sizes b * bytes_of (inside.elems b) ≤ size
      room b (inr le) = subst (λ n. n ≤ size) (shared_end b le) (k.room b)
      room b (inl gt) = let none = opened.past_last v g f names local waiting t before b (omega (arith, gt)) in omega (arith, none)

      beside : (a b : ℕ) → (last < b) ⊎ (b ≤ last) → (a < inside.begins b) ⊎ (inside.begins b + inside.home.sizes b * bytes_of (inside.elems b) ≤ a)
          → (a < whole.begins b) ⊎ (whole.begins b + inside.home.sizes b * bytes_of (whole.elems b) ≤ a)
      beside a b (inr le) h = subst (λ n. (a < n) ⊎ (whole.begins b + inside.home.sizes b * bytes_of (whole.elems b) ≤ a)) (sym (low_begin b le)) (subst (λ n. (a < inside.begins b) ⊎ (n ≤ a)) (sym (shared_end b le)) h)
      beside a b (inl gt) h = subst (λ n. (a < whole.begins b) ⊎ (whole.begins b + n * bytes_of (whole.elems b) ≤ a)) (sym (none_past b gt)) (either (cases_lt a (whole.begins b)))
        where
          either : (a < whole.begins b) ⊎ (whole.begins b ≤ a) → (a < whole.begins b) ⊎ (whole.begins b + 0 * bytes_of (whole.elems b) ≤ a)
          either (inl lt) = inl lt
          either (inr le) = inr (let n = bytes_of (whole.elems b) in omega (arith, le))

  -- ---- the arrays that the function opens, by their numbers

  -- a lane's copy
  module _ (i : ℕ) (l : Local) (has : slice_get g.locals i ≡ Some l) (own : is_per_instance l.sharing ≡ true) (p : ℕ) (low : p < gang u) where
    abbrev copy : ℕ
    copy = suc (last + (32 * (passed g + i) + p))

    number_back : (n m : ℕ) → suc (n + m) - suc n ≡ m
    number_back n m = omega arith

    decoded : (copy - suc last ≡ 32 * (passed g + i) + p) × ((32 * (passed g + i) + p) / 32 ≡ passed g + i) × ((32 * (passed g + i) + p) % 32 ≡ p)
    decoded = let le = narrow u.code.gang in let n = passed g + i in (number_back last (32 * n + p), omega (arith, le, low), omega (arith, le, low))

    behind : passed g + i - passed g ≡ i
    behind = omega arith

    past_last : last < copy
    past_last = let m = 32 * (passed g + i) + p in omega arith

    found : own_local (gang u) g (copy - suc last) ≡ Some l
    found =
        ap (own_local (gang u) g) decoded.0
        ∙ ap₂ (λ a q. if is_per_lane g (array_register a) && nat_lt q (gang u) then slice_get g.locals (a - passed g) else None) decoded.1 decoded.2
        ∙ ap₂ (λ c d. if c && d then slice_get g.locals (passed g + i - passed g) else None) (per_lane_at g i l has ∙ own) (lt-ltb p (gang u) low) ∙ ap (slice_get g.locals) behind ∙ has

    store_is : store_at whole (passed g + i) p ≡ copy
    store_is = ap (λ b. if b then copy else inside.home.named (passed g + i)) (per_lane_at g i l has ∙ own)

    pub copy_begin : whole.begins (store_at whole (passed g + i) p) ≡ t + bytes_in (gang u) (take i g.locals) + p * (l.size * bytes_of l.elem)
    copy_begin =
        ap whole.begins store_is ∙ high_begin copy past_last ∙ ap (λ o. copy_start o (t + bytes_in (gang u) (take ((copy - suc last) / 32 - passed g) g.locals)) ((copy - suc last) % 32)) found
        ∙ ap (λ k. t + bytes_in (gang u) (take (k / 32 - passed g) g.locals) + k % 32 * (l.size * bytes_of l.elem)) decoded.0
        ∙ ap₂ (λ a q. t + bytes_in (gang u) (take (a - passed g) g.locals) + q * (l.size * bytes_of l.elem)) decoded.1 decoded.2
        ∙ ap (λ j. t + bytes_in (gang u) (take j g.locals) + p * (l.size * bytes_of l.elem)) behind

    pub copy_size : whole.sizes (store_at whole (passed g + i) p) ≡ l.size
    copy_size = ap whole.sizes store_is ∙ high_size copy past_last ∙ ap local_size found

    pub copy_elem : whole.elems (store_at whole (passed g + i) p) ≡ l.elem
    copy_elem = ap whole.elems store_is ∙ high_elem copy past_last ∙ ap elem_declared found

  -- one that all lanes share, or the passed ones
  pub shared_store : (a p : ℕ) → is_per_lane g (array_register a) ≡ false → store_at whole a p ≡ inside.home.named a
  shared_store a p e = ap (λ b. if b then suc (last + (32 * a + p)) else inside.home.named a) e

  module _ (i : ℕ) (low : i < length g.locals) where
    one : (l : Local) × (slice_get g.locals i ≡ Some l)
    one = get_low g.locals i low

    some_lane : 0 < gang u
    some_lane = some_lanes u.code.gang

    pub own_base : whole.begins (store_at whole (passed g + i) 0) ≡ t + bytes_in (gang u) (take i g.locals)
    own_base = by (is_per_instance (one.0).sharing) refl
      where
        by : (b : Bool) → is_per_instance (one.0).sharing ≡ b → whole.begins (store_at whole (passed g + i) 0) ≡ t + bytes_in (gang u) (take i g.locals)
        by true e = copy_begin i one.0 one.1 e 0 some_lane ∙ (let x = t + bytes_in (gang u) (take i g.locals) in let n = (one.0).size * bytes_of (one.0).elem in let same : x + 0 * n ≡ x = omega arith in same)
        by false e =
            ap whole.begins (shared_store (passed g + i) 0 (per_lane_at g i one.0 one.1 ∙ e))
            ∙ low_begin (inside.home.named (passed g + i)) (let lt = opened.own_low v g f names local waiting t before i one.0 one.1 e in omega (arith, lt)) ∙ opened.own_base v g f names local waiting t before i one.0 one.1 e

    pub own_count : whole.sizes (store_at whole (passed g + i) 0) ≡ local_size (slice_get g.locals i)
    own_count = by (is_per_instance (one.0).sharing) refl ∙ sym (ap local_size one.1)
      where
        by : (b : Bool) → is_per_instance (one.0).sharing ≡ b → whole.sizes (store_at whole (passed g + i) 0) ≡ (one.0).size
        by true e = copy_size i one.0 one.1 e 0 some_lane
        by false e =
            ap whole.sizes (shared_store (passed g + i) 0 (per_lane_at g i one.0 one.1 ∙ e))
            ∙ low_size (inside.home.named (passed g + i)) (let lt = opened.own_low v g f names local waiting t before i one.0 one.1 e in omega (arith, lt)) ∙ opened.own_count v g f names local waiting t before i one.0 one.1 e

  -- ---- what is said of all its arrays, where it holds of those that it is passed

  module _ (small : suc all < 2 ^ 32) (passes : (a : Register) → IsThere g class.Array a → a.number < passed g → inside.elems (inside.home.named a.number) ≡ elem_of g a)
      (low_named : (a : ℕ) → a < length (arrays_of g) → is_per_lane g (array_register a) ≡ false → inside.home.named a < last) where
    back : (a : Register) → passed g ≤ a.number → passed g + (a.number - passed g) ≡ a.number
    back a le = omega (arith, le)

    low : (a : Register) → IsThere g class.Array a → passed g ≤ a.number → a.number - passed g < length g.locals
    low a there le =
        let long = length-append (param_elems class.Array g.params) (map local_elem g.locals) in
        let mapped = length-map g.locals local_elem in
        let lt = there.1 in omega (arith, le, long, mapped, lt)

    elem_at : (a : Register) → IsThere g class.Array a → (i : ℕ) (l : Local) → a.number ≡ passed g + i → slice_get g.locals i ≡ Some l → elem_of g a ≡ l.elem
    elem_at a there i l is has =
        ap (λ c. slice_index_or (types_in (table_of g) c) a.number Truth) there.0 ∙ ap (λ n. slice_index_or (arrays_of g) n Truth) is ∙ opened.declared_at v g f names local waiting t before i l has

    few_of : (i : ℕ) (l : Local) → slice_get g.locals i ≡ Some l → l.size * bytes_of l.elem < 2 ^ 32
    few_of i l has =
        let part = part_within (gang u) g.locals i l has in
        let le = mul-le 1 (l.size * bytes_of l.elem) (copies (gang u) (is_per_instance l.sharing)) (l.size * bytes_of l.elem) (some_copies (gang u) (is_per_instance l.sharing) (some_lanes u.code.gang)) (omega arith) in
        let n = l.size * bytes_of l.elem in omega (arith, part, le, small)

    pub shared_is : (a : Register) → IsThere g class.Array a → is_per_lane g a ≡ false → IsArray whole a (elem_of g a)
    shared_is a there e =
        record {
          shared = e;
          elem_is = refl;
          stored_as = low_elem (inside.home.named a.number) (omega (arith, named)) ∙ stored (cases_lt a.number (passed g));
          low = named;
        }
      where
        named : inside.home.named a.number < last
        named = low_named a.number there.1 e

        stored : (a.number < passed g) ⊎ (passed g ≤ a.number) → inside.elems (inside.home.named a.number) ≡ elem_of g a
        stored (inl lt) = passes a there lt
        stored (inr le) =
            let i = a.number - passed g in
            let one = get_low g.locals i (low a there le) in
            let kind : is_per_instance (one.0).sharing ≡ false = sym (per_lane_at g i one.0 one.1) ∙ ap (λ n. is_per_lane g (array_register n)) (back a le) ∙ e in
            ap (λ n. inside.elems (inside.home.named n)) (sym (back a le)) ∙ opened.own_elem v g f names local waiting t before i one.0 one.1 kind ∙ sym (elem_at a there i one.0 (sym (back a le)) one.1)

    opened_is : (a : Register) → IsThere g class.Array a → is_per_lane g a ≡ false → is_local g a ≡ true → IsOpened whole a
    opened_is a there e own =
        let le = leb-true (passed g) a.number own in
        let i = a.number - passed g in
        let one = get_low g.locals i (low a there le) in
        let kind : is_per_instance (one.0).sharing ≡ false = sym (per_lane_at g i one.0 one.1) ∙ ap (λ n. is_per_lane g (array_register n)) (back a le) ∙ e in
        let size : local_size (slice_get g.locals i) ≡ (one.0).size = ap local_size one.1 in
        record {
          array = shared_is a there e;
          size_is = low_size (inside.home.named a.number) (let lt = low_named a.number there.1 e in omega (arith, lt)) ∙ ap (λ n. inside.home.sizes (inside.home.named n)) (sym (back a le))
              ∙ opened.own_count v g f names local waiting t before i one.0 one.1 kind ∙ sym size;
          few = subst (λ n. n < 2 ^ 32) (sym (ap₂ (λ x y. x * bytes_of y) size (elem_at a there i one.0 (sym (back a le)) one.1))) (few_of i one.0 one.1);
        }

    own_is : (a : Register) → IsThere g class.Array a → is_per_lane g a ≡ true → IsOwn whole a (elem_of g a)
    own_is a there e =
        let d = declared_own g a.number e in
        let elem : elem_of g a ≡ (d.local).elem = elem_at a there d.number d.local d.is d.has in
        let behind : a.number - passed g ≡ d.number = (let is = d.is in omega (arith, is)) in
        let size : local_size (slice_get g.locals (a.number - passed g)) ≡ (d.local).size = ap (λ n. local_size (slice_get g.locals n)) behind ∙ ap local_size d.has in
        let bytes : local_size (slice_get g.locals (a.number - passed g)) * bytes_of (elem_of g a) ≡ (d.local).size * bytes_of (d.local).elem = ap₂ (λ x y. x * bytes_of y) size elem in
        record {
          own = e;
          elem_is = refl;
          stored_as = λ p lt. ap (λ n. whole.elems (store_at whole n p)) d.is ∙ copy_elem d.number d.local d.has d.own p lt ∙ sym elem;
          size_is = λ p lt. ap (λ n. whole.sizes (store_at whole n p)) d.is ∙ copy_size d.number d.local d.has d.own p lt ∙ sym size;
          start_is = λ p lt. ap (λ n. whole.begins (store_at whole n p)) d.is ∙ copy_begin d.number d.local d.has d.own p lt
              ∙ sym
              (ap₂ (λ x y. x + p * y) (ap (λ n. whole.begins (store_at whole n 0)) d.is ∙ copy_begin d.number d.local d.has d.own 0 (some_lanes u.code.gang)) bytes
              ∙ (let x = t + bytes_in (gang u) (take d.number g.locals) in let n = (d.local).size * bytes_of (d.local).elem in let m = p * n in let same : x + 0 * n + m ≡ x + m = omega arith in same));
          few = subst (λ n. n < 2 ^ 32) (sym bytes) (few_of d.number d.local d.has);
        }

    pub has_arrays : HasArrays whole
    has_arrays = record { shared = shared_is; opened = opened_is; own = own_is }
