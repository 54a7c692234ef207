-- The stores of a function that begins: those of before, and then its own, after the address where the stack is.
use Rattle.std.proofs.Common.{◌≡◌, ℕ, zero, suc, ◌+◌, ◌-◌, ◌*◌, ◌^◌, ◌<◌, ◌≤◌, ◌⊎◌, inl, inr, List, [], ◌∷◌, ◌++◌, length, take, map, Option, Some, None, false, refl, sym, ap, ap₂, ◌∙◌, subst, arith}
use Rattle.std.specs.Prelude.{slice_get, slice_index, slice_index_or, nat_lt, option_map}
use Rattle.std.proofs.lemmas.Bool.{cases_lt, lt-ltb, le-ltb, cond-true, cond-false, cases_order}
use Rattle.std.proofs.lemmas.Option.{slice_get-map, get_or_from_slice_get}
use Rattle.std.proofs.lemmas.List.{get_or_past}
use Rattle.std.proofs.lemmas.Nat.{mul-le, pow_pos}
use Rattle.std.proofs.Math.ListN.{get_or}
use Rattle.isp_base.specs.Maps.{Lanes}
use Rattle.isp_base.specs.Values.{width}
use Rattle.isp_base.specs.declared.types.Elem.TheVariants.{Bool as Truth}
use Rattle.isp_code.specs.Calls.{shared_sizes, new_home}
use Rattle.isp_code.specs.Conf.{Frame}
use Rattle.isp_code.specs.Listing.{Routine}
use Rattle.isp_code.specs.Registers.{is_per_instance, passed, local_elem, arrays_of}
use Rattle.isp_code.specs.declared.function.Local.{Local}
use Rattle.isp_wasm_meaning.specs.Meaning.{loaded, bytes}
use Rattle.isp_wasm_meaning.proofs.Memory.{bytes_same, cleared_off, zeros_loaded, cleared_beside, cleared_stay}
use Rattle.isp_wasm.specs.Places.{Setting, Place, gang, text, bytes_of}
use Rattle.isp_wasm.specs.Module.{text_start}
use Rattle.isp_wasm.specs.Stack.{IsBelow, none_open, start, waiting_bytes, moved_up, floor, bytes_in, shared_starts, shared_elems, with_starts, with_elems, opened_memory}
use Rattle.isp_wasm.specs.Standing.{Keeps, IsBeside, shared_of}
use Rattle.isp_wasm.proofs.Regions.{few_bytes}
use Rattle.isp_wasm.proofs.Indices.{in_row}
use Rattle.isp_wasm.proofs.Plain.{placed}
use Rattle.isp_wasm.proofs.Shares.{IsAt, is_at, end_of, within, apart, starts_long, taken_all}

-- ---- the memory

module _ (lanes t : ℕ) where
  memory_off : (ls : List Local) (memory : ℕ → ℕ) (a : ℕ) → (none_open ls ≡ false → a < t) → opened_memory lanes t ls memory a ≡ memory a
  memory_off [] memory a h = refl
  memory_off (l ∷ ls) memory a h = cleared_off (suc (bytes_in lanes (l ∷ ls))) t memory a (inl (h refl))

  loaded_off : (ls : List Local) (memory : ℕ → ℕ) (m b : ℕ) → (none_open ls ≡ false → b + m ≤ t) → loaded m b (opened_memory lanes t ls memory) ≡ loaded m b memory
  loaded_off [] memory m b h = refl
  loaded_off (l ∷ ls) memory m b h = cleared_beside (suc (bytes_in lanes (l ∷ ls))) t memory m b (inl (h refl))

  pub loaded_zero : (ls : List Local) (memory : ℕ → ℕ) (m b : ℕ) → none_open ls ≡ false → t ≤ b → b + m ≤ t + bytes_in lanes ls → loaded m b (opened_memory lanes t ls memory) ≡ 0
  loaded_zero [] memory m b e low high = absurd cc
  loaded_zero (l ∷ ls) memory m b e low high = zeros_loaded (suc (bytes_in lanes (l ∷ ls))) t memory m b low (omega (arith, high))

  memory_fits : (ls : List Local) (memory : ℕ → ℕ) → ((a : ℕ) → memory a < 256) → (a : ℕ) → opened_memory lanes t ls memory a < 256
  memory_fits [] memory h a = h a
  memory_fits (l ∷ ls) memory h a = cleared_stay (suc (bytes_in lanes (l ∷ ls))) t memory h a

some_open : (ls : List Local) (k : ℕ) → k < length (shared_sizes ls) → none_open ls ≡ false
some_open [] k h = absurd (omega (arith, h))
some_open (l ∷ ls) k h = refl

-- ---- lists side by side

pub past_list : {A : Type 0} (xs ys : List A) (k : ℕ) → slice_get (xs ++ ys) (length xs + k) ≡ slice_get ys k
past_list [] ys k = ap (slice_get ys) (let n : 0 + k ≡ k = omega arith in n)
past_list (x ∷ xs) ys k = ap (slice_get (x ∷ (xs ++ ys))) (let n : length (x ∷ xs) + k ≡ suc (length xs + k) = omega arith in n) ∙ past_list xs ys k

pub get_low : {A : Type 0} (xs : List A) (k : ℕ) → k < length xs → (x : A) × (slice_get xs k ≡ Some x)
get_low [] k h = absurd (omega (arith, h))
get_low (x ∷ xs) zero h = (x, refl)
get_low (x ∷ xs) (suc k) h = get_low xs k (omega (arith, h))

-- ---- what is asked of the stores of before

pub record AreLaid (u : Setting) : Type 0 where
  pub texts_at : u.text_at ≡ text_start u.code.texts
  pub closed : (b : ℕ) → u.home.opened ≤ b → u.home.sizes b ≡ 0
  pub bounded : (b : ℕ) → u.home.sizes b ≤ 2 ^ 32
  pub text_apart : (t b : ℕ) → (text_start u.code.texts t + length (text u t) ≤ u.begins b) ⊎ (u.begins b + u.home.sizes b * bytes_of (u.elems b) ≤ text_start u.code.texts t)
  pub disjoint : (a b : ℕ) → (a ≡ b → ⊥) → (u.begins a + u.home.sizes a * bytes_of (u.elems a) ≤ u.begins b) ⊎ (u.begins b + u.home.sizes b * bytes_of (u.elems b) ≤ u.begins a)

-- all that is in memory lies below an address, but for what may change
pub record IsUnder (u : Setting) (t : ℕ) : Type 0 where
  pub arrays : (b : ℕ) → u.begins b + u.sizes b * bytes_of (u.elems b) ≤ t
  pub texts : (i : ℕ) → text_start u.code.texts i + length (text u i) ≤ t
  pub above : (a : ℕ) → IsBelow (floor u) a → a < t
  pub stacked : (a : ℕ) × (u.stack ≡ Some a)

module _ (v : Setting) (g : Routine) (f : ℕ) (names : ℕ → ℕ) (local : Place → ℕ) (waiting : List Frame) (t : ℕ) (before : ℕ → ℕ) where
  -- of the machine's stores alone
  abbrev pub u : Setting
  u = shared_of v

  abbrev pub inside : Setting
  inside =
      placed u.code u.forms g local (new_home g f names u.home.sizes u.home.opened) waiting (with_starts u.home.opened u.begins (shared_starts (gang u) t g.locals)) (new_home g f names u.home.sizes u.home.opened).sizes
      (with_elems u.home.opened u.elems (shared_elems g.locals)) before u.room u.stack

  abbrev pub old : ℕ
  old = u.home.opened

  abbrev pub more : ℕ
  more = length (shared_sizes g.locals)

  abbrev pub all : ℕ
  all = bytes_in (gang u) g.locals

  abbrev pub last_of : ℕ → ℕ
  last_of b = inside.begins b + inside.home.sizes b * bytes_of (inside.elems b)

  -- ---- a store of before

  pub old_size : (b : ℕ) → b < old → inside.home.sizes b ≡ u.home.sizes b
  old_size b lt = cond-true (nat_lt b old) (u.home.sizes b) (slice_index (shared_sizes g.locals) (b - old)) (lt-ltb b old lt)

  pub old_begin : (b : ℕ) → b < old → inside.begins b ≡ u.begins b
  old_begin b lt = cond-true (nat_lt b old) (u.begins b) (slice_index (shared_starts (gang u) t g.locals) (b - old)) (lt-ltb b old lt)

  pub old_elem : (b : ℕ) → b < old → inside.elems b ≡ u.elems b
  old_elem b lt = cond-true (nat_lt b old) (u.elems b) (slice_index_or (shared_elems g.locals) (b - old) Truth) (lt-ltb b old lt)

  pub old_last : (b : ℕ) → b < old → last_of b ≡ u.begins b + u.home.sizes b * bytes_of (u.elems b)
  old_last b lt = ap₂ (λ x y. x + y) (old_begin b lt) (ap₂ (λ x y. x * bytes_of y) (old_size b lt) (old_elem b lt))

  -- ---- a new one

  behind : (k : ℕ) → old + k - old ≡ k
  behind k = omega arith

  pub new_size : (k : ℕ) → inside.home.sizes (old + k) ≡ slice_index (shared_sizes g.locals) k
  new_size k = cond-false (nat_lt (old + k) old) (u.home.sizes (old + k)) (slice_index (shared_sizes g.locals) (old + k - old)) (le-ltb (old + k) old (omega arith)) ∙ ap (slice_index (shared_sizes g.locals)) (behind k)

  pub new_begin : (k : ℕ) → inside.begins (old + k) ≡ slice_index (shared_starts (gang u) t g.locals) k
  new_begin k =
      cond-false (nat_lt (old + k) old) (u.begins (old + k)) (slice_index (shared_starts (gang u) t g.locals) (old + k - old)) (le-ltb (old + k) old (omega arith)) ∙ ap (slice_index (shared_starts (gang u) t g.locals)) (behind k)

  pub new_elem : (k : ℕ) → inside.elems (old + k) ≡ slice_index_or (shared_elems g.locals) k Truth
  new_elem k =
      cond-false (nat_lt (old + k) old) (u.elems (old + k)) (slice_index_or (shared_elems g.locals) (old + k - old) Truth) (le-ltb (old + k) old (omega arith)) ∙ ap (λ n. slice_index_or (shared_elems g.locals) n Truth) (behind k)

  pub new_last : (k : ℕ) → last_of (old + k) ≡ end_of (gang u) t g.locals k
  new_last k = ap₂ (λ x y. x + y) (new_begin k) (ap₂ (λ x y. x * bytes_of y) (new_size k) (new_elem k))

  pub new_low : (k : ℕ) → k < more → t ≤ inside.begins (old + k)
  new_low k lt = subst (λ n. t ≤ n) (sym (new_begin k)) (within (gang u) t g.locals k lt).low

  new_high : (k : ℕ) → k < more → last_of (old + k) ≤ t + all
  new_high k lt = subst (λ n. n ≤ t + all) (sym (new_last k)) (within (gang u) t g.locals k lt).high

  -- ---- past all

  pub past_size : (b : ℕ) → old + more ≤ b → inside.home.sizes b ≡ 0
  past_size b le =
      cond-false (nat_lt b old) (u.home.sizes b) (slice_index (shared_sizes g.locals) (b - old)) (le-ltb b old (omega (arith, le))) ∙ get_or_past (shared_sizes g.locals) (b - old) 0 (omega (arith, le))

  pub past_begin : (b : ℕ) → old + more ≤ b → inside.begins b ≡ 0
  past_begin b le =
      cond-false (nat_lt b old) (u.begins b) (slice_index (shared_starts (gang u) t g.locals) (b - old)) (le-ltb b old (omega (arith, le)))
      ∙ get_or_past (shared_starts (gang u) t g.locals) (b - old) 0 (let long = starts_long (gang u) t g.locals in omega (arith, le, long))

  pub past_last : (b : ℕ) → old + more ≤ b → last_of b ≡ 0
  past_last b le = ap₂ (λ x y. x + y * bytes_of (inside.elems b)) (past_begin b le) (past_size b le) ∙ (let n = bytes_of (inside.elems b) in let same : 0 + 0 * n ≡ 0 = omega arith in same)

  -- ---- which one it is

  abbrev pub Which : ℕ → Type 0
  Which b = (b < old) ⊎ (((k : ℕ) × (b ≡ old + k) × (k < more)) ⊎ (old + more ≤ b))

  pub which : (b : ℕ) → Which b
  which b = by (cases_lt b old) (cases_lt b (old + more))
    where
      by : (b < old) ⊎ (old ≤ b) → (b < old + more) ⊎ (old + more ≤ b) → Which b
      by (inl lt) h = inl lt
      by (inr le) (inl lt) = inr (inl (b - old, (let same : b ≡ old + (b - old) = omega (arith, le) in same), (let low : b - old < more = omega (arith, le, lt) in low)))
      by (inr le) (inr ge) = inr (inr ge)

  module _ (laid : AreLaid u) (under : none_open g.locals ≡ false → IsUnder u t) (small : suc all < 2 ^ 32) (from_stack : t ≡ start u.stack + waiting_bytes u.code waiting) where
    under_new : (k : ℕ) → k < more → IsUnder u t
    under_new k lt = under (some_open g.locals k lt)

    pub disjoint : (a b : ℕ) → (a ≡ b → ⊥) → (last_of a ≤ inside.begins b) ⊎ (last_of b ≤ inside.begins a)
    disjoint a b ne = by (which a) (which b)
      where
        below_new : (a b : ℕ) → a < old → (k : ℕ) → b ≡ old + k → k < more → last_of a ≤ inside.begins b
        below_new a b lt k e low =
            let end = (under_new k low).arrays a in
            let start = new_low k low in
            let is = old_last a lt in subst (λ b. last_of a ≤ inside.begins b) (sym e) (omega (arith, end, start, is))

        both_new : (j k : ℕ) → j < k → k < more → last_of (old + j) ≤ inside.begins (old + k)
        both_new j k lt low =
            let end = new_last j in
            let start = new_begin k in
            let order = apart (gang u) t g.locals j k lt low in omega (arith, end, start, order)

        by : Which a → Which b → (last_of a ≤ inside.begins b) ⊎ (last_of b ≤ inside.begins a)
        by (inr (inr p)) q = inl (let is = past_last a p in omega (arith, is))
        by (inl p) (inr (inr q)) = inr (let is = past_last b q in omega (arith, is))
        by (inr (inl p)) (inr (inr q)) = inr (let is = past_last b q in omega (arith, is))
        by (inl p) (inl q) =
            subst (λ n. (last_of a ≤ n) ⊎ (last_of b ≤ inside.begins a)) (sym (old_begin b q)) (subst (λ n. (last_of a ≤ u.begins b) ⊎ (last_of b ≤ n)) (sym (old_begin a p))
            (subst (λ n. (n ≤ u.begins b) ⊎ (last_of b ≤ u.begins a)) (sym (old_last a p)) (subst (λ n. (u.begins a + u.home.sizes a * bytes_of (u.elems a) ≤ u.begins b) ⊎ (n ≤ u.begins a)) (sym (old_last b q)) (laid.disjoint a b ne))))
        by (inl p) (inr (inl (k, e, q))) = inl (below_new a b p k e q)
        by (inr (inl (k, e, p))) (inl q) = inr (below_new b a q k e p)
        by (inr (inl (j, d, p))) (inr (inl (k, e, q))) = order (cases_order j k)
          where
            order : (j ≡ k) ⊎ ((j < k) ⊎ (k < j)) → (last_of a ≤ inside.begins b) ⊎ (last_of b ≤ inside.begins a)
            order (inl same) = absurd (ne (d ∙ ap (λ n. old + n) same ∙ sym e))
            order (inr (inl lt)) = inl (subst (λ a. last_of a ≤ inside.begins b) (sym d) (subst (λ b. last_of (old + j) ≤ inside.begins b) (sym e) (both_new j k lt q)))
            order (inr (inr lt)) = inr (subst (λ b. last_of b ≤ inside.begins a) (sym e) (subst (λ a. last_of (old + k) ≤ inside.begins a) (sym d) (both_new k j lt p)))

    pub text_apart : (i b : ℕ) → (text_start u.code.texts i + length (text u i) ≤ inside.begins b) ⊎ (last_of b ≤ text_start u.code.texts i)
    text_apart i b = by (which b)
      where
        by : Which b → (text_start u.code.texts i + length (text u i) ≤ inside.begins b) ⊎ (last_of b ≤ text_start u.code.texts i)
        by (inl p) =
            subst (λ n. (text_start u.code.texts i + length (text u i) ≤ n) ⊎ (last_of b ≤ text_start u.code.texts i)) (sym (old_begin b p))
            (subst (λ n. (text_start u.code.texts i + length (text u i) ≤ u.begins b) ⊎ (n ≤ text_start u.code.texts i)) (sym (old_last b p)) (laid.text_apart i b))
        by (inr (inl (k, e, p))) =
            inl (subst (λ b. text_start u.code.texts i + length (text u i) ≤ inside.begins b) (sym e) (let end = (under_new k p).texts i in let start = new_low k p in omega (arith, end, start)))
        by (inr (inr p)) = inr (let is = past_last b p in omega (arith, is))

    pub bounded : (b : ℕ) → inside.home.sizes b ≤ 2 ^ 32
    bounded b = by (which b)
      where
        by : Which b → inside.home.sizes b ≤ 2 ^ 32
        by (inl p) = subst (λ n. n ≤ 2 ^ 32) (sym (old_size b p)) (laid.bounded b)
        by (inr (inl (k, e, p))) =
            let size : ℕ = inside.home.sizes (old + k) in
            let some = few_bytes (inside.elems (old + k)) in
            let one : size * 1 ≤ size * bytes_of (inside.elems (old + k)) = mul-le size 1 size (bytes_of (inside.elems (old + k))) (omega arith) some.0 in
            let high = new_high k p in
            let low = new_low k p in subst (λ b. inside.home.sizes b ≤ 2 ^ 32) (sym e) (let le : size ≤ 2 ^ 32 = omega (arith, one, high, low, small) in le)
        by (inr (inr p)) = subst (λ n. n ≤ 2 ^ 32) (sym (past_size b p)) (omega arith)

    -- what lies below its arrays
    below_start : (o : Option ℕ) (a n : ℕ) → (x : ℕ) → o ≡ Some x → IsBelow (moved_up o n) a → a < start o + n
    below_start None a n x e h = absurd cc
    below_start (Some y) a n x e h = h

    pub low_byte : IsUnder u t → (a : ℕ) → IsBelow (floor inside) a → a < t
    low_byte h a below = let lt = below_start u.stack a (waiting_bytes u.code waiting) (h.stacked).0 (h.stacked).1 below in omega (arith, lt, from_stack)

    -- all lies below where the next array does
    pub under_all : IsUnder u t → IsUnder inside (t + all)
    under_all h =
        record {
          arrays = λ b. by b (which b);
          texts = λ i. (let le = h.texts i in omega (arith, le));
          above = λ a below. (let lt = low_byte h a below in omega (arith, lt));
          stacked = h.stacked;
        }
      where
        by : (b : ℕ) → Which b → last_of b ≤ t + all
        by b (inl p) = let is = old_last b p in let le = h.arrays b in omega (arith, is, le)
        by b (inr (inl (k, e, p))) = subst (λ b. last_of b ≤ t + all) (sym e) (new_high k p)
        by b (inr (inr p)) = let is = past_last b p in omega (arith, is)

    -- ---- the memory, as the function begins

    pub keeps_in : (arrays others : ℕ → Lanes) (memory : ℕ → ℕ) (size : ℕ) → (none_open g.locals ≡ false → t + all < size) → ((b e : ℕ) → b < old → others b e ≡ arrays b e) → ((b e : ℕ) → old ≤ b → others b e ≡ 0)
        → ((a : ℕ) → before a ≡ memory a) → Keeps u arrays memory size → Keeps inside others (opened_memory (gang u) t g.locals memory) size
    keeps_in arrays others memory size fits same none first k =
        record {
          bytes_fit = memory_fits (gang u) t g.locals memory k.bytes_fit;
          elements = λ b e lt. elements b e lt (which b);
          elements_fit = λ b e lt. elements_fit b e lt (which b);
          room = λ b. room b (which b);
          small = k.small;
          whole = k.whole;
          texts = λ i. bytes_same (length (text u i)) (text_start u.code.texts i) now memory (λ j l. memory_off (gang u) t g.locals memory (text_start u.code.texts i + j) (λ e. (let le = (under e).texts i in omega (arith, le, l))))
              ∙ subst (λ f. bytes (length (text u i)) (f i) memory ≡ text u i) laid.texts_at (k.texts i);
          text_room = λ i. subst (λ f. f i + length (text u i) ≤ size) laid.texts_at (k.text_room i);
          rest = λ a beside. memory_off (gang u) t g.locals memory a (λ e. low_byte (under e) a beside.1) ∙ sym (first a);
        }
      where
        now : ℕ → ℕ
        now = opened_memory (gang u) t g.locals memory

        elements : (b e : ℕ) → e < inside.home.sizes b → Which b → loaded (bytes_of (inside.elems b)) (inside.begins b + e * bytes_of (inside.elems b)) now ≡ others b e
        elements b e lt (inl p) =
            let low : e < u.home.sizes b = subst (λ n. e < n) (old_size b p) lt in
            ap₂ (λ x y. loaded (bytes_of x) (y + e * bytes_of x) now) (old_elem b p) (old_begin b p)
            ∙ loaded_off (gang u) t g.locals memory (bytes_of (u.elems b)) (u.begins b + e * bytes_of (u.elems b)) (λ o. (let end = (under o).arrays b in let le = in_row e (u.home.sizes b) (bytes_of (u.elems b)) low in omega (arith, end, le)))
            ∙ k.elements b e low ∙ sym (same b e p)
        elements b e lt (inr (inl (j, d, p))) =
            subst (λ b. e < inside.home.sizes b → loaded (bytes_of (inside.elems b)) (inside.begins b + e * bytes_of (inside.elems b)) now ≡ others b e) (sym d)
            (λ lt. loaded_zero (gang u) t g.locals memory (bytes_of (inside.elems (old + j))) (inside.begins (old + j) + e * bytes_of (inside.elems (old + j))) (some_open g.locals j p)
            (let start = new_low j p in omega (arith, start)) (let le = in_row e (inside.home.sizes (old + j)) (bytes_of (inside.elems (old + j))) lt in let end = new_high j p in omega (arith, le, end))
            ∙ sym (none (old + j) e (omega arith))) lt
        elements b e lt (inr (inr p)) = absurd (let nothing = past_size b p in omega (arith, lt, nothing))

        elements_fit : (b e : ℕ) → e < inside.home.sizes b → Which b → others b e < 2 ^ width (inside.elems b)
        elements_fit b e lt (inl p) =
            subst (λ n. n < 2 ^ width (inside.elems b)) (sym (same b e p)) (subst (λ x. arrays b e < 2 ^ width x) (sym (old_elem b p)) (k.elements_fit b e (subst (λ n. e < n) (old_size b p) lt)))
        elements_fit b e lt (inr (inl (j, d, p))) = subst (λ n. n < 2 ^ width (inside.elems b)) (sym (none b e (omega (arith, d)))) (pow_pos (width (inside.elems b)))
        elements_fit b e lt (inr (inr p)) = absurd (let nothing = past_size b p in omega (arith, lt, nothing))

        room : (b : ℕ) → Which b → last_of b ≤ size
        room b (inl p) = subst (λ n. n ≤ size) (sym (old_last b p)) (k.room b)
        room b (inr (inl (j, d, p))) = subst (λ b. last_of b ≤ size) (sym d) (let end = new_high j p in let lt = fits (some_open g.locals j p) in omega (arith, end, lt))
        room b (inr (inr p)) = let is = past_last b p in omega (arith, is)

    -- a byte below its arrays that is beside those of before is beside all
    pub beside_in : (a : ℕ) → a < t → ((b : ℕ) → b < old → (a < u.begins b) ⊎ (u.begins b + u.home.sizes b * bytes_of (u.elems b) ≤ a)) → (b : ℕ) → (a < inside.begins b) ⊎ (last_of b ≤ a)
    beside_in a lt h b = by (which b)
      where
        by : Which b → (a < inside.begins b) ⊎ (last_of b ≤ a)
        by (inl p) = subst (λ n. (a < n) ⊎ (last_of b ≤ a)) (sym (old_begin b p)) (subst (λ n. (a < u.begins b) ⊎ (n ≤ a)) (sym (old_last b p)) (h b p))
        by (inr (inl (j, d, p))) = inl (subst (λ b. a < inside.begins b) (sym d) (let start = new_low j p in omega (arith, lt, start)))
        by (inr (inr p)) = inr (let is = past_last b p in omega (arith, is))

    -- and of arrays that are the same where there were such before, as it ends
    pub keeps_out : (arrays others : ℕ → Lanes) (memory : ℕ → ℕ) (size : ℕ) → ((b : ℕ) → u.begins b + u.home.sizes b * bytes_of (u.elems b) ≤ size) → ((b e : ℕ) → e < u.home.sizes b → others b e ≡ arrays b e) → ((a : ℕ) → IsBeside u a → before a ≡ u.before a) → ((a : ℕ) → IsBelow (floor u) a → IsBelow (floor inside) a)
        → Keeps inside arrays memory size → Keeps u others memory size
    keeps_out arrays others memory size ends same first lower k =
        record {
          bytes_fit = k.bytes_fit;
          elements = λ b e lt. elements b e lt (cases_lt b old);
          elements_fit = λ b e lt. subst (λ n. n < 2 ^ width (u.elems b)) (sym (same b e lt)) (elements_fit b e lt (cases_lt b old));
          room = ends;
          small = k.small;
          whole = k.whole;
          texts = λ i. subst (λ f. bytes (length (text u i)) (f i) memory ≡ text u i) (sym laid.texts_at) (k.texts i);
          text_room = λ i. subst (λ f. f i + length (text u i) ≤ size) (sym laid.texts_at) (k.text_room i);
          rest = λ a beside. k.rest a (λ b. inner a b (beside.0 b) beside.1 (which b), lower a beside.1) ∙ first a beside;
        }
      where
        elements : (b e : ℕ) → e < u.home.sizes b → (b < old) ⊎ (old ≤ b) → loaded (bytes_of (u.elems b)) (u.begins b + e * bytes_of (u.elems b)) memory ≡ others b e
        elements b e lt (inl p) =
            ap₂ (λ x y. loaded (bytes_of x) (y + e * bytes_of x) memory) (sym (old_elem b p)) (sym (old_begin b p)) ∙ k.elements b e (subst (λ n. e < n) (sym (old_size b p)) lt) ∙ sym (same b e lt)
        elements b e lt (inr p) = absurd (let nothing = laid.closed b p in omega (arith, lt, nothing))

        elements_fit : (b e : ℕ) → e < u.home.sizes b → (b < old) ⊎ (old ≤ b) → arrays b e < 2 ^ width (u.elems b)
        elements_fit b e lt (inl p) = subst (λ x. arrays b e < 2 ^ width x) (old_elem b p) (k.elements_fit b e (subst (λ n. e < n) (sym (old_size b p)) lt))
        elements_fit b e lt (inr p) = absurd (let nothing = laid.closed b p in omega (arith, lt, nothing))

        inner : (a b : ℕ) → (a < u.begins b) ⊎ (u.begins b + u.home.sizes b * bytes_of (u.elems b) ≤ a) → IsBelow (floor u) a → Which b → (a < inside.begins b) ⊎ (last_of b ≤ a)
        inner a b h below (inl p) = subst (λ n. (a < n) ⊎ (last_of b ≤ a)) (sym (old_begin b p)) (subst (λ n. (a < u.begins b) ⊎ (n ≤ a)) (sym (old_last b p)) h)
        inner a b h below (inr (inl (j, d, p))) = inl (subst (λ b. a < inside.begins b) (sym d) (let low = (under_new j p).above a below in let start = new_low j p in omega (arith, low, start)))
        inner a b h below (inr (inr p)) = inr (let is = past_last b p in omega (arith, is))

  -- ---- the arrays that the function opens, by their numbers

  named_is : (i : ℕ) → inside.home.named (passed g + i) ≡ old + length (shared_sizes (take i g.locals))
  named_is i =
      cond-false (nat_lt (passed g + i) (passed g)) (names (passed g + i)) (old + length (shared_sizes (take (passed g + i - passed g) g.locals))) (le-ltb (passed g + i) (passed g) (omega arith))
      ∙ ap (λ n. old + length (shared_sizes (take n g.locals))) (let same : passed g + i - passed g ≡ i = omega arith in same)

  pub named_low : (a : ℕ) → a < passed g → inside.home.named a ≡ names a
  named_low a lt = cond-true (nat_lt a (passed g)) (names a) (old + length (shared_sizes (take (a - passed g) g.locals))) (lt-ltb a (passed g) lt)

  pub named_past : (a : ℕ) → passed g + length g.locals ≤ a → inside.home.named a ≡ old + more
  named_past a le =
      cond-false (nat_lt a (passed g)) (names a) (old + length (shared_sizes (take (a - passed g) g.locals))) (le-ltb a (passed g) (omega (arith, le)))
      ∙ ap (λ ls. old + length (shared_sizes ls)) (taken_all g.locals (a - passed g) (omega (arith, le)))

  -- how one that the function opens is declared
  pub declared_at : (i : ℕ) (l : Local) → slice_get g.locals i ≡ Some l → slice_index_or (arrays_of g) (passed g + i) Truth ≡ l.elem
  declared_at i l has = get_or_from_slice_get (arrays_of g) (passed g + i) l.elem Truth (past_list _ (map local_elem g.locals) i ∙ slice_get-map local_elem g.locals i ∙ ap (option_map local_elem) has)

  module _ (i : ℕ) (l : Local) (has : slice_get g.locals i ≡ Some l) (shared : is_per_instance l.sharing ≡ false) where
    at : IsAt (gang u) t g.locals i l
    at = is_at (gang u) t g.locals i l has shared

    pub own_base : inside.begins (inside.home.named (passed g + i)) ≡ t + bytes_in (gang u) (take i g.locals)
    own_base = ap inside.begins (named_is i) ∙ new_begin (length (shared_sizes (take i g.locals))) ∙ at.start_is

    pub own_count : inside.home.sizes (inside.home.named (passed g + i)) ≡ l.size
    own_count = ap inside.home.sizes (named_is i) ∙ new_size (length (shared_sizes (take i g.locals))) ∙ at.size_is

    pub own_elem : inside.elems (inside.home.named (passed g + i)) ≡ l.elem
    own_elem = ap inside.elems (named_is i) ∙ new_elem (length (shared_sizes (take i g.locals))) ∙ at.elem_is

    pub own_low : inside.home.named (passed g + i) < old + more
    own_low = subst (λ n. n < old + more) (sym (named_is i)) (let low = at.number_low in omega (arith, low))
