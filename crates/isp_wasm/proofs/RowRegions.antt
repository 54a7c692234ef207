-- Sixteen bytes of one store in memory: elements in a row, as many as a vector's part has lanes.
use Rattle.std.proofs.Common.{◌≡◌, ℕ, ◌+◌, ◌-◌, ◌*◌, ◌/◌, ◌^◌, ◌<◌, ◌≤◌, ◌⊎◌, inl, inr, length, refl, sym, ap, ap₂, ◌∙◌, subst, arith}
use Rattle.std.proofs.lemmas.Bool.{cases_eq, cases_lt}
use Rattle.isp_base.specs.Maps.{put, Lanes}
use Rattle.isp_base.specs.Values.{width}
use Rattle.isp_base.specs.declared.types.Elem.{Elem}
use Rattle.isp_base.specs.declared.types.Elem.TheVariants.{Bool as Truth, I8, U8, I16, U16, I32, U32, I64, U64}
use Rattle.isp_wasm_meaning.specs.Meaning as wasm
use Rattle.isp_wasm_meaning.specs.Meaning.{loaded, lane, wide, count}
use Rattle.isp_wasm_meaning.proofs.Lanes.{lane_below}
use Rattle.isp_wasm_meaning.proofs.Memory.{bytes_same, off_bytes, loaded_beside, bytes_stay, lane_of_load, load_of_lane}
use Rattle.isp_wasm.specs.Places.{Setting, text, bytes_of, shape_of}
use Rattle.isp_wasm.specs.Standing.{Keeps, IsSettled}
use Rattle.isp_wasm.proofs.Frames.{put_same, put_other}
use Rattle.isp_wasm.proofs.Indices.{in_row}

-- a lane has the bytes of its element
pub lane_bytes : (t : Elem) → wide (shape_of t) / 8 ≡ bytes_of t
lane_bytes Truth = refl
lane_bytes I8 = refl
lane_bytes U8 = refl
lane_bytes I16 = refl
lane_bytes U16 = refl
lane_bytes I32 = refl
lane_bytes U32 = refl
lane_bytes I64 = refl
lane_bytes U64 = refl

-- where element x + k begins, by the part that begins with element x
place_in_part : (t : Elem) (b x k : ℕ) → b + x * bytes_of t + k * bytes_of t ≡ b + (x + k) * bytes_of t
place_in_part Truth b x k = omega arith
place_in_part I8 b x k = omega arith
place_in_part U8 b x k = omega arith
place_in_part I16 b x k = omega arith
place_in_part U16 b x k = omega arith
place_in_part I32 b x k = omega arith
place_in_part U32 b x k = omega arith
place_in_part I64 b x k = omega arith
place_in_part U64 b x k = omega arith

-- a part ends before the elements after it
pub part_ends : (t : Elem) (x n : ℕ) → x + count (shape_of t) ≤ n → x * bytes_of t + 16 ≤ n * bytes_of t
part_ends Truth x n h = omega (arith, h)
part_ends I8 x n h = omega (arith, h)
part_ends U8 x n h = omega (arith, h)
part_ends I16 x n h = omega (arith, h)
part_ends U16 x n h = omega (arith, h)
part_ends I32 x n h = omega (arith, h)
part_ends U32 x n h = omega (arith, h)
part_ends I64 x n h = omega (arith, h)
part_ends U64 x n h = omega (arith, h)

-- part j of a row
pub part_begins : (t : Elem) (x j : ℕ) → x * bytes_of t + j * 16 ≡ (x + j * count (shape_of t)) * bytes_of t
part_begins Truth x j = omega arith
part_begins I8 x j = omega arith
part_begins U8 x j = omega arith
part_begins I16 x j = omega arith
part_begins U16 x j = omega arith
part_begins I32 x j = omega arith
part_begins U32 x j = omega arith
part_begins I64 x j = omega arith
part_begins U64 x j = omega arith

module _ (w : Setting) (ready : IsSettled w) (at : ℕ) (arrays : ℕ → Lanes) (memory : ℕ → ℕ) (bytes : ℕ) (keeps : Keeps w arrays memory bytes) where
  abbrev pub kind_at : Elem
  kind_at = w.elems at

  abbrev pub many_at : ℕ
  many_at = w.sizes at

  abbrev pub begin_at : ℕ → ℕ
  begin_at x = w.begins at + x * bytes_of (w.elems at)

  pub part_fits : (x : ℕ) → x + count (shape_of kind_at) ≤ many_at → begin_at x + 16 ≤ bytes
  part_fits x h = let le = part_ends kind_at x many_at h in let room = keeps.room at in omega (arith, le, room)

  -- the lanes of what is read
  pub part_read : (x k : ℕ) → k < count (shape_of kind_at) → x + k < many_at → lane (shape_of kind_at) k (loaded 16 (begin_at x) memory) ≡ arrays at (x + k)
  part_read x k l h =
      lane_of_load (shape_of kind_at) k (begin_at x) memory keeps.bytes_fit l
      ∙ ap₂ (λ n a. loaded n a memory) (lane_bytes kind_at) (ap (λ n. begin_at x + k * n) (lane_bytes kind_at) ∙ place_in_part kind_at (w.begins at) x k) ∙ keeps.elements at (x + k) h

  -- ---- after a part is written

  module _ (x v : ℕ) (f : Lanes) (room : x + count (shape_of kind_at) ≤ many_at) (whole : wide (shape_of kind_at) ≡ width kind_at)
      (new : (k : ℕ) → k < count (shape_of kind_at) → f (x + k) ≡ lane (shape_of kind_at) k v)
      (old : (e : ℕ) → (e < x) ⊎ (x + count (shape_of kind_at) ≤ e) → f e ≡ arrays at e) where
    abbrev pub memory_with : ℕ → ℕ
    memory_with = wasm.stored 16 (begin_at x) v memory

    -- an element is before the part, after it, or one of its
    data Which (e : ℕ) : Type 0 where
      beside : (e < x) ⊎ (x + count (shape_of kind_at) ≤ e) → Which e
      within : (k : ℕ) → k < count (shape_of kind_at) → e ≡ x + k → Which e

    which : (e : ℕ) → Which e
    which e = by (cases_lt e x) (cases_lt e (x + count (shape_of kind_at)))
      where
        by : (e < x) ⊎ (x ≤ e) → (e < x + count (shape_of kind_at)) ⊎ (x + count (shape_of kind_at) ≤ e) → Which e
        by (inl lt) any = beside (inl lt)
        by (inr le) (inr far) = beside (inr far)
        by (inr le) (inl lt) = within (e - x) (omega (arith, le, lt)) (omega (arith, le))

    element_there : (e : ℕ) → e < many_at → Which e → loaded (bytes_of kind_at) (begin_at e) memory_with ≡ f e
    element_there e l (within k q same) =
        ap (λ e. loaded (bytes_of kind_at) (begin_at e) memory_with) same
        ∙ sym (ap₂ (λ n a. loaded n a memory_with) (lane_bytes kind_at) (ap (λ n. begin_at x + k * n) (lane_bytes kind_at) ∙ place_in_part kind_at (w.begins at) x k))
        ∙ load_of_lane (shape_of kind_at) k (begin_at x) v memory keeps.bytes_fit q ∙ sym (new k q) ∙ sym (ap f same)
    element_there e l (beside off) = loaded_beside 16 (begin_at x) v memory (bytes_of kind_at) (begin_at e) (by off) ∙ keeps.elements at e l ∙ sym (old e off)
      where
        by : (e < x) ⊎ (x + count (shape_of kind_at) ≤ e) → (begin_at e + bytes_of kind_at ≤ begin_at x) ⊎ (begin_at x + 16 ≤ begin_at e)
        by (inl h) = inl (let le = in_row e x (bytes_of kind_at) h in omega (arith, le))
        by (inr h) = inr (let le = part_ends kind_at x e h in omega (arith, le))

    value_there : (e : ℕ) → e < many_at → Which e → f e < 2 ^ width kind_at
    value_there e l (within k q same) =
        subst (λ n. n < 2 ^ width kind_at) (sym (ap f same ∙ new k q)) (subst (λ n. lane (shape_of kind_at) k v < 2 ^ n) whole (lane_below (shape_of kind_at) k v))
    value_there e l (beside off) = subst (λ n. n < 2 ^ width kind_at) (sym (old e off)) (keeps.elements_fit at e l)

    abbrev arrays_with : ℕ → Lanes
    arrays_with = put arrays at f

    new_elements : (b e : ℕ) → (b ≡ at) ⊎ (b ≡ at → ⊥) → e < w.sizes b → loaded (bytes_of (w.elems b)) (w.begins b + e * bytes_of (w.elems b)) memory_with ≡ arrays_with b e
    new_elements b e (inl same) l =
        subst (λ b. e < w.sizes b → loaded (bytes_of (w.elems b)) (w.begins b + e * bytes_of (w.elems b)) memory_with ≡ arrays_with b e) (sym same)
        (λ l. element_there e l (which e) ∙ sym (ap (λ g. g e) (put_same arrays at f at refl))) l
    new_elements b e (inr ne) l =
        loaded_beside 16 (begin_at x) v memory (bytes_of (w.elems b)) (w.begins b + e * bytes_of (w.elems b)) (by (ready.disjoint b at ne)) ∙ keeps.elements b e l
        ∙ sym (ap (λ g. g e) (put_other arrays at f b ne))
      where
        by : (w.begins b + w.sizes b * bytes_of (w.elems b) ≤ w.begins at) ⊎ (w.begins at + many_at * bytes_of kind_at ≤ w.begins b)
            → (w.begins b + e * bytes_of (w.elems b) + bytes_of (w.elems b) ≤ begin_at x) ⊎ (begin_at x + 16 ≤ w.begins b + e * bytes_of (w.elems b))
        by (inl h) = inl (let le = in_row e (w.sizes b) (bytes_of (w.elems b)) l in omega (arith, h, le))
        by (inr h) = inr (let le = part_ends kind_at x many_at room in omega (arith, h, le))

    new_fits : (b e : ℕ) → (b ≡ at) ⊎ (b ≡ at → ⊥) → e < w.sizes b → arrays_with b e < 2 ^ width (w.elems b)
    new_fits b e (inl same) l =
        subst (λ b. e < w.sizes b → arrays_with b e < 2 ^ width (w.elems b)) (sym same)
        (λ l. subst (λ n. n < 2 ^ width kind_at) (sym (ap (λ g. g e) (put_same arrays at f at refl))) (value_there e l (which e))) l
    new_fits b e (inr ne) l = subst (λ n. n < 2 ^ width (w.elems b)) (sym (ap (λ g. g e) (put_other arrays at f b ne))) (keeps.elements_fit b e l)

    pub keeps_part : Keeps w (put arrays at f) memory_with bytes
    keeps_part =
        record {
          bytes_fit = bytes_stay 16 (begin_at x) v memory keeps.bytes_fit;
          elements = λ b e l. new_elements b e (cases_eq b at) l;
          elements_fit = λ b e l. new_fits b e (cases_eq b at) l;
          room = keeps.room;
          small = keeps.small;
          texts = λ t. bytes_same (length (text w t)) (w.text_at t) memory_with memory (λ j l. off_bytes 16 (begin_at x) v memory (w.text_at t + j) (beside_text t j l (ready.text_apart t at))) ∙ keeps.texts t;
          text_room = keeps.text_room;
          whole = keeps.whole;
          rest = λ a out. off_bytes 16 (begin_at x) v memory a (outside a (out.0 at)) ∙ keeps.rest a out;
        }
      where
        beside_text : (t j : ℕ) → j < length (text w t) → (w.text_at t + length (text w t) ≤ w.begins at) ⊎ (w.begins at + many_at * bytes_of kind_at ≤ w.text_at t)
            → (w.text_at t + j < begin_at x) ⊎ (begin_at x + 16 ≤ w.text_at t + j)
        beside_text t j l (inl h) = inl (omega (arith, h, l))
        beside_text t j l (inr h) = inr (let le = part_ends kind_at x many_at room in omega (arith, h, le))

        outside : (a : ℕ) → (a < w.begins at) ⊎ (w.begins at + many_at * bytes_of kind_at ≤ a) → (a < begin_at x) ⊎ (begin_at x + 16 ≤ a)
        outside a (inl h) = inl (omega (arith, h))
        outside a (inr h) = inr (let le = part_ends kind_at x many_at room in omega (arith, h, le))
