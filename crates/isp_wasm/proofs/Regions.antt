-- Elements of one store in memory: what a load reads, and what a store and zeros keep.
use Rattle.std.proofs.Common.{◌≡◌, ◌≢◌, ℕ, ◌+◌, ◌*◌, ◌^◌, ◌<◌, ◌≤◌, ◌⊎◌, inl, inr, List, length, None, refl, sym, ap, ◌∙◌, subst, arith, mod-eq_of_lt}
use Rattle.std.specs.Prelude.{nat_le}
use Rattle.std.proofs.lemmas.Bool.{cases_eq, cases_lt, le-leb, cond-true}
use Rattle.std.proofs.lemmas.Nat.{pow_pos}
use Rattle.isp_base.specs.Maps.{put, Lanes}
use Rattle.isp_base.specs.Values.{width}
use Rattle.isp_base.specs.declared.types.Elem.{Elem}
use Rattle.isp_base.specs.declared.types.Elem.TheVariants.{Bool as Truth, I8, U8, I16, U16, I32, U32, I64, U64}
use Rattle.isp_wasm_meaning.specs.Syntax.{Expr, Load, Store}
use Rattle.isp_wasm_meaning.specs.Meaning as wasm
use Rattle.isp_wasm_meaning.specs.Meaning.{State, Result, Fell, Trapped, run, value, loaded, inside, flag, set_local}
use Rattle.isp_wasm_meaning.proofs.Memory.{bytes_same, off_bytes, loaded_back, loaded_beside, bytes_stay, cleared_off, zeros_loaded, cleared_beside, cleared_stay}
use Rattle.isp_wasm.specs.Places.{Setting, text, bytes_of}
use Rattle.isp_wasm.specs.Standing.{Keeps, IsSettled}
use Rattle.isp_wasm.proofs.Frames.{put_same, put_other}
use Rattle.isp_wasm.proofs.Indices.{in_row}

pub few_bytes : (t : Elem) → (0 < bytes_of t) × (bytes_of t ≤ 8)
few_bytes Truth = (omega arith, omega arith)
few_bytes I8 = (omega arith, omega arith)
few_bytes U8 = (omega arith, omega arith)
few_bytes I16 = (omega arith, omega arith)
few_bytes U16 = (omega arith, omega arith)
few_bytes I32 = (omega arith, omega arith)
few_bytes U32 = (omega arith, omega arith)
few_bytes I64 = (omega arith, omega arith)
few_bytes U64 = (omega arith, omega arith)

-- a value has no more bits than its bytes
fits_bytes : (t : Elem) (v : ℕ) → v < 2 ^ width t → v < 256 ^ bytes_of t
fits_bytes Truth v h = omega arith
fits_bytes I8 v h = h
fits_bytes U8 v h = h
fits_bytes I16 v h = h
fits_bytes U16 v h = h
fits_bytes I32 v h = h
fits_bytes U32 v h = h
fits_bytes I64 v h = h
fits_bytes U64 v h = h

module _ (w : Setting) (ready : IsSettled w) where
  -- store number `at`
  module _ (at : ℕ) (t : Elem) (stored_as : w.elems at ≡ t) where
    abbrev pub many_in : ℕ
    many_in = w.sizes at

    abbrev pub each_in : ℕ
    each_in = bytes_of (w.elems at)

    abbrev pub place_in : ℕ → ℕ
    place_in x = w.begins at + x * each_in

    module _ (arrays : ℕ → Lanes) (memory : ℕ → ℕ) (bytes : ℕ) (keeps : Keeps w arrays memory bytes) where
      pub ends_in : (x : ℕ) → x < many_in → place_in x + each_in ≤ bytes
      ends_in x lt = let le = in_row x many_in each_in lt in let room = keeps.room at in omega arith

      module _ (l : ℕ → ℕ) (address : Expr) (x : ℕ) (is : value l address + 0 ≡ place_in x) (fuel : ℕ) (call : ℕ → List ℕ → State → Result) (out : List ℕ) (globals : ℕ → ℕ) where
        abbrev pub state_in : State
        state_in = record { globals = globals; locals = l; memory = memory; size = bytes; out = out }

        pub load_in : (d : ℕ) → x < many_in → run fuel call (Load each_in d address 0) state_in ≡ Fell (set_local d (arrays at x) state_in)
        load_in d lt =
            ap (λ z. inside each_in z state_in (Fell (set_local d (loaded each_in z memory) state_in))) is
            ∙ cond-true (nat_le (place_in x + each_in) bytes) (Fell (set_local d (loaded each_in (place_in x) memory) state_in)) (Trapped None state_in) (le-leb (place_in x + each_in) bytes (ends_in x lt))
            ∙ ap (λ v. Fell (set_local d v state_in)) (keeps.elements at x lt)

        pub store_in : (y : Expr) (v : ℕ) → value l y ≡ v → x < many_in → run fuel call (Store each_in address 0 y) state_in ≡ Fell (record state_in { memory = wasm.stored each_in (place_in x) v memory })
        store_in y v same lt =
            ap (λ z. inside each_in z state_in (Fell (record state_in { memory = wasm.stored each_in z (value l y) memory }))) is
            ∙ cond-true (nat_le (place_in x + each_in) bytes) (Fell (record state_in { memory = wasm.stored each_in (place_in x) (value l y) memory })) (Trapped None state_in)
            (le-leb (place_in x + each_in) bytes (ends_in x lt))
            ∙ ap (λ v. Fell (record state_in { memory = wasm.stored each_in (place_in x) v memory })) same

      pub element_fits_in : (x : ℕ) → x < many_in → arrays at x < 2 ^ width t
      element_fits_in x lt = subst (λ u. arrays at x < 2 ^ width u) stored_as (keeps.elements_fit at x lt)

      -- ---- after a at

      module _ (x v : ℕ) (lt : x < many_in) (fit : v < 2 ^ width t) where
        abbrev pub memory_in : ℕ → ℕ
        memory_in = wasm.stored each_in (place_in x) v memory

        abbrev pub arrays_in : ℕ → Lanes
        arrays_in = put arrays at (put (arrays at) x v)

        new_at : (b e : ℕ) → (b ≡ at) ⊎ (b ≡ at → ⊥) → (e ≡ x) ⊎ (e ≡ x → ⊥) → e < w.sizes b
            → loaded (bytes_of (w.elems b)) (w.begins b + e * bytes_of (w.elems b)) memory_in ≡ arrays_in b e
        new_at b e (inl same) (inl f) l =
            subst (λ b. loaded (bytes_of (w.elems b)) (w.begins b + e * bytes_of (w.elems b)) memory_in ≡ arrays_in b e) (sym same)
            (ap (λ x. loaded each_in (place_in x) memory_in) f ∙ loaded_back each_in (place_in x) v memory
            ∙ mod-eq_of_lt (fits_bytes (w.elems at) v (subst (λ u. v < 2 ^ width u) (sym stored_as) fit))
            ∙ sym (ap (λ g. g e) (put_same arrays at (put (arrays at) x v) at refl) ∙ put_same (arrays at) x v e f))
        new_at b e (inl same) (inr ne) l =
            subst (λ b. e < w.sizes b → loaded (bytes_of (w.elems b)) (w.begins b + e * bytes_of (w.elems b)) memory_in ≡ arrays_in b e) (sym same)
            (λ l. loaded_beside each_in (place_in x) v memory each_in (place_in e) (beside (cases_lt e x)) ∙ keeps.elements at e l
            ∙ sym (ap (λ g. g e) (put_same arrays at (put (arrays at) x v) at refl) ∙ put_other (arrays at) x v e ne))
            l
          where
            later : x ≤ e → x < e
            later h = let other : e ≢ x = ne in omega arith

            beside : (e < x) ⊎ (x ≤ e) → (place_in e + each_in ≤ place_in x) ⊎ (place_in x + each_in ≤ place_in e)
            beside (inl h) = inl (let le = in_row e x each_in h in omega arith)
            beside (inr h) = inr (let le = in_row x e each_in (later h) in omega arith)
        new_at b e (inr ne) f l =
            loaded_beside each_in (place_in x) v memory (bytes_of (w.elems b)) (w.begins b + e * bytes_of (w.elems b)) (beside (ready.disjoint b at ne))
            ∙ keeps.elements b e l ∙ sym (ap (λ g. g e) (put_other arrays at (put (arrays at) x v) b ne))
          where
            beside : (w.begins b + w.sizes b * bytes_of (w.elems b) ≤ w.begins at) ⊎ (w.begins at + many_in * each_in ≤ w.begins b)
                → (w.begins b + e * bytes_of (w.elems b) + bytes_of (w.elems b) ≤ place_in x) ⊎ (place_in x + each_in ≤ w.begins b + e * bytes_of (w.elems b))
            beside (inl h) = inl (let le = in_row e (w.sizes b) (bytes_of (w.elems b)) l in omega arith)
            beside (inr h) = inr (let le = in_row x many_in each_in lt in omega arith)

        fits_at : (b e : ℕ) → (b ≡ at) ⊎ (b ≡ at → ⊥) → (e ≡ x) ⊎ (e ≡ x → ⊥) → e < w.sizes b → arrays_in b e < 2 ^ width (w.elems b)
        fits_at b e (inl same) (inl f) l =
            subst (λ n. n < 2 ^ width (w.elems b)) (sym (ap (λ g. g e) (put_same arrays at (put (arrays at) x v) b same) ∙ put_same (arrays at) x v e f))
            (subst (λ u. v < 2 ^ width u) (sym (ap w.elems same ∙ stored_as)) fit)
        fits_at b e (inl same) (inr ne) l =
            subst (λ n. n < 2 ^ width (w.elems b)) (sym (ap (λ g. g e) (put_same arrays at (put (arrays at) x v) b same) ∙ put_other (arrays at) x v e ne ∙ ap (λ b. arrays b e) (sym same))) (keeps.elements_fit b e l)
        fits_at b e (inr ne) f l = subst (λ n. n < 2 ^ width (w.elems b)) (sym (ap (λ g. g e) (put_other arrays at (put (arrays at) x v) b ne))) (keeps.elements_fit b e l)

        kept_text : (t : ℕ) → wasm.bytes (length (text w t)) (w.text_at t) memory_in ≡ wasm.bytes (length (text w t)) (w.text_at t) memory
        kept_text t = bytes_same (length (text w t)) (w.text_at t) memory_in memory (λ j l. off_bytes each_in (place_in x) v memory (w.text_at t + j) (beside j l (ready.text_apart t at)))
          where
            beside : (j : ℕ) → j < length (text w t) → (w.text_at t + length (text w t) ≤ w.begins at) ⊎ (w.begins at + many_in * each_in ≤ w.text_at t)
                → (w.text_at t + j < place_in x) ⊎ (place_in x + each_in ≤ w.text_at t + j)
            beside j l (inl h) = inl (omega arith)
            beside j l (inr h) = inr (let le = in_row x many_in each_in lt in omega arith)

        pub keeps_stored_in : Keeps w arrays_in memory_in bytes
        keeps_stored_in =
            record {
              bytes_fit = bytes_stay each_in (place_in x) v memory keeps.bytes_fit;
              elements = λ b e l. new_at b e (cases_eq b at) (cases_eq e x) l;
              elements_fit = λ b e l. fits_at b e (cases_eq b at) (cases_eq e x) l;
              room = keeps.room;
              small = keeps.small;
              texts = λ t. kept_text t ∙ keeps.texts t;
              text_room = keeps.text_room;
              whole = keeps.whole;
              rest = λ a beside. off_bytes each_in (place_in x) v memory a (off a (beside.0 at)) ∙ keeps.rest a beside;
            }
          where
            off : (a : ℕ) → (a < w.begins at) ⊎ (w.begins at + many_in * each_in ≤ a) → (a < place_in x) ⊎ (place_in x + each_in ≤ a)
            off a (inl h) = inl (omega arith)
            off a (inr h) = inr (let le = in_row x many_in each_in lt in omega arith)

      -- ---- after all of it is zeroed_in

      abbrev pub zeroed_in : ℕ → ℕ
      zeroed_in = wasm.cleared (many_in * each_in) (w.begins at) memory

      zero_at : (b e : ℕ) → (b ≡ at) ⊎ (b ≡ at → ⊥) → e < w.sizes b → loaded (bytes_of (w.elems b)) (w.begins b + e * bytes_of (w.elems b)) zeroed_in ≡ put arrays at (λ e. 0) b e
      zero_at b e (inl same) l =
          subst (λ b. e < w.sizes b → loaded (bytes_of (w.elems b)) (w.begins b + e * bytes_of (w.elems b)) zeroed_in ≡ put arrays at (λ e. 0) b e) (sym same)
          (λ l. zeros_loaded (many_in * each_in) (w.begins at) memory each_in (place_in e) (omega arith) (let le = in_row e many_in each_in l in omega arith)
          ∙ sym (ap (λ g. g e) (put_same arrays at (λ e. 0) at refl)))
          l
      zero_at b e (inr ne) l =
          cleared_beside (many_in * each_in) (w.begins at) memory (bytes_of (w.elems b)) (w.begins b + e * bytes_of (w.elems b)) (beside (ready.disjoint b at ne))
          ∙ keeps.elements b e l ∙ sym (ap (λ g. g e) (put_other arrays at (λ e. 0) b ne))
        where
          beside : (w.begins b + w.sizes b * bytes_of (w.elems b) ≤ w.begins at) ⊎ (w.begins at + many_in * each_in ≤ w.begins b)
              → (w.begins b + e * bytes_of (w.elems b) + bytes_of (w.elems b) ≤ w.begins at) ⊎ (w.begins at + many_in * each_in ≤ w.begins b + e * bytes_of (w.elems b))
          beside (inl h) = inl (let le = in_row e (w.sizes b) (bytes_of (w.elems b)) l in omega arith)
          beside (inr h) = inr (omega arith)

      zero_fits : (b e : ℕ) → (b ≡ at) ⊎ (b ≡ at → ⊥) → e < w.sizes b → put arrays at (λ e. 0) b e < 2 ^ width (w.elems b)
      zero_fits b e (inl same) l = subst (λ n. n < 2 ^ width (w.elems b)) (sym (ap (λ g. g e) (put_same arrays at (λ e. 0) b same))) (pow_pos (width (w.elems b)))
      zero_fits b e (inr ne) l = subst (λ n. n < 2 ^ width (w.elems b)) (sym (ap (λ g. g e) (put_other arrays at (λ e. 0) b ne))) (keeps.elements_fit b e l)

      pub keeps_zeroed_in : Keeps w (put arrays at (λ e. 0)) zeroed_in bytes
      keeps_zeroed_in =
          record {
            bytes_fit = cleared_stay (many_in * each_in) (w.begins at) memory keeps.bytes_fit;
            elements = λ b e l. zero_at b e (cases_eq b at) l;
            elements_fit = λ b e l. zero_fits b e (cases_eq b at) l;
            room = keeps.room;
            small = keeps.small;
            texts = λ t. bytes_same (length (text w t)) (w.text_at t) zeroed_in memory (λ j l. cleared_off (many_in * each_in) (w.begins at) memory (w.text_at t + j) (beside t j l (ready.text_apart t at))) ∙ keeps.texts t;
            text_room = keeps.text_room;
            whole = keeps.whole;
            rest = λ a beside. cleared_off (many_in * each_in) (w.begins at) memory a (beside.0 at) ∙ keeps.rest a beside;
          }
        where
          beside : (t j : ℕ) → j < length (text w t) → (w.text_at t + length (text w t) ≤ w.begins at) ⊎ (w.begins at + many_in * each_in ≤ w.text_at t)
              → (w.text_at t + j < w.begins at) ⊎ (w.begins at + many_in * each_in ≤ w.text_at t + j)
          beside t j l (inl h) = inl (omega arith)
          beside t j l (inr h) = inr (omega arith)
