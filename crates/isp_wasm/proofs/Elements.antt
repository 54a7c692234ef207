-- Elements of the stores that an array register names: where lanes find them, what a load reads, and what a store keeps.
use Rattle.std.proofs.Common.{◌≡◌, ℕ, ◌+◌, ◌-◌, ◌*◌, ◌%◌, ◌^◌, ◌<◌, ◌≤◌, inl, inr, List, not, sym, ap, ap₂, ◌∙◌, subst, arith, mod-eq_of_lt}
use Rattle.std.specs.Prelude.{slice_get, nat_lt, if◌then◌else◌}
use Rattle.isp_base.specs.Access.{is_outside}
use Rattle.isp_base.specs.Maps.{put, Lanes}
use Rattle.isp_base.specs.Values.{width}
use Rattle.isp_base.specs.declared.types.Elem.{Elem}
use Rattle.isp_base.specs.declared.types.Elem.TheVariants.{I64}
use Rattle.isp_code.specs.Conf.{Home, Conf}
use Rattle.isp_code.specs.Lines.{size, outside, item, local_size}
use Rattle.isp_code.specs.Registers.{passed}
use Rattle.isp_code.specs.declared.register.Register.{Register}
use Rattle.isp_wasm_meaning.specs.Syntax.{Expr, Load, Store}
use Rattle.isp_wasm_meaning.specs.Meaning as wasm
use Rattle.isp_wasm_meaning.specs.Meaning.{State, Result, Fell, run, value, set_local}
use Rattle.isp_wasm.specs.Places.{Setting, Base, gang, elem, bytes_of}
use Rattle.isp_wasm.specs.Lanes.{store_at}
use Rattle.isp_wasm.specs.Templates.{element_from, opened_bytes, base_if, base_at}
use Rattle.isp_wasm.specs.Standing.{all_of, Stands, Keeps, IsSettled}
use Rattle.isp_wasm.specs.Thin.{IsArray, IsOwn, IsEither}
use Rattle.isp_wasm.proofs.Regions.{few_bytes, ends_in, load_in, store_in, element_fits_in, keeps_stored_in}
use Rattle.isp_wasm.proofs.Shared.{all_low, store_shared, store_own, lane_value}
use Rattle.isp_wasm.proofs.Indices.{outside_is, plain_address}
use Rattle.isp_wasm.proofs.Opening.{some_lanes}
use Rattle.isp_wasm.proofs.Vectors.{narrow}

sum_low : (x y : ℕ) → x + y < 2 ^ 32 → (x + y % 2 ^ 32) % 2 ^ 32 ≡ x + y
sum_low x y h = ap (λ z. (x + z) % 2 ^ 32) (mod-eq_of_lt (let lt : y < 2 ^ 32 = omega (arith, h) in lt)) ∙ mod-eq_of_lt h

module _ (w : Setting) (ready : IsSettled w) where
  -- an array in memory, as each lane finds it: all of one size, and a lane's base is worked out
  pub record IsFound (a : Register) (t : Elem) : Type 0 where
    pub elem_is : elem w a ≡ t
    pub stored_as : (p : ℕ) → p < gang w → w.elems (store_at w a.number p) ≡ t
    pub same_size : (p : ℕ) → p < gang w → w.sizes (store_at w a.number p) ≡ w.sizes (store_at w a.number 0)
    pub base_is : (p : ℕ) → p < gang w → (l : ℕ → ℕ) → l (w.local (Base a.number)) ≡ w.begins (store_at w a.number 0) → w.begins (store_at w a.number p) < 2 ^ 32
        → value l (base_at w a p) ≡ w.begins (store_at w a.number p)
    pub size_here : (c : Conf) → c.home ≡ w.home → size w.code w.routine c a ≡ w.sizes (store_at w a.number 0)
    pub item_here : (c : Conf) → c.home ≡ w.home → (e p : ℕ) → p < gang w → item w.code w.routine c a e p ≡ all_of w c (store_at w a.number p) e

  pub found_shared : (a : Register) (t : Elem) → IsArray w a t → IsFound a t
  found_shared a t el =
      record {
        elem_is = el.elem_is;
        stored_as = λ p l. ap w.elems (at p) ∙ el.stored_as;
        same_size = λ p l. ap w.sizes (at p ∙ sym (at 0));
        base_is = λ p l f base low. ap (λ b. value f (base_if w b a p)) el.shared ∙ base ∙ ap w.begins (at 0 ∙ sym (at p));
        size_here = λ c same. ap (λ b. if b then local_size (slice_get w.routine.locals (a.number - passed w.routine)) else c.home.sizes (c.home.named a.number)) el.shared
            ∙ ap (λ (h : Home). h.sizes (h.named a.number)) same ∙ sym (ready.sizes_are (w.home.named a.number) low) ∙ ap w.sizes (sym (at 0));
        item_here = λ c same e p l. ap (λ b. if b then c.own a.number e p else c.arrays (c.home.named a.number) e) el.shared ∙ ap (λ (h : Home). c.arrays (h.named a.number) e) same
            ∙ ap (λ (g : Lanes). g e) (sym (all_low w c (w.home.named a.number) low)) ∙ ap (λ b. all_of w c b e) (sym (at p));
      }
    where
      at : (p : ℕ) → store_at w a.number p ≡ w.home.named a.number
      at p = store_shared w a.number p el.shared

      low : w.home.named a.number ≤ w.home.opened
      low = let lt = el.low in omega (arith, lt)

  pub found_own : (a : Register) (t : Elem) → IsOwn w a t → IsFound a t
  found_own a t el =
      record {
        elem_is = el.elem_is;
        stored_as = el.stored_as;
        same_size = λ p l. el.size_is p l ∙ sym (el.size_is 0 (some_lanes w.code.gang));
        base_is = base_is;
        size_here = λ c same. ap (λ b. if b then local_size (slice_get w.routine.locals (a.number - passed w.routine)) else c.home.sizes (c.home.named a.number)) el.own ∙ sym (el.size_is 0 (some_lanes w.code.gang));
        item_here = λ c same e p l. ap (λ b. if b then c.own a.number e p else c.arrays (c.home.named a.number) e) el.own
            ∙ sym (ap (λ b. all_of w c b e) (store_own w a.number p el.own) ∙ lane_value w c a.number e p (let le = narrow w.code.gang in omega (arith, l, le)));
      }
    where
      base_is : (p : ℕ) → p < gang w → (l : ℕ → ℕ) → l (w.local (Base a.number)) ≡ w.begins (store_at w a.number 0) → w.begins (store_at w a.number p) < 2 ^ 32
          → value l (base_at w a p) ≡ w.begins (store_at w a.number p)
      base_is p low l base small =
          ap (λ b. value l (base_if w b a p)) el.own ∙ ap (λ x. (x + (p * opened_bytes w a) % 2 ^ 32) % 2 ^ 32) base
          ∙ sum_low (w.begins (store_at w a.number 0)) (p * opened_bytes w a) (subst (λ n. n < 2 ^ 32) (el.start_is p low) small) ∙ sym (el.start_is p low)

  pub found : (a : Register) (t : Elem) → IsEither w a t → IsFound a t
  found a t (inl el) = found_shared a t el
  found a t (inr el) = found_own a t el

  module _ (a : Register) (t : Elem) (el : IsFound a t) where
    -- how many elements there are, in a lane
    abbrev pub many : ℕ
    many = w.sizes (store_at w a.number 0)

    pub few : many ≤ 2 ^ 32
    few = ready.bounded (store_at w a.number 0)

    pub size_is : (pc : ℕ) (c : Conf) (s : State) → Stands w pc c s → size w.code w.routine c a ≡ many
    size_is pc c s st = el.size_here c st.home_is

    pub outside_at : (pc : ℕ) (c : Conf) (s : State) (x : ℕ) → Stands w pc c s → x < 2 ^ 64 → outside w.code w.routine c a x ≡ not (nat_lt x many)
    outside_at pc c s x st fit = ap (λ n. is_outside I64 n x) (size_is pc c s st) ∙ outside_is many x (let le = few in omega arith) fit

    -- ---- as one lane finds it

    module _ (p : ℕ) (low : p < gang w) where
      abbrev pub store : ℕ
      store = store_at w a.number p

      abbrev pub each_bytes : ℕ
      each_bytes = bytes_of (w.elems store)

      abbrev pub place_of : ℕ → ℕ
      place_of x = w.begins store + x * each_bytes

      bytes_are : bytes_of (elem w a) ≡ each_bytes
      bytes_are = ap bytes_of (el.elem_is ∙ sym (el.stored_as p low))

      there : (x : ℕ) → x < many → x < w.sizes store
      there x lt = subst (λ n. x < n) (sym (el.same_size p low)) lt

      module _ (arrays : ℕ → Lanes) (memory : ℕ → ℕ) (bytes : ℕ) (keeps : Keeps w arrays memory bytes) where
        ends_inside : (x : ℕ) → x < many → place_of x + each_bytes ≤ bytes
        ends_inside x lt = ends_in w ready store t (el.stored_as p low) arrays memory bytes keeps x (there x lt)

        -- a lane's base has 32 bits, where there is an element
        pub base_found : (l : ℕ → ℕ) (x : ℕ) → x < many → l (w.local (Base a.number)) ≡ w.begins (store_at w a.number 0) → value l (base_at w a p) ≡ w.begins store
        base_found l x lt base = el.base_is p low l base (let le = ends_inside x lt in let some = few_bytes (w.elems store) in let small = keeps.small in let more = x * each_bytes in omega (arith, le, some, small))

        module _ (l : ℕ → ℕ) (from e : Expr) (x : ℕ) (base : value l from ≡ w.begins store) (index : value l e ≡ x) where
          pub address_is : x < many → value l (element_from w from a e) + 0 ≡ place_of x
          address_is lt =
              let le = ends_inside x lt in
              let some = few_bytes (w.elems store) in
              let small = keeps.small in
              let size = few in
              let whole : value l (element_from w from a e) ≡ place_of x =
              ap (λ m. (value l from + (value l e % 2 ^ 32 * (m % 2 ^ 32)) % 2 ^ 32) % 2 ^ 32) bytes_are
              ∙ ap₂ (λ b x. (b + (x % 2 ^ 32 * (each_bytes % 2 ^ 32)) % 2 ^ 32) % 2 ^ 32) base index
              ∙ plain_address (w.begins store) x each_bytes (omega arith) (omega arith) (omega arith) in
              omega arith

          module _ (fuel : ℕ) (call : ℕ → List ℕ → State → Result) (out : List ℕ) (globals : ℕ → ℕ) where
            abbrev pub at_state : State
            at_state = record { globals = globals; locals = l; memory = memory; size = bytes; out = out }

            pub load_is : (d : ℕ) → x < many → run fuel call (Load (bytes_of (elem w a)) d (element_from w from a e) 0) at_state ≡ Fell (set_local d (arrays store x) at_state)
            load_is d lt =
                ap (λ m. run fuel call (Load m d (element_from w from a e) 0) at_state) bytes_are
                ∙ load_in w ready store t (el.stored_as p low) arrays memory bytes keeps l (element_from w from a e) x (address_is lt) fuel call out globals d (there x lt)

            pub store_is : (y : Expr) (v : ℕ) → value l y ≡ v → x < many
                → run fuel call (Store (bytes_of (elem w a)) (element_from w from a e) 0 y) at_state ≡ Fell (record at_state { memory = wasm.stored each_bytes (place_of x) v memory })
            store_is y v is lt =
                ap (λ m. run fuel call (Store m (element_from w from a e) 0 y) at_state) bytes_are
                ∙ store_in w ready store t (el.stored_as p low) arrays memory bytes keeps l (element_from w from a e) x (address_is lt) fuel call out globals y v is (there x lt)

        pub element_fits : (x : ℕ) → x < many → arrays store x < 2 ^ width t
        element_fits x lt = element_fits_in w ready store t (el.stored_as p low) arrays memory bytes keeps x (there x lt)

        -- ---- after a store

        module _ (x v : ℕ) (lt : x < many) (fit : v < 2 ^ width t) where
          abbrev pub new_memory : ℕ → ℕ
          new_memory = wasm.stored each_bytes (place_of x) v memory

          pub keeps_stored : Keeps w (put arrays store (put (arrays store) x v)) new_memory bytes
          keeps_stored = keeps_stored_in w ready store t (el.stored_as p low) arrays memory bytes keeps x v (there x lt) fit

  pub keeps_same : (a b : ℕ → Lanes) (memory : ℕ → ℕ) (bytes : ℕ) → ((r e : ℕ) → a r e ≡ b r e) → Keeps w a memory bytes → Keeps w b memory bytes
  keeps_same a b memory bytes same keeps =
      record {
        bytes_fit = keeps.bytes_fit;
        elements = λ r e l. keeps.elements r e l ∙ same r e;
        elements_fit = λ r e l. subst (λ v. v < 2 ^ width (w.elems r)) (same r e) (keeps.elements_fit r e l);
        room = keeps.room;
        small = keeps.small;
        texts = keeps.texts;
        text_room = keeps.text_room;
        whole = keeps.whole;
        rest = keeps.rest;
      }
