-- An array that the function opened is zeroed: whole, or, where each lane has its own, in the lanes of a mask.
use Rattle.std.proofs.Common.{◌≡◌, ℕ, suc, ◌+◌, ◌*◌, ◌%◌, ◌^◌, ◌<◌, ◌≤◌, ◌⊎◌, inl, inr, List, Some, None, Bool, true, false, ◌&&◌, refl, sym, ap, ap₂, ◌∙◌, subst, arith, mod-eq_of_lt}
use Rattle.std.proofs.Math.Path.{fun_ext}
use Rattle.std.specs.Prelude.{slice_get, nat_le, if◌then◌else◌}
use Rattle.std.proofs.lemmas.Bool.{cases_lt, le-leb, cond-true}
use Rattle.isp_base.specs.Maps.{Lanes, put}
use Rattle.isp_base.specs.Sets.{Mask}
use Rattle.isp_code.specs.Conf.{Conf, Go}
use Rattle.isp_code.specs.Lines.{cleared, set_array, set_own}
use Rattle.isp_code.specs.Registers.{is_per_lane}
use Rattle.isp_code.specs.declared.instr.Instr.TheVariants as instr
use Rattle.isp_code.specs.declared.register.Register.{Register}
use Rattle.isp_wasm_meaning.specs.Ladder.{Meets}
use Rattle.isp_wasm_meaning.specs.Syntax.{Code, Const32, Local, Clear}
use Rattle.isp_wasm_meaning.specs.Meaning as wasm
use Rattle.isp_wasm_meaning.specs.Meaning.{State, Result, Fell, Trapped, run, value, inside}
use Rattle.isp_wasm_meaning.proofs.Memory.{cleared_off}
use Rattle.isp_wasm.specs.Places.{Setting, Counter, Base, gang, elem, bytes_of}
use Rattle.isp_wasm.specs.Lanes.{store_at}
use Rattle.isp_wasm.specs.Standing.{all_of, Stands, Keeps, IsSettled, the_machine}
use Rattle.isp_wasm.specs.Templates.{is_member, opened_bytes, base_if, base_at, clear_if}
use Rattle.isp_wasm.specs.Thin.{IsOpened, IsOwn}
use Rattle.isp_wasm.proofs.Regions.{zeroed_in, keeps_zeroed_in}
use Rattle.isp_wasm.proofs.Elements.{found_own, keeps_same}
use Rattle.isp_wasm.proofs.LaneLoops.{Sound, Refused, IsLaneCode, lanes_run}
use Rattle.isp_wasm.proofs.MaskWords.{member_is}
use Rattle.isp_wasm.proofs.Owned.{upto, with_own, copy, none_yet, all_have, kept_copy, new_copy}
use Rattle.isp_wasm.proofs.Parts.{Kept, Told}
use Rattle.isp_wasm.proofs.Shared.{all_put, store_shared, store_own}
use Rattle.isp_wasm.proofs.Steps.{falls_on}
use Rattle.isp_wasm.proofs.Vectors.{narrow}

-- no bytes are zeroed, wherever they are
none_cleared : (z : ℕ) (memory : ℕ → ℕ) → wasm.cleared 0 z memory ≡ memory
none_cleared z memory = fun_ext (λ b. cleared_off 0 z memory b (by b (cases_lt b z)))
  where
    by : (b : ℕ) → (b < z) ⊎ (z ≤ b) → (b < z) ⊎ (z + 0 ≤ b)
    by b (inl lt) = inl lt
    by b (inr le) = inr (omega (arith, le))

low_rest : (x y : ℕ) → (x + y % 2 ^ 32) % 2 ^ 32 ≤ x + y
low_rest x y = omega arith

never : (b : Bool) → (b && false) ≡ true → ⊥
never true h = cc
never false h = cc

module _ (w : Setting) (ready : IsSettled w) (fuel n k : ℕ) (call : ℕ → List ℕ → State → Result) (pc : ℕ) (c : Conf) (s : State) (st : Stands w pc c s) (a m : Register) where
  abbrev Good : Result → Type 0
  Good r = Meets (the_machine w) (w.local Counter) n fuel (Stands w (pc + 1)) (suc k) c r

  -- ---- one that all lanes share

  module _ (op : IsOpened w a) where
    abbrev at : ℕ
    at = w.home.named a.number

    abbrev all : ℕ
    all = w.sizes at * bytes_of (w.elems at)

    bytes_are : opened_bytes w a ≡ all
    bytes_are = ap₂ (λ x y. x * bytes_of y) (sym op.size_is) (sym op.array.stored_as)

    abbrev zeroed : ℕ → ℕ
    zeroed = zeroed_in w ready at (elem w a) op.array.stored_as (all_of w c) s.memory s.size st.keeps

    clear_is : run fuel call (Clear (Local (w.local (Base a.number))) (Const32 (opened_bytes w a))) s ≡ Fell (record s { memory = zeroed })
    clear_is =
        ap₂ (λ z b. inside z b s (Fell (record s { memory = wasm.cleared z b s.memory }))) (mod-eq_of_lt op.few ∙ bytes_are) (st.holds.bases a.number ∙ ap w.begins (store_shared w a.number 0 op.array.shared))
        ∙ cond-true (nat_le (w.begins at + all) s.size) (Fell (record s { memory = wasm.cleared all (w.begins at) s.memory })) (Trapped None s) (le-leb (w.begins at + all) s.size (st.keeps.room at))

    clears_shared : slice_get w.routine.code pc ≡ Some (instr.Clear a m) → Good (run fuel call (Clear (Local (w.local (Base a.number))) (Const32 (opened_bytes w a))) s)
    clears_shared has =
        subst Good (sym clear_is)
        (falls_on w ready fuel n k pc c s (instr.Clear a m) st has (set_array c a (λ e. 0)) (record s { memory = zeroed }) (ap (λ b. Go (cleared w.code w.routine c b a m)) op.array.shared) refl refl refl refl st.holds
        (subst (λ h. Keeps w (all_of w (record c { arrays = put c.arrays (h.named a.number) (λ e. 0) })) zeroed s.size) (sym st.home_is)
        (keeps_same w ready (put (all_of w c) at (λ e. 0)) (all_of w (record c { arrays = put c.arrays at (λ e. 0) })) zeroed s.size (all_put w c at op.array.low (λ e. 0))
        (keeps_zeroed_in w ready at (elem w a) op.array.stored_as (all_of w c) s.memory s.size st.keeps))))

  -- ---- one of which each lane has its own

  module _ (op : IsOwn w a (elem w a)) where
    abbrev set : Mask
    set = c.masks m.number

    -- what each lane is to have
    abbrev pub zeros : ℕ → Lanes
    zeros e p = if c.masks m.number p then 0 else c.own a.number e p

    abbrev after : ℕ → ℕ → Lanes
    after p = all_of w (with_own w c a.number zeros (upto w c a.number zeros p))

    pub record Zeroed (p : ℕ) (u : State) : Type 0 where
      pub memory : ℕ → ℕ
      pub is : u ≡ record s { memory = memory }
      pub keeps : Keeps w (after p) memory s.size

    abbrev body : ℕ → Code
    body p = Clear (base_at w a p) (Const32 (opened_bytes w a))

    module _ (p : ℕ) (low : p < gang w) (memory : ℕ → ℕ) (keeps : Keeps w (after p) memory s.size) where
      abbrev own_at : ℕ
      own_at = store_at w a.number p

      abbrev own_all : ℕ
      own_all = w.sizes own_at * bytes_of (w.elems own_at)

      own_bytes : opened_bytes w a ≡ own_all
      own_bytes = ap₂ (λ x y. x * bytes_of y) (sym (op.size_is p low)) (sym (op.stored_as p low))

      abbrev own_zeroed : ℕ → ℕ
      own_zeroed = zeroed_in w ready own_at (elem w a) (op.stored_as p low) (after p) memory s.size keeps

      few : opened_bytes w a % 2 ^ 32 ≡ own_all
      few = mod-eq_of_lt op.few ∙ own_bytes

      -- where it has no bytes, the address says nothing
      none : own_all ≡ 0 → run fuel call (body p) (record s { memory = memory }) ≡ Fell (record s { memory = own_zeroed })
      none e =
          ap (λ z. inside z address s1 (Fell (record s1 { memory = wasm.cleared z address memory }))) (few ∙ e)
          ∙ cond-true (nat_le (address + 0) s.size) (Fell (record s1 { memory = wasm.cleared 0 address memory })) (Trapped None s1) (le-leb (address + 0) s.size (omega (arith, address_low)))
          ∙ ap (λ f. Fell (record s1 { memory = f })) (none_cleared address memory ∙ sym (ap (λ z. wasm.cleared z (w.begins own_at) memory) e ∙ none_cleared (w.begins own_at) memory))
        where
          s1 : State
          s1 = record s { memory = memory }

          address : ℕ
          address = value s.locals (base_at w a p)

          no_bytes : (x : ℕ) → x ≡ 0 → p * x ≡ 0
          no_bytes x e = ap (λ x. p * x) e ∙ (let same : p * 0 ≡ 0 = omega arith in same)

          address_low : address ≤ s.size
          address_low =
              subst (λ n. n ≤ s.size) (sym (ap (λ b. value s.locals (base_if w b a p)) op.own ∙ ap (λ x. (x + (p * opened_bytes w a) % 2 ^ 32) % 2 ^ 32) (st.holds.bases a.number)))
              (let le = low_rest (w.begins (store_at w a.number 0)) (p * opened_bytes w a) in let room = keeps.room (store_at w a.number 0) in let more = w.sizes (store_at w a.number 0) * bytes_of (w.elems (store_at w a.number 0)) in
              let nothing = no_bytes (opened_bytes w a) (own_bytes ∙ e) in omega (arith, le, room, nothing))

      some : 0 < own_all → run fuel call (body p) (record s { memory = memory }) ≡ Fell (record s { memory = own_zeroed })
      some lt =
          ap₂ (λ z b. inside z b s1 (Fell (record s1 { memory = wasm.cleared z b memory }))) few
          ((found_own w ready a (elem w a) op).base_is p low s.locals (st.holds.bases a.number) (let room = keeps.room own_at in let small = keeps.small in omega (arith, room, small, lt)))
          ∙ cond-true (nat_le (w.begins own_at + own_all) s.size) (Fell (record s1 { memory = wasm.cleared own_all (w.begins own_at) memory })) (Trapped None s1) (le-leb (w.begins own_at + own_all) s.size (keeps.room own_at))
        where
          s1 : State
          s1 = record s { memory = memory }

      one_is : run fuel call (body p) (record s { memory = memory }) ≡ Fell (record s { memory = own_zeroed })
      one_is = by (cases_lt 0 own_all)
        where
          by : (0 < own_all) ⊎ (own_all ≤ 0) → run fuel call (body p) (record s { memory = memory }) ≡ Fell (record s { memory = own_zeroed })
          by (inl lt) = some lt
          by (inr le) = none (omega (arith, le))

      one_kept : set p ≡ true → Keeps w (after (suc p)) own_zeroed s.size
      one_kept on =
          keeps_same w ready (put (after p) (copy w c a.number zeros p) (λ e. 0)) (after (suc p)) own_zeroed s.size
          (new_copy w c a.number zeros p (let le = narrow w.code.gang in omega (arith, low, le)) (λ e. 0) (λ e. sym (ap (λ b. if b then 0 else c.own a.number e p) on)))
          (subst (λ b. Keeps w (put (after p) b (λ e. 0)) own_zeroed s.size) (store_own w a.number p op.own) (keeps_zeroed_in w ready own_at (elem w a) (op.stored_as p low) (after p) memory s.size keeps))

    abbrev Nobody : Mask
    Nobody p = false

    clear_code : IsLaneCode w fuel call c.masks m Nobody 1 0 body Zeroed
    clear_code =
        record {
          member = λ p u f. ap (λ v. value v.locals (is_member w m p)) f.is ∙ member_is w c.scalars c.vectors c.masks s.locals st.holds m p;
          skips = λ p u low f off. record {
            memory = f.memory;
            is = f.is;
            keeps = keeps_same w ready (after p) (after (suc p)) f.memory s.size (kept_copy w c a.number zeros p (λ e. ap (λ b. if b then 0 else c.own a.number e p) off)) f.keeps;
          };
          works = λ p u low f on good. record {
            state = record s { memory = own_zeroed p low f.memory f.keeps };
            fell = ap (run fuel call (body p)) f.is ∙ one_is p low f.memory f.keeps;
            holds = record { memory = own_zeroed p low f.memory f.keeps; is = refl; keeps = one_kept p low f.memory f.keeps on };
          };
          fails = λ p u low f on wrong. absurd (let impossible : false ≡ true = wrong in cc);
        }

    no_member : (r : ℕ) → gang w ≤ r → (b : Bool) → set r ≡ b → set r ≡ false
    no_member r le false e = e
    no_member r le true e = absurd (let low = st.holds.members m.number r e in omega (arith, low, le))

    clears_own : slice_get w.routine.code pc ≡ Some (instr.Clear a m) → Good (run fuel call (clear_if w true a m) s)
    clears_own has =
        by
        (lanes_run w fuel call c.masks m Nobody 1 0 body Zeroed clear_code s
        (record { memory = s.memory; is = refl; keeps = keeps_same w ready (all_of w c) (after 0) s.memory s.size (none_yet w c a.number zeros) st.keeps }))
      where
        by : Kept (Sound w fuel call c.masks m Nobody 1 0 body Zeroed (gang w)) (run fuel call (clear_if w true a m) s) ⊎ Told (Refused w fuel call c.masks m Nobody 1 0 body Zeroed) (run fuel call (clear_if w true a m) s)
            → Good (run fuel call (clear_if w true a m) s)
        by (inr told) = absurd (never (set told.holds.number) told.holds.outside)
        by (inl kept) =
            let f = kept.holds.inv in
            subst Good (sym (kept.fell ∙ ap Fell f.is))
            (falls_on w ready fuel n k pc c s (instr.Clear a m) st has (set_own c a zeros) (record s { memory = f.memory }) (ap (λ b. Go (cleared w.code w.routine c b a m)) op.own) refl refl refl refl st.holds
            (keeps_same w ready (after (gang w)) (all_of w (with_own w c a.number zeros zeros)) f.memory s.size
            (all_have w c a.number zeros (gang w) (λ r e le. ap (λ b. if b then 0 else c.own a.number e r) (no_member r le (set r) refl))) f.keeps))

  pub clears : IsOpened w a ⊎ IsOwn w a (elem w a) → slice_get w.routine.code pc ≡ Some (instr.Clear a m) → Good (run fuel call (clear_if w (is_per_lane w.routine a) a m) s)
  clears (inl op) has = subst (λ b. Good (run fuel call (clear_if w b a m) s)) (sym op.array.shared) (clears_shared op has)
  clears (inr op) has = subst (λ b. Good (run fuel call (clear_if w b a m) s)) (sym op.own) (clears_own op has)
