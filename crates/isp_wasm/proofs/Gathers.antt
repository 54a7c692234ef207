-- Gathers, loads of consecutive elements, loads of one, and loads in the order of a mask's lanes.
use Rattle.std.proofs.Common.{◌≡◌, ℕ, zero, suc, ◌+◌, ◌%◌, ◌^◌, ◌<◌, ◌≤◌, ◌⊎◌, inl, inr, List, Some, None, Bool, true, false, not, ◌&&◌, refl, sym, ap, ap₂, ◌∙◌, subst, arith, mod-eq_of_lt, bit_and}
use Rattle.std.specs.Prelude.{slice_get, nat_eq, nat_lt, if◌then◌else◌, pos, ◌+ℤ◌, unsigned_abs}
use Rattle.std.proofs.lemmas.Bool.{ltb-true, not-false}
use Rattle.isp_base.specs.Access.{is_beyond, element}
use Rattle.isp_base.specs.Cross.{or_zero, rank, run_outside, packed_outside}
use Rattle.isp_base.specs.Maps.{Map, Lanes, on, over, or_old, put, where_true, each1}
use Rattle.isp_base.specs.Sets.{Mask, lowest}
use Rattle.isp_base.specs.Traps.{trap}
use Rattle.isp_base.specs.Values.{number, width}
use Rattle.isp_base.specs.declared.trap.TrapKind.TheVariants as kind
use Rattle.isp_base.specs.declared.types.Elem.{Elem}
use Rattle.isp_base.specs.declared.types.Elem.TheVariants.{I32, I64}
use Rattle.isp_code.specs.Calls.{place_at}
use Rattle.isp_code.specs.Conf.{Conf, Go}
use Rattle.isp_code.specs.Lines.{act, set_scalar, moved, unless, outside, failing, size, item, packed_loaded}
use Rattle.isp_code.specs.Registers.{is_per_lane}
use Rattle.isp_code.specs.declared.instr.Instr.{Instr}
use Rattle.isp_code.specs.declared.instr.Instr.TheVariants as instr
use Rattle.isp_code.specs.declared.instr.ScalarInstr.TheVariants as scalar
use Rattle.isp_code.specs.declared.instr.VectorInstr.TheVariants as vector
use Rattle.isp_code.specs.declared.register.Class.TheVariants as class
use Rattle.isp_code.specs.declared.register.Register.{Register}
use Rattle.isp_wasm_meaning.specs.Syntax as syntax
use Rattle.isp_wasm_meaning.specs.Syntax.{Expr, Code, Load, Local}
use Rattle.isp_wasm_meaning.specs.Meaning.{Report, State, Result, Fell, Trapped, run, value, behind, then_to, flag, flags, set_local}
use Rattle.isp_wasm_meaning.specs.Ladder.{Meets}
use Rattle.isp_wasm.specs.Places as place
use Rattle.isp_wasm.specs.Places.{Setting, Counter, elem, bytes_of, gang}
use Rattle.isp_wasm.specs.Lanes.{store_at}
use Rattle.isp_wasm.specs.Templates.{lane_loads, address_at, checked, scalar_code, own_index, run_index, packed_index, rank_expr, set_count, scalar_local, lowest_of}
use Rattle.isp_wasm.specs.Standing.{all_of, Stands, Holds, IsSettled, the_machine, vector_register, scalar_register}
use Rattle.isp_wasm.specs.Thin.{IsVector, IsScalar}
use Rattle.isp_wasm.proofs.Frames.{holds_scalar, there, elsewhere}
use Rattle.isp_wasm.proofs.Steps.{falls_on, fails_here}
use Rattle.isp_wasm.proofs.Parts.{Kept, Told, ends_behind}
use Rattle.isp_wasm.proofs.Vectors.{narrow, scalar_fits, vector_fits, vector_lane}
use Rattle.isp_wasm.proofs.MaskWords.{member_is, lowest_is}
use Rattle.isp_wasm.proofs.Scalars.{falls_scalar}
use Rattle.isp_wasm.proofs.Indices.{element_is, beyond_is, first_is}
use Rattle.isp_wasm.proofs.LaneLoops.{Sound, Refused, Filled, vectors_at, kept_lane, all_filled}
use Rattle.isp_wasm.proofs.LaneEnds.{one_test, lanes_end, none_fails, filled_fails}
use Rattle.isp_wasm.proofs.Opening.{some_lanes}
use Rattle.isp_wasm.proofs.Elements.{IsFound, many, few, size_is, outside_at, load_is, element_fits}
use Rattle.isp_wasm.proofs.Loads.{there_cut, test_is, got, bad, body, lanes_loaded}

pub sound_index : (b : Bool) (x n : ℕ) → (b && not (nat_lt x n)) ≡ false → b ≡ true → x < n
sound_index true x n h on = ltb-true x n (not-false (nat_lt x n) h)
sound_index false x n h on = absurd cc

pub rank_low : (a : Mask) (p : ℕ) → rank a p ≤ p
rank_low a zero = omega arith
rank_low a (suc p) = let le = rank_low a p in by (a p) le
  where
    by : (b : Bool) → rank a p ≤ p → rank a p + (if b then 1 else 0) ≤ suc p
    by true le = omega arith
    by false le = omega arith

one_of : (b : Bool) → bit_and (flags 8 b) 1 ≡ (if b then 1 else 0)
one_of true = refl
one_of false = refl

-- the lanes of a mask below one
pub rank_is : (w : Setting) (sc : ℕ → ℕ) (ve : ℕ → Lanes) (ma : ℕ → Mask) (l : ℕ → ℕ) → Holds w sc ve ma l → (k : Register) (p : ℕ) → p ≤ 32 → value l (rank_expr w k p) ≡ rank (ma k.number) p
rank_is w sc ve ma l h k zero le = refl
rank_is w sc ve ma l h k (suc p) le =
    ap₂ (λ u v. (u + v) % 2 ^ 64) (rank_is w sc ve ma l h k p (omega arith)) (ap (λ v. bit_and v 1) (member_is w sc ve ma l h k p) ∙ one_of (ma k.number p))
    ∙ mod-eq_of_lt (let up = rank_low (ma k.number) (suc p) in let lt : rank (ma k.number) (suc p) < 2 ^ 64 = omega arith in lt)

module _ (w : Setting) (ready : IsSettled w) (fuel n k : ℕ) (call : ℕ → List ℕ → State → Result) (pc : ℕ) (c : Conf) (s : State) (st : Stands w pc c s) where
  abbrev pub Good : ℕ → Conf → Result → Type 0
  Good pc = Meets (the_machine w) (w.local Counter) n fuel (Stands w pc) (suc k)

  -- ---- an element a lane

  module _ (d : ℕ) (a i m : Register) (q : ℕ) (el : IsFound w ready a (elem w (vector_register d))) where
    abbrev pub here : Elem
    here = elem w (vector_register d)

    abbrev pub length : ℕ
    length = many w ready a here el

    pub gathers : IsVector w i I64 → slice_get w.routine.code pc ≡ Some (instr.Vector (vector_register d) (vector.Gather a i m q)) → Good (pc + 1) c (run fuel call (lane_loads w (vector_register d) a (own_index w i) m q) s)
    gathers iv has =
        lanes_end w ready fuel n k call pc c s st d m (got w ready fuel n k call pc c s st d a m q el (own_index w i) x) (bad w ready fuel n k call pc c s st d a m q el (own_index w i) x) kind.Index q
        (body w ready fuel n k call pc c s st d a m q el (own_index w i) x) (instr.Vector (vector_register d) (vector.Gather a i m q)) (where_true (outside w.code w.routine c a) (on (c.masks m.number) x))
        (λ p. each1 (λ b. item w.code w.routine c a (element I64 b) p) (on (c.masks m.number) x p)) has refl
        (λ p l. one_test (c.masks m.number p) (outside w.code w.routine c a) (x p) ∙ ap (λ o. c.masks m.number p && o) (outside_at w ready a here el pc c s (x p) st (fits p l)))
        (λ p l sound. by p l (c.masks m.number p) refl sound)
        (run fuel call (lane_loads w (vector_register d) a (own_index w i) m q) s)
        (lanes_loaded w ready fuel n k call pc c s st d a m q el (own_index w i) x
        (λ p low on l h. vector_lane w (record c { vectors = vectors_at w ready fuel call c s d m (got w ready fuel n k call pc c s st d a m q el (own_index w i) x) p }) l h i I64 iv p low
        ∙ kept_lane w ready fuel call c s d m (got w ready fuel n k call pc c s st d a m q el (own_index w i) x) p i.number))
      where
        x : ℕ → ℕ
        x = c.vectors i.number

        fits : (p : ℕ) → p < gang w → x p < 2 ^ 64
        fits p l = vector_fits w c s.locals st.holds i I64 iv p l

        by : (p : ℕ) → p < gang w → (b : Bool) → c.masks m.number p ≡ b → (c.masks m.number p && not (nat_lt (x p) length)) ≡ false
            → (if c.masks m.number p then all_of w c (store_at w a.number p) (x p) else c.vectors d p) ≡ or_old (each1 (λ b. item w.code w.routine c a (element I64 b) p) (if c.masks m.number p then Some (x p) else None)) (c.vectors d p)
        by p l true on sound =
            let lt = sound_index (c.masks m.number p) (x p) length sound on in
            let size = few w ready a here el in
            ap (λ b. if b then all_of w c (store_at w a.number p) (x p) else c.vectors d p) on
            ∙ sym (ap (λ b. or_old (each1 (λ b. item w.code w.routine c a (element I64 b) p) (if b then Some (x p) else None)) (c.vectors d p)) on ∙ el.item_here c st.home_is (element I64 (x p)) p l ∙ ap (all_of w c (store_at w a.number p)) (element_is (x p) (omega arith)))
        by p l false off sound =
            ap (λ b. if b then all_of w c (store_at w a.number p) (x p) else c.vectors d p) off
            ∙ sym (ap (λ b. or_old (each1 (λ b. item w.code w.routine c a (element I64 b) p) (if b then Some (x p) else None)) (c.vectors d p)) off)

    module _ (is : IsScalar w i I64) (has : slice_get w.routine.code pc ≡ Some (instr.Vector (vector_register d) (vector.LoadRun a i m q))) where
      fits : c.scalars i.number < 2 ^ 64
      fits = scalar_fits w c s.locals st.holds i I64 is

      abbrev x : ℕ → ℕ
      x p = (c.scalars i.number + p) % 2 ^ 64

      by : (p : ℕ) → p < gang w → (b : Bool) → c.masks m.number p ≡ b → (c.masks m.number p && not (nat_lt (x p) length)) ≡ false
          → (if c.masks m.number p then all_of w c (store_at w a.number p) (x p) else c.vectors d p)
          ≡ or_old (if c.masks m.number p then Some (item w.code w.routine c a (unsigned_abs (number I64 (c.scalars i.number) +ℤ pos p)) p) else None) (c.vectors d p)
      by p l true on sound =
          let lt = sound_index (c.masks m.number p) (x p) length sound on in
          ap (λ b. if b then all_of w c (store_at w a.number p) (x p) else c.vectors d p) on
          ∙ sym (ap (λ b. or_old (if b then Some (item w.code w.routine c a (unsigned_abs (number I64 (c.scalars i.number) +ℤ pos p)) p) else None) (c.vectors d p)) on
          ∙ el.item_here c st.home_is (unsigned_abs (number I64 (c.scalars i.number) +ℤ pos p)) p l
          ∙ ap (all_of w c (store_at w a.number p)) (first_is length (c.scalars i.number) p (few w ready a here el) fits (let le = narrow w.code.gang in omega arith) lt))
      by p l false off sound =
          ap (λ b. if b then all_of w c (store_at w a.number p) (x p) else c.vectors d p) off
          ∙ sym (ap (λ b. or_old (if b then Some (item w.code w.routine c a (unsigned_abs (number I64 (c.scalars i.number) +ℤ pos p)) p) else None) (c.vectors d p)) off)

      abbrev Loaded : Result → Type 0
      Loaded r =
          Kept (Sound w fuel call c.masks m (bad w ready fuel n k call pc c s st d a m q el (run_index w i) x) 1 q (body w ready fuel n k call pc c s st d a m q el (run_index w i) x) (Filled w ready fuel call c s d m (got w ready fuel n k call pc c s st d a m q el (run_index w i) x)) (gang w)) r
          ⊎ Told (Refused w fuel call c.masks m (bad w ready fuel n k call pc c s st d a m q el (run_index w i) x) 1 q (body w ready fuel n k call pc c s st d a m q el (run_index w i) x) (Filled w ready fuel call c s d m (got w ready fuel n k call pc c s st d a m q el (run_index w i) x))) r

      loaded : Loaded (run fuel call (lane_loads w (vector_register d) a (run_index w i) m q) s)
      loaded =
          lanes_loaded w ready fuel n k call pc c s st d a m q el (run_index w i) x
          (λ p low on l h. ap₂ (λ u v. (u + v) % 2 ^ 64) (h.scalars_are i.number) (mod-eq_of_lt (let le = narrow w.code.gang in let lt : p < 2 ^ 64 = omega arith in lt)))

      pub runs : Good (pc + 1) c (run fuel call (lane_loads w (vector_register d) a (run_index w i) m q) s)
      runs =
          lanes_end w ready fuel n k call pc c s st d m (got w ready fuel n k call pc c s st d a m q el (run_index w i) x) (bad w ready fuel n k call pc c s st d a m q el (run_index w i) x) kind.Index q
          (body w ready fuel n k call pc c s st d a m q el (run_index w i) x) (instr.Vector (vector_register d) (vector.LoadRun a i m q))
          (run_outside (size w.code w.routine c a) (number I64 (c.scalars i.number)) (c.masks m.number)) (on (c.masks m.number) (λ p. item w.code w.routine c a (unsigned_abs (number I64 (c.scalars i.number) +ℤ pos p)) p)) has refl
          (λ p l. ap (λ b. c.masks m.number p && b) (ap (λ n. is_beyond n (number I64 (c.scalars i.number) +ℤ pos p)) (size_is w ready a here el pc c s st) ∙ beyond_is length (c.scalars i.number) p (few w ready a here el) fits (let le = narrow w.code.gang in omega arith)))
          (λ p l sound. by p l (c.masks m.number p) refl sound)
          (run fuel call (lane_loads w (vector_register d) a (run_index w i) m q) s) loaded

      -- as a branch
      pub runs_end : Good (pc + 1) c (behind (run fuel call (lane_loads w (vector_register d) a (run_index w i) m q) s))
      runs_end = subst (Good (pc + 1) c) (sym (ends_behind _ _ (run fuel call (lane_loads w (vector_register d) a (run_index w i) m q) s) loaded)) runs

    -- in the order of the mask's lanes, which are counted
    pub packed_loads : is_per_lane w.routine a ≡ false → (r : Register) → r.class ≡ class.Scalar → elem w r ≡ I32 → IsScalar w i I64 → slice_get w.routine.code pc ≡ Some (instr.PackedLoad r a i (vector_register d) m q)
        → Good (pc + 1) c (then_to (run fuel call (lane_loads w (vector_register d) a (packed_index w i m) m q) s) (run fuel call (set_count w r m)))
    packed_loads shared r cl re is has = ends (run fuel call (lane_loads w (vector_register d) a (packed_index w i m) m q) s)
        (lanes_loaded w ready fuel n k call pc c s st d a m q el (packed_index w i m) x
        (λ p low on l h. ap₂ (λ u v. (u + v) % 2 ^ 64) (h.scalars_are i.number) (rank_is w c.scalars (vectors_at w ready fuel call c s d m (got w ready fuel n k call pc c s st d a m q el (packed_index w i m) x) p) c.masks l h m p (let le = narrow w.code.gang in omega arith))))
      where
        fits : c.scalars i.number < 2 ^ 64
        fits = scalar_fits w c s.locals st.holds i I64 is

        set : Mask
        set = c.masks m.number

        x : ℕ → ℕ
        x p = (c.scalars i.number + rank set p) % 2 ^ 64

        small : (p : ℕ) → p < gang w → rank set p < 32
        small p l = let le = narrow w.code.gang in let up = rank_low set p in omega arith

        worse : Mask
        worse = packed_outside (size w.code w.routine c a) (number I64 (c.scalars i.number)) set

        same_bad : (p : ℕ) → p < gang w → worse p ≡ (set p && not (nat_lt (x p) length))
        same_bad p l = ap (λ b. set p && b) (ap (λ n. is_beyond n (number I64 (c.scalars i.number) +ℤ pos (rank set p))) (size_is w ready a here el pc c s st) ∙ beyond_is length (c.scalars i.number) (rank set p) (few w ready a here el) fits (small p l))

        y : Map
        y = on set (λ p. c.arrays (c.home.named a.number) (unsigned_abs (number I64 (c.scalars i.number) +ℤ pos (rank set p))))

        by : (p : ℕ) → p < gang w → (b : Bool) → set p ≡ b → (set p && not (nat_lt (x p) length)) ≡ false → (if set p then all_of w c (store_at w a.number p) (x p) else c.vectors d p) ≡ over y (c.vectors d) p
        by p l true on sound =
            let lt = sound_index (set p) (x p) length sound on in
            ap (λ b. if b then all_of w c (store_at w a.number p) (x p) else c.vectors d p) on
            ∙ sym (ap (λ b. or_old (if b then Some (c.arrays (c.home.named a.number) (unsigned_abs (number I64 (c.scalars i.number) +ℤ pos (rank set p)))) else None) (c.vectors d p)) on
            ∙ ap (c.arrays (c.home.named a.number)) (first_is length (c.scalars i.number) (rank set p) (few w ready a here el) fits (small p l) lt)
            ∙ sym (ap (λ b. if b then c.own a.number (x p) p else c.arrays (c.home.named a.number) (x p)) shared) ∙ el.item_here c st.home_is (x p) p l)
        by p l false off sound =
            ap (λ b. if b then all_of w c (store_at w a.number p) (x p) else c.vectors d p) off
            ∙ sym (ap (λ b. or_old (if b then Some (c.arrays (c.home.named a.number) (unsigned_abs (number I64 (c.scalars i.number) +ℤ pos (rank set p)))) else None) (c.vectors d p)) off)

        all : rank set (gang w) ≤ 32
        all = let le = narrow w.code.gang in let up = rank_low set (gang w) in omega arith

        ends : (res : Result)
            → Kept (Sound w fuel call c.masks m (bad w ready fuel n k call pc c s st d a m q el (packed_index w i m) x) 1 q (body w ready fuel n k call pc c s st d a m q el (packed_index w i m) x) (Filled w ready fuel call c s d m (got w ready fuel n k call pc c s st d a m q el (packed_index w i m) x)) (gang w)) res
            ⊎ Told (Refused w fuel call c.masks m (bad w ready fuel n k call pc c s st d a m q el (packed_index w i m) x) 1 q (body w ready fuel n k call pc c s st d a m q el (packed_index w i m) x) (Filled w ready fuel call c s d m (got w ready fuel n k call pc c s st d a m q el (packed_index w i m) x))) res
            → Good (pc + 1) c (then_to res (run fuel call (set_count w r m)))
        ends res (inl kept) =
            let f = kept.holds.inv in
            let u : State = record s { locals = f.locals } in
            let v = value f.locals (syntax.One syntax.Wrap (rank_expr w m (gang w))) in
            let held = all_filled w ready fuel call c s d m (got w ready fuel n k call pc c s st d a m q el (packed_index w i m) x) kept.state f (over y (c.vectors d)) (λ p l. by p l (set p) refl (kept.holds.sound p l)) in
            let counted : v ≡ rank set (gang w) = ap (λ z. z % 2 ^ 32) (rank_is w c.scalars (put c.vectors d (over y (c.vectors d))) c.masks f.locals held m (gang w) (narrow w.code.gang)) ∙ mod-eq_of_lt (let lt : rank set (gang w) < 2 ^ 32 = omega (arith, all) in lt) in
            subst (Good (pc + 1) c) (sym (ap (λ z. then_to z (run fuel call (set_count w r m))) (kept.fell ∙ ap Fell f.is)))
            (falls_on w ready fuel n k pc c s (instr.PackedLoad r a i (vector_register d) m q) st has (packed_loaded w.code w.routine c r a (number I64 (c.scalars i.number)) (vector_register d) m) (set_local (w.local (place.Scalar r.number)) v u)
            (ap (λ o. moved (unless w.code w.routine c o kind.Index q (packed_loaded w.code w.routine c r a (number I64 (c.scalars i.number)) (vector_register d) m)) (λ c1. c1))
            (none_fails w ready fuel n k call pc c s st m (bad w ready fuel n k call pc c s st d a m q el (packed_index w i m) x) kind.Index q (body w ready fuel n k call pc c s st d a m q el (packed_index w i m) x)
            (Filled w ready fuel call c s d m (got w ready fuel n k call pc c s st d a m q el (packed_index w i m) x)) worse same_bad kept.state kept.holds))
            refl refl refl refl
            (subst (λ z. Holds w (put c.scalars r.number z) (put c.vectors d (over y (c.vectors d))) c.masks (set_local (w.local (place.Scalar r.number)) v u).locals) counted
            (holds_scalar w c.scalars (put c.vectors d (over y (c.vectors d))) c.masks f.locals (set_local (w.local (place.Scalar r.number)) v u).locals r.number v held
            (subst (λ z. z < 2 ^ width (elem w (scalar_register r.number))) (sym counted)
            (subst (λ t. rank set (gang w) < 2 ^ width t) (sym (ap (λ a. elem w (record { class = a; number = r.number })) (sym cl) ∙ re)) (omega (arith, all))))
            (there w ready (place.Scalar r.number) v u) (λ p kept ne. elsewhere w ready (place.Scalar r.number) p v u ne)))
            st.keeps)
        ends res (inr told) =
            subst (Good (pc + 1) c) (sym (ap (λ z. then_to z (run fuel call (set_count w r m))) told.trapped)) (filled_fails w ready fuel n k call pc c s st d m (got w ready fuel n k call pc c s st d a m q el (packed_index w i m) x) (bad w ready fuel n k call pc c s st d a m q el (packed_index w i m) x) kind.Index q (body w ready fuel n k call pc c s st d a m q el (packed_index w i m) x)
            (instr.PackedLoad r a i (vector_register d) m q) worse Conf (packed_loaded w.code w.routine c r a (number I64 (c.scalars i.number)) (vector_register d) m) (λ c1. c1) has refl same_bad (Trapped told.report told.state)
            (record { state = told.state; report = told.report; trapped = refl; holds = told.holds }))

  -- ---- one element

  module _ (a i m : Register) (q : ℕ) (t : Elem) (el : IsFound w ready a t) (is : IsScalar w i I64) where
    abbrev pub index : ℕ
    index = c.scalars i.number

    abbrev pub told_fault : Report
    told_fault = record { kind = 1; start = (place_at w.code q).start; end = (place_at w.code q).end; instance = value s.locals (lowest_of w m) }

    pub checked_is : (b : Bool) → nat_lt index (many w ready a t el) ≡ b → run fuel call (checked w a i m q) s ≡ (if b then Fell s else Trapped (Some told_fault) s)
    checked_is b e =
        ap (λ v. behind (if nat_eq v 0 then Trapped (Some told_fault) s else Fell s)) (test_is w ready fuel n k call pc c s st a s.locals (scalar_local w i) index (st.holds.counts a.number) (st.holds.scalars_are i.number) ∙ ap flag e)
        ∙ there_cut b (Trapped (Some told_fault) s) (Fell s) ∙ by b
      where
        by : (b : Bool) → behind (if b then Fell s else Trapped (Some told_fault) s) ≡ (if b then Fell s else Trapped (Some told_fault) s)
        by true = refl
        by false = refl

    pub outside_here : (b : Bool) → nat_lt index (many w ready a t el) ≡ b → outside w.code w.routine c a index ≡ not b
    outside_here b e = outside_at w ready a t el pc c s index st (scalar_fits w c s.locals st.holds i I64 is) ∙ ap not e

    -- an instruction that is checked so and fails
    pub faults : (i1 : Instr) (A : Type 0) (v : A) (go : A → Conf) → slice_get w.routine.code pc ≡ Some i1 → nat_lt index (many w ready a t el) ≡ false
        → act w.code w.routine c i1 ≡ moved (unless w.code w.routine c (failing w.code w.routine c (outside w.code w.routine c a index) m) kind.Index q v) go
        → Good (pc + 1) c (Trapped (Some told_fault) s)
    faults i1 A v go has e does =
        fails_here w ready fuel n k pc c s i1 st has (trap kind.Index (place_at w.code q) (or_zero (lowest (gang w) (c.masks m.number)))) s
        (does ∙ ap (λ b. moved (unless w.code w.routine c (failing w.code w.routine c b m) kind.Index q v) go) (outside_here false e)) refl st.keeps told_fault
        (ap (λ p. record { kind = 1; start = (place_at w.code q).start; end = (place_at w.code q).end; instance = p }) (lowest_is w c.scalars c.vectors c.masks s.locals st.holds m))

  pub loads : (d a i m : Register) (q : ℕ) → slice_get w.routine.code pc ≡ Some (instr.Scalar d (scalar.Load a i m q)) → d.class ≡ class.Scalar → (el : IsFound w ready a (elem w d)) → (is : IsScalar w i I64)
      → Good (pc + 1) c (run fuel call (scalar_code w d (scalar.Load a i m q)) s)
  loads d a i m q has cl el is = by (nat_lt (c.scalars i.number) (many w ready a (elem w d) el)) refl
    where
      after : State → Result
      after = run fuel call (Load (bytes_of (elem w a)) (w.local (place.Scalar d.number)) (address_at w a (scalar_local w i)) 0)

      by : (b : Bool) → nat_lt (c.scalars i.number) (many w ready a (elem w d) el) ≡ b → Good (pc + 1) c (then_to (run fuel call (checked w a i m q) s) after)
      by true e =
          let lt = ltb-true (c.scalars i.number) (many w ready a (elem w d) el) e in
          let size = few w ready a (elem w d) el in
          let v = all_of w c (store_at w a.number 0) (c.scalars i.number) in
          subst (Good (pc + 1) c)
          (sym (ap (λ r. then_to r after) (checked_is a i m q (elem w d) el is true e)
          ∙ load_is w ready a (elem w d) el 0 (some_lanes w.code.gang) (all_of w c) s.memory s.size st.keeps s.locals (Local (w.local (place.Base a.number))) (scalar_local w i) (c.scalars i.number) (st.holds.bases a.number) (st.holds.scalars_are i.number) fuel call s.out s.globals (w.local (place.Scalar d.number)) lt))
          (falls_scalar w ready fuel n k call pc c s st (instr.Scalar d (scalar.Load a i m q)) d v s has cl
          (ap (λ b. moved (unless w.code w.routine c (failing w.code w.routine c b m) kind.Index q (item w.code w.routine c a (element I64 (c.scalars i.number)) 0)) (set_scalar c d)) (outside_here a i m q (elem w d) el is true e)
          ∙ ap (λ x. Go (set_scalar c d x)) (el.item_here c st.home_is (element I64 (c.scalars i.number)) 0 (some_lanes w.code.gang) ∙ ap (all_of w c (store_at w a.number 0)) (element_is (c.scalars i.number) (omega arith))))
          (element_fits w ready a (elem w d) el 0 (some_lanes w.code.gang) (all_of w c) s.memory s.size st.keeps (c.scalars i.number) lt) (λ p kept. refl) refl st.keeps)
      by false e =
          subst (Good (pc + 1) c) (sym (ap (λ r. then_to r after) (checked_is a i m q (elem w d) el is false e)))
          (faults a i m q (elem w d) el is (instr.Scalar d (scalar.Load a i m q)) ℕ (item w.code w.routine c a (element I64 (c.scalars i.number)) 0) (set_scalar c d) has e refl)
