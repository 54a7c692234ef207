-- The templates of the calls across lanes.
use Rattle.std.proofs.Common.{◌≡◌, ℕ, suc, ◌+◌, ◌-◌, ◌*◌, ◌%◌, ◌^◌, ◌<◌, ◌≤◌, ◌⊎◌, inl, inr, List, Some, None, Bool, true, false, refl, sym, ap, ap₂, ◌∙◌, subst, arith, mod-eq_of_lt, eq-eqb, bit_and}
use Rattle.std.specs.Prelude.{slice_get, nat_eq, nat_lt, if◌then◌else◌}
use Rattle.std.proofs.lemmas.Bool.{cases_eq, cases_lt, lt-ltb, le-ltb, ne_eqb}
use Rattle.std.proofs.lemmas.Nat.{pow_pos}
use Rattle.isp_base.specs.Cross.{or_zero, instance, of_two, shuffle, shuffle_two, insert, extract, exclusive_scan}
use Rattle.isp_base.specs.Maps.{Map, Lanes, on}
use Rattle.isp_base.specs.Values.{width, number}
use Rattle.isp_base.specs.declared.types.Elem.{Elem}
use Rattle.isp_base.specs.declared.types.Elem.TheVariants.{I32}
use Rattle.isp_code.specs.Conf.{Conf, Go}
use Rattle.isp_code.specs.Lines.{act, set_vector, scan_of, exchanged}
use Rattle.isp_code.specs.declared.instr.Exchange.{Exchange}
use Rattle.isp_code.specs.declared.instr.Exchange.TheVariants as exchange
use Rattle.isp_code.specs.declared.instr.Instr.TheVariants as instr
use Rattle.isp_code.specs.declared.instr.Scan.{Scan}
use Rattle.isp_code.specs.declared.instr.ScalarInstr.TheVariants as scalar
use Rattle.isp_code.specs.declared.instr.VectorInstr.{VectorInstr}
use Rattle.isp_code.specs.declared.instr.VectorInstr.TheVariants as vector
use Rattle.isp_code.specs.declared.register.Class.TheVariants as class
use Rattle.isp_code.specs.declared.register.Register.{Register}
use Rattle.isp_forms.specs.Writes.{mask_under}
use Rattle.isp_forms.specs.declared.form.Form.{Form}
use Rattle.isp_wasm_meaning.specs.Syntax as wasm
use Rattle.isp_wasm_meaning.specs.Syntax.{Expr, Const32, Select, Two}
use Rattle.isp_wasm_meaning.specs.Meaning.{State, Result, Fell, run, value, chosen, flag, set_local}
use Rattle.isp_wasm_meaning.specs.Ladder.{Meets}
use Rattle.isp_wasm.specs.Places as place
use Rattle.isp_wasm.specs.Places.{Setting, Counter, elem, gang, size_of}
use Rattle.isp_wasm.specs.Rows.{by_lane}
use Rattle.isp_wasm.specs.Templates.{set_lanes, picked, modulo, plus, lane_or_zero, of_both, scan_expr, exchange_expr, scalar_of, scalar_local, vector_code}
use Rattle.isp_wasm.specs.Standing.{Stands, Holds, IsSettled, the_machine, vector_register}
use Rattle.isp_wasm.specs.Thin.{IsInteger, IsVector, IsScalar}
use Rattle.isp_wasm.proofs.WordLaws.{chosen_is}
use Rattle.isp_wasm.proofs.Cells.{by_lane_is}
use Rattle.isp_wasm.proofs.Steps.{IsWritten}
use Rattle.isp_wasm.proofs.Vectors.{narrow, chosen_over, lanes_fall, scalar_fits, vector_fits}
use Rattle.isp_wasm.proofs.Scalars.{falls_scalar}
use Rattle.isp_wasm.proofs.Picks.{lane_named, lane_of_two, lane_first, modulo_is, modulo_two, turned_lane, lane_low, two_low, shifted_lane, picked_is, picked_low, lane_zero_is, scan_is}

module _ (w : Setting) (c : Conf) where
  -- the values of the lanes of a mask
  abbrev pub lanes_of : Register → Register → Map
  lanes_of x k = on (c.masks k.number) (c.vectors x.number)

  module _ (l : ℕ → ℕ) (h : Holds w c.scalars c.vectors c.masks l) where
    masked_low : (x k : Register) → IsVector w x (elem w x) → (p : ℕ) → p < gang w → or_zero (lanes_of x k p) < 2 ^ width (elem w x)
    masked_low x k xv p low = by (c.masks k.number p)
      where
        by : (b : Bool) → or_zero (if b then Some (c.vectors x.number p) else None) < 2 ^ width (elem w x)
        by true = vector_fits w c l h x (elem w x) xv p low
        by false = pow_pos (width (elem w x))

    few : gang w ≤ 64
    few = let le = narrow w.code.gang in omega arith

    -- the lane that a scalar names
    pub named_is : (x i k : Register) → IsVector w x (elem w x) → IsScalar w i I32
        → (value l (picked w (size_of (elem w x)) (modulo w (gang w) (scalar_local w i)) (lane_or_zero w x k) (gang w)) ≡ or_zero (lanes_of x k (instance (gang w) (number I32 (c.scalars i.number)))))
        × (or_zero (lanes_of x k (instance (gang w) (number I32 (c.scalars i.number)))) < 2 ^ width (elem w x))
    named_is x i k xv is =
        let b = c.scalars i.number in
        let at = lane_first w.code.gang b (scalar_fits w c l h i I32 is) in
        let q = b % gang w in (
          picked_low w (size_of (elem w x)) l (modulo w (gang w) (scalar_local w i)) q (lane_or_zero w x k) (λ p. or_zero (lanes_of x k p)) (gang w) few (lane_low w.code.gang b)
              (ap (λ v. bit_and v ((gang w - 1) % 2 ^ 32)) (h.scalars_are i.number) ∙ modulo_is w.code.gang b) (λ p low. lane_zero_is w c l h x k xv p low)
              ∙ ap (λ z. or_zero (lanes_of x k z)) (sym at),
          subst (λ z. or_zero (lanes_of x k z) < 2 ^ width (elem w x)) (sym at) (masked_low x k xv q (lane_low w.code.gang b)),
        )

    zero_low : (t : Elem) → 0 < 2 ^ width t
    zero_low t = pow_pos (width t)

    pub exchange_is : (e : Exchange) (x i k : Register) → IsVector w x (elem w x) → IsScalar w i I32 → (p : ℕ) → p < gang w
        → (value l (exchange_expr w e x i k p) ≡ exchanged e (gang w) (lanes_of x k) (number I32 (c.scalars i.number)) p) × (exchanged e (gang w) (lanes_of x k) (number I32 (c.scalars i.number)) p < 2 ^ width (elem w x))
    exchange_is exchange.Broadcast x i k xv is p low = named_is x i k xv is
    exchange_is exchange.Rotate x i k xv is p low =
        let b = c.scalars i.number in
        let at = lane_named w.code.gang p b (scalar_fits w c l h i I32 is) in
        let q = (p + b) % gang w in (
          picked_low w (size_of (elem w x)) l (modulo w (gang w) (plus w (scalar_local w i) p)) q (lane_or_zero w x k) (λ p. or_zero (lanes_of x k p)) (gang w) few (lane_low w.code.gang (p + b))
              (ap₂ (λ u v. bit_and ((u + v) % 2 ^ 32) ((gang w - 1) % 2 ^ 32)) (h.scalars_are i.number) (mod-eq_of_lt (let le = narrow w.code.gang in let lt : p < 2 ^ 32 = omega arith in lt))
              ∙ modulo_is w.code.gang ((b + p) % 2 ^ 32) ∙ turned_lane w.code.gang b p)
              (λ p low. lane_zero_is w c l h x k xv p low) ∙ ap (λ z. or_zero (lanes_of x k z)) (sym at),
          subst (λ z. or_zero (lanes_of x k z) < 2 ^ width (elem w x)) (sym at) (masked_low x k xv q (lane_low w.code.gang (p + b))),
        )
    exchange_is exchange.Shift x i k xv is p low =
        let b = c.scalars i.number in
        let at = shifted_lane (gang w) p b (lanes_of x k) (narrow w.code.gang) low (scalar_fits w c l h i I32 is) in
        let q = (b + p) % 2 ^ 32 in (
          picked_is w (size_of (elem w x)) l (plus w (scalar_local w i) p) q (lane_or_zero w x k) (λ p. or_zero (lanes_of x k p)) (gang w) few
              (ap₂ (λ u v. (u + v) % 2 ^ 32) (h.scalars_are i.number) (mod-eq_of_lt (let le = narrow w.code.gang in let lt : p < 2 ^ 32 = omega arith in lt))) (λ p low. lane_zero_is w c l h x k xv p low)
              ∙ sym at,
          subst (λ z. z < 2 ^ width (elem w x)) (sym at) (by q (cases_lt q (gang w))),
        )
      where
        by : (q : ℕ) → (q < gang w) ⊎ (gang w ≤ q) → (if nat_lt q (gang w) then or_zero (lanes_of x k q) else 0) < 2 ^ width (elem w x)
        by q (inl lt) = subst (λ b. (if b then or_zero (lanes_of x k q) else 0) < 2 ^ width (elem w x)) (sym (lt-ltb q (gang w) lt)) (masked_low x k xv q lt)
        by q (inr le) = subst (λ b. (if b then or_zero (lanes_of x k q) else 0) < 2 ^ width (elem w x)) (sym (le-ltb q (gang w) le)) (zero_low (elem w x))

    lane_32 : (i k : Register) → IsVector w i I32 → elem w i ≡ I32 → (p : ℕ) → p < gang w → or_zero (lanes_of i k p) < 2 ^ 32
    lane_32 i k iv e p low = subst (λ t. or_zero (lanes_of i k p) < 2 ^ width t) e (masked_low i k (subst (λ t. IsVector w i t) (sym e) iv) p low)

    pub shuffle_is : (x i k : Register) → IsVector w x (elem w x) → IsVector w i I32 → elem w i ≡ I32 → (p : ℕ) → p < gang w
        → (value l (picked w (size_of (elem w x)) (modulo w (gang w) (lane_or_zero w i k p)) (lane_or_zero w x k) (gang w)) ≡ shuffle (gang w) (lanes_of x k) (lanes_of i k) p)
        × (shuffle (gang w) (lanes_of x k) (lanes_of i k) p < 2 ^ width (elem w x))
    shuffle_is x i k xv iv e p low =
        let b = or_zero (lanes_of i k p) in
        let at = lane_first w.code.gang b (lane_32 i k iv e p low) in
        let q = b % gang w in (
          picked_low w (size_of (elem w x)) l (modulo w (gang w) (lane_or_zero w i k p)) q (lane_or_zero w x k) (λ p. or_zero (lanes_of x k p)) (gang w) few (lane_low w.code.gang b)
              (ap (λ v. bit_and v ((gang w - 1) % 2 ^ 32)) (lane_zero_is w c l h i k (subst (λ t. IsVector w i t) (sym e) iv) p low) ∙ modulo_is w.code.gang b) (λ p low. lane_zero_is w c l h x k xv p low)
              ∙ ap (λ z. or_zero (lanes_of x k z)) (sym at),
          subst (λ z. or_zero (lanes_of x k z) < 2 ^ width (elem w x)) (sym at) (masked_low x k xv q (lane_low w.code.gang b)),
        )

    -- two vectors side by side
    both_is : (x y k : Register) → IsVector w x (elem w x) → IsVector w y (elem w y) → elem w y ≡ elem w x → (p : ℕ) → p < 2 * gang w
        → (value l (of_both w x y k p) ≡ of_two (gang w) (lanes_of x k) (lanes_of y k) p) × (of_two (gang w) (lanes_of x k) (lanes_of y k) p < 2 ^ width (elem w x))
    both_is x y k xv yv e p low = by (cases_lt p (gang w))
      where
        by : (p < gang w) ⊎ (gang w ≤ p) → (value l (of_both w x y k p) ≡ of_two (gang w) (lanes_of x k) (lanes_of y k) p) × (of_two (gang w) (lanes_of x k) (lanes_of y k) p < 2 ^ width (elem w x))
        by (inl lt) = (
          ap (λ b. value l (if b then lane_or_zero w x k p else lane_or_zero w y k (p - gang w))) (lt-ltb p (gang w) lt) ∙ lane_zero_is w c l h x k xv p lt
              ∙ sym (ap (λ b. if b then or_zero (lanes_of x k p) else or_zero (lanes_of y k (p - gang w))) (lt-ltb p (gang w) lt)),
          subst (λ b. (if b then or_zero (lanes_of x k p) else or_zero (lanes_of y k (p - gang w))) < 2 ^ width (elem w x)) (sym (lt-ltb p (gang w) lt)) (masked_low x k xv p lt),
        )
        by (inr le) =
            let lt : p - gang w < gang w = omega arith in (
              ap (λ b. value l (if b then lane_or_zero w x k p else lane_or_zero w y k (p - gang w))) (le-ltb p (gang w) le) ∙ lane_zero_is w c l h y k yv (p - gang w) lt
                  ∙ sym (ap (λ b. if b then or_zero (lanes_of x k p) else or_zero (lanes_of y k (p - gang w))) (le-ltb p (gang w) le)),
              subst (λ b. (if b then or_zero (lanes_of x k p) else or_zero (lanes_of y k (p - gang w))) < 2 ^ width (elem w x)) (sym (le-ltb p (gang w) le))
                  (subst (λ t. or_zero (lanes_of y k (p - gang w)) < 2 ^ width t) e (masked_low y k yv (p - gang w) lt)),
            )

    pub shuffle_two_is : (x y i k : Register) → IsVector w x (elem w x) → IsVector w y (elem w y) → elem w y ≡ elem w x → IsVector w i I32 → elem w i ≡ I32 → (p : ℕ) → p < gang w
        → (value l (picked w (size_of (elem w x)) (modulo w (2 * gang w) (lane_or_zero w i k p)) (of_both w x y k) (2 * gang w)) ≡ shuffle_two (gang w) (lanes_of x k) (lanes_of y k) (lanes_of i k) p)
        × (shuffle_two (gang w) (lanes_of x k) (lanes_of y k) (lanes_of i k) p < 2 ^ width (elem w x))
    shuffle_two_is x y i k xv yv ye iv e p low =
        let b = or_zero (lanes_of i k p) in
        let at = lane_of_two w.code.gang b (lane_32 i k iv e p low) in
        let q = b % (2 * gang w) in (
          picked_low w (size_of (elem w x)) l (modulo w (2 * gang w) (lane_or_zero w i k p)) q (of_both w x y k) (λ p. of_two (gang w) (lanes_of x k) (lanes_of y k) p) (2 * gang w) (let le = narrow w.code.gang in omega arith) (two_low w.code.gang b)
              (ap (λ v. bit_and v ((2 * gang w - 1) % 2 ^ 32)) (lane_zero_is w c l h i k (subst (λ t. IsVector w i t) (sym e) iv) p low) ∙ modulo_two w.code.gang b) (λ p low. (both_is x y k xv yv ye p low).0)
              ∙ ap (of_two (gang w) (lanes_of x k) (lanes_of y k)) (sym at),
          subst (λ z. of_two (gang w) (lanes_of x k) (lanes_of y k) z < 2 ^ width (elem w x)) (sym at) (both_is x y k xv yv ye q (two_low w.code.gang b)).1,
        )

    pub insert_is : (x i y k : Register) → IsVector w x (elem w x) → IsScalar w i I32 → IsScalar w y (elem w x) → (p : ℕ) → p < gang w
        → (value l (Select (Two (wasm.Compare wasm.I32 wasm.Eq) (modulo w (gang w) (scalar_local w i)) (Const32 p)) (scalar_local w y) (lane_or_zero w x k p)) ≡ insert (gang w) (lanes_of x k) (number I32 (c.scalars i.number)) (c.scalars y.number) p)
        × (insert (gang w) (lanes_of x k) (number I32 (c.scalars i.number)) (c.scalars y.number) p < 2 ^ width (elem w x))
    insert_is x i y k xv is ys p low =
        let b = c.scalars i.number in
        let at = lane_first w.code.gang b (scalar_fits w c l h i I32 is) in
        let q = b % gang w in
        let is_q : value l (modulo w (gang w) (scalar_local w i)) ≡ q = ap (λ v. bit_and v ((gang w - 1) % 2 ^ 32)) (h.scalars_are i.number) ∙ modulo_is w.code.gang b in (
          ap₂ (λ u v. chosen (flag (nat_eq u v)) (value l (scalar_local w y)) (value l (lane_or_zero w x k p))) is_q (mod-eq_of_lt (let le = narrow w.code.gang in let lt : p < 2 ^ 32 = omega arith in lt))
              ∙ chosen_is (nat_eq q p) (value l (scalar_local w y)) (value l (lane_or_zero w x k p)) ∙ ap₂ (λ u v. if nat_eq q p then u else v) (h.scalars_are y.number) (lane_zero_is w c l h x k xv p low)
              ∙ ap (λ t. if t then c.scalars y.number else or_zero (lanes_of x k p)) (turned q p (cases_eq q p) ∙ ap (nat_eq p) (sym at)),
          by (nat_eq p (instance (gang w) (number I32 b))),
        )
      where
        turned : (q p : ℕ) → (q ≡ p) ⊎ (q ≡ p → ⊥) → nat_eq q p ≡ nat_eq p q
        turned q p (inl e) = eq-eqb q p e ∙ sym (eq-eqb p q (sym e))
        turned q p (inr ne) = ne_eqb q p ne ∙ sym (ne_eqb p q (λ e. ne (sym e)))

        by : (t : Bool) → (if t then c.scalars y.number else or_zero (lanes_of x k p)) < 2 ^ width (elem w x)
        by true = scalar_fits w c l h y (elem w x) ys
        by false = masked_low x k xv p low

-- ---- the instructions

module _ (w : Setting) (ready : IsSettled w) (fuel n k : ℕ) (call : ℕ → List ℕ → State → Result) (pc : ℕ) (c : Conf) (s : State) (st : Stands w pc c s) where
  abbrev pub Good : ℕ → Conf → Result → Type 0
  Good pc = Meets (the_machine w) (w.local Counter) n fuel (Stands w pc) (suc k)

  -- lanes that are worked out one by one
  each_lane : (d : ℕ) (i : VectorInstr) (v : Lanes) (e : ℕ → Expr) → slice_get w.routine.code pc ≡ Some (instr.Vector (vector_register d) i)
      → act w.code w.routine c (instr.Vector (vector_register d) i) ≡ Go (set_vector c (vector_register d) (on (c.masks (mask_under i).number) v))
      → ((l : ℕ → ℕ) → Holds w c.scalars c.vectors c.masks l → (p : ℕ) → p < gang w → (value l (e p) ≡ v p) × (v p < 2 ^ width (elem w (vector_register d))))
      → (form : Form) → IsWritten w pc form → Good (pc + 1) c (run fuel call (set_lanes w form (vector_register d) (mask_under i) (by_lane w (elem w (vector_register d)) e)) s)
  each_lane d i v e has is h =
      lanes_fall w ready fuel n k call pc c s st i d (on (c.masks (mask_under i).number) v) v (by_lane w (elem w (vector_register d)) e) has is
      (λ p q. chosen_over (c.masks (mask_under i).number p) (v p) (c.vectors d p)) (λ l held. by_lane_is w (elem w (vector_register d)) l e v (h l held))

  -- a vector of the type that is written
  same_type : (x : Register) (t : Elem) → IsVector w x t → IsVector w x (elem w x)
  same_type x t xv = record { class_is = xv.class_is; elem_is = refl }

  pub scans : (d : ℕ) (o : Scan) (x m : Register) → IsInteger (elem w (vector_register d)) → IsVector w x (elem w (vector_register d)) → slice_get w.routine.code pc ≡ Some (instr.Vector (vector_register d) (vector.Scan o x m))
      → (form : Form) → IsWritten w pc form → Good (pc + 1) c (run fuel call (vector_code w form (vector_register d) (vector.Scan o x m)) s)
  scans d o x m num xv has =
      each_lane d (vector.Scan o x m) (exclusive_scan (scan_of o) (elem w (vector_register d)) (lanes_of w c x m)) (scan_expr w o x m) has refl
      (λ l held p low. subst (λ t. (value l (scan_expr w o x m p) ≡ exclusive_scan (scan_of o) t (lanes_of w c x m) p) × (exclusive_scan (scan_of o) t (lanes_of w c x m) p < 2 ^ width t)) xv.elem_is
      (scan_is w c l held o x m (subst IsInteger (sym xv.elem_is) num) (same_type x (elem w (vector_register d)) xv) p (omega arith)))

  pub exchanges : (d : ℕ) (e : Exchange) (x i m : Register) → IsVector w x (elem w (vector_register d)) → IsScalar w i I32 → slice_get w.routine.code pc ≡ Some (instr.Vector (vector_register d) (vector.Exchange e x i m))
      → (form : Form) → IsWritten w pc form → Good (pc + 1) c (run fuel call (vector_code w form (vector_register d) (vector.Exchange e x i m)) s)
  exchanges d e x i m xv is has =
      each_lane d (vector.Exchange e x i m) (exchanged e (gang w) (lanes_of w c x m) (number I32 (c.scalars i.number))) (exchange_expr w e x i m) has refl
      (λ l held p low. subst (λ t. (value l (exchange_expr w e x i m p) ≡ exchanged e (gang w) (lanes_of w c x m) (number I32 (c.scalars i.number)) p) × (exchanged e (gang w) (lanes_of w c x m) (number I32 (c.scalars i.number)) p < 2 ^ width t))
      xv.elem_is (exchange_is w c l held e x i m (same_type x (elem w (vector_register d)) xv) is p low))

  pub shuffles : (d : ℕ) (x i m : Register) → IsVector w x (elem w (vector_register d)) → IsVector w i I32 → slice_get w.routine.code pc ≡ Some (instr.Vector (vector_register d) (vector.Shuffle x i m))
      → (form : Form) → IsWritten w pc form → Good (pc + 1) c (run fuel call (vector_code w form (vector_register d) (vector.Shuffle x i m)) s)
  shuffles d x i m xv iv has =
      each_lane d (vector.Shuffle x i m) (shuffle (gang w) (lanes_of w c x m) (lanes_of w c i m)) (λ p. picked w (size_of (elem w x)) (modulo w (gang w) (lane_or_zero w i m p)) (lane_or_zero w x m) (gang w)) has refl
      (λ l held p low. subst (λ t. (value l (picked w (size_of (elem w x)) (modulo w (gang w) (lane_or_zero w i m p)) (lane_or_zero w x m) (gang w)) ≡ shuffle (gang w) (lanes_of w c x m) (lanes_of w c i m) p) × (shuffle (gang w) (lanes_of w c x m) (lanes_of w c i m) p < 2 ^ width t))
      xv.elem_is (shuffle_is w c l held x i m (same_type x (elem w (vector_register d)) xv) iv iv.elem_is p low))

  pub shuffles_two : (d : ℕ) (x y i m : Register) → IsVector w x (elem w (vector_register d)) → IsVector w y (elem w (vector_register d)) → IsVector w i I32
      → slice_get w.routine.code pc ≡ Some (instr.Vector (vector_register d) (vector.ShuffleTwo x y i m)) → (form : Form) → IsWritten w pc form → Good (pc + 1) c (run fuel call (vector_code w form (vector_register d) (vector.ShuffleTwo x y i m)) s)
  shuffles_two d x y i m xv yv iv has =
      each_lane d (vector.ShuffleTwo x y i m) (shuffle_two (gang w) (lanes_of w c x m) (lanes_of w c y m) (lanes_of w c i m))
      (λ p. picked w (size_of (elem w x)) (modulo w (2 * gang w) (lane_or_zero w i m p)) (of_both w x y m) (2 * gang w)) has refl
      (λ l held p low. subst (λ t. (value l (picked w (size_of (elem w x)) (modulo w (2 * gang w) (lane_or_zero w i m p)) (of_both w x y m) (2 * gang w)) ≡ shuffle_two (gang w) (lanes_of w c x m) (lanes_of w c y m) (lanes_of w c i m) p)
      × (shuffle_two (gang w) (lanes_of w c x m) (lanes_of w c y m) (lanes_of w c i m) p < 2 ^ width t)) xv.elem_is
      (shuffle_two_is w c l held x y i m (same_type x (elem w (vector_register d)) xv) (same_type y (elem w (vector_register d)) yv) (yv.elem_is ∙ sym xv.elem_is) iv iv.elem_is p low))

  pub inserts : (d : ℕ) (x i y m : Register) → IsVector w x (elem w (vector_register d)) → IsScalar w i I32 → IsScalar w y (elem w (vector_register d))
      → slice_get w.routine.code pc ≡ Some (instr.Vector (vector_register d) (vector.Insert x i y m)) → (form : Form) → IsWritten w pc form → Good (pc + 1) c (run fuel call (vector_code w form (vector_register d) (vector.Insert x i y m)) s)
  inserts d x i y m xv is ys has =
      each_lane d (vector.Insert x i y m) (insert (gang w) (lanes_of w c x m) (number I32 (c.scalars i.number)) (c.scalars y.number))
      (λ p. Select (Two (wasm.Compare wasm.I32 wasm.Eq) (modulo w (gang w) (scalar_local w i)) (Const32 p)) (scalar_local w y) (lane_or_zero w x m p)) has refl
      (λ l held p low. subst (λ t. (value l (Select (Two (wasm.Compare wasm.I32 wasm.Eq) (modulo w (gang w) (scalar_local w i)) (Const32 p)) (scalar_local w y) (lane_or_zero w x m p)) ≡ insert (gang w) (lanes_of w c x m) (number I32 (c.scalars i.number)) (c.scalars y.number) p)
      × (insert (gang w) (lanes_of w c x m) (number I32 (c.scalars i.number)) (c.scalars y.number) p < 2 ^ width t)) xv.elem_is
      (insert_is w c l held x i y m (same_type x (elem w (vector_register d)) xv) is (record { class_is = ys.class_is; elem_is = ys.elem_is ∙ sym xv.elem_is }) p low))

  pub extracts : (d x i m : Register) → d.class ≡ class.Scalar → IsVector w x (elem w d) → IsScalar w i I32 → slice_get w.routine.code pc ≡ Some (instr.Scalar d (scalar.Extract x i m))
      → Good (pc + 1) c (Fell (set_local (w.local (place.Scalar d.number)) (value s.locals (scalar_of w d (scalar.Extract x i m))) s))
  extracts d x i m cl xv is has =
      let v = named_is w c s.locals st.holds x i m (same_type x (elem w d) xv) is in
      subst (λ z. Good (pc + 1) c (Fell (set_local (w.local (place.Scalar d.number)) z s))) (sym v.0)
      (falls_scalar w ready fuel n k call pc c s st (instr.Scalar d (scalar.Extract x i m)) d (extract (gang w) (lanes_of w c x m) (number I32 (c.scalars i.number))) s has cl refl
      (subst (λ t. extract (gang w) (lanes_of w c x m) (number I32 (c.scalars i.number)) < 2 ^ width t) xv.elem_is v.1) (λ p kept. refl) refl st.keeps)
