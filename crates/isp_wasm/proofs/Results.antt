-- A vector that a function gives back: its parts go to globals, and from there, under the mask of the call, to the caller's register.
use Rattle.std.proofs.Common.{◌≡◌, ℕ, zero, suc, ◌+◌, ◌*◌, ◌<◌, ◌⊎◌, inl, inr, List, Bool, true, false, refl, sym, ap, ap₂, ◌∙◌, subst, eq-eqb, arith}
use Rattle.std.specs.Prelude.{nat_eq, if◌then◌else◌}
use Rattle.std.proofs.lemmas.Bool.{cases_eq, cond-true, cond-false, ne_eqb}
use Rattle.isp_base.specs.Maps.{Lanes as AllLanes, on, over, put}
use Rattle.isp_code.specs.Conf.{Conf}
use Rattle.isp_code.specs.declared.register.Register.{Register}
use Rattle.isp_wasm_meaning.specs.Syntax.{Expr, Bitselect, Local, GetGlobal, SetGlobal}
use Rattle.isp_wasm_meaning.specs.Meaning.{State, Result, Fell, run, value, set_local, then_to, lane, count, chosen, bit_of}
use Rattle.isp_wasm_meaning.specs.Digits.{packed}
use Rattle.isp_wasm_meaning.proofs.Lanes.{selected}
use Rattle.isp_wasm.specs.Places as place
use Rattle.isp_wasm.specs.Places.{Setting, Place, Fresh, IsKept, elem, shape, parts, gang}
use Rattle.isp_wasm.specs.Rows.{cell, widened}
use Rattle.isp_wasm.specs.Templates.{each, select_lanes, vector_local, mask_local}
use Rattle.isp_wasm.specs.Standing.{Holds, IsSettled, vector_register}
use Rattle.isp_wasm.proofs.Frames.{holds_vector, there, elsewhere}
use Rattle.isp_wasm.proofs.Parts.{AreSet, are_set}
use Rattle.isp_wasm.proofs.Rows.{enough}
use Rattle.isp_wasm.proofs.Vectors.{other_part, widened_same, mask_row, chosen_over}

module _ (w : Setting) (ready : IsSettled w) (fuel : ℕ) (call : ℕ → List ℕ → State → Result) where
  -- ---- to the globals

  pub record AreGiven (n : ℕ) (e : ℕ → Expr) (s : State) (r : Result) : Type 0 where
    pub globals : ℕ → ℕ
    pub fell : r ≡ Fell (record s { globals = globals })
    pub given : (j : ℕ) → j < n → globals (suc j) ≡ value s.locals (e j)

  pub are_given : (n : ℕ) (e : ℕ → Expr) (s : State) → AreGiven n e s (run fuel call (each n (λ j. SetGlobal (suc j) (e j))) s)
  are_given zero e s = record { globals = s.globals; fell = refl; given = λ j low. absurd (omega arith) }
  are_given (suc n) e s =
      let a = are_given n e s in
      record {
        globals = λ y. if nat_eq y (suc n) then value s.locals (e n) else a.globals y;
        fell = ap (λ r. then_to r (run fuel call (SetGlobal (suc n) (e n)))) a.fell;
        given = λ j low. by a.globals a.given j low (cases_eq j n);
      }
    where
      by : (globals : ℕ → ℕ) → ((j : ℕ) → j < n → globals (suc j) ≡ value s.locals (e j)) → (j : ℕ) → j < suc n → (j ≡ n) ⊎ (j ≡ n → ⊥) → (if nat_eq (suc j) (suc n) then value s.locals (e n) else globals (suc j)) ≡ value s.locals (e j)
      by globals before j low (inl same) = cond-true (nat_eq (suc j) (suc n)) (value s.locals (e n)) (globals (suc j)) (eq-eqb (suc j) (suc n) (ap suc same)) ∙ ap (λ i. value s.locals (e i)) (sym same)
      by globals before j low (inr ne) =
          cond-false (nat_eq (suc j) (suc n)) (value s.locals (e n)) (globals (suc j)) (ne_eqb (suc j) (suc n) (λ q. ne (let same : j ≡ n = omega (arith, q) in same))) ∙ before j (omega (arith, low, ne))

  -- ---- and from there

  pub record AreGot (n : ℕ) (s : State) (r : Result) : Type 0 where
    pub locals : ℕ → ℕ
    pub fell : r ≡ Fell (record s { locals = locals })
    pub got : (j : ℕ) → j < n → locals (w.local (Fresh j)) ≡ s.globals (suc j)
    pub others : (p : Place) → IsKept p → locals (w.local p) ≡ s.locals (w.local p)

  not_fresh : (p : Place) (j : ℕ) → IsKept p → p ≡ Fresh j → ⊥
  not_fresh p j kept e = subst IsKept e kept

  pub are_got : (n : ℕ) (s : State) → AreGot n s (run fuel call (each n (λ j. GetGlobal (w.local (Fresh j)) (suc j))) s)
  are_got zero s = record { locals = s.locals; fell = refl; got = λ j low. absurd (omega arith); others = λ p kept. refl }
  are_got (suc n) s =
      let a = are_got n s in
      let t : State = record s { locals = a.locals } in
      record {
        locals = (set_local (w.local (Fresh n)) (s.globals (suc n)) t).locals;
        fell = ap (λ r. then_to r (run fuel call (GetGlobal (w.local (Fresh n)) (suc n)))) a.fell;
        got = λ j low. by a.locals a.got j low (cases_eq j n);
        others = λ p kept. elsewhere w ready (Fresh n) p (s.globals (suc n)) t (not_fresh p n kept) ∙ a.others p kept;
      }
    where
      by : (locals : ℕ → ℕ) → ((j : ℕ) → j < n → locals (w.local (Fresh j)) ≡ s.globals (suc j)) → (j : ℕ) → j < suc n → (j ≡ n) ⊎ (j ≡ n → ⊥)
          → (set_local (w.local (Fresh n)) (s.globals (suc n)) (record s { locals = locals })).locals (w.local (Fresh j)) ≡ s.globals (suc j)
      by locals before j low (inl same) =
          subst (λ i. (set_local (w.local (Fresh n)) (s.globals (suc n)) (record s { locals = locals })).locals (w.local (Fresh i)) ≡ s.globals (suc i)) (sym same)
          (there w ready (Fresh n) (s.globals (suc n)) (record s { locals = locals }))
      by locals before j low (inr ne) = elsewhere w ready (Fresh n) (Fresh j) (s.globals (suc n)) (record s { locals = locals }) (λ e. (let same : j ≡ n = cc in ne same)) ∙ before j (omega (arith, low, ne))

  -- ---- under a mask

  pub record Selects (c : Conf) (d : ℕ) (m : Register) (v : AllLanes) (s : State) (r : Result) : Type 0 where
    pub locals : ℕ → ℕ
    pub fell : r ≡ Fell (record s { locals = locals })
    pub holds : Holds w c.scalars (put c.vectors d (over (on (c.masks m.number) v) (c.vectors d))) c.masks locals

  pub selects : (c : Conf) (d : ℕ) (m : Register) (v : AllLanes) (s : State) → Holds w c.scalars c.vectors c.masks s.locals
      → ((j i : ℕ) → i < count (shape w (vector_register d)) → j * count (shape w (vector_register d)) + i < gang w
      → lane (shape w (vector_register d)) i (s.locals (w.local (Fresh j))) ≡ cell (elem w (vector_register d)) (v (j * count (shape w (vector_register d)) + i)))
      → Selects c d m v s (run fuel call (select_lanes w (vector_register d) m) s)
  selects c d m v s held fresh =
      record {
        locals = set.locals;
        fell = set.fell;
        holds = holds_vector w c.scalars c.vectors c.masks s.locals set.locals d (over (on (c.masks m.number) v) (c.vectors d)) held lanes (λ p kept out. set.others p (λ i l e. out (i, e)));
      }
    where
      masked : ℕ → Expr
      masked j = Bitselect (Local (w.local (Fresh j))) (vector_local w (vector_register d) j) (widened (shape w (vector_register d)) (mask_local w m) j)

      set : AreSet w (place.Vector d) (parts w (shape w (vector_register d))) masked s (run fuel call (select_lanes w (vector_register d) m) s)
      set =
          are_set w ready fuel call (place.Vector d) (λ i j e. cc) masked s
          (λ j l same. ap₂ (λ a b. value_of a b (l (w.local (place.Vector d j)))) (widened_same (shape w (vector_register d)) l s.locals (mask_local w m) j (λ j. same (place.Mask m.number j) (λ i q e. cc))) (same (Fresh j) (λ i q e. cc))
          ∙ ap (value_of (value s.locals (widened (shape w (vector_register d)) (mask_local w m) j)) (s.locals (w.local (Fresh j)))) (same (place.Vector d j) (λ i q. other_part d d i j q)))
          (parts w (shape w (vector_register d)))
        where
          value_of : ℕ → ℕ → ℕ → ℕ
          value_of a x y = packed 2 128 (λ i. chosen (bit_of i a) (bit_of i x) (bit_of i y))

      by : (b : Bool) (a u : ℕ) → (if b then cell (elem w (vector_register d)) a else cell (elem w (vector_register d)) u) ≡ cell (elem w (vector_register d)) (if b then a else u)
      by true a u = refl
      by false a u = refl

      lanes : (j i : ℕ) → i < count (shape w (vector_register d)) → j * count (shape w (vector_register d)) + i < gang w
          → lane (shape w (vector_register d)) i (set.locals (w.local (place.Vector d j))) ≡ cell (elem w (vector_register d)) (over (on (c.masks m.number) v) (c.vectors d) (j * count (shape w (vector_register d)) + i))
      lanes j i l q =
          ap (lane (shape w (vector_register d)) i) (set.set_to j (enough w (shape w (vector_register d)) j i q))
          ∙ selected (shape w (vector_register d)) i (value s.locals (widened (shape w (vector_register d)) (mask_local w m) j)) (s.locals (w.local (Fresh j))) (s.locals (w.local (place.Vector d j))) (c.masks m.number (j * count (shape w (vector_register d)) + i)) l
          (mask_row w c s.locals held (shape w (vector_register d)) m (gang w) j i l q)
          ∙ ap₂ (λ a b. if c.masks m.number (j * count (shape w (vector_register d)) + i) then a else b) (fresh j i l q) (held.vectors_are d j i l q)
          ∙ by (c.masks m.number (j * count (shape w (vector_register d)) + i)) (v (j * count (shape w (vector_register d)) + i)) (c.vectors d (j * count (shape w (vector_register d)) + i))
          ∙ ap (cell (elem w (vector_register d))) (chosen_over (c.masks m.number (j * count (shape w (vector_register d)) + i)) (v (j * count (shape w (vector_register d)) + i)) (c.vectors d (j * count (shape w (vector_register d)) + i)))
