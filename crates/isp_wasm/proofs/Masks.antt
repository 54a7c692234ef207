-- The templates of masks.
use Rattle.std.proofs.Common.{◌≡◌, ℕ, suc, ◌+◌, ◌-◌, ◌*◌, ◌%◌, ◌^◌, ◌<◌, ◌≤◌, ◌⊎◌, inl, inr, List, Some, None, Bool, true, false, not, ◌&&◌, ◌||◌, refl, sym, ap, ap₂, ◌∙◌, subst, arith, lit≤, mod-eq_of_lt, eq-eqb, bit_and, bit_or}
use Rattle.std.specs.Prelude.{slice_get, pos, ◌+ℤ◌, int_lt, nat_lt, nat_eq, if◌then◌else◌}
use Rattle.std.proofs.lemmas.Bool.{cases_eq, cases_lt, ltb-true, lt-ltb, le-ltb, ne_eqb, eqb-true}
use Rattle.std.specs.Int.Bits.{and_zero_r}
use Rattle.isp_base.specs.Cross.{or_zero}
use Rattle.isp_base.specs.Maps.{put, on, where_true, holds}
use Rattle.isp_base.specs.Sets.{Mask, everyone, nobody, lowest, lone}
use Rattle.isp_base.specs.Truths.{is_true}
use Rattle.isp_base.specs.Values.{number}
use Rattle.isp_base.specs.declared.types.Elem.TheVariants.{Bool as Truth, I64}
use Rattle.isp_code.specs.Conf.{Conf, Go}
use Rattle.isp_code.specs.Lines.{act, set_mask, combined}
use Rattle.isp_code.specs.declared.instr.Instr.{Instr}
use Rattle.isp_code.specs.declared.instr.Instr.TheVariants as instr
use Rattle.isp_code.specs.declared.instr.MaskInstr.{MaskInstr}
use Rattle.isp_code.specs.declared.instr.MaskInstr.TheVariants as mask
use Rattle.isp_code.specs.declared.instr.MaskOp.{MaskOp}
use Rattle.isp_code.specs.declared.instr.MaskOp.TheVariants as mask_op
use Rattle.isp_code.specs.declared.register.Register.{Register}
use Rattle.isp_wasm_meaning.specs.Syntax.{I8x16, And, Or, Eq, LtS, Expr, Set, Local, Const128, Two, One, Bits, Splat, Wrap, CompareLanes}
use Rattle.isp_wasm_meaning.specs.Meaning.{State, Result, run, value, lane, flags, flag, chosen, tested, then_to}
use Rattle.isp_wasm_meaning.specs.Ladder.{Meets}
use Rattle.isp_wasm_meaning.proofs.Bits.{lane_bits}
use Rattle.isp_wasm.specs.Places as place
use Rattle.isp_wasm.specs.Places.{Setting, Place, Counter, Fresh, parts, gang}
use Rattle.isp_wasm.specs.Rows.{inverted}
use Rattle.isp_wasm.specs.Templates as template
use Rattle.isp_wasm.specs.Templates.{each, mask_local, vector_local, mask_of, mask_bits, mask_part, numbers_part, lowest_of, range_count}
use Rattle.isp_wasm.specs.Standing.{Stands, Holds, IsSettled, the_machine}
use Rattle.isp_wasm.specs.Thin.{IsVector, IsThinMask}
use Rattle.isp_wasm.proofs.Frames.{holds_alike, holds_mask}
use Rattle.isp_wasm.proofs.Steps.{falls_on}
use Rattle.isp_wasm.proofs.Parts.{AreSet, AreFresh, are_set, are_fresh}
use Rattle.isp_wasm.proofs.Rows.{IsRow, row_same, row_bits, row_tested, row_constant, row_splat, enough}
use Rattle.isp_wasm.proofs.WordLaws.{less_words, chosen_is}
use Rattle.isp_wasm.proofs.Cells.{turned_row, bool_flags}
use Rattle.isp_wasm.proofs.Vectors.{narrow, vector_cells, vector_fits, scalar_fits}
use Rattle.isp_wasm.proofs.MaskWords.{lowest_is}
use Rattle.isp_wasm.proofs.Lowest.{which_lowest, IsNone, IsLowest}
use Rattle.isp_wasm.proofs.Ranges.{between, range_is, at_most, small_test}

off : (b : Bool) → (b ≡ true → ⊥) → b ≡ false
off true h = absurd (h refl)
off false h = refl

byte_below : (b : Bool) → flags 8 b < 256
byte_below true = lit≤ tt
byte_below false = lit≤ tt

and_flags : (a b : Bool) → bit_and (flags 8 a) (flags 8 b) ≡ flags 8 (a && b)
and_flags true true = refl
and_flags true false = refl
and_flags false true = refl
and_flags false false = refl

or_flags : (a b : Bool) → bit_or (flags 8 a) (flags 8 b) ≡ flags 8 (a || b)
or_flags true true = refl
or_flags true false = refl
or_flags false true = refl
or_flags false false = refl

first_of_two : (a b : Bool) → (a && b) ≡ true → a ≡ true
first_of_two true b h = refl
first_of_two false b h = h

second_of_two : (a b : Bool) → (a && b) ≡ true → b ≡ true
second_of_two true b h = h
second_of_two false b h = absurd cc

one_of_two : (a b : Bool) → (a || b) ≡ true → (a ≡ true) ⊎ (b ≡ true)
one_of_two true b h = inl refl
one_of_two false b h = inr h

-- the lane whose number is that of the lowest member, and a member
lone_is : (n p : ℕ) (a : Mask) → n ≤ 32 → ((p : ℕ) → a p ≡ true → p < n) → (nat_eq (if nat_lt p n then p else 127) (or_zero (lowest n a) % 2 ^ 8) && a p) ≡ lone (lowest n a) p
lone_is n p a le members = by (which_lowest n a)
  where
    none : (b : Bool) → b ≡ false → (x : Bool) → (x && b) ≡ false
    none b e true = e
    none b e false = refl

    at : (q : ℕ) → IsLowest n a q → (p ≡ q) ⊎ (p ≡ q → ⊥) → (nat_eq (if nat_lt p n then p else 127) (q % 2 ^ 8) && a p) ≡ nat_eq p q
    at q h (inl e) =
        ap₂ (λ b d. nat_eq (if b then p else 127) d && a p) (lt-ltb p n (let l = h.low in omega arith)) (mod-eq_of_lt (let l = h.low in omega arith))
        ∙ ap₂ (λ x y. x && y) (eq-eqb p q e) (ap a e ∙ h.member) ∙ sym (eq-eqb p q e)
    at q h (inr ne) = differ (nat_lt p n) refl ∙ sym (ne_eqb p q ne)
      where
        differ : (b : Bool) → nat_lt p n ≡ b → (nat_eq (if b then p else 127) (q % 2 ^ 8) && a p) ≡ false
        differ true e = ap (λ x. x && a p) (ap (nat_eq p) (mod-eq_of_lt (let l = h.low in omega arith)) ∙ ne_eqb p q ne)
        differ false e = ap (λ x. x && a p) (ne_eqb 127 (q % 2 ^ 8) (λ same. let l = h.low in omega arith))

    by : IsNone n a ⊎ ((q : ℕ) × IsLowest n a q) → (nat_eq (if nat_lt p n then p else 127) (or_zero (lowest n a) % 2 ^ 8) && a p) ≡ lone (lowest n a) p
    by (inl h) = none (a p) (off (a p) (λ e. let f = h.off p (members p e) in let impossible : true ≡ false = sym e ∙ f in absurd cc)) (nat_eq (if nat_lt p n then p else 127) (or_zero (lowest n a) % 2 ^ 8)) ∙ sym (ap (λ o. lone o p) h.is)
    by (inr some) = ap (λ o. nat_eq (if nat_lt p n then p else 127) (or_zero o % 2 ^ 8) && a p) (some.1).is ∙ at some.0 some.1 (cases_eq p some.0) ∙ sym (ap (λ o. lone o p) (some.1).is)

module _ (w : Setting) (ready : IsSettled w) (fuel n k : ℕ) (call : ℕ → List ℕ → State → Result) (pc : ℕ) (c : Conf) (s : State) (st : Stands w pc c s) where
  abbrev pub Good : ℕ → Conf → Result → Type 0
  Good pc = Meets (the_machine w) (w.local Counter) n fuel (Stands w pc) (suc k)

  -- rows of flags in all lanes, also past the gang
  abbrev pub IsMaskRow : (ℕ → Expr) → Mask → Type 0
  IsMaskRow new x = (l : ℕ → ℕ) → Holds w c.scalars c.vectors c.masks l → (n : ℕ) → IsRow n I8x16 l new (λ p. flags 8 (x p))

  falls_mask : (i : Instr) (d : Register) (x : Mask) (new : ℕ → Expr) → slice_get w.routine.code pc ≡ Some i → act w.code w.routine c i ≡ Go (set_mask c d x)
      → ((p : ℕ) → x p ≡ true → p < gang w) → IsMaskRow new x → Good (pc + 1) c (run fuel call (template.set_mask w d new) s)
  falls_mask i d x new has is inside row =
      subst (Good (pc + 1) c) (sym (ap (λ r. then_to r second) fresh.fell ∙ set.fell))
      (falls_on w ready fuel n k pc c s i st has (record c { pc = c.pc + 1; masks = put c.masks d.number x }) (record s { locals = set.locals }) is refl refl refl refl
      (holds_mask w c.scalars c.vectors c.masks fresh.locals set.locals d.number x held inside (λ j i l. past j i l (cases_lt j (parts w I8x16))) (λ p kept out. set.others p (λ i l e. out (i, e))))
      st.keeps)
    where
      second : State → Result
      second u = run fuel call (each (parts w I8x16) (λ j. Set (w.local (place.Mask d.number j)) (Local (w.local (Fresh j))))) u

      fresh : AreFresh w (parts w I8x16 * 16) I8x16 (λ p. flags 8 (x p)) (parts w I8x16) s (run fuel call (each (parts w I8x16) (λ j. Set (w.local (Fresh j)) (new j))) s)
      fresh = are_fresh w ready fuel call (parts w I8x16 * 16) I8x16 (λ p. flags 8 (x p)) new s (λ l a. row l (holds_alike w c.scalars c.vectors c.masks s.locals l st.holds a) (parts w I8x16 * 16)) (parts w I8x16)

      held : Holds w c.scalars c.vectors c.masks fresh.locals
      held = holds_alike w c.scalars c.vectors c.masks s.locals fresh.locals st.holds fresh.alike

      set : AreSet w (place.Mask d.number) (parts w I8x16) (λ j. Local (w.local (Fresh j))) (record s { locals = fresh.locals }) (second (record s { locals = fresh.locals }))
      set = are_set w ready fuel call (place.Mask d.number) (λ i j e. cc) (λ j. Local (w.local (Fresh j))) (record s { locals = fresh.locals }) (λ j l same. same (Fresh j) (λ i q e. cc)) (parts w I8x16)

      -- past the gang no lane is on, before as after
      past : (j i : ℕ) → i < 16 → (j < parts w I8x16) ⊎ (parts w I8x16 ≤ j) → lane I8x16 i (set.locals (w.local (place.Mask d.number j))) ≡ flags 8 (x (j * 16 + i))
      past j i l (inl m) = ap (lane I8x16 i) (set.set_to j m) ∙ fresh.lanes j i m l (omega arith)
      past j i l (inr m) =
          ap (lane I8x16 i) (set.others (place.Mask d.number j) (λ i l e. let same : j ≡ i = cc in omega arith)) ∙ held.masks_are d.number j i l
          ∙ ap (flags 8)
          (off (c.masks d.number (j * 16 + i)) (λ e. let lt = enough w I8x16 j i (st.holds.members d.number (j * 16 + i) e) in omega arith)
          ∙ sym (off (x (j * 16 + i)) (λ e. let lt = enough w I8x16 j i (inside (j * 16 + i) e) in omega arith)))

  mask_is : (x : Register) → IsMaskRow (mask_local w x) (c.masks x.number)
  mask_is x l h n j i q r = h.masks_are x.number j i q

  constant_row : (x : Mask) → IsMaskRow (λ j. Const128 (mask_part x j)) x
  constant_row x l h n = row_constant n I8x16 l (λ p. flags 8 (x p)) (λ p q. byte_below (x p))

  both_row : (a b : ℕ → Expr) (x y : Mask) → IsMaskRow a x → IsMaskRow b y → IsMaskRow (λ j. Two (Bits And) (a j) (b j)) (λ p. x p && y p)
  both_row a b x y f g l h n =
      row_same n I8x16 l (λ j. Two (Bits And) (a j) (b j)) (λ p. bit_and (flags 8 (x p)) (flags 8 (y p))) (λ p. flags 8 (x p && y p)) (λ p q. and_flags (x p) (y p)) (row_bits n I8x16 And l a b (λ p. flags 8 (x p)) (λ p. flags 8 (y p)) (f l h n) (g l h n))

  either_row : (a b : ℕ → Expr) (x y : Mask) → IsMaskRow a x → IsMaskRow b y → IsMaskRow (λ j. Two (Bits Or) (a j) (b j)) (λ p. x p || y p)
  either_row a b x y f g l h n =
      row_same n I8x16 l (λ j. Two (Bits Or) (a j) (b j)) (λ p. bit_or (flags 8 (x p)) (flags 8 (y p))) (λ p. flags 8 (x p || y p)) (λ p q. or_flags (x p) (y p)) (row_bits n I8x16 Or l a b (λ p. flags 8 (x p)) (λ p. flags 8 (y p)) (f l h n) (g l h n))

  combined_row : (o : MaskOp) (x y : Register) → IsMaskRow (mask_bits w o (mask_local w x) (mask_local w y)) (combined o (c.masks x.number) (c.masks y.number))
  combined_row mask_op.And x y = both_row (mask_local w x) (mask_local w y) (c.masks x.number) (c.masks y.number) (mask_is x) (mask_is y)
  combined_row mask_op.Or x y = either_row (mask_local w x) (mask_local w y) (c.masks x.number) (c.masks y.number) (mask_is x) (mask_is y)
  combined_row mask_op.AndNot x y =
      both_row (mask_local w x) (inverted (mask_local w y)) (c.masks x.number) (λ p. not (c.masks y.number p)) (mask_is x) (λ l h n. turned_row n I8x16 l (mask_local w y) (c.masks y.number) (mask_is y l h n))

  combined_inside : (o : MaskOp) (x y : Register) (p : ℕ) → combined o (c.masks x.number) (c.masks y.number) p ≡ true → p < gang w
  combined_inside mask_op.And x y p e = st.holds.members x.number p (first_of_two (c.masks x.number p) (c.masks y.number p) e)
  combined_inside mask_op.Or x y p e = either (one_of_two (c.masks x.number p) (c.masks y.number p) e)
    where
      either : (c.masks x.number p ≡ true) ⊎ (c.masks y.number p ≡ true) → p < gang w
      either (inl h) = st.holds.members x.number p h
      either (inr h) = st.holds.members y.number p h
  combined_inside mask_op.AndNot x y p e = st.holds.members x.number p (first_of_two (c.masks x.number p) (not (c.masks y.number p)) e)

  -- the lanes of a mask where a vector is true
  test_row : (x y : Register) → IsVector w x Truth → IsMaskRow (λ j. Two (Bits And) (vector_local w x j) (mask_local w y j)) (where_true is_true (on (c.masks y.number) (c.vectors x.number)))
  test_row x y is l h n j i q r = lane_bits I8x16 And i (l (w.local (place.Vector x.number j))) (l (w.local (place.Mask y.number j))) ∙ ap (bit_and (lane I8x16 i (l (w.local (place.Vector x.number j))))) (h.masks_are y.number j i q) ∙ by (c.masks y.number (j * 16 + i)) refl
    where
      by : (b : Bool) → c.masks y.number (j * 16 + i) ≡ b
          → bit_and (lane I8x16 i (l (w.local (place.Vector x.number j)))) (flags 8 b) ≡ flags 8 (holds is_true (if b then Some (c.vectors x.number (j * 16 + i)) else None))
      by true e =
          let low = h.members y.number (j * 16 + i) e in
          ap (λ v. bit_and v 255) (vector_cells w c l h x Truth is j i q low ∙ bool_flags (c.vectors x.number (j * 16 + i)) (vector_fits w c l h x Truth is (j * 16 + i) low)) ∙ and_flags (is_true (c.vectors x.number (j * 16 + i))) true
          ∙ ap (flags 8) (and_true (is_true (c.vectors x.number (j * 16 + i))))
        where
          and_true : (b : Bool) → (b && true) ≡ b
          and_true true = refl
          and_true false = refl
      by false e = and_zero_r (lane I8x16 i (l (w.local (place.Vector x.number j))))

  test_inside : (x y : Register) (p : ℕ) → where_true is_true (on (c.masks y.number) (c.vectors x.number)) p ≡ true → p < gang w
  test_inside x y p e = by (c.masks y.number p) refl e
    where
      by : (b : Bool) → c.masks y.number p ≡ b → holds is_true (if b then Some (c.vectors x.number p) else None) ≡ true → p < gang w
      by true h g = st.holds.members y.number p h
      by false h g = absurd cc

  -- the numbers of the lanes
  number_low : (p : ℕ) → (if nat_lt p (gang w) then p else 127) < 128
  number_low p = by (nat_lt p (gang w)) refl
    where
      by : (b : Bool) → nat_lt p (gang w) ≡ b → (if b then p else 127) < 128
      by true e = let le = narrow w.code.gang in let lt = ltb-true p (gang w) e in omega arith
      by false e = lit≤ tt

  numbers_row : (l : ℕ → ℕ) (n : ℕ) → IsRow n I8x16 l (λ j. Const128 (numbers_part w j)) (λ p. if nat_lt p (gang w) then p else 127)
  numbers_row l n = row_constant n I8x16 l (λ p. if nat_lt p (gang w) then p else 127) (λ p q. let lt = number_low p in omega arith)

  lowest_row : (x : Register) → IsMaskRow (mask_of w (mask.Lowest x)) (lone (lowest (gang w) (c.masks x.number)))
  lowest_row x l h n =
      let at : ℕ → Bool = (λ p. nat_eq (if nat_lt p (gang w) then p else 127) (value l (lowest_of w x) % 2 ^ 8)) in
      row_same n I8x16 l (mask_of w (mask.Lowest x)) (λ p. bit_and (flags 8 (at p)) (flags 8 (c.masks x.number p))) (λ p. flags 8 (lone (lowest (gang w) (c.masks x.number)) p))
      (λ p q. and_flags (at p) (c.masks x.number p)
      ∙ ap (flags 8) (ap (λ v. nat_eq (if nat_lt p (gang w) then p else 127) (v % 2 ^ 8) && c.masks x.number p) (lowest_is w c.scalars c.vectors c.masks l h x) ∙ lone_is (gang w) p (c.masks x.number) (narrow w.code.gang) (h.members x.number)))
      (row_bits n I8x16 And l (λ j. Two (CompareLanes I8x16 Eq) (Const128 (numbers_part w j)) (One (Splat I8x16) (lowest_of w x))) (mask_local w x) (λ p. flags 8 (at p)) (λ p. flags 8 (c.masks x.number p))
      (row_tested n I8x16 Eq l (λ j. Const128 (numbers_part w j)) (λ j. One (Splat I8x16) (lowest_of w x)) (λ p. if nat_lt p (gang w) then p else 127) (λ p. value l (lowest_of w x) % 2 ^ 8) (numbers_row l n) (row_splat n I8x16 l (lowest_of w x)))
      (mask_is x l h n))

  lone_inside : (a : Mask) (p : ℕ) → ((p : ℕ) → a p ≡ true → p < gang w) → lone (lowest (gang w) a) p ≡ true → p < gang w
  lone_inside a p members e = by (which_lowest (gang w) a)
    where
      by : IsNone (gang w) a ⊎ ((q : ℕ) × IsLowest (gang w) a q) → p < gang w
      by (inl h) = let impossible : false ≡ true = sym (ap (λ o. lone o p) h.is) ∙ e in absurd cc
      by (inr some) = let same : p ≡ some.0 = eqb-true p some.0 (sym (ap (λ o. lone o p) (some.1).is) ∙ e) in let l = (some.1).low in omega arith

  -- ---- the lanes before an end

  abbrev pub capped : ℕ → ℕ
  capped n = if nat_lt n (gang w) then n else gang w

  abbrev pub lanes_before : ℕ → ℕ → ℕ
  lanes_before a b =
      let n = (b + (2 ^ 64 - a)) % 2 ^ 64 in
      chosen (flag (tested 64 LtS a b)) (chosen (flag (nat_lt n (gang w % 2 ^ 64))) n (gang w % 2 ^ 64)) (0 % 2 ^ 64)

  before_is : (a b : ℕ) → a < 2 ^ 64 → b < 2 ^ 64 → lanes_before a b ≡ between (int_lt (number I64 a) (number I64 b)) (capped ((b + (2 ^ 64 - a)) % 2 ^ 64))
  before_is a b p q =
      let g : gang w % 2 ^ 64 ≡ gang w = mod-eq_of_lt (let le = narrow w.code.gang in omega arith) in
      ap (λ t. chosen (flag t) (chosen (flag (nat_lt ((b + (2 ^ 64 - a)) % 2 ^ 64) (gang w % 2 ^ 64))) ((b + (2 ^ 64 - a)) % 2 ^ 64) (gang w % 2 ^ 64)) 0) (less_words I64 a b p q)
      ∙ chosen_is (int_lt (number I64 a) (number I64 b)) (chosen (flag (nat_lt ((b + (2 ^ 64 - a)) % 2 ^ 64) (gang w % 2 ^ 64))) ((b + (2 ^ 64 - a)) % 2 ^ 64) (gang w % 2 ^ 64)) 0
      ∙ ap (between (int_lt (number I64 a) (number I64 b))) (ap (λ g. chosen (flag (nat_lt ((b + (2 ^ 64 - a)) % 2 ^ 64) g)) ((b + (2 ^ 64 - a)) % 2 ^ 64) g) g ∙ chosen_is (nat_lt ((b + (2 ^ 64 - a)) % 2 ^ 64) (gang w)) ((b + (2 ^ 64 - a)) % 2 ^ 64) (gang w))

  between_small : (t : Bool) (m : ℕ) → between t (capped m) ≤ 32
  between_small false m = omega arith
  between_small true m = by (cases_lt m (gang w))
    where
      by : (m < gang w) ⊎ (gang w ≤ m) → capped m ≤ 32
      by (inl lt) = subst (λ t. (if t then m else gang w) ≤ 32) (sym (lt-ltb m (gang w) lt)) (let le = narrow w.code.gang in omega arith)
      by (inr ge) = subst (λ t. (if t then m else gang w) ≤ 32) (sym (le-ltb m (gang w) ge)) (narrow w.code.gang)

  -- one lane's test
  lane_test : (a b p : ℕ) → a < 2 ^ 64 → b < 2 ^ 64 → (t : Bool) → nat_lt p (gang w) ≡ t
      → tested 8 LtS (if t then p else 127) (between (int_lt (number I64 a) (number I64 b)) (capped ((b + (2 ^ 64 - a)) % 2 ^ 64))) ≡ (t && int_lt (number I64 a +ℤ pos p) (number I64 b))
  lane_test a b p fa fb true e =
      let lt = ltb-true p (gang w) e in
      let small = narrow w.code.gang in
      let le = between_small (int_lt (number I64 a) (number I64 b)) ((b + (2 ^ 64 - a)) % 2 ^ 64) in
      small_test p (between (int_lt (number I64 a) (number I64 b)) (capped ((b + (2 ^ 64 - a)) % 2 ^ 64))) (omega arith) (omega arith)
      ∙ cap (int_lt (number I64 a) (number I64 b)) ∙ sym (range_is a b p fa fb (omega arith))
    where
      cap : (u : Bool) → nat_lt p (between u (capped ((b + (2 ^ 64 - a)) % 2 ^ 64))) ≡ nat_lt p (between u ((b + (2 ^ 64 - a)) % 2 ^ 64))
      cap true = at_most p ((b + (2 ^ 64 - a)) % 2 ^ 64) (gang w) (ltb-true p (gang w) e)
      cap false = refl
  lane_test a b p fa fb false e =
      let le = between_small (int_lt (number I64 a) (number I64 b)) ((b + (2 ^ 64 - a)) % 2 ^ 64) in
      small_test 127 (between (int_lt (number I64 a) (number I64 b)) (capped ((b + (2 ^ 64 - a)) % 2 ^ 64))) (lit≤ tt) (omega arith) ∙ le-ltb 127 (between (int_lt (number I64 a) (number I64 b)) (capped ((b + (2 ^ 64 - a)) % 2 ^ 64))) (omega arith)

  range_row : (x y : Register) → c.scalars x.number < 2 ^ 64 → c.scalars y.number < 2 ^ 64
      → IsMaskRow (mask_of w (mask.Range x y)) (λ p. nat_lt p (gang w) && int_lt (number I64 (c.scalars x.number) +ℤ pos p) (number I64 (c.scalars y.number)))
  range_row x y fa fb l h n =
      let a = c.scalars x.number in
      let b = c.scalars y.number in
      let m = between (int_lt (number I64 a) (number I64 b)) (capped ((b + (2 ^ 64 - a)) % 2 ^ 64)) in
      let le = between_small (int_lt (number I64 a) (number I64 b)) ((b + (2 ^ 64 - a)) % 2 ^ 64) in
      let counted : value l (range_count w x y) ≡ m = ap₂ lanes_before (h.scalars_are x.number) (h.scalars_are y.number) ∙ before_is a b fa fb in
      row_same n I8x16 l (mask_of w (mask.Range x y)) (λ p. flags 8 (tested 8 LtS (if nat_lt p (gang w) then p else 127) (value l (range_count w x y) % 2 ^ 32 % 2 ^ 8)))
      (λ p. flags 8 (nat_lt p (gang w) && int_lt (number I64 a +ℤ pos p) (number I64 b)))
      (λ p q. ap (λ v. flags 8 (tested 8 LtS (if nat_lt p (gang w) then p else 127) (v % 2 ^ 32 % 2 ^ 8))) counted
      ∙ ap (λ v. flags 8 (tested 8 LtS (if nat_lt p (gang w) then p else 127) v)) (ap (λ u. u % 2 ^ 8) (mod-eq_of_lt (let lt : m < 2 ^ 32 = omega arith in lt)) ∙ mod-eq_of_lt (let lt : m < 2 ^ 8 = omega arith in lt))
      ∙ ap (flags 8) (lane_test a b p fa fb (nat_lt p (gang w)) refl))
      (row_tested n I8x16 LtS l (λ j. Const128 (numbers_part w j)) (λ j. One (Splat I8x16) (One Wrap (range_count w x y))) (λ p. if nat_lt p (gang w) then p else 127) (λ p. value l (range_count w x y) % 2 ^ 32 % 2 ^ 8)
      (numbers_row l n) (row_splat n I8x16 l (One Wrap (range_count w x y))))

  pub masks_fall : (d : Register) (i : MaskInstr) → slice_get w.routine.code pc ≡ Some (instr.Mask d i) → IsThinMask w i → Good (pc + 1) c (run fuel call (template.set_mask w d (mask_of w i)) s)
  masks_fall d (mask.Copy x) has h = falls_mask (instr.Mask d (mask.Copy x)) d (c.masks x.number) (mask_local w x) has refl (st.holds.members x.number) (mask_is x)
  masks_fall d (mask.Binary o x y) has h =
      falls_mask (instr.Mask d (mask.Binary o x y)) d (combined o (c.masks x.number) (c.masks y.number)) (mask_bits w o (mask_local w x) (mask_local w y)) has refl (combined_inside o x y) (combined_row o x y)
  masks_fall d mask.Full has h = falls_mask (instr.Mask d mask.Full) d (everyone (gang w)) (λ j. Const128 (mask_part (everyone (gang w)) j)) has refl (λ p e. ltb-true p (gang w) e) (constant_row (everyone (gang w)))
  masks_fall d mask.Off has h = falls_mask (instr.Mask d mask.Off) d nobody (λ j. Const128 (mask_part nobody j)) has refl (λ p e. absurd cc) (constant_row nobody)
  masks_fall d (mask.Test x y) has h =
      falls_mask (instr.Mask d (mask.Test x y)) d (where_true is_true (on (c.masks y.number) (c.vectors x.number))) (mask_of w (mask.Test x y)) has refl (test_inside x y) (test_row x y h)
  masks_fall d (mask.Lowest x) has h =
      falls_mask (instr.Mask d (mask.Lowest x)) d (lone (lowest (gang w) (c.masks x.number))) (mask_of w (mask.Lowest x)) has refl (λ p e. lone_inside (c.masks x.number) p (st.holds.members x.number) e) (lowest_row x)
  masks_fall d (mask.Range x y) has h =
      falls_mask (instr.Mask d (mask.Range x y)) d (λ p. nat_lt p (gang w) && int_lt (number I64 (c.scalars x.number) +ℤ pos p) (number I64 (c.scalars y.number))) (mask_of w (mask.Range x y)) has refl
      (λ p e. ltb-true p (gang w) (first_of_two (nat_lt p (gang w)) (int_lt (number I64 (c.scalars x.number) +ℤ pos p) (number I64 (c.scalars y.number))) e))
      (range_row x y (scalar_fits w c s.locals st.holds x I64 h.0) (scalar_fits w c s.locals st.holds y I64 h.1))
