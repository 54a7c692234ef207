-- The templates that set the lanes of a mask.
use Rattle.std.proofs.Common.{◌≡◌, ℕ, suc, ◌+◌, ◌*◌, ◌/◌, ◌%◌, ◌^◌, ◌<◌, ◌≤◌, List, Some, None, Bool, true, false, refl, sym, ap, ap₂, ◌∙◌, subst, arith}
use Rattle.std.specs.Prelude.{nat_eq, slice_get, if◌then◌else◌}
use Rattle.isp_base.specs.Maps.{Lanes as AllLanes, Map, on, over, or_old, map1, map2, each1, each2, put}
use Rattle.isp_base.specs.Truths.{is_true}
use Rattle.isp_base.specs.Unary.{unary_bits}
use Rattle.isp_base.specs.Values.{width, number, op_bits, compare_bits, compare_to, convert_bits}
use Rattle.isp_base.specs.declared.operators.Compare.{Compare}
use Rattle.isp_base.specs.declared.operators.UnaryOp.{UnaryOp}
use Rattle.isp_base.specs.Types.{gang_width}
use Rattle.isp_base.specs.declared.types.Gang.{Gang}
use Rattle.isp_base.specs.declared.types.Gang.TheVariants.{W4, W8, W16, W32}
use Rattle.isp_base.specs.declared.types.Elem.{Elem}
use Rattle.isp_base.specs.declared.types.Elem.TheVariants.{Bool as Truth}
use Rattle.isp_code.specs.Conf.{Conf, Go}
use Rattle.isp_code.specs.Lines.{act, plain_of, set_vector}
use Rattle.isp_code.specs.declared.instr.Instr.TheVariants as instr
use Rattle.isp_code.specs.declared.instr.Plain.{Plain}
use Rattle.isp_code.specs.declared.instr.Plain.TheVariants as plain
use Rattle.isp_code.specs.declared.instr.VectorInstr.{VectorInstr}
use Rattle.isp_code.specs.declared.instr.VectorInstr.TheVariants as vector
use Rattle.isp_code.specs.declared.register.Register.{Register}
use Rattle.isp_forms.specs.Writes.{mask_under}
use Rattle.isp_forms.specs.declared.form.Form.{Form}
use Rattle.isp_forms.specs.declared.form.Form.TheVariants.{Kept, Free, Useless, KeptBy, FreeBy}
use Rattle.isp_wasm_meaning.specs.Digits.{packed}
use Rattle.isp_wasm_meaning.specs.Syntax as wasm
use Rattle.isp_wasm_meaning.specs.Syntax.{I8x16, Expr, Code, Set, Then, Bitselect, Local, One, Splat, Const128}
use Rattle.isp_wasm_meaning.specs.Meaning.{State, Result, Fell, run, value, lane, of_lanes, wide, count, flags, chosen, bit_of, unary, then_to}
use Rattle.isp_wasm_meaning.specs.Ladder.{Meets}
use Rattle.isp_wasm_meaning.proofs.Lanes.{selected, lane_below}
use Rattle.isp_wasm.specs.Places as place
use Rattle.isp_wasm.specs.Places.{Setting, Place, Counter, Fresh, IsKept, elem, shape, shape_of, size_of, parts, gang}
use Rattle.isp_wasm.specs.Rows.{cell, as_cell, half, widened, narrowed, present, compare_row, lane_at, shift_row}
use Rattle.isp_wasm.specs.Templates.{each, select_lanes, put_lanes, set_lanes, vector_local, scalar_local, mask_local, vector_of, known_code, vector_code}
use Rattle.isp_wasm.specs.Standing.{Stands, Holds, Keeps, all_of, IsSettled, the_machine, vector_register}
use Rattle.isp_wasm.specs.Thin.{IsVector, IsScalar, IsThinVector}
use Rattle.isp_wasm.proofs.Frames.{holds_alike, holds_vector}
use Rattle.isp_wasm.proofs.Steps.{IsWritten, falls_on, falls_free, falls_known, falls_known_free}
use Rattle.isp_wasm.proofs.Frees.{Frees, all_fall}
use Rattle.isp_wasm.proofs.Parts.{AreSet, AreFresh, are_set, are_fresh}
use Rattle.isp_wasm.proofs.Rows.{IsRow, row_same, row_widened, row_narrowed, row_present, row_splat, row_constant, enough}
use Rattle.isp_wasm.proofs.Cells.{IsCells, split_lane, cell_fits, cell_written, cell_of_bool, bool_flags, lane_value, plain_cells, shl_cells, shr_cells, unary_cells, compare_cells, select_cells}
use Rattle.isp_wasm.proofs.ConvertRows.{convert_cells}

pub other_part : (r d i j : ℕ) → i < j → place.Vector r j ≡ place.Vector d i → ⊥
other_part r d i j h e = let same : j ≡ i = cc in omega arith

-- a mask's lanes under another shape read the mask alone
half_same : (s : wasm.Shape) (m l : ℕ → ℕ) (j : ℕ) (x : Expr) → value m x ≡ value l x → value m (half s j x) ≡ value l (half s j x)
half_same s m l j x e = by (nat_eq (j % 2) 0)
  where
    by : (b : Bool) → value m (if b then One (wasm.ExtendLow s) x else One (wasm.ExtendHigh s) x) ≡ value l (if b then One (wasm.ExtendLow s) x else One (wasm.ExtendHigh s) x)
    by true = ap (unary (wasm.ExtendLow s)) e
    by false = ap (unary (wasm.ExtendHigh s)) e

pub widened_same : (s : wasm.Shape) (m l : ℕ → ℕ) (e : ℕ → Expr) (j : ℕ) → ((j : ℕ) → value m (e j) ≡ value l (e j)) → value m (widened s e j) ≡ value l (widened s e j)
widened_same wasm.I8x16 m l e j h = h j
widened_same wasm.I16x8 m l e j h = half_same wasm.I16x8 m l j (e (j / 2)) (h (j / 2))
widened_same wasm.I32x4 m l e j h = half_same wasm.I32x4 m l j (half wasm.I16x8 (j / 2) (e (j / 2 / 2))) (half_same wasm.I16x8 m l (j / 2) (e (j / 2 / 2)) (h (j / 2 / 2)))
widened_same wasm.I64x2 m l e j h =
    half_same wasm.I64x2 m l j (half wasm.I32x4 (j / 2) (half wasm.I16x8 (j / 2 / 2) (e (j / 2 / 2 / 2))))
    (half_same wasm.I32x4 m l (j / 2) (half wasm.I16x8 (j / 2 / 2) (e (j / 2 / 2 / 2))) (half_same wasm.I16x8 m l (j / 2 / 2) (e (j / 2 / 2 / 2)) (h (j / 2 / 2 / 2))))

pub chosen_over : (b : Bool) (x old : ℕ) → (if b then x else old) ≡ or_old (if b then Some x else None) old
chosen_over true x old = refl
chosen_over false x old = refl

pub chosen_over1 : (b : Bool) (f : ℕ → ℕ) (x old : ℕ) → (if b then f x else old) ≡ or_old (each1 f (if b then Some x else None)) old
chosen_over1 true f x old = refl
chosen_over1 false f x old = refl

pub chosen_over2 : (b : Bool) (f : ℕ → ℕ → ℕ) (x y old : ℕ) → (if b then f x y else old) ≡ or_old (each2 f (if b then Some x else None) (if b then Some y else None)) old
chosen_over2 true f x y old = refl
chosen_over2 false f x y old = refl

pub narrow : (g : Gang) → gang_width g ≤ 32
narrow W4 = omega arith
narrow W8 = omega arith
narrow W16 = omega arith
narrow W32 = omega arith

module _ (w : Setting) where
  -- what a vector register has, where registers are held
  module _ (c : Conf) (l : ℕ → ℕ) (h : Holds w c.scalars c.vectors c.masks l) where
    pub vector_cells : (x : Register) (t : Elem) → IsVector w x t → IsCells (gang w) t l (vector_local w x) (c.vectors x.number)
    vector_cells x t is =
        subst (λ u. IsCells (gang w) u l (vector_local w x) (c.vectors x.number)) (sym (ap (λ a. elem w (record { class = a; number = x.number })) is.class_is) ∙ is.elem_is) (h.vectors_are x.number)

    pub vector_fits : (x : Register) (t : Elem) → IsVector w x t → (p : ℕ) → p < gang w → c.vectors x.number p < 2 ^ width t
    vector_fits x t is p q =
        let at = split_lane t p in
        cell_fits t (c.vectors x.number p)
        (subst (λ u. u < 2 ^ wide (shape_of t))
        (vector_cells x t is (p / count (shape_of t)) (p % count (shape_of t)) at.1 (subst (λ r. r < gang w) (sym at.0) q) ∙ ap (λ r. cell t (c.vectors x.number r)) at.0)
        (lane_below (shape_of t) (p % count (shape_of t)) (l (w.local (place.Vector x.number (p / count (shape_of t)))))))

    pub vector_lane : (x : Register) (t : Elem) → IsVector w x t → (p : ℕ) → p < gang w → value l (lane_at t (vector_local w x) p) ≡ c.vectors x.number p
    vector_lane x t is p q = lane_value (gang w) t l (vector_local w x) (c.vectors x.number) p (vector_cells x t is) q (vector_fits x t is p q)

    pub scalar_value_of : (x : Register) → value l (scalar_local w x) ≡ c.scalars x.number
    scalar_value_of x = h.scalars_are x.number

    pub scalar_fits : (x : Register) (t : Elem) → IsScalar w x t → c.scalars x.number < 2 ^ width t
    scalar_fits x t is = subst (λ u. c.scalars x.number < 2 ^ width u) (sym (ap (λ a. elem w (record { class = a; number = x.number })) is.class_is) ∙ is.elem_is) (h.fits x.number)

    -- a mask's lanes under a shape
    pub mask_row : (s : wasm.Shape) (k : Register) (n : ℕ) → IsRow n s l (widened s (mask_local w k)) (λ p. flags (wide s) (c.masks k.number p))
    mask_row s k n = row_widened n s l (mask_local w k) (c.masks k.number) (λ j i q r. h.masks_are k.number j i q)

module _ (w : Setting) (ready : IsSettled w) (fuel n k : ℕ) (call : ℕ → List ℕ → State → Result) where
  abbrev pub Good : ℕ → Conf → Result → Type 0
  Good pc = Meets (the_machine w) (w.local Counter) n fuel (Stands w pc) (suc k)

  abbrev pub select_bits : ℕ → ℕ → ℕ → ℕ
  select_bits a x y = packed 2 128 (λ i. chosen (bit_of i a) (bit_of i x) (bit_of i y))

  module _ (pc : ℕ) (c : Conf) (s : State) (st : Stands w pc c s) where
    -- the machine goes on with a vector whose lanes that are off are kept
    abbrev Keeping : ℕ → Map → Type 0
    Keeping d x = (t : State) → t.out ≡ s.out → Holds w c.scalars (put c.vectors d (over x (c.vectors d))) c.masks t.locals → Keeps w (all_of w c) t.memory t.size → Good (pc + 1) c (Fell t)

    -- the lanes of a mask of a vector register
    module _ (m : Register) (d : ℕ) (x : Map) (v : AllLanes) (new : ℕ → Expr)
        (where_on : (p : ℕ) → p < gang w → (if c.masks m.number p then v p else c.vectors d p) ≡ over x (c.vectors d) p)
        (row : (l : ℕ → ℕ) → Holds w c.scalars c.vectors c.masks l → IsCells (gang w) (elem w (vector_register d)) l new v) where
      abbrev sh : wasm.Shape
      sh = shape w (vector_register d)

      abbrev t : Elem
      t = elem w (vector_register d)

      fresh : AreFresh w (gang w) sh (λ p. cell t (v p)) (parts w sh) s (run fuel call (each (parts w sh) (λ j. Set (w.local (Fresh j)) (new j))) s)
      fresh = are_fresh w ready fuel call (gang w) sh (λ p. cell t (v p)) new s (λ l a. row l (holds_alike w c.scalars c.vectors c.masks s.locals l st.holds a)) (parts w sh)

      held : Holds w c.scalars c.vectors c.masks fresh.locals
      held = holds_alike w c.scalars c.vectors c.masks s.locals fresh.locals st.holds fresh.alike

      abbrev masked : ℕ → Expr
      masked j = Bitselect (Local (w.local (Fresh j))) (vector_local w (vector_register d) j) (widened sh (mask_local w m) j)

      abbrev selecting : State → Result
      selecting u = run fuel call (select_lanes w (vector_register d) m) u

      set : AreSet w (place.Vector d) (parts w sh) masked (record s { locals = fresh.locals }) (selecting (record s { locals = fresh.locals }))
      set =
          are_set w ready fuel call (place.Vector d) (λ i j e. cc) masked (record s { locals = fresh.locals })
          (λ j l same.
          ap (λ a. select_bits a (l (w.local (Fresh j))) (l (w.local (place.Vector d j)))) (widened_same sh l fresh.locals (mask_local w m) j (λ j. same (place.Mask m.number j) (λ i q e. cc)))
          ∙ ap₂ (select_bits (value fresh.locals (widened sh (mask_local w m) j))) (same (Fresh j) (λ i q e. cc)) (same (place.Vector d j) (λ i q. other_part d d i j q)))
          (parts w sh)

      by : (b : Bool) (a u : ℕ) → (if b then cell t a else cell t u) ≡ cell t (if b then a else u)
      by true a u = refl
      by false a u = refl

      lanes : (j i : ℕ) → i < count sh → j * count sh + i < gang w → lane sh i (set.locals (w.local (place.Vector d j))) ≡ cell t (over x (c.vectors d) (j * count sh + i))
      lanes j i l q =
          ap (lane sh i) (set.set_to j (enough w sh j i q))
          ∙ selected sh i (value fresh.locals (widened sh (mask_local w m) j)) (fresh.locals (w.local (Fresh j))) (fresh.locals (w.local (place.Vector d j))) (c.masks m.number (j * count sh + i)) l
          (mask_row w c fresh.locals held sh m (gang w) j i l q)
          ∙ ap₂ (λ a b. if c.masks m.number (j * count sh + i) then a else b) (fresh.lanes j i (enough w sh j i q) l q) (held.vectors_are d j i l q)
          ∙ by (c.masks m.number (j * count sh + i)) (v (j * count sh + i)) (c.vectors d (j * count sh + i))
          ∙ ap (cell t) (where_on (j * count sh + i) q)

      -- the others are kept
      lanes_kept : Keeping d x → Good (pc + 1) c (run fuel call (set_lanes w Kept (vector_register d) m new) s)
      lanes_kept goes =
          subst (Good (pc + 1) c) (sym (ap (λ r. then_to r selecting) fresh.fell ∙ set.fell))
          (goes (record s { locals = set.locals }) refl
          (holds_vector w c.scalars c.vectors c.masks fresh.locals set.locals d (over x (c.vectors d)) held lanes
          (λ p kept out. set.others p (λ i l e. out (i, e))))
          st.keeps)

      lanes_free : Frees w ready fuel n k call pc c s st d x m → Good (pc + 1) c (run fuel call (set_lanes w Free (vector_register d) m new) s)
      lanes_free goes =
          subst (Good (pc + 1) c) (sym (ap (λ r. then_to r (run fuel call (put_lanes w Free (vector_register d) m))) fresh.fell))
          (all_fall w ready fuel n k call pc c s st m d x v fresh.locals goes where_on held (λ j q l b. fresh.lanes j q (enough w sh j q b) l b))

    -- by what an instruction does
    module _ (i : VectorInstr) (d : ℕ) (x : Map) (v : AllLanes) (new : ℕ → Expr) (has : slice_get w.routine.code pc ≡ Some (instr.Vector (vector_register d) i))
        (is : act w.code w.routine c (instr.Vector (vector_register d) i) ≡ Go (set_vector c (vector_register d) x))
        (where_on : (p : ℕ) → p < gang w → (if c.masks (mask_under i).number p then v p else c.vectors d p) ≡ over x (c.vectors d) p)
        (row : (l : ℕ → ℕ) → Holds w c.scalars c.vectors c.masks l → IsCells (gang w) (elem w (vector_register d)) l new v) where
      keeping : Good (pc + 1) c (run fuel call (set_lanes w Kept (vector_register d) (mask_under i) new) s)
      keeping =
          lanes_kept (mask_under i) d x v new where_on row
          (λ t out holds keeps. falls_on w ready fuel n k pc c s (instr.Vector (vector_register d) i) st has (record c { pc = c.pc + 1; vectors = put c.vectors d (over x (c.vectors d)) }) t is refl refl refl out holds keeps)

      pub lanes_fall : (form : Form) → IsWritten w pc form → Good (pc + 1) c (run fuel call (set_lanes w form (vector_register d) (mask_under i) new) s)
      lanes_fall Kept written = keeping
      lanes_fall Useless written = keeping
      lanes_fall (KeptBy b) written = keeping
      lanes_fall (FreeBy b) written = keeping
      lanes_fall Free written =
          lanes_free (mask_under i) d x v new where_on row
          (λ old t out holds keeps. falls_free w ready fuel n k pc c s (vector_register d) i st has x old t (written (λ e. cc)) is out holds keeps)

    -- ---- the instructions that work on each lane by itself

    abbrev pub At : ℕ → VectorInstr → Type 0
    At d i =
        slice_get w.routine.code pc ≡ Some (instr.Vector (vector_register d) i) → IsThinVector w (elem w (vector_register d)) i → (form : Form) → IsWritten w pc form
        → Good (pc + 1) c (run fuel call (vector_code w form (vector_register d) i) s)

    pub copies : (d : ℕ) (x m : Register) → At d (vector.Copy x m)
    copies d x m has h =
        lanes_fall (vector.Copy x m) d (on (c.masks m.number) (c.vectors x.number)) (c.vectors x.number) (vector_local w x) has refl
        (λ p q. chosen_over (c.masks m.number p) (c.vectors x.number p) (c.vectors d p)) (λ l held. vector_cells w c l held x (elem w (vector_register d)) h)

    pub converts : (d : ℕ) (x m : Register) → At d (vector.Convert x m)
    converts d x m has h =
        let t = elem w (vector_register d) in
        let u = elem w x in
        let f : ℕ → ℕ = (λ b. convert_bits t (number u b)) in
        lanes_fall (vector.Convert x m) d (map1 f (on (c.masks m.number) (c.vectors x.number))) (λ p. f (c.vectors x.number p)) (vector_of w (vector_register d) (vector.Convert x m)) has refl
        (λ p q. chosen_over1 (c.masks m.number p) f (c.vectors x.number p) (c.vectors d p))
        (λ l held. convert_cells w l (vector_local w x) (c.vectors x.number) u t (vector_cells w c l held x u h) (vector_fits w c l held x u h))

    pub unaries : (d : ℕ) (o : UnaryOp) (x m : Register) → At d (vector.Unary o x m)
    unaries d o x m has h =
        let t = elem w (vector_register d) in
        lanes_fall (vector.Unary o x m) d (map1 (unary_bits o t) (on (c.masks m.number) (c.vectors x.number))) (λ p. unary_bits o t (c.vectors x.number p)) (vector_of w (vector_register d) (vector.Unary o x m)) has refl
        (λ p q. chosen_over1 (c.masks m.number p) (unary_bits o t) (c.vectors x.number p) (c.vectors d p))
        (λ l held. unary_cells (gang w) l (vector_local w x) (c.vectors x.number) o t h.0 (vector_cells w c l held x t h.1) (vector_fits w c l held x t h.1))

    plains : (d : ℕ) (o : Plain) (x y m : Register) → slice_get w.routine.code pc ≡ Some (instr.Vector (vector_register d) (vector.Binary o x y m)) → IsThinVector w (elem w (vector_register d)) (vector.Binary o x y m)
        → (form : Form) → IsWritten w pc form → Good (pc + 1) c (run fuel call (set_lanes w form (vector_register d) m (vector_of w (vector_register d) (vector.Binary o x y m))) s)
    plains d o x y m has h =
        let t = elem w (vector_register d) in
        lanes_fall (vector.Binary o x y m) d (map2 (op_bits (plain_of o) t) (on (c.masks m.number) (c.vectors x.number)) (on (c.masks m.number) (c.vectors y.number)))
        (λ p. op_bits (plain_of o) t (c.vectors x.number p) (c.vectors y.number p)) (vector_of w (vector_register d) (vector.Binary o x y m)) has refl
        (λ p q. chosen_over2 (c.masks m.number p) (op_bits (plain_of o) t) (c.vectors x.number p) (c.vectors y.number p) (c.vectors d p))
        (λ l held. plain_cells w l (vector_local w x) (vector_local w y) (c.vectors x.number) (c.vectors y.number) o t h.0 (vector_cells w c l held x t h.1) (vector_cells w c l held y t h.2)
        (λ p q. (vector_fits w c l held x t h.1 p q, vector_fits w c l held y t h.2 p q)))

    -- an operator by a known number
    module _ (d : ℕ) (x y m : Register) (b : ℕ) where
      abbrev lanes_type : Elem
      lanes_type = elem w (vector_register d)

      abbrev by_number : Plain → AllLanes
      by_number o p = op_bits (plain_of o) lanes_type (c.vectors x.number p) b

      abbrev known : Plain → Map
      known o = map2 (op_bits (plain_of o) lanes_type) (on (c.masks m.number) (c.vectors x.number)) (on (c.masks m.number) (λ p. b))

      abbrev IsShifted : Plain → (ℕ → Expr) → Type 0
      IsShifted o new = (l : ℕ → ℕ) → Holds w c.scalars c.vectors c.masks l → IsCells (gang w) lanes_type l new (by_number o)

      module _ (o : Plain) (has : slice_get w.routine.code pc ≡ Some (instr.Vector (vector_register d) (vector.Binary o x y m))) (new : ℕ → Expr) (row : IsShifted o new) where
        known_on : (p : ℕ) → p < gang w → (if c.masks m.number p then by_number o p else c.vectors d p) ≡ over (known o) (c.vectors d) p
        known_on p q = chosen_over2 (c.masks m.number p) (op_bits (plain_of o) lanes_type) (c.vectors x.number p) b (c.vectors d p)

        shifts_kept : w.forms w.home.fn pc ≡ KeptBy b → Good (pc + 1) c (run fuel call (set_lanes w Kept (vector_register d) m new) s)
        shifts_kept form =
            lanes_kept m d (known o) (by_number o) new known_on row
            (λ t out holds keeps. falls_known w ready fuel n k pc c s (vector_register d) o x y m b st has t form out holds keeps)

        shifts_free : w.forms w.home.fn pc ≡ FreeBy b → Good (pc + 1) c (run fuel call (set_lanes w Free (vector_register d) m new) s)
        shifts_free form =
            lanes_free m d (known o) (by_number o) new known_on row
            (λ old t out holds keeps. falls_known_free w ready fuel n k pc c s (vector_register d) o x y m b st has old t form out holds keeps)

      -- a shift is one of all lanes
      knowns : (o : Plain) (form : Form) → IsThinVector w lanes_type (vector.Binary o x y m)
          → ((new : ℕ → Expr) → IsShifted o new → Good (pc + 1) c (run fuel call (set_lanes w form (vector_register d) m new) s))
          → Good (pc + 1) c (run fuel call (set_lanes w Kept (vector_register d) m (vector_of w (vector_register d) (vector.Binary o x y m))) s)
          → Good (pc + 1) c (run fuel call (known_code w form b (vector_register d) o x y m) s)
      knowns plain.Shl form h shift other =
          shift (shift_row plain.Shl lanes_type (vector_local w x) b)
          (λ l held. shl_cells (gang w) lanes_type l (vector_local w x) (c.vectors x.number) b h.0 (vector_cells w c l held x lanes_type h.1) (vector_fits w c l held x lanes_type h.1))
      knowns plain.Shr form h shift other =
          shift (shift_row plain.Shr lanes_type (vector_local w x) b)
          (λ l held. shr_cells (gang w) lanes_type l (vector_local w x) (c.vectors x.number) b h.0 (vector_cells w c l held x lanes_type h.1) (vector_fits w c l held x lanes_type h.1))
      knowns o form h shift other = other

    pub binaries : (d : ℕ) (o : Plain) (x y m : Register) → At d (vector.Binary o x y m)
    binaries d o x y m has h Kept written = plains d o x y m has h Kept written
    binaries d o x y m has h Free written = plains d o x y m has h Free written
    binaries d o x y m has h Useless written = plains d o x y m has h Useless written
    binaries d o x y m has h (KeptBy b) written =
        knowns d x y m b o Kept h (λ new row. shifts_kept d x y m b o has new row (written (λ e. cc))) (plains d o x y m has h Kept (λ other. absurd (other refl)))
    binaries d o x y m has h (FreeBy b) written =
        knowns d x y m b o Free h (λ new row. shifts_free d x y m b o has new row (written (λ e. cc))) (plains d o x y m has h Kept (λ other. absurd (other refl)))

    compare_lanes : (o : Compare) (u : Elem) (x y : Register) (l : ℕ → ℕ) → (held : Holds w c.scalars c.vectors c.masks l) → IsVector w x u → IsVector w y u
        → IsCells (gang w) Truth l (narrowed (shape_of u) (present w (shape_of u) (compare_row o u (vector_local w x) (vector_local w y)))) (λ p. compare_bits o u (c.vectors x.number p) (c.vectors y.number p))
    compare_lanes o u x y l held a b =
        let m : ℕ → Bool = (λ p. compare_to o (number u (c.vectors x.number p)) (number u (c.vectors y.number p))) in
        let row = compare_row o u (vector_local w x) (vector_local w y) in
        row_same (gang w) I8x16 l (narrowed (shape_of u) (present w (shape_of u) row)) (λ p. flags 8 (m p)) (λ p. cell Truth (compare_bits o u (c.vectors x.number p) (c.vectors y.number p))) (λ p q. cell_of_bool (m p))
        (row_narrowed (gang w) (shape_of u) l (present w (shape_of u) row) m
        (row_present w (shape_of u) l row (λ p. flags (wide (shape_of u)) (m p))
        (compare_cells (gang w) o u l (vector_local w x) (vector_local w y) (c.vectors x.number) (c.vectors y.number) (vector_cells w c l held x u a) (vector_cells w c l held y u b)
        (λ p q. (vector_fits w c l held x u a p q, vector_fits w c l held y u b p q)))))

    pub compares : (d : ℕ) (o : Compare) (x y m : Register) → At d (vector.Compare o x y m)
    compares d o x y m has h =
        let u = elem w x in
        lanes_fall (vector.Compare o x y m) d (map2 (compare_bits o u) (on (c.masks m.number) (c.vectors x.number)) (on (c.masks m.number) (c.vectors y.number)))
        (λ p. compare_bits o u (c.vectors x.number p) (c.vectors y.number p)) (vector_of w (vector_register d) (vector.Compare o x y m)) has refl
        (λ p q. chosen_over2 (c.masks m.number p) (compare_bits o u) (c.vectors x.number p) (c.vectors y.number p) (c.vectors d p))
        (λ l held. subst (λ t. IsCells (gang w) t l (vector_of w (vector_register d) (vector.Compare o x y m)) (λ p. compare_bits o u (c.vectors x.number p) (c.vectors y.number p))) (sym h.0) (compare_lanes o u x y l held h.1 h.2))

    -- a bool vector's bytes are flags
    pub bool_row : (l : ℕ → ℕ) (held : Holds w c.scalars c.vectors c.masks l) (x : Register) → IsVector w x Truth → IsRow (gang w) I8x16 l (vector_local w x) (λ p. flags 8 (is_true (c.vectors x.number p)))
    bool_row l held x is =
        row_same (gang w) I8x16 l (vector_local w x) (λ p. cell Truth (c.vectors x.number p)) (λ p. flags 8 (is_true (c.vectors x.number p))) (λ p q. bool_flags (c.vectors x.number p) (vector_fits w c l held x Truth is p q))
        (vector_cells w c l held x Truth is)

    pub selects : (d : ℕ) (t x y m : Register) → At d (vector.Select t x y m)
    selects d t x y m has h =
        let u = elem w (vector_register d) in
        let v : ℕ → ℕ = (λ p. if is_true (c.vectors t.number p) then c.vectors x.number p else c.vectors y.number p) in
        lanes_fall (vector.Select t x y m) d (on (c.masks m.number) v) v (vector_of w (vector_register d) (vector.Select t x y m)) has refl
        (λ p q. chosen_over (c.masks m.number p) (v p) (c.vectors d p))
        (λ l held. select_cells (gang w) u l (vector_local w x) (vector_local w y) (widened (shape_of u) (vector_local w t)) (c.vectors x.number) (c.vectors y.number) (λ p. is_true (c.vectors t.number p))
        (vector_cells w c l held x u h.1) (vector_cells w c l held y u h.2) (row_widened (gang w) (shape_of u) l (vector_local w t) (λ p. is_true (c.vectors t.number p)) (bool_row l held t h.0)))

    pub splats : (d : ℕ) (x m : Register) → At d (vector.Splat x m)
    splats d x m has h =
        let u = elem w (vector_register d) in
        lanes_fall (vector.Splat x m) d (on (c.masks m.number) (λ p. c.scalars x.number)) (λ p. c.scalars x.number) (vector_of w (vector_register d) (vector.Splat x m)) has refl
        (λ p q. chosen_over (c.masks m.number p) (c.scalars x.number) (c.vectors d p))
        (λ l held. row_same (gang w) (shape_of u) l (λ j. One (Splat (shape_of u)) (as_cell u (scalar_local w x))) (λ p. value l (as_cell u (scalar_local w x)) % 2 ^ wide (shape_of u)) (λ p. cell u (c.scalars x.number))
        (λ p q. cell_written u l (scalar_local w x) (c.scalars x.number) (held.scalars_are x.number) (scalar_fits w c l held x u h)) (row_splat (gang w) (shape_of u) l (as_cell u (scalar_local w x))))

    pub indices : (d : ℕ) (m : Register) → At d (vector.Index m)
    indices d m has h =
        lanes_fall (vector.Index m) d (on (c.masks m.number) (λ p. p)) (λ p. p) (vector_of w (vector_register d) (vector.Index m)) has refl
        (λ p q. chosen_over (c.masks m.number p) p (c.vectors d p))
        (λ l held. subst (λ u. IsCells (gang w) u l (λ j. Const128 (of_lanes (shape_of u) (λ i. j * count (shape_of u) + i))) (λ p. p)) (sym h)
        (row_constant (gang w) wasm.I32x4 l (λ p. p) (λ p q. let le = narrow w.code.gang in omega arith)))
