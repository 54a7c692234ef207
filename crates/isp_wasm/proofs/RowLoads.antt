-- The template that loads elements in a row: all at once where they are there and the lanes fill their parts, else lane by lane.
use Rattle.std.proofs.Common.{◌≡◌, ℕ, zero, suc, ◌+◌, ◌-◌, ◌*◌, ◌%◌, ◌^◌, ◌<◌, ◌≤◌, ◌⊎◌, inl, inr, List, Some, None, Bool, true, false, not, ◌&&◌, refl, sym, ap, ap₂, ◌∙◌, subst, arith, mod-eq_of_lt, bit_and}
use Rattle.std.specs.Prelude.{slice_get, nat_eq, nat_lt, nat_le, if◌then◌else◌, pos, ◌+ℤ◌, unsigned_abs}
use Rattle.std.proofs.lemmas.Bool.{ltb-true, lt-ltb, cases_eq, cond-true, le-leb, eqb-true}
use Rattle.isp_base.specs.Cross.{run_outside}
use Rattle.isp_base.specs.Access.{is_beyond}
use Rattle.isp_base.specs.Maps.{on, over, put}
use Rattle.isp_base.specs.Sets.{lowest}
use Rattle.isp_base.specs.Values.{number, width}
use Rattle.isp_base.specs.declared.trap.TrapKind.TheVariants as kind
use Rattle.isp_base.specs.declared.types.Elem.{Elem}
use Rattle.isp_base.specs.declared.types.Elem.TheVariants.{Bool as Truth, I8, U8, I16, U16, I32, U32, I64, U64}
use Rattle.isp_code.specs.Conf.{Conf, Go}
use Rattle.isp_code.specs.Lines.{act, set_vector, moved, unless, size, item}
use Rattle.isp_code.specs.declared.instr.Instr.TheVariants as instr
use Rattle.isp_code.specs.declared.instr.VectorInstr.TheVariants as vector
use Rattle.isp_code.specs.declared.register.Register.{Register}
use Rattle.isp_forms.specs.declared.form.Form.{Form}
use Rattle.isp_forms.specs.declared.form.Form.TheVariants as line
use Rattle.isp_wasm_meaning.specs.Syntax as syntax
use Rattle.isp_wasm_meaning.specs.Syntax.{Code, Expr, If, Load, Local}
use Rattle.isp_wasm_meaning.specs.Meaning.{State, Result, Fell, Trapped, run, value, behind, then_to, inside, flag, set_local, loaded, lane, count, wide}
use Rattle.isp_wasm_meaning.specs.Ladder.{Meets}
use Rattle.isp_wasm.specs.Places as place
use Rattle.isp_wasm.specs.Places.{Setting, Counter, Fresh, IsKept, elem, shape, shape_of, bytes_of, parts, gang}
use Rattle.isp_wasm.specs.Rows.{cell}
use Rattle.isp_wasm.specs.Lanes.{store_at}
use Rattle.isp_wasm.specs.Templates.{lane_loads, address_at, run_index, is_there, run_is_there, fills_parts, load_parts, load_row, load_run, all_at_once, select_lanes, put_lanes, scalar_local}
use Rattle.isp_wasm.specs.Standing.{all_of, Stands, IsSettled, the_machine, vector_register}
use Rattle.isp_wasm.specs.Thin.{IsArray, IsScalar}
use Rattle.isp_wasm.proofs.Frames.{Alike, holds_alike, there, elsewhere}
use Rattle.isp_wasm.proofs.Steps.{IsWritten, falls_on}
use Rattle.isp_wasm.proofs.Frees.{frees_fall}
use Rattle.isp_wasm.proofs.Parts.{AreFresh, AreSet, are_set}
use Rattle.isp_wasm.proofs.Results.{Selects, selects}
use Rattle.isp_wasm.proofs.Rows.{enough}
use Rattle.isp_wasm.proofs.Vectors.{narrow, scalar_fits, chosen_over}
use Rattle.isp_wasm.proofs.Indices.{beyond_is, first_is}
use Rattle.isp_wasm.proofs.LaneLoops.{none_lowest}
use Rattle.isp_wasm.proofs.Opening.{some_lanes}
use Rattle.isp_wasm.proofs.Shared.{store_shared}
use Rattle.isp_wasm.proofs.RowRegions.{part_begins, part_fits, part_read}
use Rattle.isp_wasm.proofs.Elements.{IsFound, found_shared, many, few, size_is, address_is}
use Rattle.isp_wasm.proofs.Loads.{test_is}
use Rattle.isp_wasm.proofs.Gathers.{runs, runs_end}

-- ---- types whose lanes fill their parts

-- a lane is its element, and all parts together have as many as the gang
pub record Fills (w : Setting) (t : Elem) : Type 0 where
  pub whole : wide (shape_of t) ≡ width t
  pub same : (v : ℕ) → cell t v ≡ v
  pub all : parts w (shape_of t) * count (shape_of t) ≡ gang w

fill_all : (w : Setting) (t : Elem) → nat_eq (gang w % count (shape_of t)) 0 ≡ true → parts w (shape_of t) * count (shape_of t) ≡ gang w
fill_all w t h = by (shape_of t) (eqb-true (gang w % count (shape_of t)) 0 h)
  where
    by : (s : syntax.Shape) → gang w % count s ≡ 0 → parts w s * count s ≡ gang w
    by syntax.I8x16 e = omega (arith, e)
    by syntax.I16x8 e = omega (arith, e)
    by syntax.I32x4 e = omega (arith, e)
    by syntax.I64x2 e = omega (arith, e)

pub fills : (w : Setting) (t : Elem) → fills_parts w t ≡ true → Fills w t
fills w Truth h = absurd cc
fills w I8 h = record { whole = refl; same = λ v. refl; all = fill_all w I8 h }
fills w U8 h = record { whole = refl; same = λ v. refl; all = fill_all w U8 h }
fills w I16 h = record { whole = refl; same = λ v. refl; all = fill_all w I16 h }
fills w U16 h = record { whole = refl; same = λ v. refl; all = fill_all w U16 h }
fills w I32 h = record { whole = refl; same = λ v. refl; all = fill_all w I32 h }
fills w U32 h = record { whole = refl; same = λ v. refl; all = fill_all w U32 h }
fills w I64 h = record { whole = refl; same = λ v. refl; all = fill_all w I64 h }
fills w U64 h = record { whole = refl; same = λ v. refl; all = fill_all w U64 h }

-- a part that there is ends in the gang
pub part_in_gang : (w : Setting) (t : Elem) → Fills w t → (j : ℕ) → j < parts w (shape_of t) → j * count (shape_of t) + count (shape_of t) ≤ gang w
part_in_gang w t f j h = by (shape_of t) h f.all
  where
    by : (s : syntax.Shape) → j < parts w s → parts w s * count s ≡ gang w → j * count s + count s ≤ gang w
    by syntax.I8x16 h e = omega (arith, h, e)
    by syntax.I16x8 h e = omega (arith, h, e)
    by syntax.I32x4 h e = omega (arith, h, e)
    by syntax.I64x2 h e = omega (arith, h, e)

-- ---- the first and the last element are there

pub both_there : (a b : Bool) (f t : Result) → behind (if nat_eq (bit_and (flag a) (flag b)) 0 then f else t) ≡ behind (if a && b then t else f)
both_there true true f t = refl
both_there true false f t = refl
both_there false true f t = refl
both_there false false f t = refl

pub so_all : (a b : Bool) → (a && b) ≡ true → (a ≡ true) × (b ≡ true)
so_all true true h = (refl, refl)
so_all true false h = absurd cc
so_all false b h = absurd cc

module _ (w : Setting) (ready : IsSettled w) (fuel n k : ℕ) (call : ℕ → List ℕ → State → Result) (pc : ℕ) (c : Conf) (s : State) (st : Stands w pc c s) where
  abbrev pub Good : ℕ → Conf → Result → Type 0
  Good pc = Meets (the_machine w) (w.local Counter) n fuel (Stands w pc) (suc k)

  module _ (a i : Register) (t : Elem) (el : IsArray w a t) (is : IsScalar w i I64) where
    abbrev pub fd : IsFound w ready a t
    fd = found_shared w ready a t el

    abbrev pub at : ℕ
    at = store_at w a.number 0

    abbrev pub length : ℕ
    length = many w ready a t fd

    abbrev pub from : ℕ
    from = c.scalars i.number

    pub fits : from < 2 ^ 64
    fits = scalar_fits w c s.locals st.holds i I64 is

    abbrev pub AllThere : Bool
    AllThere = nat_lt ((from + 0) % 2 ^ 64) length && nat_lt ((from + (gang w - 1)) % 2 ^ 64) length

    index_is : (p : ℕ) → p < gang w → value s.locals (run_index w i p) ≡ (from + p) % 2 ^ 64
    index_is p low = ap₂ (λ u v. (u + v) % 2 ^ 64) (st.holds.scalars_are i.number) (mod-eq_of_lt (let le = narrow w.code.gang in let lt : p < 2 ^ 64 = omega (arith, le, low) in lt))

    -- what the test comes to
    pub tested : (row lanes : Code) → run fuel call (If (run_is_there w a i) row lanes) s ≡ behind (if AllThere then run fuel call row s else run fuel call lanes s)
    tested row lanes =
        ap (λ v. behind (if nat_eq v 0 then run fuel call lanes s else run fuel call row s))
        (ap₂ bit_and (one 0 (some_lanes w.code.gang)) (one (gang w - 1) (let some = some_lanes w.code.gang in omega (arith, some))))
        ∙ both_there (nat_lt ((from + 0) % 2 ^ 64) length) (nat_lt ((from + (gang w - 1)) % 2 ^ 64) length) (run fuel call lanes s) (run fuel call row s)
      where
        one : (p : ℕ) → p < gang w → value s.locals (is_there w a (run_index w i p)) ≡ flag (nat_lt ((from + p) % 2 ^ 64) length)
        one p low = test_is w ready fuel n k call pc c s st a s.locals (run_index w i p) ((from + p) % 2 ^ 64) (st.holds.counts a.number) (index_is p low)

    module _ (sure : AllThere ≡ true) where
      -- so all are
      pub in_array : from + gang w ≤ length
      in_array =
          let both = so_all (nat_lt ((from + 0) % 2 ^ 64) length) (nat_lt ((from + (gang w - 1)) % 2 ^ 64) length) sure in
          let first = ltb-true ((from + 0) % 2 ^ 64) length both.0 in
          let last = ltb-true ((from + (gang w - 1)) % 2 ^ 64) length both.1 in
          let size = few w ready a t fd in
          let le = narrow w.code.gang in
          let some = some_lanes w.code.gang in
          let fit = fits in
          let low : (from + 0) % 2 ^ 64 ≡ from = ap (λ x. x % 2 ^ 64) (let e : from + 0 ≡ from = omega arith in e) ∙ mod-eq_of_lt fit in
          let under : from < length = subst (λ x. x < length) low first in
          let high : (from + (gang w - 1)) % 2 ^ 64 ≡ from + (gang w - 1) = mod-eq_of_lt (let lt : from + (gang w - 1) < 2 ^ 64 = omega (arith, under, size, le) in lt) in
          let end : from + (gang w - 1) < length = subst (λ x. x < length) high last in
          omega (arith, end, some)

      pub index_low : (p : ℕ) → p < gang w → (from + p) % 2 ^ 64 ≡ from + p
      index_low p low = let le = in_array in let size = few w ready a t fd in mod-eq_of_lt (let lt : from + p < 2 ^ 64 = omega (arith, le, size, low) in lt)

      -- no lane is outside
      pub none_outside : (m : Register) → lowest (gang w) (run_outside (size w.code w.routine c a) (number I64 from) (c.masks m.number)) ≡ None
      none_outside m = none_lowest (gang w) (run_outside (size w.code w.routine c a) (number I64 from) (c.masks m.number)) (λ p l. off (c.masks m.number p) (not_beyond p l))
        where
          off : (b : Bool) {d : Bool} → d ≡ false → (b && d) ≡ false
          off true e = e
          off false e = refl

          not_beyond : (p : ℕ) → p < gang w → is_beyond (size w.code w.routine c a) (number I64 from +ℤ pos p) ≡ false
          not_beyond p l =
              ap (λ n. is_beyond n (number I64 from +ℤ pos p)) (size_is w ready a t fd pc c s st)
              ∙ beyond_is length from p (few w ready a t fd) fits (let le = narrow w.code.gang in omega (arith, l, le))
              ∙ ap not (ap (λ x. nat_lt x length) (index_low p l) ∙ lt-ltb (from + p) length (let le = in_array in omega (arith, le, l)))

      -- the element that a lane asks for
      pub item_is : (p : ℕ) → p < gang w → item w.code w.routine c a (unsigned_abs (number I64 from +ℤ pos p)) p ≡ all_of w c at (from + p)
      item_is p l =
          fd.item_here c st.home_is (unsigned_abs (number I64 from +ℤ pos p)) p l
          ∙ ap₂ (all_of w c) (store_shared w a.number p el.shared ∙ sym (store_shared w a.number 0 el.shared))
          (first_is length from p (few w ready a t fd) fits (let le = narrow w.code.gang in omega (arith, l, le)) (let le = in_array in subst (λ x. x < length) (sym (index_low p l)) (let lt : from + p < length = omega (arith, le, l) in lt))
          ∙ index_low p l)

      module _ (full : Fills w t) where
        -- where part j of the row begins
        pub part_address : (j : ℕ) → j < parts w (shape_of t) → (l : ℕ → ℕ) → Alike w s.locals l
            → value l (address_at w a (scalar_local w i)) + j * 16 ≡ w.begins at + (from + j * count (shape_of t)) * bytes_of (w.elems at)
        part_address j low l alike =
            let first = address_is w ready a t fd 0 (some_lanes w.code.gang) (all_of w c) s.memory s.size st.keeps l (syntax.Local (w.local (place.Base a.number))) (scalar_local w i) from
            (alike (place.Base a.number) tt ∙ st.holds.bases a.number) (alike (place.Scalar i.number) tt ∙ st.holds.scalars_are i.number) (let le = in_array in let some = some_lanes w.code.gang in omega (arith, le, some)) in
            let row = ap (λ e. from * bytes_of e + j * 16) (fd.stored_as 0 (some_lanes w.code.gang)) ∙ part_begins t from j ∙ ap (λ e. (from + j * count (shape_of t)) * bytes_of e) (sym (fd.stored_as 0 (some_lanes w.code.gang))) in
            omega (arith, first, row)

        pub part_room : (j : ℕ) → j < parts w (shape_of t) → from + j * count (shape_of t) + count (shape_of t) ≤ length
        part_room j low = let le = in_array in let up = part_in_gang w t full j low in omega (arith, le, up)

        -- the parts are read
        next_part : (m : ℕ) → m < parts w (shape_of t) → (r : Result) → AreFresh w (gang w) (shape_of t) (λ p. all_of w c at (from + p)) m s r
            → AreFresh w (gang w) (shape_of t) (λ p. all_of w c at (from + p)) (suc m) s (then_to r (λ u. run fuel call (Load 16 (w.local (Fresh m)) (address_at w a (scalar_local w i)) (m * 16)) u))
        next_part m low r f =
            let u : State = record s { locals = f.locals } in
            let start = w.begins at + (from + m * count (shape_of t)) * bytes_of (w.elems at) in
            let v = loaded 16 start s.memory in
            record {
              locals = (set_local (w.local (Fresh m)) v u).locals;
              fell =
                  ap (λ x. then_to x (λ u. run fuel call (Load 16 (w.local (Fresh m)) (address_at w a (scalar_local w i)) (m * 16)) u)) f.fell
                  ∙ ap (λ z. inside 16 z u (Fell (set_local (w.local (Fresh m)) (loaded 16 z s.memory) u))) (part_address m low f.locals f.alike)
                  ∙ cond-true (nat_le (start + 16) s.size) (Fell (set_local (w.local (Fresh m)) v u)) (Trapped None u) (le-leb (start + 16) s.size (room m low));
              alike = λ p kept. elsewhere w ready (Fresh m) p v u (λ e. subst IsKept e kept) ∙ f.alike p kept;
              lanes = λ j i low q x. by j i low q x (cases_eq j m);
            }
          where
            as_stored : w.elems at ≡ t
            as_stored = fd.stored_as 0 (some_lanes w.code.gang)

            room : (j : ℕ) → j < parts w (shape_of t) → w.begins at + (from + j * count (shape_of t)) * bytes_of (w.elems at) + 16 ≤ s.size
            room j low =
                part_fits w ready at (all_of w c) s.memory s.size st.keeps (from + j * count (shape_of t))
                (subst (λ e. from + j * count (shape_of t) + count (shape_of e) ≤ length) (sym as_stored) (part_room j low))

            lanes_are : (j i : ℕ) → j < parts w (shape_of t) → i < count (shape_of t)
                → lane (shape_of t) i (loaded 16 (w.begins at + (from + j * count (shape_of t)) * bytes_of (w.elems at)) s.memory) ≡ all_of w c at (from + (j * count (shape_of t) + i))
            lanes_are j i low q =
                subst (λ e. i < count (shape_of e) → lane (shape_of e) i (loaded 16 (w.begins at + (from + j * count (shape_of t)) * bytes_of (w.elems at)) s.memory) ≡ all_of w c at (from + j * count (shape_of t) + i)) as_stored
                (λ q. part_read w ready at (all_of w c) s.memory s.size st.keeps (from + j * count (shape_of t)) i q
                (let up = part_room j low in let less = subst (λ e. i < count (shape_of e)) as_stored q in let lt : from + j * count (shape_of t) + i < length = omega (arith, up, less) in lt)) q
                ∙ ap (all_of w c at) (let e : from + j * count (shape_of t) + i ≡ from + (j * count (shape_of t) + i) = omega arith in e)

            by : (j i : ℕ) → j < suc m → i < count (shape_of t) → j * count (shape_of t) + i < gang w → (j ≡ m) ⊎ (j ≡ m → ⊥)
                → lane (shape_of t) i ((set_local (w.local (Fresh m)) (loaded 16 (w.begins at + (from + m * count (shape_of t)) * bytes_of (w.elems at)) s.memory) (record s { locals = f.locals })).locals (w.local (Fresh j)))
                ≡ all_of w c at (from + (j * count (shape_of t) + i))
            by j i l q x (inl e) =
                ap (λ h. lane (shape_of t) i ((set_local (w.local (Fresh m)) (loaded 16 (w.begins at + (from + m * count (shape_of t)) * bytes_of (w.elems at)) s.memory) (record s { locals = f.locals })).locals (w.local (Fresh h)))) e
                ∙ ap (lane (shape_of t) i) (there w ready (Fresh m) (loaded 16 (w.begins at + (from + m * count (shape_of t)) * bytes_of (w.elems at)) s.memory) (record s { locals = f.locals }))
                ∙ lanes_are m i low q ∙ ap (λ h. all_of w c at (from + (h * count (shape_of t) + i))) (sym e)
            by j i l q x (inr ne) =
                ap (lane (shape_of t) i) (elsewhere w ready (Fresh m) (Fresh j) (loaded 16 (w.begins at + (from + m * count (shape_of t)) * bytes_of (w.elems at)) s.memory) (record s { locals = f.locals }) (λ e. ne cc))
                ∙ f.lanes j i (omega (arith, l, ne)) q x

        pub parts_read : (m : ℕ) → m ≤ parts w (shape_of t) → AreFresh w (gang w) (shape_of t) (λ p. all_of w c at (from + p)) m s (run fuel call (load_parts w a i m) s)
        parts_read zero le = record { locals = s.locals; fell = refl; alike = λ p kept. refl; lanes = λ j i low q x. absurd (omega (arith, low)) }
        parts_read (suc m) le = next_part m (omega (arith, le)) (run fuel call (load_parts w a i m) s) (parts_read m (omega (arith, le)))

  -- ---- the instruction

  module _ (d : ℕ) (a i m : Register) (q : ℕ) (el : IsArray w a (elem w (vector_register d))) (is : IsScalar w i I64)
      (has : slice_get w.routine.code pc ≡ Some (instr.Vector (vector_register d) (vector.LoadRun a i m q))) where
    abbrev t : Elem
    t = elem w (vector_register d)

    abbrev got : ℕ → ℕ
    got p = item w.code w.routine c a (unsigned_abs (number I64 (c.scalars i.number) +ℤ pos p)) p

    module _ (full : Fills w t) (sure : AllThere a i t el is ≡ true) where
      read : AreFresh w (gang w) (shape_of t) (λ p. all_of w c (at a i t el is) (c.scalars i.number + p)) (parts w (shape_of t)) s (run fuel call (load_parts w a i (parts w (shape_of t))) s)
      read = parts_read a i t el is sure full (parts w (shape_of t)) (omega arith)

      selected : Selects w ready fuel call c d m got (record s { locals = read.locals }) (run fuel call (select_lanes w (vector_register d) m) (record s { locals = read.locals }))
      selected =
          selects w ready fuel call c d m got (record s { locals = read.locals }) (holds_alike w c.scalars c.vectors c.masks s.locals read.locals st.holds read.alike)
          (λ j p l q. read.lanes j p (enough w (shape_of t) j p q) l q ∙ sym (item_is a i t el is sure (j * count (shape_of t) + p) q) ∙ sym (full.same (got (j * count (shape_of t) + p))))

      abbrev selecting : State → Result
      selecting u = run fuel call (select_lanes w (vector_register d) m) u

      row_ends : then_to (run fuel call (load_parts w a i (parts w (shape_of t))) s) selecting ≡ Fell (record s { locals = selected.locals })
      row_ends = ap (λ r. then_to r selecting) read.fell ∙ selected.fell

      loads_so : act w.code w.routine c (instr.Vector (vector_register d) (vector.LoadRun a i m q)) ≡ Go (set_vector c (vector_register d) (on (c.masks m.number) got))
      loads_so = ap (λ o. moved (unless w.code w.routine c o kind.Index q (on (c.masks m.number) got)) (set_vector c (vector_register d))) (none_outside a i t el is sure m)

      -- the others are kept
      keeping : Good (pc + 1) c (behind (then_to (run fuel call (load_parts w a i (parts w (shape_of t))) s) selecting))
      keeping =
          subst (Good (pc + 1) c) (sym (ap behind row_ends))
          (falls_on w ready fuel n k pc c s (instr.Vector (vector_register d) (vector.LoadRun a i m q)) st has
          (record c { pc = c.pc + 1; vectors = put c.vectors d (over (on (c.masks m.number) got) (c.vectors d)) }) (record s { locals = selected.locals })
          loads_so refl refl refl refl selected.holds st.keeps)

      abbrev putting : State → Result
      putting u = run fuel call (put_lanes w line.Free (vector_register d) m) u

      -- what falls on does so too at the end of an if
      behind_good : (r : Result) (u : State) → r ≡ Fell u → Good (pc + 1) c r → Good (pc + 1) c (behind r)
      behind_good r u e g = subst (λ z. Good (pc + 1) c z → Good (pc + 1) c (behind z)) (sym e) (λ z. z) g

      freeing : w.forms w.home.fn pc ≡ line.Free → Good (pc + 1) c (behind (then_to (run fuel call (load_parts w a i (parts w (shape_of t))) s) putting))
      freeing e =
          subst (λ r. Good (pc + 1) c (behind r)) (sym (ap (λ r. then_to r putting) read.fell))
          (behind_good (putting (record s { locals = read.locals })) (record s { locals = put_so.locals }) put_so.fell
          (frees_fall w ready fuel n k call pc c s st (vector.LoadRun a i m q) d (on (c.masks m.number) got) got read.locals e has loads_so
          (λ p q. chosen_over (c.masks m.number p) (got p) (c.vectors d p)) (holds_alike w c.scalars c.vectors c.masks s.locals read.locals st.holds read.alike)
          (λ j p l q. read.lanes j p (enough w (shape_of t) j p q) l q ∙ sym (item_is a i t el is sure (j * count (shape_of t) + p) q) ∙ sym (full.same (got (j * count (shape_of t) + p))))))
        where
          put_so : AreSet w (place.Vector d) (parts w (shape_of t)) (λ j. Local (w.local (Fresh j))) (record s { locals = read.locals }) (putting (record s { locals = read.locals }))
          put_so = are_set w ready fuel call (place.Vector d) (λ i j e. cc) (λ j. Local (w.local (Fresh j))) (record s { locals = read.locals }) (λ j m same. same (Fresh j) (λ i q e. cc)) (parts w (shape_of t))

      row_good : (form : Form) → IsWritten w pc form → Good (pc + 1) c (behind (run fuel call (load_row w form (vector_register d) a i m) s))
      row_good line.Kept e = keeping
      row_good line.Useless e = keeping
      row_good (line.KeptBy b) e = keeping
      row_good (line.FreeBy b) e = keeping
      row_good line.Free e = freeing (e (λ k. cc))

    lanes_good : Good (pc + 1) c (behind (run fuel call (lane_loads w (vector_register d) a (run_index w i) m q) s))
    lanes_good = runs_end w ready fuel n k call pc c s st d a i m q (found_shared w ready a t el) is has

    module _ (form : Form) (written : IsWritten w pc form) where
      at_once : (full : Fills w t) → (b : Bool) → AllThere a i t el is ≡ b
          → Good (pc + 1) c (behind (if b then run fuel call (load_row w form (vector_register d) a i m) s else run fuel call (lane_loads w (vector_register d) a (run_index w i) m q) s))
      at_once full true sure = row_good full sure form written
      at_once full false e = lanes_good

      loads : (b : Bool) → fills_parts w t ≡ b
          → Good (pc + 1) c (run fuel call (all_at_once w b (run_is_there w a i) (load_row w form (vector_register d) a i m) (lane_loads w (vector_register d) a (run_index w i) m q)) s)
      loads true e =
          subst (Good (pc + 1) c) (sym (tested a i t el is (load_row w form (vector_register d) a i m) (lane_loads w (vector_register d) a (run_index w i) m q)))
          (at_once (fills w t e) (AllThere a i t el is) refl)
      loads false e = runs w ready fuel n k call pc c s st d a i m q (found_shared w ready a t el) is has

      pub run_loads : Good (pc + 1) c (run fuel call (load_run w form (vector_register d) a i m q) s)
      run_loads = loads (fills_parts w t) refl
