-- The template that stores elements in a row: all at once where they are there and the lanes fill their parts, else lane by lane.
use Rattle.std.proofs.Common.{◌≡◌, ℕ, zero, suc, ◌+◌, ◌-◌, ◌*◌, ◌<◌, ◌≤◌, ◌≢◌, ◌⊎◌, inl, inr, List, Some, None, Bool, true, false, refl, sym, ap, ap₂, ◌∙◌, subst, arith}
use Rattle.std.specs.Prelude.{slice_get, nat_eq, nat_le, if◌then◌else◌, pos, ◌+ℤ◌, unsigned_abs}
use Rattle.std.proofs.lemmas.Bool.{cases_eq, cases_lt, cond-true, le-leb}
use Rattle.isp_base.specs.Access.{scatter, put_at}
use Rattle.isp_base.specs.Cross.{run_places}
use Rattle.isp_base.specs.Maps.{Map, Lanes, on, put}
use Rattle.isp_base.specs.Sets.{Mask}
use Rattle.isp_base.specs.Values.{number, width}
use Rattle.isp_base.specs.declared.trap.TrapKind.TheVariants as kind
use Rattle.isp_base.specs.declared.types.Elem.{Elem}
use Rattle.isp_base.specs.declared.types.Elem.TheVariants.{I64}
use Rattle.isp_code.specs.Conf.{Conf}
use Rattle.isp_code.specs.Lines.{moved, unless, run_stored}
use Rattle.isp_code.specs.declared.instr.Instr.TheVariants as instr
use Rattle.isp_code.specs.declared.register.Register.{Register}
use Rattle.isp_wasm_meaning.specs.Syntax.{Code, Bitselect, Local, Then}
use Rattle.isp_wasm_meaning.specs.Meaning as wasm
use Rattle.isp_wasm_meaning.specs.Meaning.{State, Result, Fell, Trapped, run, value, behind, then_to, inside, lane, count, wide}
use Rattle.isp_wasm_meaning.specs.Ladder.{Meets}
use Rattle.isp_wasm_meaning.proofs.Lanes.{selected}
use Rattle.isp_wasm.specs.Places as place
use Rattle.isp_wasm.specs.Places.{Setting, Counter, Fresh, elem, shape, shape_of, bytes_of, parts, gang}
use Rattle.isp_wasm.specs.Rows.{cell, widened}
use Rattle.isp_wasm.specs.Templates.{each, lane_checks, lane_stores, run_index, run_is_there, fills_parts, load_parts, store_part, store_row, store_run, all_at_once, vector_local, mask_local}
use Rattle.isp_wasm.specs.Standing.{all_of, Stands, Holds, Keeps, IsSettled, the_machine, vector_register}
use Rattle.isp_wasm.specs.Thin.{IsArray, IsScalar, IsVector}
use Rattle.isp_wasm.proofs.Frames.{put_same, put_other, holds_alike}
use Rattle.isp_wasm.proofs.Steps.{falls_on}
use Rattle.isp_wasm.proofs.Parts.{AreFresh}
use Rattle.isp_wasm.proofs.Vectors.{narrow, mask_row}
use Rattle.isp_wasm.proofs.Indices.{first_is}
use Rattle.isp_wasm.proofs.Opening.{some_lanes}
use Rattle.isp_wasm.proofs.Shared.{store_shared}
use Rattle.isp_wasm.proofs.RowRegions.{part_fits, keeps_part}
use Rattle.isp_wasm.proofs.Elements.{few, keeps_same}
use Rattle.isp_wasm.proofs.Stores.{ends_so, stores_in_row, stores_in_row_as, named_so}
use Rattle.isp_wasm.proofs.RowLoads.{Fills, fills, part_in_gang, fd, at, length, from, fits, AllThere, tested, in_array, index_low, none_outside, part_address, part_room, parts_read}

-- ---- the elements from one on, so many of which are new

module _ (g new : ℕ → ℕ) (x : ℕ) where
  abbrev pub left : ℕ → Lanes
  left zero = g
  left (suc n) = put (left n) (x + n) (new n)

  pub left_in : (n p : ℕ) → p < n → left n (x + p) ≡ new p
  left_in zero p h = absurd (omega (arith, h))
  left_in (suc n) p h = by (left_in n p) (cases_eq p n)
    where
      by : (p < n → left n (x + p) ≡ new p) → (p ≡ n) ⊎ (p ≡ n → ⊥) → put (left n) (x + n) (new n) (x + p) ≡ new p
      by before (inl e) = put_same (left n) (x + n) (new n) (x + p) (ap (λ p. x + p) e) ∙ ap new (sym e)
      by before (inr ne) = put_other (left n) (x + n) (new n) (x + p) (λ e. ne (let same : p ≡ n = omega (arith, e) in same)) ∙ before (let other : p ≢ n = ne in omega (arith, h, other))

  pub left_out : (n e : ℕ) → (e < x) ⊎ (x + n ≤ e) → left n e ≡ g e
  left_out zero e h = refl
  left_out (suc n) e (inl lt) = put_other (left n) (x + n) (new n) e (λ same. absurd (omega (arith, same, lt))) ∙ left_out n e (inl lt)
  left_out (suc n) e (inr le) = put_other (left n) (x + n) (new n) e (λ same. absurd (omega (arith, same, le))) ∙ left_out n e (inr (omega (arith, le)))

  -- what lies beside more of them
  pub left_same : (n m e : ℕ) → (e < x + n) ⊎ (x + n + m ≤ e) → left (n + m) e ≡ left n e
  left_same n m e (inr far) = left_out (n + m) e (inr (omega (arith, far))) ∙ sym (left_out n e (inr (omega (arith, far))))
  left_same n m e (inl near) = by (cases_lt e x)
    where
      by : (e < x) ⊎ (x ≤ e) → left (n + m) e ≡ left n e
      by (inl lt) = left_out (n + m) e (inl lt) ∙ sym (left_out n e (inl lt))
      by (inr le) =
          let at : x + (e - x) ≡ e = omega (arith, le) in
          ap (left (n + m)) (sym at) ∙ left_in (n + m) (e - x) (omega (arith, near, le)) ∙ sym (left_in n (e - x) (omega (arith, near, le))) ∙ ap (left n) at

module _ (w : Setting) (ready : IsSettled w) (fuel n k : ℕ) (call : ℕ → List ℕ → State → Result) (pc : ℕ) (c : Conf) (s : State) (st : Stands w pc c s) where
  abbrev pub Good : ℕ → Conf → Result → Type 0
  Good pc = Meets (the_machine w) (w.local Counter) n fuel (Stands w pc) (suc k)

  module _ (a i y m : Register) (q : ℕ) (el : IsArray w a (elem w y)) (yv : IsVector w y (elem w y)) (is : IsScalar w i I64) (has : slice_get w.routine.code pc ≡ Some (instr.StoreRun a i y m q)) where
    abbrev t : Elem
    t = elem w y

    abbrev set : Mask
    set = c.masks m.number

    abbrev store : ℕ
    store = at w ready fuel n k call pc c s st a i t el is

    abbrev first : ℕ
    first = from w ready fuel n k call pc c s st a i t el is

    -- what each lane's element becomes
    abbrev new : ℕ → ℕ
    new p = if set p then c.vectors y.number p else all_of w c store (first + p)

    abbrev after : ℕ → Lanes
    after = left (all_of w c store) new first

    module _ (full : Fills w t) (sure : AllThere w ready fuel n k call pc c s st a i t el is ≡ true) where
      read : AreFresh w (gang w) (shape_of t) (λ p. all_of w c store (first + p)) (parts w (shape_of t)) s (run fuel call (load_parts w a i (parts w (shape_of t))) s)
      read = parts_read w ready fuel n k call pc c s st a i t el is sure full (parts w (shape_of t)) (omega arith)

      held : Holds w c.scalars c.vectors c.masks read.locals
      held = holds_alike w c.scalars c.vectors c.masks s.locals read.locals st.holds read.alike

      abbrev part : ℕ → ℕ
      part j = value read.locals (Bitselect (vector_local w y j) (Local (w.local (Fresh j))) (widened (shape w y) (mask_local w m) j))

      abbrev begins : ℕ → ℕ
      begins j = w.begins store + (first + j * count (shape_of t)) * bytes_of (w.elems store)

      as_stored : w.elems store ≡ t
      as_stored = (fd w ready fuel n k call pc c s st a i t el is).stored_as 0 (some_lanes w.code.gang)

      -- its lanes
      lane_is : (j p : ℕ) → j < parts w (shape_of t) → p < count (shape_of t) → lane (shape_of t) p (part j) ≡ new (j * count (shape_of t) + p)
      lane_is j p low l =
          selected (shape_of t) p (value read.locals (widened (shape w y) (mask_local w m) j)) (read.locals (w.local (place.Vector y.number j))) (read.locals (w.local (Fresh j))) (set (j * count (shape_of t) + p)) l
          (mask_row w c read.locals held (shape_of t) m (gang w) j p l in_gang)
          ∙ ap₂ (λ u v. if set (j * count (shape_of t) + p) then u else v) (vector_is j p l in_gang) (read.lanes j p low l in_gang)
        where
          in_gang : j * count (shape_of t) + p < gang w
          in_gang = let le = part_in_gang w t full j low in omega (arith, le, l)

          as_register : y ≡ vector_register y.number
          as_register = ap (λ cl. record { class = cl; number = y.number }) yv.class_is

          vector_is : (j p : ℕ) → p < count (shape_of t) → j * count (shape_of t) + p < gang w → lane (shape_of t) p (read.locals (w.local (place.Vector y.number j))) ≡ c.vectors y.number (j * count (shape_of t) + p)
          vector_is j p l q =
              subst
              (λ e. p < count (shape_of e) → j * count (shape_of e) + p < gang w → lane (shape_of e) p (read.locals (w.local (place.Vector y.number j))) ≡ cell e (c.vectors y.number (j * count (shape_of e) + p)))
              (ap (elem w) (sym as_register)) (λ l q. held.vectors_are y.number j p l q) l q
              ∙ full.same (c.vectors y.number (j * count (shape_of t) + p))

      -- so many parts are written
      record Written (j : ℕ) (r : Result) : Type 0 where
        memory : ℕ → ℕ
        fell : r ≡ Fell (record s { locals = read.locals; memory = memory })
        keeps : Keeps w (put (all_of w c) store (after (j * count (shape_of t)))) memory s.size

      put_twice : (f g : Lanes) (r e : ℕ) → put (put (all_of w c) store f) store g r e ≡ put (all_of w c) store g r e
      put_twice f g r e = by (cases_eq r store)
        where
          by : (r ≡ store) ⊎ (r ≡ store → ⊥) → put (put (all_of w c) store f) store g r e ≡ put (all_of w c) store g r e
          by (inl same) = ap (λ h. h e) (put_same (put (all_of w c) store f) store g r same ∙ sym (put_same (all_of w c) store g r same))
          by (inr ne) = ap (λ h. h e) (put_other (put (all_of w c) store f) store g r ne ∙ put_other (all_of w c) store f r ne ∙ sym (put_other (all_of w c) store g r ne))

      next_written : (j : ℕ) → j < parts w (shape_of t) → (r : Result) → Written j r → Written (suc j) (then_to r (run fuel call (store_part w a i y m j)))
      next_written j low r f =
          record {
            memory = wasm.stored 16 (begins j) (part j) f.memory;
            fell =
                ap (λ x. then_to x (run fuel call (store_part w a i y m j))) f.fell
                ∙ ap (λ z. inside 16 z u (Fell (record u { memory = wasm.stored 16 z (part j) f.memory }))) (part_address w ready fuel n k call pc c s st a i t el is sure full j low read.locals read.alike)
                ∙ cond-true (nat_le (begins j + 16) s.size) (Fell (record u { memory = wasm.stored 16 (begins j) (part j) f.memory })) (Trapped None u) (le-leb (begins j + 16) s.size fit);
            keeps =
                keeps_same w ready (put (put (all_of w c) store (after (j * count (shape_of t)))) store (after (j * count (shape_of t) + count (shape_of t)))) (put (all_of w c) store (after (suc j * count (shape_of t))))
                (wasm.stored 16 (begins j) (part j) f.memory) s.size
                (λ b e. put_twice (after (j * count (shape_of t))) (after (j * count (shape_of t) + count (shape_of t))) b e ∙ ap (λ z. put (all_of w c) store (after z) b e) (let more : j * count (shape_of t) + count (shape_of t) ≡ suc j * count (shape_of t) = next j in more))
                (keeps_part w ready store (put (all_of w c) store (after (j * count (shape_of t)))) f.memory s.size f.keeps (first + j * count (shape_of t)) (part j) (after (j * count (shape_of t) + count (shape_of t)))
                room_here (ap (λ e. wide (shape_of e)) as_stored ∙ full.whole ∙ ap width (sym as_stored)) news olds);
          }
        where
          u : State
          u = record s { locals = read.locals; memory = f.memory }

          next : (j : ℕ) → j * count (shape_of t) + count (shape_of t) ≡ suc j * count (shape_of t)
          next j = by (shape_of t)
            where
              by : (z : _) → j * count z + count z ≡ suc j * count z
              by z = omega arith

          room_here : first + j * count (shape_of t) + count (shape_of (w.elems store)) ≤ w.sizes store
          room_here = subst (λ e. first + j * count (shape_of t) + count (shape_of e) ≤ w.sizes store) (sym as_stored) (part_room w ready fuel n k call pc c s st a i t el is sure full j low)

          fit : begins j + 16 ≤ s.size
          fit = part_fits w ready store (put (all_of w c) store (after (j * count (shape_of t)))) f.memory s.size f.keeps (first + j * count (shape_of t)) room_here

          news : (p : ℕ) → p < count (shape_of (w.elems store)) → after (j * count (shape_of t) + count (shape_of t)) (first + j * count (shape_of t) + p) ≡ lane (shape_of (w.elems store)) p (part j)
          news p l =
              let less = subst (λ e. p < count (shape_of e)) as_stored l in
              ap (after (j * count (shape_of t) + count (shape_of t))) (let e : first + j * count (shape_of t) + p ≡ first + (j * count (shape_of t) + p) = omega arith in e)
              ∙ left_in (all_of w c store) new first (j * count (shape_of t) + count (shape_of t)) (j * count (shape_of t) + p) (omega (arith, less))
              ∙ sym (lane_is j p low less) ∙ ap (λ e. lane (shape_of e) p (part j)) (sym as_stored)

          olds : (e : ℕ) → (e < first + j * count (shape_of t)) ⊎ (first + j * count (shape_of t) + count (shape_of (w.elems store)) ≤ e)
              → after (j * count (shape_of t) + count (shape_of t)) e ≡ put (all_of w c) store (after (j * count (shape_of t))) store e
          olds e off =
              left_same (all_of w c store) new first (j * count (shape_of t)) (count (shape_of t)) e (subst (λ z. (e < first + j * count (shape_of t)) ⊎ (first + j * count (shape_of t) + count (shape_of z) ≤ e)) as_stored off)
              ∙ ap (λ h. h e) (sym (put_same (all_of w c) store (after (j * count (shape_of t))) store refl))

      written : (j : ℕ) → j ≤ parts w (shape_of t) → Written j (run fuel call (each j (store_part w a i y m)) (record s { locals = read.locals }))
      written zero le =
          record {
            memory = s.memory;
            fell = refl;
            keeps =
                subst (λ z. Keeps w (put (all_of w c) store (after z)) s.memory s.size) (let none : 0 ≡ 0 * count (shape_of t) = omega arith in none)
                (keeps_same w ready (all_of w c) (put (all_of w c) store (all_of w c store)) s.memory s.size (λ b e. by b e (cases_eq b store)) st.keeps);
          }
        where
          by : (b e : ℕ) → (b ≡ store) ⊎ (b ≡ store → ⊥) → all_of w c b e ≡ put (all_of w c) store (all_of w c store) b e
          by b e (inl same) = ap (λ b. all_of w c b e) same ∙ ap (λ h. h e) (sym (put_same (all_of w c) store (all_of w c store) b same))
          by b e (inr ne) = ap (λ h. h e) (sym (put_other (all_of w c) store (all_of w c store) b ne))
      written (suc j) le = next_written j (omega (arith, le)) (run fuel call (each j (store_part w a i y m)) (record s { locals = read.locals })) (written j (omega (arith, le)))

      abbrev places : Map
      places = run_places (number I64 (c.scalars i.number)) set

      -- that is what a scatter leaves
      scattered_so : (m : ℕ) → m ≤ gang w → (e : ℕ) → after m e ≡ scatter m places (on set (c.vectors y.number)) (all_of w c store) e
      scattered_so zero le e = refl
      scattered_so (suc m) le e = by (scattered_so m (omega (arith, le)) e) (set m) refl
        where
          place_is : set m ≡ true → places m ≡ Some (first + m)
          place_is h =
              ap (λ b. if b then Some (unsigned_abs (number I64 (c.scalars i.number) +ℤ pos m)) else None) h
              ∙ ap Some (first_is (length w ready fuel n k call pc c s st a i t el is) first m (few w ready a t (fd w ready fuel n k call pc c s st a i t el is)) (fits w ready fuel n k call pc c s st a i t el is)
              (let some = narrow w.code.gang in omega (arith, le, some))
              (subst (λ x. x < length w ready fuel n k call pc c s st a i t el is) (sym (index_low w ready fuel n k call pc c s st a i t el is sure m (omega (arith, le))))
              (let up = in_array w ready fuel n k call pc c s st a i t el is sure in let lt : first + m < length w ready fuel n k call pc c s st a i t el is = omega (arith, up, le) in lt))
              ∙ index_low w ready fuel n k call pc c s st a i t el is sure m (omega (arith, le)))

          put_also : after m e ≡ scatter m places (on set (c.vectors y.number)) (all_of w c store) e → (v : ℕ) → put (after m) (first + m) v e ≡ put (scatter m places (on set (c.vectors y.number)) (all_of w c store)) (first + m) v e
          put_also so v = ap (λ z. if nat_eq e (first + m) then v else z) so

          unchanged : put (after m) (first + m) (all_of w c store (first + m)) e ≡ after m e
          unchanged = at_e (cases_eq e (first + m))
            where
              at_e : (e ≡ first + m) ⊎ (e ≡ first + m → ⊥) → put (after m) (first + m) (all_of w c store (first + m)) e ≡ after m e
              at_e (inl same) =
                  put_same (after m) (first + m) (all_of w c store (first + m)) e same ∙ sym (left_out (all_of w c store) new first m (first + m) (inr (omega arith))) ∙ ap (after m) (sym same)
              at_e (inr ne) = put_other (after m) (first + m) (all_of w c store (first + m)) e ne

          by : after m e ≡ scatter m places (on set (c.vectors y.number)) (all_of w c store) e → (b : Bool) → set m ≡ b → put (after m) (first + m) (new m) e ≡ put_at (places m) (on set (c.vectors y.number) m) (scatter m places (on set (c.vectors y.number)) (all_of w c store)) e
          by so true h =
              ap (λ b. put (after m) (first + m) (if b then c.vectors y.number m else all_of w c store (first + m)) e) h ∙ put_also so (c.vectors y.number m)
              ∙ sym (ap₂ (λ o v. put_at o v (scatter m places (on set (c.vectors y.number)) (all_of w c store)) e) (place_is h) (ap (λ b. if b then Some (c.vectors y.number m) else None) h))
          by so false h =
              ap (λ b. put (after m) (first + m) (if b then c.vectors y.number m else all_of w c store (first + m)) e) h ∙ unchanged ∙ so
              ∙ sym (ap₂ (λ o v. put_at o v (scatter m places (on set (c.vectors y.number)) (all_of w c store)) e) (ap (λ b. if b then Some (unsigned_abs (number I64 (c.scalars i.number) +ℤ pos m)) else None) h)
              (ap (λ b. if b then Some (c.vectors y.number m) else None) h))

      all_written : Written (parts w (shape_of t)) (run fuel call (each (parts w (shape_of t)) (store_part w a i y m)) (record s { locals = read.locals }))
      all_written = written (parts w (shape_of t)) (omega arith)

      row_ends : run fuel call (store_row w a i y m) s ≡ Fell (record s { locals = read.locals; memory = all_written.memory })
      row_ends = ap (λ r. then_to r (run fuel call (each (parts w (shape_of t)) (store_part w a i y m)))) read.fell ∙ all_written.fell

      row_keeps : Keeps w (put (all_of w c) (w.home.named a.number) (scatter (gang w) places (on set (c.vectors y.number)) (all_of w c (w.home.named a.number)))) all_written.memory s.size
      row_keeps =
          subst (λ b. Keeps w (put (all_of w c) b (scatter (gang w) places (on set (c.vectors y.number)) (all_of w c b))) all_written.memory s.size) (store_shared w a.number 0 el.shared)
          (keeps_same w ready (put (all_of w c) store (after (parts w (shape_of t) * count (shape_of t)))) (put (all_of w c) store (scatter (gang w) places (on set (c.vectors y.number)) (all_of w c store)))
          all_written.memory s.size (λ b e. by b e (cases_eq b store)) all_written.keeps)
        where
          by : (b e : ℕ) → (b ≡ store) ⊎ (b ≡ store → ⊥)
              → put (all_of w c) store (after (parts w (shape_of t) * count (shape_of t))) b e ≡ put (all_of w c) store (scatter (gang w) places (on set (c.vectors y.number)) (all_of w c store)) b e
          by b e (inl same) =
              ap (λ h. h e) (put_same (all_of w c) store (after (parts w (shape_of t) * count (shape_of t))) b same) ∙ ap (λ z. after z e) full.all ∙ scattered_so (gang w) (omega arith) e
              ∙ ap (λ h. h e) (sym (put_same (all_of w c) store (scatter (gang w) places (on set (c.vectors y.number)) (all_of w c store)) b same))
          by b e (inr ne) =
              ap (λ h. h e) (put_other (all_of w c) store (after (parts w (shape_of t) * count (shape_of t))) b ne ∙ sym (put_other (all_of w c) store (scatter (gang w) places (on set (c.vectors y.number)) (all_of w c store)) b ne))

      row_good : Good (pc + 1) c (behind (run fuel call (store_row w a i y m) s))
      row_good =
          subst (Good (pc + 1) c) (sym (ap behind row_ends))
          (falls_on w ready fuel n k pc c s (instr.StoreRun a i y m q) st has (run_stored w.code w.routine c a i y m) (record s { locals = read.locals; memory = all_written.memory })
          (ap (λ o. moved (unless w.code w.routine c o kind.Index q (run_stored w.code w.routine c a i y m)) (λ z. z)) (none_outside w ready fuel n k call pc c s st a i t el is sure m))
          refl refl refl refl held (named_so w ready fuel n k call pc c s st a i y m q el yv places all_written.memory row_keeps))

    abbrev lanes : Code
    lanes = Then (lane_checks w a (run_index w i) m q) (lane_stores w a (run_index w i) y m)

    lanes_good : Good (pc + 1) c (behind (run fuel call lanes s))
    lanes_good =
        subst (λ r. Good (pc + 1) c (behind r)) (ends_so (run fuel call (lane_checks w a (run_index w i) m q) s) (run fuel call (lane_stores w a (run_index w i) y m)))
        (stores_in_row_as w ready fuel n k call pc c s st a i y m q el yv is behind (λ o u. refl) (λ u. refl) has)

    at_once : Fills w t → (b : Bool) → AllThere w ready fuel n k call pc c s st a i t el is ≡ b → Good (pc + 1) c (behind (if b then run fuel call (store_row w a i y m) s else run fuel call lanes s))
    at_once full true sure = row_good full sure
    at_once full false e = lanes_good

    stores : (b : Bool) → fills_parts w t ≡ b → Good (pc + 1) c (run fuel call (all_at_once w b (run_is_there w a i) (store_row w a i y m) lanes) s)
    stores true e =
        subst (Good (pc + 1) c) (sym (tested w ready fuel n k call pc c s st a i t el is (store_row w a i y m) lanes)) (at_once (fills w t e) (AllThere w ready fuel n k call pc c s st a i t el is) refl)
    stores false e =
        subst (Good (pc + 1) c) (ends_so (run fuel call (lane_checks w a (run_index w i) m q) s) (run fuel call (lane_stores w a (run_index w i) y m)))
        (stores_in_row w ready fuel n k call pc c s st a i y m q el yv is has)

    pub run_stores : Good (pc + 1) c (run fuel call (store_run w a i y m q) s)
    run_stores = stores (fills_parts w t) refl
