-- A run of elements that are all there, under a mask of all lanes.
use Rattle.std.proofs.Common.{◌≡◌, refl, sym, ap, ap₂, ◌∙◌, subst, ⊎_elim, ℕ, zero, suc, ◌+◌, ◌-◌, ◌<◌, ◌≤◌, ◌^◌, Bool, true, false, ◌&&◌, ◌||◌, not, Some, None, List, length, get_or, pos, ◌+ℤ◌, unsigned_abs, arith, lt-ltb, le-ltb, eq-eqb, ne_eqb}
use Rattle.std.specs.Prelude.{if◌then◌else◌}
use Rattle.std.specs.Simd.Lanes.{chunk, put_chunk}
use Rattle.std.proofs.Math.Path.{fun_ext}
use Rattle.std.proofs.lemmas.Bool.{cases_eq, cases_lt}
use Rattle.std.proofs.lemmas.List.{get_or_past}
use Rattle.std.proofs.lemmas.Simd.{length-chunk, get_or-chunk, get_or-put_chunk_below, get_or-put_chunk_at, get_or-put_chunk_above}
use Rattle.isp_base.specs.Access.{is_beyond, scatter, put_at}
use Rattle.isp_base.specs.Cross.{run_index, run_outside, run_places}
use Rattle.isp_base.specs.Maps.{Lanes, lane_of, on, over, or_old, put}
use Rattle.isp_base.specs.Sets.{Mask, lowest, or_this, flag_of}
use Rattle.isp_base.specs.Rows.{Fit}
use Rattle.isp_base.specs.Values.{number, width}
use Rattle.isp_base.specs.declared.types.Elem.{Elem}
use Rattle.isp_base.specs.declared.types.Elem.TheVariants.{I64}
use Rattle.isp_cells.proofs.Indices.{number_low}

module _ (count n index : ℕ) (there : index + n ≤ count) (low : index < 2 ^ 63) where
  -- a lane's element
  place : (p : ℕ) → p < n → run_index (number I64 index) p ≡ pos (index + p)
  place p h = ap (λ z. z +ℤ pos p) (number_low index low)

  inside : (p : ℕ) → p < n → is_beyond count (run_index (number I64 index) p) ≡ false
  inside p h =
      ap (is_beyond count) (place p h) ∙ ap₂ (λ a b. a || not b) (le-ltb (index + p) 0 (omega arith)) (lt-ltb (index + p) count (omega (arith, h, there)))

  -- no lane is outside
  pub none_outside : (a : Mask) (k : ℕ) → k ≤ n → lowest k (run_outside count (number I64 index) a) ≡ None
  none_outside a zero h = refl
  none_outside a (suc k) h = ap₂ (λ o b. or_this o b k) (none_outside a k (omega (arith, h))) (ap (λ b. a k && b) (inside k (omega (arith, h))) ∙ off (a k))
    where
      off : (b : Bool) → (b && false) ≡ false
      off true = refl
      off false = refl

  module _ (bs : List Bool) (long : length bs ≡ n) (all : (p : ℕ) → p < n → flag_of bs p ≡ true) where
    off_past : (p : ℕ) → n ≤ p → flag_of bs p ≡ false
    off_past p h = get_or_past bs p false (omega (arith, h, long))

    -- what the lanes read
    pub row_read : (xs old : List ℕ) → length xs ≡ count → length old ≡ n
        → lane_of (chunk index n xs) ≡ over (on (flag_of bs) (λ p. lane_of xs (unsigned_abs (run_index (number I64 index) p)))) (lane_of old)
    row_read xs old size wide = fun_ext (λ p. ⊎_elim (λ (h : p < n). in_row p h) (λ (h : n ≤ p). past p h) (cases_lt p n))
      where
        in_row : (p : ℕ) → p < n → lane_of (chunk index n xs) p ≡ over (on (flag_of bs) (λ q. lane_of xs (unsigned_abs (run_index (number I64 index) q)))) (lane_of old) p
        in_row p h =
            get_or-chunk index n xs p 0 h ∙ sym (ap (λ z. lane_of xs (unsigned_abs z)) (place p h))
            ∙ sym (ap (λ b. or_old (if b then Some (lane_of xs (unsigned_abs (run_index (number I64 index) p))) else None) (lane_of old p)) (all p h))

        past : (p : ℕ) → n ≤ p → lane_of (chunk index n xs) p ≡ over (on (flag_of bs) (λ q. lane_of xs (unsigned_abs (run_index (number I64 index) q)))) (lane_of old) p
        past p h =
            get_or_past (chunk index n xs) p 0 (let l = length-chunk index n xs (omega (arith, there, size)) in omega (arith, l, h))
            ∙ sym (get_or_past old p 0 (omega (arith, wide, h)))
            ∙ sym (ap (λ b. or_old (if b then Some (lane_of xs (unsigned_abs (run_index (number I64 index) p))) else None) (lane_of old p)) (off_past p h))

    -- what they leave
    module _ (y f : Lanes) where
      abbrev left : ℕ → Lanes
      left k = scatter k (run_places (number I64 index) (flag_of bs)) (on (flag_of bs) y) f

      left_more : (k : ℕ) → k < n → left (suc k) ≡ put (left k) (index + k) (y k)
      left_more k h =
          ap (λ b. put_at (if b then Some (unsigned_abs (run_index (number I64 index) k)) else None) (if b then Some (y k) else None) (left k)) (all k h)
          ∙ ap (λ z. put (left k) (unsigned_abs z) (y k)) (place k h)

      other : (k r : ℕ) → k ≤ n → ((p : ℕ) → p < k → (r ≡ index + p) → ⊥) → left k r ≡ f r
      other zero r h not_there = refl
      other (suc k) r h not_there =
          ap (λ (g : Lanes). g r) (left_more k (omega (arith, h))) ∙ ap (λ b. if b then y k else left k r) (ne_eqb r (index + k) (not_there k (omega arith)))
          ∙ other k r (omega (arith, h)) (λ p l. not_there p (omega (arith, l)))

      same : (k p : ℕ) → k ≤ n → p < k → left k (index + p) ≡ y p
      same zero p h l = absurd (omega (arith, l))
      same (suc k) p h l =
          ap (λ (g : Lanes). g (index + p)) (left_more k (omega (arith, h)))
          ∙ ⊎_elim (λ (e : p ≡ k). ap (λ b. if b then y k else left k (index + p)) (eq-eqb (index + p) (index + k) (omega (arith, e))) ∙ ap y (sym e))
          (λ ne. ap (λ b. if b then y k else left k (index + p)) (ne_eqb (index + p) (index + k) (λ e. ne (omega (arith, e)))) ∙ same k p (omega (arith, h)) (omega (arith, l, ne)))
          (cases_eq p k)

    pub row_left : (xs ys : List ℕ) → length xs ≡ count → length ys ≡ n
        → lane_of (put_chunk index xs ys) ≡ scatter n (run_places (number I64 index) (flag_of bs)) (on (flag_of bs) (lane_of ys)) (lane_of xs)
    row_left xs ys size wide =
        fun_ext (λ r. ⊎_elim (λ (h : r < index). below r h) (λ (h : index ≤ r). ⊎_elim (λ (l : r < index + n). at r h l) (λ (l : index + n ≤ r). above r l) (cases_lt r (index + n))) (cases_lt r index))
      where
        below : (r : ℕ) → r < index → lane_of (put_chunk index xs ys) r ≡ left (lane_of ys) (lane_of xs) n r
        below r h = get_or-put_chunk_below index xs ys r 0 h ∙ sym (other (lane_of ys) (lane_of xs) n r (omega arith) (λ p l e. absurd (omega (arith, h, e))))

        at : (r : ℕ) → index ≤ r → r < index + n → lane_of (put_chunk index xs ys) r ≡ left (lane_of ys) (lane_of xs) n r
        at r h l =
            let e : index + (r - index) ≡ r = omega (arith, h) in
            subst (λ k. lane_of (put_chunk index xs ys) k ≡ left (lane_of ys) (lane_of xs) n k) e
            (get_or-put_chunk_at index xs ys (r - index) 0 (omega (arith, h, l, wide)) (omega (arith, there, size, wide)) ∙ sym (same (lane_of ys) (lane_of xs) n (r - index) (omega arith) (omega (arith, h, l))))

        above : (r : ℕ) → index + n ≤ r → lane_of (put_chunk index xs ys) r ≡ left (lane_of ys) (lane_of xs) n r
        above r l = get_or-put_chunk_above index xs ys r 0 (omega (arith, l, wide)) ∙ sym (other (lane_of ys) (lane_of xs) n r (omega arith) (λ p b e. absurd (omega (arith, l, b, e))))

-- words that fit a type, in a part of a list and where a part is replaced
module _ (t : Elem) (xs : List ℕ) (fits : Fit t xs) where
  none_fits : 0 < 2 ^ width t
  none_fits = subst (λ v. v < 2 ^ width t) (get_or_past xs (length xs) 0 (omega arith)) (fits (length xs))

  pub chunk_fits : (i n : ℕ) → i + n ≤ length xs → Fit t (chunk i n xs)
  chunk_fits i n room k =
      ⊎_elim (λ (h : k < n). subst (λ v. v < 2 ^ width t) (sym (get_or-chunk i n xs k 0 h)) (fits (i + k)))
      (λ (h : n ≤ k). subst (λ v. v < 2 ^ width t) (sym (get_or_past (chunk i n xs) k 0 (let l = length-chunk i n xs room in omega (arith, l, h)))) none_fits) (cases_lt k n)

  pub put_fits : (i : ℕ) (ys : List ℕ) → i + length ys ≤ length xs → Fit t ys → Fit t (put_chunk i xs ys)
  put_fits i ys room new k =
      ⊎_elim (λ (h : k < i). subst (λ v. v < 2 ^ width t) (sym (get_or-put_chunk_below i xs ys k 0 h)) (fits k))
      (λ (h : i ≤ k). ⊎_elim (λ (l : k < i + length ys). within h l)
      (λ (l : i + length ys ≤ k). subst (λ v. v < 2 ^ width t) (sym (get_or-put_chunk_above i xs ys k 0 l)) (fits k)) (cases_lt k (i + length ys))) (cases_lt k i)
    where
      within : i ≤ k → k < i + length ys → get_or (put_chunk i xs ys) k 0 < 2 ^ width t
      within h l =
          let e : i + (k - i) ≡ k = omega (arith, h) in
          subst (λ (j : ℕ). get_or (put_chunk i xs ys) j 0 < 2 ^ width t) e (subst (λ v. v < 2 ^ width t) (sym (get_or-put_chunk_at i xs ys (k - i) 0 (omega (arith, h, l)) room)) (new (k - i)))
