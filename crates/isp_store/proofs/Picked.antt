-- The words of an array, as lanes find and leave them.
use Rattle.std.proofs.Common.{◌≡◌, refl, sym, ap, ◌∙◌, subst, ℕ, zero, suc, ◌<◌, ◌^◌, Bool, true, false, Some, None, List, [], ◌∷◌, length, arith}
use Rattle.std.specs.Prelude.{if◌then◌else◌}
use Rattle.std.proofs.Math.Path.{fun_ext}
use Rattle.isp_base.specs.Access.{put_at, scatter}
use Rattle.isp_base.specs.Maps.{Lanes, lane_of, on, map1, each1, put}
use Rattle.isp_base.specs.Rows.{Fit}
use Rattle.isp_base.specs.Sets.{Mask}
use Rattle.isp_base.specs.Values.{width}
use Rattle.isp_base.specs.declared.types.Elem.{Elem}
use Rattle.isp_cells.specs.Cells.{found, left, stored, word_with}
use Rattle.isp_cells.proofs.Found.{length_stored, left_off, left_set}
use Rattle.isp_store.proofs.RowLists.{lanes_put}

-- the word of all lanes
abbrev pub the_word : ℕ → ℕ → ℕ
the_word word lane = word

found_word : (cs : List ℕ) (e p : ℕ) → found the_word cs e p ≡ lane_of cs e
found_word [] e p = refl
found_word (c ∷ cs) zero p = refl
found_word (c ∷ cs) (suc e) p = found_word cs e p

pub found_in : (cs bits : List ℕ) → cs ≡ bits → found the_word cs ≡ (λ e p. lane_of bits e)
found_in cs bits same = fun_ext (λ e. fun_ext (λ p. found_word cs e p ∙ ap (λ (xs : List ℕ). lane_of xs e) same))

pub found_fits : (cs bits : List ℕ) (t : Elem) → cs ≡ bits → Fit t bits → (e p : ℕ) → found the_word cs e p < 2 ^ width t
found_fits cs bits t same fits e p = subst (λ (k : ℕ). k < 2 ^ width t) (sym (ap (λ (f : ℕ → ℕ → ℕ). f e p) (found_in cs bits same))) (fits e)

left_fits : (t : Elem) (b : Bool) (e p v : ℕ) (cs : List ℕ) → v < 2 ^ width t → Fit t cs → Fit t (left word_with b e p v cs)
left_fits t b e p v [] lt f k = f k
left_fits t false e p v (c ∷ cs) lt f k = f k
left_fits t true zero p v (c ∷ cs) lt f zero = lt
left_fits t true zero p v (c ∷ cs) lt f (suc k) = f (suc k)
left_fits t true (suc e) p v (c ∷ cs) lt f zero = f 0
left_fits t true (suc e) p v (c ∷ cs) lt f (suc k) = left_fits t true e p v cs lt (λ j. f (suc j)) k

module _ (a : Mask) (x y : Lanes) where
  pub stored_fits : (t : Elem) (n : ℕ) (cs : List ℕ) → ((p : ℕ) → y p < 2 ^ width t) → Fit t cs → Fit t (stored word_with n a x y cs)
  stored_fits t zero cs lt f k = f k
  stored_fits t (suc n) cs lt f k = left_fits t (a n) (x n) n (y n) (stored word_with n a x y cs) (lt n) (stored_fits t n cs lt f) k

  -- what a scatter stores, where each index is inside
  module _ (f : ℕ → ℕ) where
    pub stored_words : (n : ℕ) (cs : List ℕ) → ((p : ℕ) → p < n → a p ≡ true → (x p < length cs) × (f (x p) ≡ x p)) → lane_of (stored word_with n a x y cs) ≡ scatter n (map1 f (on a x)) (on a y) (lane_of cs)
    stored_words zero cs inside = refl
    stored_words (suc n) cs inside = by (stored_words n cs (λ p h. inside p (omega (arith, h)))) (a n) refl
      where
        now : List ℕ
        now = stored word_with n a x y cs

        before : Lanes
        before = scatter n (map1 f (on a x)) (on a y) (lane_of cs)

        there : a n ≡ true → x n < length now
        there is = subst (λ (m : ℕ). x n < m) (sym (length_stored word_with a x n y cs)) (inside n (omega arith) is).0

        by : lane_of now ≡ before → (b : Bool) → a n ≡ b → lane_of (left word_with (a n) (x n) n (y n) now) ≡ put_at (each1 f (if a n then Some (x n) else None)) (if a n then Some (y n) else None) before
        by so_far true is =
            ap (λ b. lane_of (left word_with b (x n) n (y n) now)) is ∙ ap lane_of (sym (left_set word_with now (x n) n (y n) 0 (y n) (there is) refl)) ∙ lanes_put now (x n) (y n) (there is)
            ∙ ap (λ (g : Lanes). put g (x n) (y n)) so_far ∙ ap (λ (k : ℕ). put before k (y n)) (sym (inside n (omega arith) is).1)
            ∙ sym (ap (λ b. put_at (each1 f (if b then Some (x n) else None)) (if b then Some (y n) else None) before) is)
        by so_far false off =
            ap (λ b. lane_of (left word_with b (x n) n (y n) now)) off ∙ ap lane_of (left_off word_with (x n) n (y n) now) ∙ so_far
            ∙ sym (ap (λ b. put_at (each1 f (if b then Some (x n) else None)) (if b then Some (y n) else None) before) off)
