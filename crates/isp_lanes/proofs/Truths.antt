-- Rows of truths, and what is read of them, at each width of words.
use Rattle.std.proofs.Common.{◌≡◌, refl, sym, ap, ap₂, ◌∙◌, ℕ, zero, suc, ◌+◌, ◌-◌, ◌^◌, ◌%◌, ◌<◌, ◌≤◌, Bool, true, false, cond, not, nat_lt, ◌==◌, arith, List, [], ◌∷◌}
use Rattle.std.proofs.Common.{map, map-id, length, get_or, replicate, bit_and, bit_xor, mod-eq_of_lt, mod-lt, pow_pos, Fits, w8, subst}
use Rattle.std.specs.Int.{Width}
use Rattle.std.proofs.Math.Facts.{Fits-of_lt}
use mir.Val.{bits, hbits}
use Rattle.std.proofs.lemmas.Bool.Decides.{nat_tests}
use Rattle.std.proofs.lemmas.Simd.{tops_compared, zip2_splat, bitmask_splat}
use Rattle.std.proofs.lemmas.List.{length-replicate, length-map}
use Rattle.std.specs.Simd.Lanes.{zip2, sel_l, mask_l, top, Each1}
use lib.Bits.{and_mask}
use Rattle.isp_lanes.specs.Lanes.{is_on}
use Rattle.isp_lanes.proofs.MaskLanes.{flag_fits}
use Rattle.isp_lanes.proofs.Rows.{row_select, row_splat, map_same, each_map}

module _ (w : Width) where
  -- a test of two rows
  pub picks : (t : ℕ → ℕ → Bool) (u v n : ℕ) (xs ys : List ℕ) → length xs ≡ n → length ys ≡ n
      → sel_l {A = ℕ} (map (top (hbits w)) (zip2 (λ a b. cond (t a b) (2 ^ bits w - 1) 0) xs ys)) (replicate n u) (replicate n v) ≡ zip2 (λ a b. cond (t a b) u v) xs ys
  picks t u v n xs ys p q =
      ap (λ m. sel_l m (replicate n u) (replicate n v)) (tops_compared w t xs ys)
      ∙ row_select t (λ _ _. u) (λ _ _. v) xs ys refl (row_splat u n xs ys p q) (row_splat v n xs ys p q)

  pub truths : (t : ℕ → ℕ → Bool) (n : ℕ) (xs ys : List ℕ) → length xs ≡ n → length ys ≡ n
      → sel_l {A = ℕ} (map (top (hbits w)) (zip2 (λ a b. cond (t a b) (2 ^ bits w - 1) 0) xs ys)) (replicate n (2 ^ bits w - 1)) (replicate n 0) ≡ zip2 (λ a b. cond (t a b) (2 ^ bits w - 1) 0) xs ys
  truths t n xs ys p q = picks t (2 ^ bits w - 1) 0 n xs ys p q

  zip2_splat_left : {C : Type 0} (h : ℕ → ℕ → C) (x n : ℕ) (ys : List ℕ) → length ys ≡ n → zip2 h (replicate n x) ys ≡ map (h x) ys
  zip2_splat_left h x zero [] p = refl
  zip2_splat_left h x (suc n) [] p = absurd (omega arith)
  zip2_splat_left h x zero (y ∷ ys) p = absurd (omega arith)
  zip2_splat_left h x (suc n) (y ∷ ys) p = ap (λ t. h x y ∷ t) (zip2_splat_left h x n ys (omega arith))

  -- a word that is compared with each
  pub sign_truths : (g n : ℕ) (xs : List ℕ) → length xs ≡ n
      → sel_l {A = ℕ} (map (top (hbits w)) (zip2 (λ a b. cond (nat_lt a b) (2 ^ bits w - 1) 0) (replicate n g) xs)) (replicate n (2 ^ bits w - 1)) (replicate n 0) ≡ map (λ a. cond (nat_lt g a) (2 ^ bits w - 1) 0) xs
  sign_truths g n xs p = truths nat_lt n (replicate n g) xs (length-replicate n g) p ∙ zip2_splat_left (λ a b. cond (nat_lt a b) (2 ^ bits w - 1) 0) g n xs p

  on_is : (a : ℕ) → not (a == 0) ≡ is_on a
  on_is a = grind (arith, nat_tests)

  pub truth_of : (n : ℕ) (xs : List ℕ) → length xs ≡ n → map (top (hbits w)) (zip2 (λ a b. cond (not (a == b)) (2 ^ bits w - 1) 0) xs (replicate n 0)) ≡ map is_on xs
  truth_of n xs p =
      tops_compared w (λ a b. not (a == b)) xs (replicate n 0)
      ∙ zip2_splat (λ a b. not (a == b)) xs n 0 p
      ∙ map_same (λ _. Unit {0}) _ _ (λ a _. on_is a) xs (λ _. tt)

  pub cast_truth_of : (n : ℕ) (xs : List ℕ) → length xs ≡ n → map (top (hbits w)) (zip2 (λ a b. cond (not (a == b)) (2 ^ bits w - 1) 0) (map (λ a. a) xs) (replicate n 0)) ≡ map is_on xs
  cast_truth_of n xs p = ap (λ t. map (top (hbits w)) (zip2 (λ a b. cond (not (a == b)) (2 ^ bits w - 1) 0) t (replicate n 0))) (map-id xs) ∙ truth_of n xs p

  flagged : (n : ℕ) (xs : List ℕ) → length xs ≡ n → sel_l {A = ℕ} (map is_on xs) (replicate n 1) (replicate n 0) ≡ map (λ a. cond (is_on a) 1 0) xs
  flagged zero [] p = refl
  flagged (suc n) [] p = refl
  flagged zero (x ∷ xs) p = absurd (omega arith)
  flagged (suc n) (x ∷ xs) p = ap (λ t. cond (is_on x) 1 0 ∷ t) (flagged n xs (omega arith))

  pub flags_of : (n : ℕ) (xs : List ℕ) → length xs ≡ n → sel_l {A = ℕ} (map (top (hbits w)) (zip2 (λ a b. cond (not (a == b)) (2 ^ bits w - 1) 0) xs (replicate n 0))) (replicate n 1) (replicate n 0) ≡ map (λ a. cond (is_on a) 1 0) xs
  flags_of n xs p = ap (λ m. sel_l m (replicate n 1) (replicate n 0)) (truth_of n xs p) ∙ flagged n xs p

  pub flags_fit : (n : ℕ) (xs : List ℕ) → length xs ≡ n → Each1 (Fits w8) (sel_l {A = ℕ} (map (top (hbits w)) (zip2 (λ a b. cond (not (a == b)) (2 ^ bits w - 1) 0) xs (replicate n 0))) (replicate n 1) (replicate n 0))
  flags_fit n xs p = subst (Each1 (Fits w8)) (sym (flags_of n xs p)) (each_map (Fits w8) (λ b. cond (is_on b) 1 0) (λ b. flag_fits (is_on b)) xs)

-- a lane is on where its byte is not 0
ons_of : (bs : List ℕ) → map not (map {A = ℕ} {B = Bool} (λ b. b == 0) bs) ≡ map is_on bs
ons_of [] = refl
ons_of (b ∷ bs) = ap₂ (λ c t. c ∷ t) (on_is w8 b) (ons_of bs)

-- where no lane is off, each word is the first list's
all_kept : (ts : List Bool) (xs ys : List ℕ) → length ts ≡ length xs → length ts ≡ length ys → mask_l ts ≡ 0 → sel_l {A = ℕ} (map not ts) xs ys ≡ xs
all_kept [] [] ys p q e = refl
all_kept [] (x ∷ xs) ys p q e = absurd (omega arith)
all_kept (t ∷ ts) [] ys p q e = absurd (omega arith)
all_kept (t ∷ ts) (x ∷ xs) [] p q e = absurd (omega arith)
all_kept (true ∷ ts) (x ∷ xs) (y ∷ ys) p q e = absurd (omega arith)
all_kept (false ∷ ts) (x ∷ xs) (y ∷ ys) p q e = ap (λ t. x ∷ t) (all_kept ts xs ys (omega arith) (omega arith) (omega arith))

pub all_lanes : (n : ℕ) (bs xs ys : List ℕ) → length bs ≡ n → length xs ≡ n → length ys ≡ n → n ≤ 64
    → mask_l (map (top (hbits w8)) (zip2 (λ a b. cond (a == b) (2 ^ bits w8 - 1) 0) bs (replicate n 0))) % 2 ^ 64 ≡ 0
    → sel_l {A = ℕ} (map is_on bs) xs ys ≡ xs
all_lanes n bs xs ys p q r few none =
    let offs = map {A = ℕ} {B = Bool} (λ b. b == 0) bs in
    let empty : mask_l offs ≡ 0 = sym (bitmask_splat w8 (λ a b. a == b) bs n 0 p few) ∙ none in
    let ons = ons_of bs in
    ap (λ ms. sel_l ms xs ys) (sym ons) ∙ all_kept offs xs ys (length-map bs _ ∙ p ∙ sym q) (length-map bs _ ∙ p ∙ sym r) empty

-- words that fit already
pub all_low : (w : ℕ) (xs : List ℕ) → ((k : ℕ) → get_or xs k 0 < 2 ^ w) → xs ≡ map (λ a. a % 2 ^ w) xs
all_low w [] p = refl
all_low w (x ∷ xs) p = ap₂ (λ c t. c ∷ t) (sym (mod-eq_of_lt (p 0))) (all_low w xs (λ k. p (suc k)))

module _ (w : Width) where
  pub cut_is : (n : ℕ) (xs : List ℕ) → length xs ≡ n → zip2 bit_and xs (replicate n (2 ^ bits w - 1)) ≡ map (λ a. a % 2 ^ bits w) xs
  cut_is n xs p = zip2_splat bit_and xs n (2 ^ bits w - 1) p ∙ map_same (λ _. Unit {0}) _ _ (λ a _. and_mask a (bits w)) xs (λ _. tt)

  pub cut_fits : (n : ℕ) (xs : List ℕ) → length xs ≡ n → Each1 (Fits w) (zip2 bit_and xs (replicate n (2 ^ bits w - 1)))
  cut_fits n xs p = subst (Each1 (Fits w)) (sym (cut_is n xs p)) (each_map (Fits w) (λ a. a % 2 ^ bits w) (λ a. Fits-of_lt (mod-lt a (pow_pos (bits w)))) xs)

-- a number is turned at a bit, and the bit's worth taken away
pub spread_of : (h n : ℕ) (xs : List ℕ) → length xs ≡ n
    → zip2 (λ a b. (a + (2 ^ 64 - b)) % 2 ^ 64) (zip2 bit_xor xs (replicate n h)) (replicate n h) ≡ map (λ a. (bit_xor a h + (2 ^ 64 - h)) % 2 ^ 64) xs
spread_of h zero [] p = refl
spread_of h (suc n) [] p = absurd (omega arith)
spread_of h zero (x ∷ xs) p = absurd (omega arith)
spread_of h (suc n) (x ∷ xs) p = ap (λ t. (bit_xor x h + (2 ^ 64 - h)) % 2 ^ 64 ∷ t) (spread_of h n xs (omega arith))

pub cast_spread_of : (h n : ℕ) (xs : List ℕ) → length xs ≡ n
    → zip2 (λ a b. (a + (2 ^ 64 - b)) % 2 ^ 64) (zip2 bit_xor (map (λ a. a) xs) (replicate n h)) (replicate n h) ≡ map (λ a. (bit_xor a h + (2 ^ 64 - h)) % 2 ^ 64) xs
cast_spread_of h n xs p = ap (λ us. zip2 (λ a b. (a + (2 ^ 64 - b)) % 2 ^ 64) (zip2 bit_xor us (replicate n h)) (replicate n h)) (map-id xs) ∙ spread_of h n xs p
