-- Lanes of a mask that get new words one after the other, from lane 0 up.
use Rattle.std.proofs.Common.{◌≡◌, refl, sym, ap, ◌∙◌, ℕ, zero, suc, ◌+◌, ◌<◌, Bool, true, false, cond, List, [], ◌∷◌, map, length, get_or, Result, Ok, Err, arith, add-one}
use Rattle.std.specs.Prelude.{slice_set, IfOk, IfErr}
use Rattle.std.specs.List.{range_with_len}
use Rattle.std.specs.Simd.Lanes.{zip2, sel_l}
use Rattle.std.proofs.lemmas.List.{length-map, get_or-map}
use Rattle.std.proofs.lemmas.List.FromFn.{length-range_with_len}
use Rattle.isp_base.specs.Maps.{lane_of}
use Rattle.isp_base.specs.Sets.{flag_of}
use Rattle.isp_lanes.proofs.Rows.{length_zip2}

-- the first i lanes of the mask have new words, all others their old ones
abbrev pub so_far : {A : Type 0} → ℕ → List Bool → List A → List A → List A
so_far zero ms us vs = vs
so_far (suc i) [] us vs = vs
so_far (suc i) (m ∷ ms) [] vs = vs
so_far (suc i) (m ∷ ms) (u ∷ us) [] = []
so_far (suc i) (m ∷ ms) (u ∷ us) (v ∷ vs) = cond m u v ∷ so_far i ms us vs

module _ {A : Type 0} where
  more : (i n : ℕ) (ms : List Bool) (us vs : List A) (d w : A) → length ms ≡ n → length us ≡ n → length vs ≡ n → i < n → flag_of ms i ≡ true → w ≡ get_or us i d → slice_set (so_far i ms us vs) i w ≡ so_far (suc i) ms us vs
  more i zero ms us vs d w a b c h is same = absurd (omega (arith, h))
  more i (suc n) [] us vs d w a b c h is same = absurd (omega (arith, a))
  more i (suc n) (m ∷ ms) [] vs d w a b c h is same = absurd (omega (arith, b))
  more i (suc n) (m ∷ ms) (u ∷ us) [] d w a b c h is same = absurd (omega (arith, c))
  more zero (suc n) (m ∷ ms) (u ∷ us) (v ∷ vs) d w a b c h is same = ap (λ x. x ∷ vs) (same ∙ sym (ap (λ t. cond t u v) is))
  more (suc i) (suc n) (m ∷ ms) (u ∷ us) (v ∷ vs) d w a b c h is same = ap (λ xs. cond m u v ∷ xs) (more i n ms us vs d w (omega (arith, a)) (omega (arith, b)) (omega (arith, c)) (omega (arith, h)) is same)

  less : (i : ℕ) (ms : List Bool) (us vs : List A) → flag_of ms i ≡ false → so_far i ms us vs ≡ so_far (suc i) ms us vs
  less zero [] us vs off = refl
  less zero (m ∷ ms) [] vs off = refl
  less zero (m ∷ ms) (u ∷ us) [] off = refl
  less zero (m ∷ ms) (u ∷ us) (v ∷ vs) off = ap (λ x. x ∷ vs) (sym (ap (λ t. cond t u v) off))
  less (suc i) [] us vs off = refl
  less (suc i) (m ∷ ms) [] vs off = refl
  less (suc i) (m ∷ ms) (u ∷ us) [] off = refl
  less (suc i) (m ∷ ms) (u ∷ us) (v ∷ vs) off = ap (λ xs. cond m u v ∷ xs) (less i ms us vs off)

  -- one lane more that is on, and that is off
  pub far_on : (i n : ℕ) (ms : List Bool) (us vs : List A) (d w : A) → length ms ≡ n → length us ≡ n → length vs ≡ n → i < n → flag_of ms i ≡ true → w ≡ get_or us i d → slice_set (so_far i ms us vs) i w ≡ so_far (i + 1) ms us vs
  far_on i n ms us vs d w a b c h is same = more i n ms us vs d w a b c h is same ∙ sym (ap (λ k. so_far k ms us vs) (add-one i))

  pub far_off : (i : ℕ) (ms : List Bool) (us vs : List A) → flag_of ms i ≡ false → so_far i ms us vs ≡ so_far (i + 1) ms us vs
  far_off i ms us vs off = less i ms us vs off ∙ sym (ap (λ k. so_far k ms us vs) (add-one i))

  pub far_all : (n : ℕ) (ms : List Bool) (us vs : List A) → length ms ≡ n → length us ≡ n → length vs ≡ n → so_far n ms us vs ≡ sel_l ms us vs
  far_all zero [] us [] a b c = refl
  far_all zero [] us (v ∷ vs) a b c = absurd (omega (arith, c))
  far_all zero (m ∷ ms) us vs a b c = absurd (omega (arith, a))
  far_all (suc n) [] us vs a b c = absurd (omega (arith, a))
  far_all (suc n) (m ∷ ms) [] vs a b c = absurd (omega (arith, b))
  far_all (suc n) (m ∷ ms) (u ∷ us) [] a b c = absurd (omega (arith, c))
  far_all (suc n) (m ∷ ms) (u ∷ us) (v ∷ vs) a b c = ap (λ xs. cond m u v ∷ xs) (far_all n ms us vs (omega (arith, a)) (omega (arith, b)) (omega (arith, c)))

-- the words that a source has for n lanes, by number
pub row_long : (word : ℕ → ℕ → ℕ) (n : ℕ) (xs : List ℕ) → length xs ≡ n → length (zip2 word (range_with_len 0 n) xs) ≡ n
row_long word n xs long = length_zip2 word (range_with_len 0 n) xs n (length-range_with_len 0 n) long

found_from : (word : ℕ → ℕ → ℕ) (a n i : ℕ) (xs : List ℕ) → length xs ≡ n → i < n → lane_of (zip2 word (range_with_len a n) xs) i ≡ word (a + i) (lane_of xs i)
found_from word a zero i xs long h = absurd (omega (arith, h))
found_from word a (suc n) i [] long h = absurd (omega (arith, long))
found_from word a (suc n) zero (x ∷ xs) long h = ap (λ k. word k x) (omega arith)
found_from word a (suc n) (suc i) (x ∷ xs) long h = found_from word (a + 1) n i xs (omega (arith, long)) (omega (arith, h)) ∙ ap (λ k. word k (lane_of xs i)) (omega arith)

pub lane_found : (word : ℕ → ℕ → ℕ) (n i : ℕ) (xs : List ℕ) → length xs ≡ n → i < n → lane_of (zip2 word (range_with_len 0 n) xs) i ≡ word i (lane_of xs i)
lane_found word n i xs long h = found_from word 0 n i xs long h ∙ ap (λ k. word k (lane_of xs i)) (omega arith)

-- the same as words of one width
module _ {A : Type 0} (with : ℕ → A) (word : ℕ → ℕ → ℕ) where
  pub word_found : (n i : ℕ) (xs : List ℕ) (d : A) → length xs ≡ n → i < n → get_or (map with (zip2 word (range_with_len 0 n) xs)) i d ≡ with (word i (lane_of xs i))
  word_found n i xs d long h = get_or-map with (zip2 word (range_with_len 0 n) xs) i 0 d (let l = row_long word n xs long in omega (arith, l, h)) ∙ ap with (lane_found word n i xs long h)

  pub words_long : (n : ℕ) (xs : List ℕ) → length xs ≡ n → length (map with (zip2 word (range_with_len 0 n) xs)) ≡ n
  words_long n xs long = length-map (zip2 word (range_with_len 0 n) xs) with ∙ row_long word n xs long

-- what a result tells, whichever it is
pub either : {A E P Q G : Type 0} (r : Result A E) → IfOk r (λ _. P) → IfErr r (λ _. Q) → (P → G) → (Q → G) → G
either (Ok x) p q f g = f p
either (Err x) p q f g = g q
