-- Rows of 1 and 0 that tell where a test holds.
use Rattle.std.proofs.Common.{◌≡◌, refl, sym, ap, ap₂, ◌∙◌, ℕ, ◌-◌, ◌^◌, ◌<◌, Bool, cond, not, nat_lt, ◌==◌, arith, List, [], ◌∷◌, map, length, replicate, w64}
use Rattle.std.proofs.lemmas.Bool.Decides.{nat_tests}
use Rattle.std.proofs.lemmas.Simd.{tops_compared, zip2_splat}
use Rattle.std.proofs.lemmas.List.{length-replicate}
use Rattle.std.specs.Simd.Lanes.{zip2, sel_l, top}
use Rattle.isp_base.specs.declared.types.Elem.{Elem}
use Rattle.isp_base.specs.declared.operators.Compare.{Compare}
use Rattle.isp_base.specs.declared.operators.Compare.TheVariants.{Equal, NotEqual, Less, Greater}
use Rattle.isp_base.specs.Values.{width, greatest, number, compare_to, compare_bits}
use Rattle.isp_base.specs.Words.{turned}
use Rattle.isp_base.specs.Rows.{Fit}
use Rattle.isp_base.proofs.Words.{same_number, word_less}
use Rattle.isp_lanes.specs.Lanes.{is_on}
use Rattle.isp_lanes.proofs.Rows.{row_select, row_splat, row_same, map_same}

-- what `select` reads of a test of two rows
flags_of : (t : ℕ → ℕ → Bool) (n : ℕ) (xs ys : List ℕ) → length xs ≡ n → length ys ≡ n
    → sel_l {A = ℕ} (map (top 63) (zip2 (λ a b. cond (t a b) (2 ^ 64 - 1) 0) xs ys)) (replicate n 1) (replicate n 0) ≡ zip2 (λ a b. cond (t a b) 1 0) xs ys
flags_of t n xs ys p q =
    ap (λ m. sel_l m (replicate n 1) (replicate n 0)) (tops_compared w64 t xs ys)
    ∙ row_select t (λ _ _. 1) (λ _ _. 0) xs ys refl (row_splat 1 n xs ys p q) (row_splat 0 n xs ys p q)

-- a test of a row's words with one word
pub flags_of_splat : (t : ℕ → ℕ → Bool) (n y : ℕ) (xs : List ℕ) → length xs ≡ n
    → sel_l {A = ℕ} (map (top 63) (zip2 (λ a b. cond (t a b) (2 ^ 64 - 1) 0) xs (replicate n y))) (replicate n 1) (replicate n 0) ≡ map (λ a. cond (t a y) 1 0) xs
flags_of_splat t n y xs p = flags_of t n xs (replicate n y) p (length-replicate n y) ∙ zip2_splat (λ a b. cond (t a b) 1 0) xs n y p

pub zip2_swap : {C : Type 0} (h : ℕ → ℕ → C) (xs ys : List ℕ) → zip2 h ys xs ≡ zip2 (λ a b. h b a) xs ys
zip2_swap h [] [] = refl
zip2_swap h [] (y ∷ ys) = refl
zip2_swap h (x ∷ xs) [] = refl
zip2_swap h (x ∷ xs) (y ∷ ys) = ap (λ t. h y x ∷ t) (zip2_swap h xs ys)

zip2_maps : {C : Type 0} (h : ℕ → ℕ → C) (f : ℕ → ℕ) (xs ys : List ℕ) → zip2 h (map f xs) (map f ys) ≡ zip2 (λ a b. h (f a) (f b)) xs ys
zip2_maps h f [] ys = refl
zip2_maps h f (x ∷ xs) [] = refl
zip2_maps h f (x ∷ xs) (y ∷ ys) = ap (λ t. h (f x) (f y) ∷ t) (zip2_maps h f xs ys)

-- a comparison of two rows, by a test s of words that f makes of their bits
pub compared : (k : Compare) (t : Elem) (f : ℕ → ℕ) (s : ℕ → ℕ → Bool)
    → ((x y : ℕ) → x < 2 ^ width t → y < 2 ^ width t → s (f x) (f y) ≡ compare_to k (number t x) (number t y))
    → (n : ℕ) (xs ys us vs : List ℕ) → us ≡ map f xs → vs ≡ map f ys → length xs ≡ n → length ys ≡ n → Fit t xs → Fit t ys
    → sel_l {A = ℕ} (map (top 63) (zip2 (λ a b. cond (s a b) (2 ^ 64 - 1) 0) us vs)) (replicate n 1) (replicate n 0) ≡ zip2 (compare_bits k t) xs ys
compared k t f s e n xs ys us vs u v p q fx fy =
    ap₂ (λ a b. sel_l (map (top 63) (zip2 (λ a b. cond (s a b) (2 ^ 64 - 1) 0) a b)) (replicate n 1) (replicate n 0)) u v
    ∙ ap (λ h. sel_l (map (top 63) h) (replicate n 1) (replicate n 0)) (zip2_maps (λ a b. cond (s a b) (2 ^ 64 - 1) 0) f xs ys)
    ∙ flags_of (λ a b. s (f a) (f b)) n xs ys p q
    ∙ row_same (λ a. a < 2 ^ width t) (λ b. b < 2 ^ width t) _ _ (λ a b i j. ap (λ c. cond c 1 0) (e a b i j)) xs ys fx fy

module _ (t : Elem) (x y : ℕ) (p : x < 2 ^ width t) (q : y < 2 ^ width t) where
  pub equal_is : (x == y) ≡ compare_to Equal (number t x) (number t y)
  equal_is = sym (same_number t x y p q)

  pub not_equal_is : not (x == y) ≡ compare_to NotEqual (number t x) (number t y)
  not_equal_is = ap not equal_is

  pub less_is : nat_lt (turned (width t) (greatest t) x) (turned (width t) (greatest t) y) ≡ compare_to Less (number t x) (number t y)
  less_is = word_less t x y p q

  pub greater_is : nat_lt (turned (width t) (greatest t) y) (turned (width t) (greatest t) x) ≡ compare_to Greater (number t x) (number t y)
  greater_is = word_less t y x q p

-- a word other than 0
pub on_is : (a : ℕ) → not (a == 0) ≡ is_on a
on_is a = grind (arith, nat_tests)

pub truth_of : (n : ℕ) (xs : List ℕ) → length xs ≡ n → map (top 63) (zip2 (λ a b. cond (not (a == b)) (2 ^ 64 - 1) 0) xs (replicate n 0)) ≡ map is_on xs
truth_of n xs p =
    tops_compared w64 (λ a b. not (a == b)) xs (replicate n 0)
    ∙ zip2_splat (λ a b. not (a == b)) xs n 0 p
    ∙ map_same (λ _. Unit {0}) _ _ (λ a _. on_is a) xs (λ _. tt)
