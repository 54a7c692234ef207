-- Each text lies in the first bytes of the memory.
use Rattle.std.proofs.Common.{◌≡◌, ℕ, zero, suc, ◌+◌, ◌≤◌, List, [], ◌∷◌, ◌++◌, length, refl, ap, ◌∙◌, arith}
use Rattle.std.proofs.lemmas.List.{length-append}
use Rattle.std.specs.Prelude.{slice_index_or}
use Rattle.isp_wasm_meaning.specs.Meaning.{bytes}
use Rattle.isp_wasm.specs.Module.{joined, text_start}

module _ (m : ℕ → ℕ) where
  first_part : (x y : List ℕ) (a : ℕ) → bytes (length (x ++ y)) a m ≡ x ++ y → bytes (length x) a m ≡ x
  first_part [] y a e = refl
  first_part (b ∷ x) y a e = let head : m a ≡ b = cc in let tail : bytes (length (x ++ y)) (suc a) m ≡ x ++ y = cc in ap (λ c. c ∷ bytes (length x) (suc a) m) head ∙ ap (λ l. b ∷ l) (first_part x y (suc a) tail)

  last_part : (x y : List ℕ) (a : ℕ) → bytes (length (x ++ y)) a m ≡ x ++ y → bytes (length y) (a + length x) m ≡ y
  last_part [] y a e = ap (λ b. bytes (length y) b m) (let same : a + 0 ≡ a = omega arith in same) ∙ e
  last_part (b ∷ x) y a e =
      let tail : bytes (length (x ++ y)) (suc a) m ≡ x ++ y = cc in
      ap (λ b. bytes (length y) b m) (let same : a + suc (length x) ≡ suc a + length x = omega arith in same) ∙ last_part x y (suc a) tail

  pub text_there : (xs : List (List ℕ)) (a t : ℕ) → bytes (length (joined xs)) a m ≡ joined xs → bytes (length (slice_index_or xs t [])) (a + text_start xs t) m ≡ slice_index_or xs t []
  text_there [] a zero e = refl
  text_there [] a (suc t) e = refl
  text_there (x ∷ xs) a zero e = ap (λ b. bytes (length x) b m) (let same : a + 0 ≡ a = omega arith in same) ∙ first_part x (joined xs) a e
  text_there (x ∷ xs) a (suc t) e =
      ap (λ b. bytes (length (slice_index_or xs t [])) b m) (let same : a + (length x + text_start xs t) ≡ a + length x + text_start xs t = omega arith in same)
      ∙ text_there xs (a + length x) t (last_part x (joined xs) a e)

-- and ends within them
pub text_ends : (xs : List (List ℕ)) (t : ℕ) → text_start xs t + length (slice_index_or xs t []) ≤ length (joined xs)
text_ends [] zero = omega arith
text_ends [] (suc t) = omega arith
text_ends (x ∷ xs) zero = let all = length-append x (joined xs) in omega (arith, all)
text_ends (x ∷ xs) (suc t) = let all = length-append x (joined xs) in let more = text_ends xs t in omega (arith, all, more)
