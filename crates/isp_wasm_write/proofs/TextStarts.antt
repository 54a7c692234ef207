-- The bytes before a text, one text further.
use Rattle.std.proofs.Common.{◌≡◌, ℕ, zero, suc, ◌+◌, List, [], ◌∷◌, length, Some, refl, ap, ◌∙◌, arith}
use Rattle.std.specs.Prelude.{slice_get, slice_index_or}
use Rattle.isp_wasm.specs.Module.{text_start}

pub none_before : (xs : List (List ℕ)) → text_start xs 0 ≡ 0
none_before [] = refl
none_before (x ∷ xs) = refl

next_is : (xs : List (List ℕ)) (i : ℕ) (x : List ℕ) → slice_get xs i ≡ Some x → text_start xs (suc i) ≡ text_start xs i + length x
next_is [] i x e = cc
next_is (y ∷ []) zero x e = (let same : length y ≡ length x = cc in omega (arith, same))
next_is (y ∷ z ∷ xs) zero x e = (let same : length y ≡ length x = cc in omega (arith, same))
next_is (y ∷ xs) (suc i) x e = (let more = next_is xs i x e in omega (arith, more))

pub one_more : (xs : List (List ℕ)) (i : ℕ) (x : List ℕ) → slice_get xs i ≡ Some x → text_start xs (i + 1) ≡ text_start xs i + length x
one_more xs i x e = ap (text_start xs) (let same : i + 1 ≡ suc i = omega arith in same) ∙ next_is xs i x e

pub text_is : (xs : List (List ℕ)) (i : ℕ) (x : List ℕ) → slice_get xs i ≡ Some x → slice_index_or xs i [] ≡ x
text_is [] i x e = cc
text_is (y ∷ xs) zero x e = cc
text_is (y ∷ xs) (suc i) x e = text_is xs i x e
