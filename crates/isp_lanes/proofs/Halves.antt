-- A word of 32 bits is shifted to the right as the upper half of a product.
use Rattle.std.proofs.Common.{◌≡◌, refl, sym, ap, ap₂, ◌∙◌, ℕ, zero, suc, ◌+◌, ◌-◌, ◌*◌, ◌/◌, ◌%◌, ◌^◌, ◌<◌, ◌==◌, cond, arith, lit≤, List, [], ◌∷◌, map, length, replicate, mod-lt, mod-eq_of_lt, pow_pos, Fits, w32, w64}
use Rattle.std.proofs.Math.Facts.{Fits-of_lt, Fits-lt-pow}
use Rattle.std.proofs.Math.Nat.{div-one, pow-suc, mul-div-mul_right, mul-lt-mul_of_pos_right, div-lt_iff_lt-mul}
use Rattle.std.proofs.Math.Pow.{pow-lt}
use Rattle.std.proofs.lemmas.Nat.{pow-add}
use Rattle.std.proofs.lemmas.Bool.{ne_eqb}
use native.Mathlib.Nat.{add-mul-mod_self_right}
use Rattle.std.specs.Simd.Lanes.{zip2, sel_l, top, Each1, Each2}

-- how far 2 is shifted, for a word that is shifted by y
abbrev rise : ℕ → ℕ
rise y = (31 + (2 ^ 32 - y)) % 2 ^ 32

-- 2 to the 32 - y, in 32 bits
abbrev factor : ℕ → ℕ
factor y = (2 * 2 ^ rise y) % 2 ^ 32

rise_is : (y : ℕ) → y < 32 → rise y ≡ 31 - y
rise_is y q =
    let sum : 31 + (2 ^ 32 - y) ≡ (31 - y) + 1 * 2 ^ 32 = omega arith in
    ap (λ n. n % 2 ^ 32) sum ∙ add-mul-mod_self_right (31 - y) 1 (2 ^ 32) ∙ mod-eq_of_lt (omega arith)

factor_is : (y : ℕ) → 0 < y → y < 32 → factor y ≡ 2 ^ (32 - y)
factor_is y s q =
    let up : 32 - y ≡ suc (31 - y) = omega arith in
    let twice : 2 * 2 ^ (31 - y) ≡ 2 ^ (32 - y) = omega (arith, pow-suc 2 (31 - y), ap (λ n. 2 ^ n) up) in
    let short : 2 ^ (32 - y) < 2 ^ 32 = pow-lt {i = 32 - y} {j = 32} (omega arith) in
    ap (λ n. (2 * 2 ^ n) % 2 ^ 32) (rise_is y q) ∙ ap (λ n. n % 2 ^ 32) twice ∙ mod-eq_of_lt short

half_is : (x y : ℕ) → x < 2 ^ 32 → 0 < y → y < 32 → (x * factor y) % 2 ^ 64 / 2 ^ 32 ≡ x / 2 ^ y
half_is x y p s q =
    let f = 2 ^ (32 - y) in
    let short : f < 2 ^ 32 = pow-lt {i = 32 - y} {j = 32} (omega arith) in
    let room : x * f < 2 ^ 64 = omega (arith, mul-lt-mul_of_pos_right p (pow_pos (32 - y)), short) in
    let both : y + (32 - y) ≡ 32 = omega arith in
    let parts : 2 ^ 32 ≡ 2 ^ y * f = sym (ap (λ n. 2 ^ n) both) ∙ pow-add 2 y (32 - y) in
    ap (λ n. (x * n) % 2 ^ 64 / 2 ^ 32) (factor_is y s q)
    ∙ ap (λ n. n / 2 ^ 32) (mod-eq_of_lt room)
    ∙ ap (λ n. x * f / n) parts
    ∙ mul-div-mul_right x (2 ^ y) (pow_pos (32 - y))

lane : (x y : ℕ) → x < 2 ^ 32 → y < 32 → cond (top 31 (cond (y == 0) (2 ^ 32 - 1) 0)) x ((x * factor y) % 2 ^ 64 / 2 ^ 32) ≡ x / 2 ^ y
lane x zero p q = sym (div-one x)
lane x (suc k) p q = ap (λ b. cond (top 31 (cond b (2 ^ 32 - 1) 0)) x ((x * factor (suc k)) % 2 ^ 64 / 2 ^ 32)) (ne_eqb (suc k) 0 (λ e. omega (arith, e))) ∙ half_is x (suc k) p (omega arith) q

abbrev factors : ℕ → List ℕ → List ℕ
factors n ys = zip2 (λ a b. (a * 2 ^ b) % 2 ^ 32) (replicate n 2) (zip2 (λ a b. (a + (2 ^ 32 - b)) % 2 ^ 32) (replicate n 31) ys)

abbrev products : ℕ → List ℕ → List ℕ → List ℕ
products n xs ys = zip2 (λ a b. (a * b) % 2 ^ 64) (map (λ a. a) xs) (map (λ a. a) (factors n ys))

pub rises_in : (n : ℕ) (xs ys : List ℕ) → length ys ≡ n → length xs ≡ n → Each2 (λ (a b : ℕ). b < 32) xs ys → Each2 (λ (a b : ℕ). b < 32) (replicate {A = ℕ} n 2) (zip2 (λ a b. (a + (2 ^ 32 - b)) % 2 ^ 32) (replicate n 31) ys)
rises_in zero xs ys p q h = tt
rises_in (suc n) xs [] p q h = absurd (omega arith)
rises_in (suc n) [] (y ∷ ys) p q h = absurd (omega arith)
rises_in (suc n) (x ∷ xs) (y ∷ ys) p q h = (omega (arith, rise_is y h.0), rises_in n xs ys (omega arith) (omega arith) h.1)

pub words_fit : (xs : List ℕ) → Each1 (Fits w32) xs → Each1 (Fits w64) xs
words_fit [] h = tt
words_fit (x ∷ xs) h = (Fits-of_lt (omega (arith, Fits-lt-pow h.0)), words_fit xs h.1)

pub factors_fit : (n : ℕ) (ys : List ℕ) → Each1 (Fits w64) (factors n ys)
factors_fit zero ys = tt
factors_fit (suc n) [] = tt
factors_fit (suc n) (y ∷ ys) = (Fits-of_lt (omega (arith, mod-lt (2 * 2 ^ rise y) (pow_pos 32))), factors_fit n ys)

pub moved_in : (n : ℕ) (zs : List ℕ) → Each2 (λ (a b : ℕ). b < 64) zs (replicate {A = ℕ} n 32)
moved_in zero [] = tt
moved_in zero (z ∷ zs) = tt
moved_in (suc n) [] = tt
moved_in (suc n) (z ∷ zs) = (lit≤ tt, moved_in n zs)

upper_fits : (m : ℕ) → m % 2 ^ 64 / 2 ^ 32 < 2 ^ 32
upper_fits m = (div-lt_iff_lt-mul (pow_pos 32)).1 (mod-lt m (pow_pos 64))

pub halves_fit : (n : ℕ) (xs ys : List ℕ) → Each1 (Fits w32) (zip2 (λ a b. a / 2 ^ b) (products n xs ys) (replicate n 32))
halves_fit zero [] ys = tt
halves_fit zero (x ∷ xs) ys = tt
halves_fit (suc n) [] ys = tt
halves_fit (suc n) (x ∷ xs) [] = tt
halves_fit (suc n) (x ∷ xs) (y ∷ ys) = (Fits-of_lt (upper_fits (x * factor y)), halves_fit n xs ys)

pub shifted : (n : ℕ) (xs ys : List ℕ) → length xs ≡ n → length ys ≡ n → Each1 (Fits w32) xs → Each2 (λ (a b : ℕ). b < 32) xs ys
    → sel_l (map (top 31) (zip2 (λ a b. cond (a == b) (2 ^ 32 - 1) 0) ys (replicate n 0))) xs (map (λ a. a) (zip2 (λ a b. a / 2 ^ b) (products n xs ys) (replicate n 32))) ≡ zip2 (λ a b. a / 2 ^ b) xs ys
shifted zero [] [] p q f h = refl
shifted zero [] (y ∷ ys) p q f h = absurd (omega arith)
shifted zero (x ∷ xs) ys p q f h = absurd (omega arith)
shifted (suc n) [] ys p q f h = absurd (omega arith)
shifted (suc n) (x ∷ xs) [] p q f h = absurd (omega arith)
shifted (suc n) (x ∷ xs) (y ∷ ys) p q f h = ap₂ (λ c t. c ∷ t) (lane x y (Fits-lt-pow f.0) h.0) (shifted n xs ys (omega arith) (omega arith) f.1 h.1)
