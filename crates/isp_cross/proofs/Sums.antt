-- Sums of whole numbers, and of their bits.
use Rattle.std.proofs.Common.{◌≡◌, refl, sym, ap, ap₂, ◌∙◌, ℕ, zero, suc, ◌+◌, ◌%◌, ◌^◌, ◌<◌, ◌≤◌, Bool, true, false, arith, List, [], ◌∷◌, length, get_or, take, pow_pos, ℤ, pos, ◌+ℤ◌, unsigned_abs, Option, Some, None, map, replicate}
use Rattle.std.proofs.lemmas.Int.{ints, int_rem_euclid_is}
use native.Mathlib.Nat.{add-mod-mod, mod-add-mod}
use Rattle.std.specs.Simd.Lanes.{fold_l, sel_l}
use Rattle.isp_base.specs.declared.types.Elem.{Elem}
use Rattle.isp_base.specs.declared.types.Elem.TheVariants.{Bool as Truth, I8, U8, I16, U16, I32, U32, I64, U64}
use Rattle.isp_base.specs.Values.{width, number, wrap, wrap_to, convert_bits}
use Rattle.isp_base.proofs.Words.{cut}
use Rattle.isp_base.proofs.Wraps.{wrap_to-pos}
use Rattle.isp_base.specs.Cross.{and_this, fold_below, instance}
use Rattle.isp_base.specs.Ranks.{widened}
use Rattle.isp_base.specs.Maps.{Map, lane_of, on}
use Rattle.isp_base.specs.Sets.{flag_of}
use Rattle.isp_cross.proofs.Places.{lifted}

pub fold_more : {A : Type 0} (f : A → ℕ → A) (a : A) (xs : List ℕ) (n : ℕ) → n < length xs → fold_l f a (take (suc n) xs) ≡ f (fold_l f a (take n xs)) (get_or xs n 0)
fold_more f a [] n h = absurd (omega arith)
fold_more f a (x ∷ xs) zero h = refl
fold_more f a (x ∷ xs) (suc n) h = fold_more f (f a x) xs n (omega arith)

-- residues add up
pub wrap_sum : (w : ℕ) (a b : ℤ) → (wrap_to w a + wrap_to w b) % 2 ^ w ≡ wrap_to w (a +ℤ b)
unfolding wrap_to
wrap_sum w a b =
    let m = 2 ^ w in
    let some = pow_pos w in
    let i = lifted m a some in
    let j = lifted m b some in
    let left : instance m a ≡ i.rest % m = ap unsigned_abs (int_rem_euclid_is a (pos m) m i.turns i.rest some refl i.is) in
    let right : instance m b ≡ j.rest % m = ap unsigned_abs (int_rem_euclid_is b (pos m) m j.turns j.rest some refl j.is) in
    let both : instance m (a +ℤ b) ≡ (i.rest + j.rest) % m = ap unsigned_abs (int_rem_euclid_is (a +ℤ b) (pos m) m (i.turns + j.turns) (i.rest + j.rest) some refl (omega (arith, ints, i.is, j.is))) in
    ap₂ (λ x y. (x + y) % m) left right ∙ add-mod-mod (i.rest % m) j.rest m ∙ mod-add-mod i.rest m j.rest ∙ sym both

-- the bits of a wider type
pub widened_bits : (t : Elem) (z : ℤ) → convert_bits (widened t) z ≡ wrap (widened t) z
widened_bits Truth z = refl
widened_bits I8 z = refl
widened_bits U8 z = refl
widened_bits I16 z = refl
widened_bits U16 z = refl
widened_bits I32 z = refl
widened_bits U32 z = refl
widened_bits I64 z = refl
widened_bits U64 z = refl

abbrev pub bits_or_zero : Elem → Elem → Option ℕ → ℕ
bits_or_zero v t None = 0
bits_or_zero v t (Some b) = wrap v (number t b)

-- one lane more
one_more : (v t : Elem) (s : ℕ) (z : ℤ) → s % 2 ^ width v ≡ wrap v z → (o : Option ℕ) → (s + bits_or_zero v t o) % 2 ^ width v ≡ wrap v (and_this (λ s b. s +ℤ number t b) z o)
one_more v t s z e None = ap (λ n. n % 2 ^ width v) (let i : s + 0 ≡ s = omega arith in i) ∙ e
one_more v t s z e (Some b) = sym (mod-add-mod s (2 ^ width v) (wrap v (number t b))) ∙ ap (λ n. (n + wrap v (number t b)) % 2 ^ width v) e ∙ wrap_sum (width v) z (number t b)

-- words of 64 bits, summed and cut to the width of v
pub sum_is : (v t : Elem) (bs : List ℕ) (x : Map) (n : ℕ) → n ≤ length bs → ((p : ℕ) → p < n → get_or bs p 0 ≡ bits_or_zero v t (x p))
    → fold_l (λ a b. (a + b) % 2 ^ 64) 0 (take n bs) % 2 ^ width v ≡ wrap v (fold_below (λ s b. s +ℤ number t b) (pos 0) x n)
sum_is v t bs x zero h e = sym (wrap_to-pos (width v) 0)
sum_is v t bs x (suc n) h e =
    ap (λ a. a % 2 ^ width v) (fold_more (λ a b. (a + b) % 2 ^ 64) 0 bs n (omega (arith, h)))
    ∙ cut v (fold_l (λ a b. (a + b) % 2 ^ 64) 0 (take n bs) + get_or bs n 0)
    ∙ ap (λ b. (fold_l (λ a b. (a + b) % 2 ^ 64) 0 (take n bs) + b) % 2 ^ width v) (e n (omega arith))
    ∙ one_more v t _ _ (sum_is v t bs x n (omega (arith, h)) (λ p l. e p (omega (arith, l)))) (x n)

-- the lanes of a mask, as bits of the type v, and 0 in the others
pub get_or-wide : (v t : Elem) (mask : List Bool) (xs : List ℕ) (n : ℕ) → length mask ≡ n → length xs ≡ n
    → (p : ℕ) → get_or (sel_l mask (map (λ b. wrap v (number t b)) xs) (replicate n 0)) p 0 ≡ bits_or_zero v t (on (flag_of mask) (lane_of xs) p)
get_or-wide v t [] xs n a b p = refl
get_or-wide v t (m ∷ mask) [] n a b p = absurd (omega arith)
get_or-wide v t (m ∷ mask) (x ∷ xs) zero a b p = absurd (omega arith)
get_or-wide v t (true ∷ mask) (x ∷ xs) (suc n) a b zero = refl
get_or-wide v t (false ∷ mask) (x ∷ xs) (suc n) a b zero = refl
get_or-wide v t (m ∷ mask) (x ∷ xs) (suc n) a b (suc p) = get_or-wide v t mask xs n (omega arith) (omega arith) p
