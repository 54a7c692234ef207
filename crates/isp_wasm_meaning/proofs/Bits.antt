-- The lanes of what is made bit by bit, of a vector with one lane replaced, and of a shuffle that takes every other lane.
use Rattle.std.proofs.Common.{◌≡◌, ℕ, zero, suc, ◌+◌, ◌-◌, ◌*◌, ◌/◌, ◌%◌, ◌^◌, ◌<◌, ◌≤◌, Bool, true, false, refl, sym, ap, ◌∙◌, arith, lit≤, eq-eqb}
use Rattle.std.specs.Prelude.{nat_eq, nat_lt, if◌then◌else◌, slice_index}
use Rattle.std.proofs.lemmas.Bool.{ne_eqb, cond-true, cond-false, lt-ltb, le-ltb}
use Rattle.std.proofs.lemmas.Nat.{pow_pos, mod-mul-add, and_shr, or_shr, xor_shr, and_mod, or_mod, xor_mod}
use Rattle.std.proofs.Math.Nat.{mod-lt}
use Rattle.isp_wasm_meaning.specs.Digits.{digit, packed}
use Rattle.isp_wasm_meaning.specs.Syntax.{Shape, I8x16, I16x8, I32x4, I64x2, Bitwise, And, Or, Xor, Replace, Shuffle}
use Rattle.isp_wasm_meaning.specs.Meaning.{lane, wide, count, halved, bitwise, binary, byte_of_two}
use Rattle.isp_wasm_meaning.specs.Lists.{listed, evens, lane_bytes}
use Rattle.isp_wasm_meaning.proofs.Digits.{packed-same, digit-below, regrouped, group}
use Rattle.isp_wasm_meaning.proofs.Lanes.{lane_is, lane_below, IsWide}

-- ---- bit by bit

half_of : (w : ℕ) (o : Bitwise) (x y : ℕ) → bitwise o x y / 2 ^ w ≡ bitwise o (x / 2 ^ w) (y / 2 ^ w)
half_of w And x y = and_shr x y w
half_of w Or x y = or_shr x y w
half_of w Xor x y = xor_shr x y w

low_of : (w : ℕ) (o : Bitwise) (x y : ℕ) → bitwise o x y % 2 ^ w ≡ bitwise o (x % 2 ^ w) (y % 2 ^ w)
low_of w And x y = and_mod x y w
low_of w Or x y = or_mod x y w
low_of w Xor x y = xor_mod x y w

digit_bits : (w : ℕ) (o : Bitwise) (k x y : ℕ) → digit (2 ^ w) k (bitwise o x y) ≡ bitwise o (digit (2 ^ w) k x) (digit (2 ^ w) k y)
unfolding digit
digit_bits w o zero x y = low_of w o x y
digit_bits w o (suc k) x y = ap (digit (2 ^ w) k) (half_of w o x y) ∙ digit_bits w o k (x / 2 ^ w) (y / 2 ^ w)

pub lane_bits : (s : Shape) (o : Bitwise) (k x y : ℕ) → lane s k (bitwise o x y) ≡ bitwise o (lane s k x) (lane s k y)
lane_bits s o k x y = digit_bits (wide s) o k x y

-- ---- one lane replaced

replaced_at : (s : Shape) (k i v x : ℕ) → i < count s → lane s i (binary (Replace s k) v x) ≡ (if nat_eq i k then x % 2 ^ wide s else lane s i v)
replaced_at s k i v x l = lane_is s i (λ j. if nat_eq j k then x % 2 ^ wide s else lane s j v) (λ j q. by j (nat_eq j k)) l
  where
    by : (j : ℕ) (b : Bool) → (if b then x % 2 ^ wide s else lane s j v) < 2 ^ wide s
    by j true = mod-lt x (pow_pos (wide s))
    by j false = lane_below s j v

pub replaced_same : (s : Shape) (i v x : ℕ) → i < count s → lane s i (binary (Replace s i) v x) ≡ x % 2 ^ wide s
replaced_same s i v x l = replaced_at s i i v x l ∙ cond-true (nat_eq i i) (x % 2 ^ wide s) (lane s i v) (eq-eqb i i refl)

pub replaced_other : (s : Shape) (k i v x : ℕ) → i < count s → (i ≡ k → ⊥) → lane s i (binary (Replace s k) v x) ≡ lane s i v
replaced_other s k i v x l ne = replaced_at s k i v x l ∙ cond-false (nat_eq i k) (x % 2 ^ wide s) (lane s i v) (ne_eqb i k ne)

-- ---- every other lane

listed_at : (n i : ℕ) (f : ℕ → ℕ) → i < n → slice_index (listed n f) i ≡ f i
listed_at zero i f h = absurd (omega arith)
listed_at (suc n) zero f h = refl
listed_at (suc n) (suc i) f h = listed_at n i (λ j. f (suc j)) (omega arith)

-- which byte the byte j of lane k of the shuffle is
even_byte : (s : Shape) (k j : ℕ) → j < lane_bytes s → 2 * lane_bytes s * ((lane_bytes s * k + j) / lane_bytes s) + (lane_bytes s * k + j) % lane_bytes s ≡ lane_bytes s * (2 * k) + j
even_byte I8x16 k j h = omega arith
even_byte I16x8 k j h = omega arith
even_byte I32x4 k j h = omega arith
even_byte I64x2 k j h = omega arith

-- a lane of half the width, as bytes
half_bytes : (s : Shape) (k v : ℕ) → lane (halved s) k v ≡ packed 256 (lane_bytes s) (λ j. digit 256 (lane_bytes s * k + j) v)
half_bytes I8x16 k v = regrouped 256 1 k v (lit≤ tt)
half_bytes I16x8 k v = regrouped 256 1 k v (lit≤ tt)
half_bytes I32x4 k v = regrouped 256 2 k v (lit≤ tt)
half_bytes I64x2 k v = regrouped 256 4 k v (lit≤ tt)

half_packed : (s : Shape) (k : ℕ) (f : ℕ → ℕ) → ((j : ℕ) → f j < 256) → k < count (halved s) → lane (halved s) k (packed 256 16 f) ≡ packed 256 (lane_bytes s) (λ j. f (lane_bytes s * k + j))
half_packed I8x16 k f low h = group 256 1 16 k f (lit≤ tt) (λ j l. low j) h
half_packed I16x8 k f low h = group 256 1 16 k f (lit≤ tt) (λ j l. low j) h
half_packed I32x4 k f low h = group 256 2 8 k f (lit≤ tt) (λ j l. low j) h
half_packed I64x2 k f low h = group 256 4 4 k f (lit≤ tt) (λ j l. low j) h

in_row : (s : Shape) (k j : ℕ) → IsWide s → k < count (halved s) → j < lane_bytes s → lane_bytes s * k + j < 16
in_row I8x16 k j w h l = absurd w
in_row I16x8 k j w h l = omega arith
in_row I32x4 k j w h l = omega arith
in_row I64x2 k j w h l = omega arith

low_half : (s : Shape) (k j : ℕ) → IsWide s → k < count s → j < lane_bytes s → lane_bytes s * (2 * k) + j < 16
low_half I8x16 k j w h l = absurd w
low_half I16x8 k j w h l = omega arith
low_half I32x4 k j w h l = omega arith
low_half I64x2 k j w h l = omega arith

high_half : (s : Shape) (k j : ℕ) → IsWide s → count s ≤ k → j < lane_bytes s → (16 ≤ lane_bytes s * (2 * k) + j) × (lane_bytes s * (2 * k) + j - 16 ≡ lane_bytes s * (2 * (k - count s)) + j)
high_half I8x16 k j w h l = absurd w
high_half I16x8 k j w h l = (omega arith, omega arith)
high_half I32x4 k j w h l = (omega arith, omega arith)
high_half I64x2 k j w h l = (omega arith, omega arith)

two_below : (c x y : ℕ) → byte_of_two c x y < 256
two_below c x y = by (nat_lt c 16)
  where
    by : (b : Bool) → (if b then lane I8x16 c x else lane I8x16 (c - 16) y) < 256
    by true = lane_below I8x16 c x
    by false = lane_below I8x16 (c - 16) y

abbrev pub joined : Shape → ℕ → ℕ → ℕ
joined s x y = binary (Shuffle (evens s)) x y

joined_bytes : (s : Shape) (k x y : ℕ) → IsWide s → k < count (halved s) → lane (halved s) k (joined s x y) ≡ packed 256 (lane_bytes s) (λ j. byte_of_two (lane_bytes s * (2 * k) + j) x y)
joined_bytes s k x y w h =
    half_packed s k (λ i. byte_of_two (slice_index (evens s) i) x y) (λ i. two_below (slice_index (evens s) i) x y) h
    ∙ packed-same 256 (lane_bytes s) (λ j. byte_of_two (slice_index (evens s) (lane_bytes s * k + j)) x y) (λ j. byte_of_two (lane_bytes s * (2 * k) + j) x y)
    (λ j l. ap (λ c. byte_of_two c x y)
    (listed_at 16 (lane_bytes s * k + j) (λ i. 2 * lane_bytes s * (i / lane_bytes s) + i % lane_bytes s) (in_row s k j w h l) ∙ even_byte s k j l))

-- the even lanes of half the width: first those of one vector, then those of the other
even_low : (s : Shape) (k x y : ℕ) → IsWide s → k < count (halved s) → k < count s → lane (halved s) k (joined s x y) ≡ lane (halved s) (2 * k) x
even_low s k x y w h l =
    joined_bytes s k x y w h
    ∙ packed-same 256 (lane_bytes s) (λ j. byte_of_two (lane_bytes s * (2 * k) + j) x y) (λ j. digit 256 (lane_bytes s * (2 * k) + j) x)
    (λ j q. cond-true (nat_lt (lane_bytes s * (2 * k) + j) 16) (lane I8x16 (lane_bytes s * (2 * k) + j) x) (lane I8x16 (lane_bytes s * (2 * k) + j - 16) y)
    (lt-ltb (lane_bytes s * (2 * k) + j) 16 (low_half s k j w l q)))
    ∙ sym (half_bytes s (2 * k) x)

even_high : (s : Shape) (k x y : ℕ) → IsWide s → k < count (halved s) → count s ≤ k → lane (halved s) k (joined s x y) ≡ lane (halved s) (2 * (k - count s)) y
even_high s k x y w h l =
    joined_bytes s k x y w h
    ∙ packed-same 256 (lane_bytes s) (λ j. byte_of_two (lane_bytes s * (2 * k) + j) x y) (λ j. digit 256 (lane_bytes s * (2 * (k - count s)) + j) y)
    (λ j q. cond-false (nat_lt (lane_bytes s * (2 * k) + j) 16) (lane I8x16 (lane_bytes s * (2 * k) + j) x) (lane I8x16 (lane_bytes s * (2 * k) + j - 16) y)
    (le-ltb (lane_bytes s * (2 * k) + j) 16 (high_half s k j w l q).0)
    ∙ ap (λ c. digit 256 c y) (high_half s k j w l q).1)
    ∙ sym (half_bytes s (2 * (k - count s)) y)

-- an even lane is the low half of a whole one
first_digit : (b : ℕ) (f : ℕ → ℕ) → f 0 < b → packed b 2 f % b ≡ f 0
unfolding packed
first_digit b f l = mod-mul-add (packed b 1 (λ j. f (suc j))) b (f 0) l

low_half_is : (b k v : ℕ) → 0 < b → digit (b ^ 2) k v % b ≡ digit b (2 * k) v
low_half_is b k v h =
    ap (λ x. x % b) (regrouped b 2 k v h) ∙ first_digit b (λ j. digit b (2 * k + j) v) (digit-below b (2 * k + 0) v h)
    ∙ ap (λ i. digit b i v) (let e : 2 * k + 0 ≡ 2 * k = omega arith in e)

whole_half : (s : Shape) (k v : ℕ) → IsWide s → lane s k v % 2 ^ wide (halved s) ≡ lane (halved s) (2 * k) v
whole_half I8x16 k v w = absurd w
whole_half I16x8 k v w = low_half_is (2 ^ 8) k v (lit≤ tt)
whole_half I32x4 k v w = low_half_is (2 ^ 16) k v (lit≤ tt)
whole_half I64x2 k v w = low_half_is (2 ^ 32) k v (lit≤ tt)

pub joined_low : (s : Shape) (k x y : ℕ) → IsWide s → k < count (halved s) → k < count s → lane (halved s) k (joined s x y) ≡ lane s k x % 2 ^ wide (halved s)
joined_low s k x y w h l = even_low s k x y w h l ∙ sym (whole_half s k x w)

pub joined_high : (s : Shape) (k x y : ℕ) → IsWide s → k < count (halved s) → count s ≤ k → lane (halved s) k (joined s x y) ≡ lane s (k - count s) y % 2 ^ wide (halved s)
joined_high s k x y w h l = even_high s k x y w h l ∙ sym (whole_half s (k - count s) y w)
