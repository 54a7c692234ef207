-- The lanes of what operators on v128 give.
use Rattle.std.proofs.Common.{◌≡◌, ℕ, zero, suc, ◌+◌, ◌-◌, ◌*◌, ◌^◌, ◌<◌, ◌≤◌, Bool, true, false, refl, sym, ap, ◌∙◌, arith, lit≤}
use Rattle.std.specs.Prelude.{nat_eq, nat_lt, if◌then◌else◌}
use Rattle.std.proofs.lemmas.Nat.{pow_pos}
use Rattle.std.proofs.Math.Nat.{pow-suc}
use Rattle.isp_wasm_meaning.specs.Digits.{packed, digit}
use Rattle.isp_wasm_meaning.specs.Syntax.{Shape, I8x16, I16x8, I32x4, I64x2, ExtendLow, ExtendHigh}
use Rattle.isp_wasm_meaning.specs.Meaning.{lane, of_lanes, wide, count, halved, flag, flags, bit_of, chosen, signed, unary}
use Rattle.isp_wasm_meaning.proofs.Digits.{digit-packed, packed-same, digit-below, regrouped, group}

-- lane by lane
pub lane_is : (s : Shape) (k : ℕ) (f : ℕ → ℕ) → ((j : ℕ) → j < count s → f j < 2 ^ wide s) → k < count s → lane s k (of_lanes s f) ≡ f k
lane_is s k f low h = digit-packed (2 ^ wide s) (count s) k f low h

pub lane_below : (s : Shape) (k v : ℕ) → lane s k v < 2 ^ wide s
lane_below s k v = digit-below (2 ^ wide s) k v (pow_pos (wide s))

-- a lane of a row of bits
pub lane_of_bits : (s : Shape) (k : ℕ) (f : ℕ → ℕ) → ((j : ℕ) → f j < 2) → k < count s → lane s k (packed 2 128 f) ≡ packed 2 (wide s) (λ j. f (wide s * k + j))
lane_of_bits I8x16 k f low h = group 2 8 16 k f (lit≤ tt) (λ j l. low j) h
lane_of_bits I16x8 k f low h = group 2 16 8 k f (lit≤ tt) (λ j l. low j) h
lane_of_bits I32x4 k f low h = group 2 32 4 k f (lit≤ tt) (λ j l. low j) h
lane_of_bits I64x2 k f low h = group 2 64 2 k f (lit≤ tt) (λ j l. low j) h

bits_of_lane : (s : Shape) (k v : ℕ) → lane s k v ≡ packed 2 (wide s) (λ j. bit_of (wide s * k + j) v)
bits_of_lane s k v = regrouped 2 (wide s) k v (lit≤ tt)

bit_in_lane : (s : Shape) (k v j : ℕ) → j < wide s → bit_of (wide s * k + j) v ≡ bit_of j (lane s k v)
bit_in_lane s k v j h =
    sym (ap (digit 2 j) (bits_of_lane s k v) ∙ digit-packed 2 (wide s) j (λ i. bit_of (wide s * k + i) v) (λ i l. digit-below 2 (wide s * k + i) v (lit≤ tt)) h)

-- all bits of a lane, or none
packed_ones : (w : ℕ) → packed 2 w (λ j. 1) ≡ 2 ^ w - 1
unfolding packed
packed_ones zero = refl
packed_ones (suc w) = ap (λ x. x * 2 + 1) (packed_ones w) ∙ rw pow-suc (omega (arith, pow_pos w))

packed_zeros : (w : ℕ) → packed 2 w (λ j. 0) ≡ 0
unfolding packed
packed_zeros zero = refl
packed_zeros (suc w) = ap (λ x. x * 2 + 0) (packed_zeros w)

packed_flags : (w : ℕ) (b : Bool) → packed 2 w (λ j. flag b) ≡ flags w b
packed_flags w true = packed_ones w
packed_flags w false = packed_zeros w

flag_below : (b : Bool) → flag b < 2
flag_below true = lit≤ tt
flag_below false = lit≤ tt

bit_of_flags : (w j : ℕ) (b : Bool) → j < w → bit_of j (flags w b) ≡ flag b
bit_of_flags w j b h = ap (digit 2 j) (sym (packed_flags w b)) ∙ digit-packed 2 w j (λ i. flag b) (λ i l. flag_below b) h

pub flag_bits : (s : Shape) (k v j : ℕ) (b : Bool) → lane s k v ≡ flags (wide s) b → j < wide s → bit_of (wide s * k + j) v ≡ flag b
flag_bits s k v j b e h = bit_in_lane s k v j h ∙ ap (digit 2 j) e ∙ bit_of_flags (wide s) j b h

-- ---- bitselect

chosen_below : (c x y : ℕ) → x < 2 → y < 2 → chosen c x y < 2
chosen_below c x y p q = by (nat_eq c 0)
  where
    by : (b : Bool) → (if b then y else x) < 2
    by true = q
    by false = p

chosen_flag : (b : Bool) (x y : ℕ) → chosen (flag b) x y ≡ (if b then x else y)
chosen_flag true x y = refl
chosen_flag false x y = refl

pub selected : (s : Shape) (k c x y : ℕ) (b : Bool) → k < count s → lane s k c ≡ flags (wide s) b
    → lane s k (packed 2 128 (λ i. chosen (bit_of i c) (bit_of i x) (bit_of i y))) ≡ (if b then lane s k x else lane s k y)
selected s k c x y b h e =
    lane_of_bits s k (λ i. chosen (bit_of i c) (bit_of i x) (bit_of i y))
    (λ i. chosen_below (bit_of i c) (bit_of i x) (bit_of i y) (digit-below 2 i x (lit≤ tt)) (digit-below 2 i y (lit≤ tt))) h
    ∙ packed-same 2 (wide s) (λ j. chosen (bit_of (wide s * k + j) c) (bit_of (wide s * k + j) x) (bit_of (wide s * k + j) y))
    (λ j. if b then bit_of (wide s * k + j) x else bit_of (wide s * k + j) y)
    (λ j l. ap (λ z. chosen z (bit_of (wide s * k + j) x) (bit_of (wide s * k + j) y)) (flag_bits s k c j b e l) ∙ chosen_flag b (bit_of (wide s * k + j) x) (bit_of (wide s * k + j) y))
    ∙ by b
  where
    by : (b : Bool) → packed 2 (wide s) (λ j. if b then bit_of (wide s * k + j) x else bit_of (wide s * k + j) y) ≡ (if b then lane s k x else lane s k y)
    by true = sym (bits_of_lane s k x)
    by false = sym (bits_of_lane s k y)

-- ---- lanes of half the width

-- not the narrowest
abbrev pub IsWide : Shape → Type 0
IsWide I8x16 = ⊥
IsWide s = Unit {0}

signed_below : (w more x : ℕ) → 2 ^ w ≤ 2 ^ more → x < 2 ^ w → signed w more x < 2 ^ more
signed_below w more x le h = by (nat_lt x (2 ^ (w - 1)))
  where
    by : (b : Bool) → (if b then x else x + (2 ^ more - 2 ^ w)) < 2 ^ more
    by true = omega arith
    by false = omega arith

wider : (s : Shape) → 2 ^ wide (halved s) ≤ 2 ^ wide s
wider I8x16 = lit≤ tt
wider I16x8 = lit≤ tt
wider I32x4 = lit≤ tt
wider I64x2 = lit≤ tt

pub extended_low : (s : Shape) (k x : ℕ) → k < count s → lane s k (unary (ExtendLow s) x) ≡ signed (wide (halved s)) (wide s) (lane (halved s) k x)
extended_low s k x h =
    lane_is s k (λ j. signed (wide (halved s)) (wide s) (lane (halved s) j x))
    (λ j l. signed_below (wide (halved s)) (wide s) (lane (halved s) j x) (wider s) (lane_below (halved s) j x)) h

pub extended_high : (s : Shape) (k x : ℕ) → k < count s → lane s k (unary (ExtendHigh s) x) ≡ signed (wide (halved s)) (wide s) (lane (halved s) (k + count s) x)
extended_high s k x h =
    lane_is s k (λ j. signed (wide (halved s)) (wide s) (lane (halved s) (j + count s) x))
    (λ j l. signed_below (wide (halved s)) (wide s) (lane (halved s) (j + count s) x) (wider s) (lane_below (halved s) (j + count s) x)) h
