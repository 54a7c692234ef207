-- The lanes of rows of parts.
use Rattle.std.proofs.Common.{◌≡◌, ℕ, zero, suc, ◌+◌, ◌-◌, ◌*◌, ◌/◌, ◌%◌, ◌^◌, ◌<◌, ◌≤◌, ◌≢◌, ◌⊎◌, inl, inr, Bool, true, false, refl, sym, ap, ap₂, ◌∙◌, subst, arith, lit≤, mod-eq_of_lt}
use Rattle.std.specs.Prelude.{nat_eq, if◌then◌else◌, min}
use Rattle.std.proofs.lemmas.Bool.{eqb-true, eqb-false, lt-ltb, cases_lt, cases_eq}
use Rattle.std.proofs.lemmas.Nat.{pow_pos, le-div}
use Rattle.std.proofs.Math.Nat.{mod-lt}
use Rattle.std.proofs.Math.Pow.{mod-mod-pow}
use Rattle.isp_wasm_meaning.specs.Syntax.{Shape, I8x16, I16x8, I32x4, I64x2, Whole, Bitwise, Shift, Test, Expr, Const128, One, Two, Bitselect, ExtendLow, ExtendHigh, Splat, Lanes, CompareLanes, ShiftLanes, Bits}
use Rattle.isp_wasm_meaning.specs.Meaning.{lane, of_lanes, flags, wide, count, halved, value, signed, whole, tested, bitwise, shifted}
use Rattle.isp_wasm_meaning.proofs.Digits.{packed-below}
use Rattle.isp_wasm_meaning.proofs.Lanes.{lane_is, lane_below, selected, extended_low, extended_high, IsWide}
use Rattle.isp_wasm_meaning.proofs.Bits.{lane_bits, replaced_same, replaced_other, joined_low, joined_high}
use Rattle.isp_wasm.specs.Places.{Setting, gang, parts}
use Rattle.isp_wasm.specs.Rows.{extended, widened, joined, narrowed, resized_row, built, present}
use Rattle.isp_wasm.proofs.WordLaws.{whole_below, shifted_below}
use Rattle.isp_wasm.proofs.Converts.{signed_low, signed_high}

-- the first n lanes of a row are these
abbrev pub IsRow : ℕ → Shape → (ℕ → ℕ) → (ℕ → Expr) → (ℕ → ℕ) → Type 0
IsRow n s l e f = (j i : ℕ) → i < count s → j * count s + i < n → lane s i (value l (e j)) ≡ f (j * count s + i)

pub row_same : (n : ℕ) (s : Shape) (l : ℕ → ℕ) (e : ℕ → Expr) (f g : ℕ → ℕ) → ((p : ℕ) → p < n → f p ≡ g p) → IsRow n s l e f → IsRow n s l e g
row_same n s l e f g same h j i q r = h j i q r ∙ same (j * count s + i) r

-- ---- lane by lane operators

flags_below : (w : ℕ) (b : Bool) → flags w b < 2 ^ w
flags_below w true = let some = pow_pos w in omega arith
flags_below w false = pow_pos w

pub row_whole : (n : ℕ) (s : Shape) (o : Whole) (l : ℕ → ℕ) (a b : ℕ → Expr) (f g : ℕ → ℕ) → IsRow n s l a f → IsRow n s l b g → IsRow n s l (λ j. Two (Lanes s o) (a j) (b j)) (λ p. whole (wide s) o (f p) (g p))
row_whole n s o l a b f g x y j i q r =
    lane_is s i (λ i. whole (wide s) o (lane s i (value l (a j))) (lane s i (value l (b j)))) (λ i z. whole_below (wide s) o (lane s i (value l (a j))) (lane s i (value l (b j)))) q
    ∙ ap₂ (whole (wide s) o) (x j i q r) (y j i q r)

pub row_tested : (n : ℕ) (s : Shape) (o : Test) (l : ℕ → ℕ) (a b : ℕ → Expr) (f g : ℕ → ℕ) → IsRow n s l a f → IsRow n s l b g
    → IsRow n s l (λ j. Two (CompareLanes s o) (a j) (b j)) (λ p. flags (wide s) (tested (wide s) o (f p) (g p)))
row_tested n s o l a b f g x y j i q r =
    lane_is s i (λ i. flags (wide s) (tested (wide s) o (lane s i (value l (a j))) (lane s i (value l (b j)))))
    (λ i z. flags_below (wide s) (tested (wide s) o (lane s i (value l (a j))) (lane s i (value l (b j))))) q
    ∙ ap₂ (λ u v. flags (wide s) (tested (wide s) o u v)) (x j i q r) (y j i q r)

pub row_bits : (n : ℕ) (s : Shape) (o : Bitwise) (l : ℕ → ℕ) (a b : ℕ → Expr) (f g : ℕ → ℕ) → IsRow n s l a f → IsRow n s l b g → IsRow n s l (λ j. Two (Bits o) (a j) (b j)) (λ p. bitwise o (f p) (g p))
row_bits n s o l a b f g x y j i q r = lane_bits s o i (value l (a j)) (value l (b j)) ∙ ap₂ (bitwise o) (x j i q r) (y j i q r)

pub row_shifted : (n : ℕ) (s : Shape) (o : Shift) (l : ℕ → ℕ) (a : ℕ → Expr) (e : Expr) (f : ℕ → ℕ) → IsRow n s l a f → IsRow n s l (λ j. Two (ShiftLanes s o) (a j) e) (λ p. shifted (wide s) o (f p) (value l e))
row_shifted n s o l a e f x j i q r =
    lane_is s i (λ i. shifted (wide s) o (lane s i (value l (a j))) (value l e))
    (λ i z. shifted_below (wide s) o (lane s i (value l (a j))) (value l e) (lane_below s i (value l (a j)))) q
    ∙ ap (λ u. shifted (wide s) o u (value l e)) (x j i q r)

pub row_select : (n : ℕ) (s : Shape) (l : ℕ → ℕ) (a b c : ℕ → Expr) (f g : ℕ → ℕ) (m : ℕ → Bool) → IsRow n s l a f → IsRow n s l b g → IsRow n s l c (λ p. flags (wide s) (m p))
    → IsRow n s l (λ j. Bitselect (a j) (b j) (c j)) (λ p. if m p then f p else g p)
row_select n s l a b c f g m x y z j i q r =
    selected s i (value l (c j)) (value l (a j)) (value l (b j)) (m (j * count s + i)) q (z j i q r) ∙ ap₂ (λ u v. if m (j * count s + i) then u else v) (x j i q r) (y j i q r)

pub row_splat : (n : ℕ) (s : Shape) (l : ℕ → ℕ) (e : Expr) → IsRow n s l (λ j. One (Splat s) e) (λ p. value l e % 2 ^ wide s)
row_splat n s l e j i q r = lane_is s i (λ k. value l e % 2 ^ wide s) (λ k z. mod-lt (value l e) (pow_pos (wide s))) q

all_bits : (s : Shape) → (2 ^ wide s) ^ count s ≡ 2 ^ 128
all_bits I8x16 = refl
all_bits I16x8 = refl
all_bits I32x4 = refl
all_bits I64x2 = refl

pub row_constant : (n : ℕ) (s : Shape) (l : ℕ → ℕ) (f : ℕ → ℕ) → ((p : ℕ) → p < n + count s → f p < 2 ^ wide s) → IsRow n s l (λ j. Const128 (of_lanes s (λ i. f (j * count s + i)))) f
row_constant n s l f low j i q r =
    let here : (i : ℕ) → i < count s → f (j * count s + i) < 2 ^ wide s = (λ k z. low (j * count s + k) (omega arith)) in
    ap (lane s i) (mod-eq_of_lt (subst (λ m. of_lanes s (λ i. f (j * count s + i)) < m) (all_bits s) (packed-below (2 ^ wide s) (count s) (λ i. f (j * count s + i)) here)))
    ∙ lane_is s i (λ i. f (j * count s + i)) here q

-- ---- one lane after the other

cells_lane : (s : Shape) (l : ℕ → ℕ) (f : ℕ → Expr) (n i : ℕ) → n ≤ count s → i < n → lane s i (value l (built s n f)) ≡ value l (f i) % 2 ^ wide s
cells_lane s l f zero i le h = absurd (omega arith)
cells_lane s l f (suc n) i le h = by (cells_lane s l f n i (omega arith)) (cases_eq i n)
  where
    by : (i < n → lane s i (value l (built s n f)) ≡ value l (f i) % 2 ^ wide s) → (i ≡ n) ⊎ (i ≡ n → ⊥) → lane s i (value l (built s (suc n) f)) ≡ value l (f i) % 2 ^ wide s
    by before (inl e) =
        subst (λ k. lane s k (value l (built s (suc n) f)) ≡ value l (f k) % 2 ^ wide s) (sym e) (replaced_same s n (value l (built s n f)) (value l (f n)) (omega arith))
    by before (inr ne) =
        let other : i ≢ n = ne in replaced_other s n i (value l (built s n f)) (value l (f n)) (omega arith) ne ∙ before (omega arith)

pub row_built : (n : ℕ) (s : Shape) (l : ℕ → ℕ) (f : ℕ → Expr) (v : ℕ → ℕ) → ((p : ℕ) → p < n → value l (f p) % 2 ^ wide s ≡ v p)
    → IsRow n s l (λ j. built s (min (count s) (n - j * count s)) (λ i. f (j * count s + i))) v
row_built n s l f v h j i q r =
    cells_lane s l (λ i. f (j * count s + i)) (min (count s) (n - j * count s)) i (omega arith) (omega arith) ∙ h (j * count s + i) r

-- ---- lanes of another shape

-- a number of 64 bits whose sign is that of so many as a lane has
abbrev pub IsShort : Shape → ℕ → Type 0
IsShort s y = (y < 2 ^ (wide s - 1)) ⊎ ((2 ^ 64 ≤ y + 2 ^ (wide s - 1)) × (y < 2 ^ 64))

short_wider : (s : Shape) (y : ℕ) → IsWide s → IsShort (halved s) y → IsShort s y
short_wider I8x16 y h k = absurd h
short_wider I16x8 y h (inl k) = inl (omega (arith, k))
short_wider I16x8 y h (inr k) = inr (omega (arith, k.0), k.1)
short_wider I32x4 y h (inl k) = inl (omega (arith, k))
short_wider I32x4 y h (inr k) = inr (omega (arith, k.0), k.1)
short_wider I64x2 y h (inl k) = inl (omega (arith, k))
short_wider I64x2 y h (inr k) = inr (omega (arith, k.0), k.1)

-- it is extended by its sign
wider_lane : (s : Shape) (y : ℕ) → IsWide s → IsShort (halved s) y → signed (wide (halved s)) (wide s) (y % 2 ^ wide (halved s)) ≡ y % 2 ^ wide s
wider_lane I8x16 y h k = absurd h
wider_lane I16x8 y h (inl k) = signed_low 8 16 (y % 2 ^ 8) (omega (arith, k)) ∙ omega (arith, k)
wider_lane I16x8 y h (inr k) = signed_high 8 16 (y % 2 ^ 8) (omega (arith, k.0, k.1)) ∙ omega (arith, k.0, k.1)
wider_lane I32x4 y h (inl k) = signed_low 16 32 (y % 2 ^ 16) (omega (arith, k)) ∙ omega (arith, k)
wider_lane I32x4 y h (inr k) = signed_high 16 32 (y % 2 ^ 16) (omega (arith, k.0, k.1)) ∙ omega (arith, k.0, k.1)
wider_lane I64x2 y h (inl k) = signed_low 32 64 (y % 2 ^ 32) (omega (arith, k)) ∙ omega (arith, k)
wider_lane I64x2 y h (inr k) = signed_high 32 64 (y % 2 ^ 32) (omega (arith, k.0, k.1)) ∙ omega (arith, k.0, k.1)

low_lane : (s : Shape) (j k : ℕ) → IsWide s → nat_eq (j % 2) 0 ≡ true → j / 2 * count (halved s) + k ≡ j * count s + k
low_lane I8x16 j k h e = absurd h
low_lane I16x8 j k h e = omega (arith, eqb-true (j % 2) 0 e)
low_lane I32x4 j k h e = omega (arith, eqb-true (j % 2) 0 e)
low_lane I64x2 j k h e = omega (arith, eqb-true (j % 2) 0 e)

odd : (j : ℕ) → nat_eq (j % 2) 0 ≡ false → j % 2 ≡ 1
odd j e = let ne : j % 2 ≢ 0 = eqb-false (j % 2) 0 e in omega arith

high_lane : (s : Shape) (j k : ℕ) → IsWide s → nat_eq (j % 2) 0 ≡ false → j / 2 * count (halved s) + (k + count s) ≡ j * count s + k
high_lane I8x16 j k h e = absurd h
high_lane I16x8 j k h e = omega (arith, odd j e)
high_lane I32x4 j k h e = omega (arith, odd j e)
high_lane I64x2 j k h e = omega (arith, odd j e)

low_room : (s : Shape) (k : ℕ) → IsWide s → k < count s → k < count (halved s)
low_room I8x16 k h l = absurd h
low_room I16x8 k h l = omega arith
low_room I32x4 k h l = omega arith
low_room I64x2 k h l = omega arith

high_room : (s : Shape) (k : ℕ) → IsWide s → k < count s → k + count s < count (halved s)
high_room I8x16 k h l = absurd h
high_room I16x8 k h l = omega arith
high_room I32x4 k h l = omega arith
high_room I64x2 k h l = omega arith

-- the lanes of two parts in one
low_place : (s : Shape) (j i : ℕ) → IsWide s → 2 * j * count s + i ≡ j * count (halved s) + i
low_place I8x16 j i h = absurd h
low_place I16x8 j i h = omega arith
low_place I32x4 j i h = omega arith
low_place I64x2 j i h = omega arith

high_place : (s : Shape) (j i : ℕ) → IsWide s → count s ≤ i → (2 * j + 1) * count s + (i - count s) ≡ j * count (halved s) + i
high_place I8x16 j i h l = absurd h
high_place I16x8 j i h l = omega arith
high_place I32x4 j i h l = omega arith
high_place I64x2 j i h l = omega arith

rest_room : (s : Shape) (i : ℕ) → IsWide s → i < count (halved s) → count s ≤ i → i - count s < count s
rest_room I8x16 i h q l = absurd h
rest_room I16x8 i h q l = omega arith
rest_room I32x4 i h q l = omega arith
rest_room I64x2 i h q l = omega arith

pub row_joined : (n : ℕ) (s : Shape) (l : ℕ → ℕ) (e : ℕ → Expr) (f : ℕ → ℕ) → IsWide s → IsRow n s l e f → IsRow n (halved s) l (joined s e) (λ p. f p % 2 ^ wide (halved s))
row_joined n s l e f h x j i q r = by (cases_lt i (count s))
  where
    by : (i < count s) ⊎ (count s ≤ i) → lane (halved s) i (value l (joined s e j)) ≡ f (j * count (halved s) + i) % 2 ^ wide (halved s)
    by (inl lt) =
        let at = low_place s j i h in
        joined_low s i (value l (e (2 * j))) (value l (e (2 * j + 1))) h q lt ∙ ap (λ v. v % 2 ^ wide (halved s)) (x (2 * j) i lt (subst (λ p. p < n) (sym at) r) ∙ ap f at)
    by (inr le) =
        let at = high_place s j i h le in
        joined_high s i (value l (e (2 * j))) (value l (e (2 * j + 1))) h q le
        ∙ ap (λ v. v % 2 ^ wide (halved s)) (x (2 * j + 1) (i - count s) (rest_room s i h q le) (subst (λ p. p < n) (sym at) r) ∙ ap f at)

low_half : (s : Shape) (y : ℕ) → IsWide s → y % 2 ^ wide s % 2 ^ wide (halved s) ≡ y % 2 ^ wide (halved s)
low_half I8x16 y h = absurd h
low_half I16x8 y h = mod-mod-pow y 8 8
low_half I32x4 y h = mod-mod-pow y 16 16
low_half I64x2 y h = mod-mod-pow y 32 32

-- lanes that have the low bits of numbers
module _ (n : ℕ) (l : ℕ → ℕ) (g : ℕ → ℕ) where
  abbrev pub IsLow : Shape → (ℕ → Expr) → Type 0
  IsLow s e = IsRow n s l e (λ p. g p % 2 ^ wide s)

  abbrev pub AreShort : Shape → Type 0
  AreShort s = (p : ℕ) → p < n → IsShort s (g p)

  extends : (s : Shape) (e : ℕ → Expr) → IsWide s → AreShort (halved s) → IsLow (halved s) e → IsLow s (extended s e)
  extends s e h short x j i q r = by (nat_eq (j % 2) 0) refl
    where
      by : (b : Bool) → nat_eq (j % 2) 0 ≡ b → lane s i (value l (if b then One (ExtendLow s) (e (j / 2)) else One (ExtendHigh s) (e (j / 2)))) ≡ g (j * count s + i) % 2 ^ wide s
      by true b =
          let at = low_lane s j i h b in
          extended_low s i (value l (e (j / 2))) q
          ∙ ap (signed (wide (halved s)) (wide s)) (x (j / 2) i (low_room s i h q) (subst (λ p. p < n) (sym at) r) ∙ ap (λ p. g p % 2 ^ wide (halved s)) at)
          ∙ wider_lane s (g (j * count s + i)) h (short (j * count s + i) r)
      by false b =
          let at = high_lane s j i h b in
          extended_high s i (value l (e (j / 2))) q
          ∙ ap (signed (wide (halved s)) (wide s)) (x (j / 2) (i + count s) (high_room s i h q) (subst (λ p. p < n) (sym at) r) ∙ ap (λ p. g p % 2 ^ wide (halved s)) at)
          ∙ wider_lane s (g (j * count s + i)) h (short (j * count s + i) r)

  wider : (s : Shape) → IsWide s → AreShort (halved s) → AreShort s
  wider s h short p q = short_wider s (g p) h (short p q)

  widens : (s : Shape) (e : ℕ → Expr) → AreShort I8x16 → IsLow I8x16 e → IsLow s (widened s e)
  widens I8x16 e short x = x
  widens I16x8 e short x = extends I16x8 e tt short x
  widens I32x4 e short x = extends I32x4 (extended I16x8 e) tt (wider I16x8 tt short) (extends I16x8 e tt short x)
  widens I64x2 e short x =
      extends I64x2 (extended I32x4 (extended I16x8 e)) tt (wider I32x4 tt (wider I16x8 tt short)) (extends I32x4 (extended I16x8 e) tt (wider I16x8 tt short) (extends I16x8 e tt short x))

  joins : (s : Shape) (e : ℕ → Expr) → IsWide s → IsLow s e → IsLow (halved s) (joined s e)
  joins s e h x =
      row_same n (halved s) l (joined s e) (λ p. g p % 2 ^ wide s % 2 ^ wide (halved s)) (λ p. g p % 2 ^ wide (halved s)) (λ p q. low_half s (g p) h) (row_joined n s l e (λ p. g p % 2 ^ wide s) h x)

  narrows : (s : Shape) (e : ℕ → Expr) → IsLow s e → IsLow I8x16 (narrowed s e)
  narrows I8x16 e x = x
  narrows I16x8 e x = joins I16x8 e tt x
  narrows I32x4 e x = joins I16x8 (joined I32x4 e) tt (joins I32x4 e tt x)
  narrows I64x2 e x = joins I16x8 (joined I32x4 (joined I64x2 e)) tt (joins I32x4 (joined I64x2 e) tt (joins I64x2 e tt x))

  pub row_resized : (s t : Shape) (e : ℕ → Expr) → AreShort s → IsLow s e → IsLow t (resized_row s t e)
  row_resized s I8x16 e short x = narrows s e x
  row_resized I8x16 I16x8 e short x = widens I16x8 e short x
  row_resized I8x16 I32x4 e short x = widens I32x4 e short x
  row_resized I8x16 I64x2 e short x = widens I64x2 e short x
  row_resized I16x8 I16x8 e short x = x
  row_resized I16x8 I32x4 e short x = extends I32x4 e tt short x
  row_resized I16x8 I64x2 e short x = extends I64x2 (extended I32x4 e) tt (wider I32x4 tt short) (extends I32x4 e tt short x)
  row_resized I32x4 I16x8 e short x = joins I32x4 e tt x
  row_resized I32x4 I32x4 e short x = x
  row_resized I32x4 I64x2 e short x = extends I64x2 e tt short x
  row_resized I64x2 I16x8 e short x = joins I32x4 (joined I64x2 e) tt (joins I64x2 e tt x)
  row_resized I64x2 I32x4 e short x = joins I64x2 e tt x
  row_resized I64x2 I64x2 e short x = x

-- flags
flags_low : (s : Shape) (b : Bool) → flags 64 b % 2 ^ wide s ≡ flags (wide s) b
flags_low I8x16 true = refl
flags_low I8x16 false = refl
flags_low I16x8 true = refl
flags_low I16x8 false = refl
flags_low I32x4 true = refl
flags_low I32x4 false = refl
flags_low I64x2 true = refl
flags_low I64x2 false = refl

flags_short : (b : Bool) → IsShort I8x16 (flags 64 b)
flags_short true = inr (lit≤ tt, lit≤ tt)
flags_short false = inl (lit≤ tt)

as_low : (n : ℕ) (s : Shape) (l : ℕ → ℕ) (e : ℕ → Expr) (m : ℕ → Bool) → IsRow n s l e (λ p. flags (wide s) (m p)) → IsLow n l (λ p. flags 64 (m p)) s e
as_low n s l e m x = row_same n s l e (λ p. flags (wide s) (m p)) (λ p. flags 64 (m p) % 2 ^ wide s) (λ p q. sym (flags_low s (m p))) x

as_flags : (n : ℕ) (s : Shape) (l : ℕ → ℕ) (e : ℕ → Expr) (m : ℕ → Bool) → IsLow n l (λ p. flags 64 (m p)) s e → IsRow n s l e (λ p. flags (wide s) (m p))
as_flags n s l e m x = row_same n s l e (λ p. flags 64 (m p) % 2 ^ wide s) (λ p. flags (wide s) (m p)) (λ p q. flags_low s (m p)) x

pub row_widened : (n : ℕ) (s : Shape) (l : ℕ → ℕ) (e : ℕ → Expr) (m : ℕ → Bool) → IsRow n I8x16 l e (λ p. flags 8 (m p)) → IsRow n s l (widened s e) (λ p. flags (wide s) (m p))
row_widened n s l e m x = as_flags n s l (widened s e) m (widens n l (λ p. flags 64 (m p)) s e (λ p q. flags_short (m p)) (as_low n I8x16 l e m x))

pub row_narrowed : (n : ℕ) (s : Shape) (l : ℕ → ℕ) (e : ℕ → Expr) (m : ℕ → Bool) → IsRow n s l e (λ p. flags (wide s) (m p)) → IsRow n I8x16 l (narrowed s e) (λ p. flags 8 (m p))
row_narrowed n s l e m x = as_flags n I8x16 l (narrowed s e) m (narrows n l (λ p. flags 64 (m p)) s e (as_low n s l e m x))

-- ---- the parts that there are

some_lanes : (s : Shape) → 0 < count s
some_lanes I8x16 = omega arith
some_lanes I16x8 = omega arith
some_lanes I32x4 = omega arith
some_lanes I64x2 = omega arith

-- there are parts for all lanes
pub enough : (w : Setting) (s : Shape) (j k : ℕ) → j * count s + k < gang w → j < parts w s
enough w s j k h = le-div (suc j) (gang w + (count s - 1)) (count s) (some_lanes s) (by s h)
  where
    by : (s : Shape) → j * count s + k < gang w → suc j * count s ≤ gang w + (count s - 1)
    by I8x16 h = omega arith
    by I16x8 h = omega arith
    by I32x4 h = omega arith
    by I64x2 h = omega arith

pub row_present : (w : Setting) (s : Shape) (l : ℕ → ℕ) (e : ℕ → Expr) (f : ℕ → ℕ) → IsRow (gang w) s l e f → IsRow (gang w) s l (present w s e) f
row_present w s l e f x j i q r =
    ap (λ b. lane s i (value l (if b then e j else Const128 0))) (lt-ltb j (parts w s) (enough w s j i r)) ∙ x j i q r
