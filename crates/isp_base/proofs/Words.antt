-- What a word of 64 bits computes for an operator, at bits that fit their element type.
use Rattle.std.proofs.Common.{◌≡◌, refl, sym, ap, ap₂, ◌∙◌, ℕ, ◌+◌, ◌-◌, ◌*◌, ◌/◌, ◌%◌, ◌^◌, ◌<◌, ◌≤◌, Bool, true, false, cond, ℤ, pos, negsuc, ◌+ℤ◌, ◌-ℤ◌, ◌*ℤ◌, nat_lt}
use Rattle.std.proofs.Common.{arith, lit≤, mod-eq_of_lt, bit_and, bit_or, bit_xor, int_div, int_rem, div-le_self, ltb-true, int_lt, ◌==◌}
use Rattle.std.specs.Ordering.{int_eq}
use Rattle.std.proofs.lemmas.Bool.Decides.{Decides-int_eq, Decides-eqb}
use Rattle.std.proofs.Math.Pow.{mod-mod-pow}
use native.Mathlib.Nat.{mod-le, add-mod_right, add-mul-mod_self_right, mod-mod, zero-mod}
use lib.Bits.{and_mask}
use lib.Lanes.{top}
use Rattle.std.specs.Int.{int_shr, int_min, int_max}
use Rattle.isp_base.specs.declared.types.Elem.{Elem}
use Rattle.isp_base.specs.declared.types.Elem.TheVariants.{Bool as Truth, I8, U8, I16, U16, I32, U32, I64, U64}
use Rattle.isp_base.specs.declared.operators.BinOp.{BinOp}
use Rattle.isp_base.specs.declared.operators.BinOp.TheVariants.{Add, Sub, Mul, Div, Rem, And, Or, Xor, Shl, Shr, Min, Max}
use Rattle.isp_base.specs.Values.{width, greatest, number_to, number, wrap_to, wrap, op_bits, outcome_to, amount}
use Rattle.isp_base.specs.Words.{turned, magnitude}
use Rattle.isp_base.proofs.Elems.{width_le, greatest_lt}
use Rattle.std.proofs.lemmas.Int.{ints}
use Rattle.isp_base.proofs.Wraps.{wrap_to-pos, wrap_to-same, widen_is, add_is, sub_is, mul_is, shl_is, and_is, or_is, xor_is, wrap_number}
use Rattle.isp_base.proofs.Signs.{lt_is, min_is, max_is, div_is, rem_is, amount_is, shr_is, differ}

pub not_true : {b : Bool} → (b ≡ true → ⊥) → b ≡ false
not_true {b} h = by b refl
  where
    by : (c : Bool) → b ≡ c → b ≡ false
    by true e = absurd (h e)
    by false e = e

-- 64 bits cut to the width
pub cut : (t : Elem) (n : ℕ) → n % 2 ^ 64 % 2 ^ width t ≡ n % 2 ^ width t
cut Truth n = mod-mod-pow n 63 1
cut I8 n = mod-mod-pow n 56 8
cut U8 n = mod-mod-pow n 56 8
cut I16 n = mod-mod-pow n 48 16
cut U16 n = mod-mod-pow n 48 16
cut I32 n = mod-mod-pow n 32 32
cut U32 n = mod-mod-pow n 32 32
cut I64 n = mod-mod-pow n 0 64
cut U64 n = mod-mod-pow n 0 64

pub low_of : (t : Elem) (n : ℕ) → bit_and (n % 2 ^ 64) (2 ^ width t - 1) ≡ n % 2 ^ width t
low_of t n = and_mask (n % 2 ^ 64) (width t) ∙ cut t n

module _ (t : Elem) (x y : ℕ) (p : x < 2 ^ width t) (q : y < 2 ^ width t) where
  -- bits that fit are read as they are
  plain : (f : ℤ → ℤ → ℤ) → wrap t (f (number t x) (number t y)) ≡ wrap t (f (number_to (width t) (greatest t) x) (number_to (width t) (greatest t) y))
  plain f = ap₂ (λ a b. wrap t (f (number_to (width t) (greatest t) a) (number_to (width t) (greatest t) b))) (mod-eq_of_lt p) (mod-eq_of_lt q)

  pub word_add : bit_and ((x + y) % 2 ^ 64) (2 ^ width t - 1) ≡ op_bits Add t x y
  word_add = low_of t (x + y) ∙ sym (plain (λ a b. a +ℤ b) ∙ add_is (width t) (greatest t) x y)

  pub word_mul : bit_and ((x * y) % 2 ^ 64) (2 ^ width t - 1) ≡ op_bits Mul t x y
  word_mul = low_of t (x * y) ∙ sym (plain (λ a b. a *ℤ b) ∙ mul_is (width t) (greatest t) x y)

  pub word_and : bit_and x y ≡ op_bits And t x y
  word_and = sym (plain (outcome_to (width t) And) ∙ and_is (width t) (greatest t) x y p q)

  pub word_or : bit_or x y ≡ op_bits Or t x y
  word_or = sym (plain (outcome_to (width t) Or) ∙ or_is (width t) (greatest t) x y p q)

  pub word_xor : bit_xor x y ≡ op_bits Xor t x y
  word_xor = sym (plain (outcome_to (width t) Xor) ∙ xor_is (width t) (greatest t) x y p q)

-- 2 ^ 64 is a multiple of each type's modulus
pub multiple : (t : Elem) → (d : ℕ) × (2 ^ 64 ≡ d * 2 ^ width t + 2 ^ width t)
multiple Truth = (2 ^ 63 - 1, refl)
multiple I8 = (2 ^ 56 - 1, refl)
multiple U8 = (2 ^ 56 - 1, refl)
multiple I16 = (2 ^ 48 - 1, refl)
multiple U16 = (2 ^ 48 - 1, refl)
multiple I32 = (2 ^ 32 - 1, refl)
multiple U32 = (2 ^ 32 - 1, refl)
multiple I64 = (0, refl)
multiple U64 = (0, refl)

-- a whole number's bits are the low ones of its residue modulo 2 ^ 64
pub wrap_cut : (t : Elem) (z : ℤ) → wrap_to 64 z % 2 ^ width t ≡ wrap t z
wrap_cut t (pos n) = ap (λ x. x % 2 ^ width t) (wrap_to-pos 64 n) ∙ cut t n ∙ sym (wrap_to-pos (width t) n)
wrap_cut t (negsuc m) =
    let d = multiple t in
    let n = (m + 1) * (2 ^ 64 - 1) in
    let whole = wrap_to-same 64 (negsuc m) (pos n) (m + 1) 0 (omega (arith, ints)) ∙ wrap_to-pos 64 n in
    let times = ap (λ x. (m + 1) * x) d.1 in
    let part = wrap_to-same (width t) (negsuc m) (pos n) ((m + 1) * (d.0 + 1)) 0 (omega (arith, ints)) ∙ wrap_to-pos (width t) n in
    ap (λ x. x % 2 ^ width t) whole ∙ cut t n ∙ sym part

-- x - y in 64 bits, cut
pub word_minus : (t : Elem) (x y : ℕ) → y ≤ 2 ^ width t → bit_and ((x + (2 ^ 64 - y)) % 2 ^ 64) (2 ^ width t - 1) ≡ (x + (2 ^ width t - y)) % 2 ^ width t
word_minus t x y h =
    let d = multiple t in
    let e : x + (2 ^ 64 - y) ≡ (x + (2 ^ width t - y)) + d.0 * 2 ^ width t = omega (arith, d.1) in
    low_of t (x + (2 ^ 64 - y)) ∙ ap (λ n. n % 2 ^ width t) e ∙ add-mul-mod_self_right (x + (2 ^ width t - y)) d.0 (2 ^ width t)

-- x - y in 64 bits, where it does not wrap
pub exact : (x y : ℕ) → x < 2 ^ 64 → y ≤ x → (x + (2 ^ 64 - y)) % 2 ^ 64 ≡ x - y
exact x y h l =
    let e : x + (2 ^ 64 - y) ≡ (x - y) + 2 ^ 64 = omega arith in
    ap (λ n. n % 2 ^ 64) e ∙ add-mod_right (x - y) (2 ^ 64) ∙ mod-eq_of_lt (omega arith)

-- a mask's lane, as a test
pub set_top : (b : Bool) → top 63 (cond b (2 ^ 64 - 1) 0) ≡ b
set_top true = refl
set_top false = refl

-- a shift's amount
pub word_amount : (t : Elem) (y : ℕ) → bit_and y (width t - 1) ≡ amount (width t) (number_to (width t) (greatest t) y)
word_amount Truth y = and_mask y 0 ∙ sym (amount_is 1 1 y 2 (lit≤ tt) refl)
word_amount I8 y = and_mask y 3 ∙ sym (amount_is 8 (2 ^ 7 - 1) y 32 (lit≤ tt) refl)
word_amount U8 y = and_mask y 3 ∙ sym (amount_is 8 (2 ^ 8 - 1) y 32 (lit≤ tt) refl)
word_amount I16 y = and_mask y 4 ∙ sym (amount_is 16 (2 ^ 15 - 1) y (2 ^ 12) (lit≤ tt) refl)
word_amount U16 y = and_mask y 4 ∙ sym (amount_is 16 (2 ^ 16 - 1) y (2 ^ 12) (lit≤ tt) refl)
word_amount I32 y = and_mask y 5 ∙ sym (amount_is 32 (2 ^ 31 - 1) y (2 ^ 27) (lit≤ tt) refl)
word_amount U32 y = and_mask y 5 ∙ sym (amount_is 32 (2 ^ 32 - 1) y (2 ^ 27) (lit≤ tt) refl)
word_amount I64 y = and_mask y 6 ∙ sym (amount_is 64 (2 ^ 63 - 1) y (2 ^ 58) (lit≤ tt) refl)
word_amount U64 y = and_mask y 6 ∙ sym (amount_is 64 (2 ^ 64 - 1) y (2 ^ 58) (lit≤ tt) refl)

pub amount_lt : (t : Elem) (y : ℕ) → bit_and y (width t - 1) < 64
amount_lt Truth y = omega (arith, and_mask y 0)
amount_lt I8 y = omega (arith, and_mask y 3)
amount_lt U8 y = omega (arith, and_mask y 3)
amount_lt I16 y = omega (arith, and_mask y 4)
amount_lt U16 y = omega (arith, and_mask y 4)
amount_lt I32 y = omega (arith, and_mask y 5)
amount_lt U32 y = omega (arith, and_mask y 5)
amount_lt I64 y = omega (arith, and_mask y 6)
amount_lt U64 y = omega (arith, and_mask y 6)

-- the order's turn, in 64 bits
pub word_turned : (t : Elem) (x : ℕ) → bit_and ((x + (2 ^ width t - 1 - greatest t)) % 2 ^ 64) (2 ^ width t - 1) ≡ turned (width t) (greatest t) x
word_turned t x = low_of t (x + (2 ^ width t - 1 - greatest t))

-- the negative of a word
pub word_negate : (t : Elem) (x : ℕ) → x ≤ 2 ^ width t → bit_and ((0 + (2 ^ 64 - x)) % 2 ^ 64) (2 ^ width t - 1) ≡ (2 ^ width t - x) % 2 ^ width t
word_negate t x h = word_minus t 0 x h ∙ ap (λ n. n % 2 ^ width t) (omega arith)

pub magnitude_lt : (t : Elem) (x : ℕ) → x < 2 ^ width t → magnitude (width t) (greatest t) x < 2 ^ width t
magnitude_lt t x p = by (nat_lt (greatest t) x) refl
  where
    by : (b : Bool) → nat_lt (greatest t) x ≡ b → cond b (2 ^ width t - x) x < 2 ^ width t
    by true e = omega (arith, ltb-true (greatest t) x e)
    by false e = p

pub word_magnitude : (t : Elem) (x : ℕ) → x < 2 ^ width t → cond (nat_lt (greatest t) x) ((2 ^ width t - x) % 2 ^ width t) x ≡ magnitude (width t) (greatest t) x
word_magnitude t x p = by (nat_lt (greatest t) x) refl
  where
    by : (b : Bool) → nat_lt (greatest t) x ≡ b → cond b ((2 ^ width t - x) % 2 ^ width t) x ≡ cond b (2 ^ width t - x) x
    by true e = mod-eq_of_lt (omega (arith, ltb-true (greatest t) x e))
    by false e = refl

module _ (t : Elem) (x y : ℕ) (p : x < 2 ^ width t) (q : y < 2 ^ width t) where
  pub word_sub : bit_and ((x + (2 ^ 64 - y)) % 2 ^ 64) (2 ^ width t - 1) ≡ op_bits Sub t x y
  word_sub = word_minus t x y (omega arith) ∙ sym (plain t x y p q (λ a b. a -ℤ b) ∙ sub_is (width t) (greatest t) x y (omega arith))

  pub word_shl : bit_and ((x * 2 ^ bit_and y (width t - 1)) % 2 ^ 64) (2 ^ width t - 1) ≡ op_bits Shl t x y
  word_shl =
      let k = bit_and y (width t - 1) in
      low_of t (x * 2 ^ k) ∙ sym (shl_is (width t) (greatest t) x (2 ^ k)) ∙ ap (λ n. wrap t (number_to (width t) (greatest t) x *ℤ pos (2 ^ n))) (word_amount t y)
      ∙ sym (plain t x y p q (outcome_to (width t) Shl))

  -- a negative number's shift, on the complement
  pub word_shr : cond (nat_lt (greatest t) x) (2 ^ width t - 1 - (2 ^ width t - 1 - x) / 2 ^ bit_and y (width t - 1)) (x / 2 ^ bit_and y (width t - 1)) ≡ op_bits Shr t x y
  word_shr =
      let k = bit_and y (width t - 1) in
      sym (shr_is (width t) (greatest t) x k p) ∙ ap (λ n. wrap t (int_shr (number_to (width t) (greatest t) x) n)) (word_amount t y)
      ∙ sym (plain t x y p q (outcome_to (width t) Shr))

  pub word_min : cond (nat_lt (turned (width t) (greatest t) y) (turned (width t) (greatest t) x)) y x ≡ op_bits Min t x y
  word_min = sym (plain t x y p q int_min ∙ min_is (width t) (greatest t) x y (greatest_lt t) p q)

  pub word_max : cond (nat_lt (turned (width t) (greatest t) y) (turned (width t) (greatest t) x)) x y ≡ op_bits Max t x y
  word_max = sym (plain t x y p q int_max ∙ max_is (width t) (greatest t) x y (greatest_lt t) p q)

  quotient_lt : magnitude (width t) (greatest t) x / magnitude (width t) (greatest t) y < 2 ^ width t
  quotient_lt = omega (arith, div-le_self (magnitude (width t) (greatest t) x) (magnitude (width t) (greatest t) y), magnitude_lt t x p)

  rest_lt : magnitude (width t) (greatest t) x % magnitude (width t) (greatest t) y < 2 ^ width t
  rest_lt = omega (arith, mod-le (magnitude (width t) (greatest t) x) (magnitude (width t) (greatest t) y), magnitude_lt t x p)

  pub word_div : 0 < y → cond (differ (nat_lt (greatest t) x) (nat_lt (greatest t) y))
      ((2 ^ width t - magnitude (width t) (greatest t) x / magnitude (width t) (greatest t) y) % 2 ^ width t)
      (magnitude (width t) (greatest t) x / magnitude (width t) (greatest t) y) ≡ op_bits Div t x y
  word_div h =
      ap (cond (differ (nat_lt (greatest t) x) (nat_lt (greatest t) y)) _) (sym (mod-eq_of_lt quotient_lt))
      ∙ sym (plain t x y p q int_div ∙ div_is (width t) (greatest t) x y p q h)

  pub word_rem : 0 < y → cond (nat_lt (greatest t) x)
      ((2 ^ width t - magnitude (width t) (greatest t) x % magnitude (width t) (greatest t) y) % 2 ^ width t)
      (magnitude (width t) (greatest t) x % magnitude (width t) (greatest t) y) ≡ op_bits Rem t x y
  word_rem h =
      ap (cond (nat_lt (greatest t) x) _) (sym (mod-eq_of_lt rest_lt))
      ∙ sym (plain t x y p q int_rem ∙ rem_is (width t) (greatest t) x y p q h)

-- the answer of a comparison, from the bits
module _ (t : Elem) (x y : ℕ) (p : x < 2 ^ width t) (q : y < 2 ^ width t) where
  -- bits that fit are the same where the numbers are
  pub same_number : int_eq (number t x) (number t y) ≡ (x == y)
  same_number = ap₂ (λ a b. int_eq (number_to (width t) (greatest t) a) (number_to (width t) (greatest t) b)) (mod-eq_of_lt p) (mod-eq_of_lt q) ∙ by (x == y) refl
    where
      n : ℕ → ℤ
      n = number_to (width t) (greatest t)

      by : (b : Bool) → (x == y) ≡ b → int_eq (n x) (n y) ≡ b
      by true e = (Decides-int_eq (n x) (n y)).1 (ap n ((Decides-eqb x y).0 e))
      by false e = not_true (λ h. cc (sym e, (Decides-eqb x y).1 (sym (wrap_number (width t) (greatest t) x p) ∙ ap (wrap_to (width t)) ((Decides-int_eq (n x) (n y)).0 h) ∙ wrap_number (width t) (greatest t) y q)))

  pub word_less : nat_lt (turned (width t) (greatest t) x) (turned (width t) (greatest t) y) ≡ int_lt (number t x) (number t y)
  word_less = sym (ap₂ (λ a b. int_lt (number_to (width t) (greatest t) a) (number_to (width t) (greatest t) b)) (mod-eq_of_lt p) (mod-eq_of_lt q) ∙ lt_is (width t) (greatest t) x y (greatest_lt t) p q)

-- a conversion's lane: the bits with their sign spread to 64 bits, cut to the new type
pub word_spread : (t v : Elem) (x : ℕ) → x < 2 ^ width t → bit_and (cond (nat_lt (greatest t) x) ((x + (2 ^ 64 - 2 ^ width t)) % 2 ^ 64) x) (2 ^ width v - 1) ≡ wrap v (number t x)
word_spread t v x p = by (nat_lt (greatest t) x) refl
  where
    d : (d : ℕ) × (2 ^ 64 ≡ d * 2 ^ width v + 2 ^ width v)
    d = multiple v

    is : wrap v (number t x) ≡ cond (nat_lt (greatest t) x) (x + (2 ^ 64 - 2 ^ width t)) x % 2 ^ width v
    is = ap (λ a. wrap v (number_to (width t) (greatest t) a)) (mod-eq_of_lt p) ∙ widen_is (width v) (width t) (greatest t) x (d.0 + 1) (omega (arith, d.1)) (width_le t)

    by : (b : Bool) → nat_lt (greatest t) x ≡ b → bit_and (cond b ((x + (2 ^ 64 - 2 ^ width t)) % 2 ^ 64) x) (2 ^ width v - 1) ≡ wrap v (number t x)
    by true e = low_of v (x + (2 ^ 64 - 2 ^ width t)) ∙ ap (λ b. cond b (x + (2 ^ 64 - 2 ^ width t)) x % 2 ^ width v) (sym e) ∙ sym is
    by false e = and_mask x (width v) ∙ ap (λ b. cond b (x + (2 ^ 64 - 2 ^ width t)) x % 2 ^ width v) (sym e) ∙ sym is

-- the low bits are what an operator reads
pub low_op : (op : BinOp) (t : Elem) (x y : ℕ) → op_bits op t (x % 2 ^ width t) (y % 2 ^ width t) ≡ op_bits op t x y
low_op op t x y = ap₂ (λ a b. wrap t (outcome_to (width t) op (number_to (width t) (greatest t) a) (number_to (width t) (greatest t) b))) (mod-mod x (2 ^ width t)) (mod-mod y (2 ^ width t))

pub zero_number : (t : Elem) (b : ℕ) → b < 2 ^ width t → number_to (width t) (greatest t) b ≡ pos 0 → b ≡ 0
zero_number t b p e = sym (wrap_number (width t) (greatest t) b p) ∙ ap (wrap_to (width t)) e ∙ wrap_to-pos (width t) 0 ∙ zero-mod (2 ^ width t)
