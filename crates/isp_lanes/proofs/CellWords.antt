-- What one lane of a kernel computes, in words of the width w that the element type takes.
use Rattle.std.proofs.Common.{List, [], ◌∷◌, map, length, replicate, zero, suc, not, bit_xor, div-le_self, pow_pos, ltb-false, mod-eq_of_lt, ◌≡◌, refl, sym, ap, ap₂, ◌∙◌, ℕ, ◌+◌, ◌-◌, ◌*◌}
use Rattle.std.proofs.Common.{◌/◌, ◌%◌, ◌^◌, ◌<◌, ◌≤◌, Bool, true, false, cond, nat_lt, ◌==◌, arith, lit≤, bit_and, subst, lt-ltb, le-ltb, ltb-true}
use Rattle.std.proofs.Math.Nat.{zero-mod}
use Rattle.std.proofs.Math.Pow.{mod-mod-pow}
use native.Mathlib.Nat.{add-mul-mod_self_right}
use lib.Bits.{and_mask}
use Rattle.std.specs.Int.Bits.{xor_add_and, xor_zero_r, and_zero_r}
use Rattle.std.proofs.lemmas.Nat.{and_block}
use Rattle.isp_base.specs.declared.types.Elem.{Elem}
use Rattle.isp_base.specs.declared.types.Elem.TheVariants.{Bool as Truth, I8, U8, I16, U16, I32, U32, I64, U64}
use Rattle.isp_base.specs.declared.operators.BinOp.TheVariants.{Add, Sub, Mul, Div, Rem, Shl, Shr, Min, Max}
use Rattle.isp_base.specs.Values.{width, greatest, op_bits, wrap, number, number_to, not_zero}
use Rattle.isp_base.specs.declared.operators.UnaryOp.{UnaryOp}
use Rattle.isp_base.specs.declared.operators.UnaryOp.TheVariants.{Negate, Invert, Absolute, Not}
use Rattle.isp_base.specs.Unary.{unary_to, unary_bits}
use Rattle.isp_base.specs.Words.{turned, magnitude}
use Rattle.isp_base.specs.Cells.{cell_width}
use Rattle.isp_base.proofs.Unaries.{negate_is, invert_is, absolute_is, not_is}
use Rattle.isp_base.proofs.Signs.{differ}
use Rattle.isp_base.proofs.Words.{low_of, word_add, word_sub, word_mul, word_minus, word_shl, word_shr, word_div, word_rem, word_min, word_max, word_magnitude}
use Rattle.isp_base.proofs.Converts.{truth_is}
use Rattle.isp_base.proofs.Unaries.{bit_of}
use Rattle.isp_base.proofs.Words.{word_spread}
use Rattle.isp_lanes.proofs.Flags.{on_is}
use Rattle.isp_lanes.specs.Lanes.{is_on}
use Rattle.isp_lanes.specs.Held.{is_truth}
use Rattle.std.proofs.lemmas.Bool.{false≢true, true≢false}

-- ---- the room that a type takes

room : (t : Elem) → 2 ^ width t ≤ 2 ^ cell_width t
room Truth = lit≤ tt
room I8 = lit≤ tt
room U8 = lit≤ tt
room I16 = lit≤ tt
room U16 = lit≤ tt
room I32 = lit≤ tt
room U32 = lit≤ tt
room I64 = lit≤ tt
room U64 = lit≤ tt

pub some_bits : (t : Elem) → 1 < 2 ^ width t
some_bits Truth = lit≤ tt
some_bits I8 = lit≤ tt
some_bits U8 = lit≤ tt
some_bits I16 = lit≤ tt
some_bits U16 = lit≤ tt
some_bits I32 = lit≤ tt
some_bits U32 = lit≤ tt
some_bits I64 = lit≤ tt
some_bits U64 = lit≤ tt

multiple : (t : Elem) → (d : ℕ) × (2 ^ cell_width t ≡ d * 2 ^ width t + 2 ^ width t)
multiple Truth = (127, refl)
multiple I8 = (0, refl)
multiple U8 = (0, refl)
multiple I16 = (0, refl)
multiple U16 = (0, refl)
multiple I32 = (0, refl)
multiple U32 = (0, refl)
multiple I64 = (0, refl)
multiple U64 = (0, refl)

cut : (t : Elem) (n : ℕ) → n % 2 ^ cell_width t % 2 ^ width t ≡ n % 2 ^ width t
cut Truth n = mod-mod-pow n 7 1
cut I8 n = mod-mod-pow n 0 8
cut U8 n = mod-mod-pow n 0 8
cut I16 n = mod-mod-pow n 0 16
cut U16 n = mod-mod-pow n 0 16
cut I32 n = mod-mod-pow n 0 32
cut U32 n = mod-mod-pow n 0 32
cut I64 n = mod-mod-pow n 0 64
cut U64 n = mod-mod-pow n 0 64

amount_in : (t : Elem) (y : ℕ) → bit_and y (width t - 1) < cell_width t
amount_in Truth y = omega (arith, and_mask y 0)
amount_in I8 y = omega (arith, and_mask y 3)
amount_in U8 y = omega (arith, and_mask y 3)
amount_in I16 y = omega (arith, and_mask y 4)
amount_in U16 y = omega (arith, and_mask y 4)
amount_in I32 y = omega (arith, and_mask y 5)
amount_in U32 y = omega (arith, and_mask y 5)
amount_in I64 y = omega (arith, and_mask y 6)
amount_in U64 y = omega (arith, and_mask y 6)

twos : (t : Elem) → (k : ℕ) × (2 ^ cell_width t ≡ 2 * k + 2)
twos Truth = (2 ^ 7 - 1, refl)
twos I8 = (2 ^ 7 - 1, refl)
twos U8 = (2 ^ 7 - 1, refl)
twos I16 = (2 ^ 15 - 1, refl)
twos U16 = (2 ^ 15 - 1, refl)
twos I32 = (2 ^ 31 - 1, refl)
twos U32 = (2 ^ 31 - 1, refl)
twos I64 = (2 ^ 63 - 1, refl)
twos U64 = (2 ^ 63 - 1, refl)

-- a type with negative values takes as many bits as it has
negative_full : (t : Elem) (x : ℕ) → x < 2 ^ width t → nat_lt (greatest t) x ≡ true → cell_width t ≡ width t
negative_full Truth x p e = absurd (omega (arith, ltb-true 1 x e))
negative_full I8 x p e = refl
negative_full U8 x p e = refl
negative_full I16 x p e = refl
negative_full U16 x p e = refl
negative_full I32 x p e = refl
negative_full U32 x p e = refl
negative_full I64 x p e = refl
negative_full U64 x p e = refl

-- ---- a truth

-- read back
pub on_truth : (w : ℕ) → 1 < 2 ^ w → (b : Bool) → is_on (cond b (2 ^ w - 1) 0) ≡ b
on_truth w h true = lt-ltb 0 (2 ^ w - 1) (omega arith)
on_truth w h false = refl

pub inverse_truth : (w : ℕ) (b : Bool) → 2 ^ w - 1 - cond b (2 ^ w - 1) 0 ≡ cond (not b) (2 ^ w - 1) 0
inverse_truth w true = omega arith
inverse_truth w false = omega arith

-- ---- words of the width that a type takes

module _ (w : ℕ) (t : Elem) (e : w ≡ cell_width t) where
  pub w_room : 2 ^ width t ≤ 2 ^ w
  w_room = subst (λ n. 2 ^ width t ≤ 2 ^ n) (sym e) (room t)

  pub w_some : 1 < 2 ^ w
  w_some = omega (arith, w_room, some_bits t)

  pub amount_lt_w : (y : ℕ) → bit_and y (width t - 1) < w
  amount_lt_w y = subst (λ n. bit_and y (width t - 1) < n) (sym e) (amount_in t y)

  low_at : (n : ℕ) → bit_and (n % 2 ^ w) (2 ^ width t - 1) ≡ n % 2 ^ width t
  low_at n = and_mask (n % 2 ^ w) (width t) ∙ subst (λ l. n % 2 ^ l % 2 ^ width t ≡ n % 2 ^ width t) (sym e) (cut t n)

  -- as in 64 bits
  same_low : (n : ℕ) → bit_and (n % 2 ^ w) (2 ^ width t - 1) ≡ bit_and (n % 2 ^ 64) (2 ^ width t - 1)
  same_low n = low_at n ∙ sym (low_of t n)

  minus_at : (x y : ℕ) → y ≤ 2 ^ width t → bit_and ((x + (2 ^ w - y)) % 2 ^ w) (2 ^ width t - 1) ≡ (x + (2 ^ width t - y)) % 2 ^ width t
  minus_at x y h =
      let d : (d : ℕ) × (2 ^ w ≡ d * 2 ^ width t + 2 ^ width t) = subst (λ n. (d : ℕ) × (2 ^ n ≡ d * 2 ^ width t + 2 ^ width t)) (sym e) (multiple t) in
      let same : x + (2 ^ w - y) ≡ (x + (2 ^ width t - y)) + d.0 * 2 ^ width t = omega (arith, d.1) in
      low_at (x + (2 ^ w - y)) ∙ ap (λ n. n % 2 ^ width t) same ∙ add-mul-mod_self_right (x + (2 ^ width t - y)) d.0 (2 ^ width t)

  -- the complement of a negative number, and what is not negative
  complement : (x m : ℕ) → x < 2 ^ width t → (n : ℕ) → cond (nat_lt (greatest t) x) (2 ^ w - 1 - n) m ≡ cond (nat_lt (greatest t) x) (2 ^ width t - 1 - n) m
  complement x m p n = by (nat_lt (greatest t) x) refl
    where
      by : (b : Bool) → nat_lt (greatest t) x ≡ b → cond b (2 ^ w - 1 - n) m ≡ cond b (2 ^ width t - 1 - n) m
      by true d = ap (λ l. 2 ^ l - 1 - n) (e ∙ negative_full t x p d)
      by false d = refl

  once : (b : Bool) (h : ℕ → ℕ) (u v k : ℕ) → cond b (h (cond b u v / 2 ^ k)) (cond b u v / 2 ^ k) ≡ cond b (h (u / 2 ^ k)) (v / 2 ^ k)
  once true h u v k = refl
  once false h u v k = refl

  -- a truth turns all bits or none
  xor_truth : (b : Bool) (n : ℕ) → n < 2 ^ w → bit_xor n (cond b (2 ^ w - 1) 0) ≡ cond b (2 ^ w - 1 - n) n
  xor_truth true n p =
      let all : bit_and n (2 ^ w - 1) ≡ n = and_mask n w ∙ mod-eq_of_lt p in
      omega (arith, xor_add_and n (2 ^ w - 1), all, p)
  xor_truth false n p = xor_zero_r n

  turned_in : (b : Bool) (n : ℕ) → n < 2 ^ w → cond b (2 ^ w - 1 - n) n < 2 ^ w
  turned_in true n p = omega (arith, p)
  turned_in false n p = p

  -- the sign's truth
  pub sign : ℕ → ℕ
  sign x = cond (nat_lt (greatest t) x) (2 ^ w - 1) 0

  pub sign_is : (x : ℕ) → is_on (cond (nat_lt (greatest t) x) (2 ^ w - 1) 0) ≡ nat_lt (greatest t) x
  sign_is x = on_truth w w_some (nat_lt (greatest t) x)

  module _ (x y : ℕ) (p : x < 2 ^ width t) (q : y < 2 ^ width t) where
    pub lane_add : bit_and ((x + y) % 2 ^ w) (2 ^ width t - 1) ≡ op_bits Add t x y
    lane_add = same_low (x + y) ∙ word_add t x y p q

    pub lane_sub : bit_and ((x + (2 ^ w - y)) % 2 ^ w) (2 ^ width t - 1) ≡ op_bits Sub t x y
    lane_sub = minus_at x y (omega arith) ∙ sym (word_minus t x y (omega arith)) ∙ word_sub t x y p q

    pub lane_mul : bit_and ((x * y) % 2 ^ w) (2 ^ width t - 1) ≡ op_bits Mul t x y
    lane_mul = same_low (x * y) ∙ word_mul t x y p q

    pub lane_shl : bit_and ((x * 2 ^ bit_and y (width t - 1)) % 2 ^ w) (2 ^ width t - 1) ≡ op_bits Shl t x y
    lane_shl = same_low (x * 2 ^ bit_and y (width t - 1)) ∙ word_shl t x y p q

    pub lane_shr : bit_xor (bit_xor x (cond (nat_lt (greatest t) x) (2 ^ w - 1) 0) / 2 ^ bit_and y (width t - 1)) (cond (nat_lt (greatest t) x) (2 ^ w - 1) 0) ≡ op_bits Shr t x y
    lane_shr =
        let k = bit_and y (width t - 1) in
        let b = nat_lt (greatest t) x in
        let inside : x < 2 ^ w = omega (arith, w_room, p) in
        let half : cond b (2 ^ w - 1 - x) x / 2 ^ k < 2 ^ w = omega (arith, div-le_self (cond b (2 ^ w - 1 - x) x) (2 ^ k), turned_in b x inside) in
        ap (λ n. bit_xor (n / 2 ^ k) (cond b (2 ^ w - 1) 0)) (xor_truth b x inside)
        ∙ xor_truth b (cond b (2 ^ w - 1 - x) x / 2 ^ k) half
        ∙ ap (λ n. cond b (2 ^ w - 1 - n / 2 ^ k) (n / 2 ^ k)) (complement x x p x)
        ∙ once b (λ n. 2 ^ w - 1 - n) (2 ^ width t - 1 - x) x k
        ∙ complement x (x / 2 ^ k) p ((2 ^ width t - 1 - x) / 2 ^ k)
        ∙ word_shr t x y p q

    pub lane_min : cond (is_on (cond (nat_lt (turned (width t) (greatest t) y) (turned (width t) (greatest t) x)) (2 ^ w - 1) 0)) y x ≡ op_bits Min t x y
    lane_min = ap (λ b. cond b y x) (on_truth w w_some _) ∙ word_min t x y p q

    pub lane_max : cond (is_on (cond (nat_lt (turned (width t) (greatest t) y) (turned (width t) (greatest t) x)) (2 ^ w - 1) 0)) x y ≡ op_bits Max t x y
    lane_max = ap (λ b. cond b x y) (on_truth w w_some _) ∙ word_max t x y p q

  pub lane_invert : (x : ℕ) → x < 2 ^ width t → bit_and (2 ^ w - 1 - x) (2 ^ width t - 1) ≡ unary_bits Invert t x
  lane_invert x p =
      let d : (d : ℕ) × (2 ^ w ≡ d * 2 ^ width t + 2 ^ width t) = subst (λ n. (d : ℕ) × (2 ^ n ≡ d * 2 ^ width t + 2 ^ width t)) (sym e) (multiple t) in
      let same : 2 ^ w - 1 - x ≡ (2 ^ width t - 1 - x) + d.0 * 2 ^ width t = omega (arith, d.1) in
      and_mask (2 ^ w - 1 - x) (width t) ∙ ap (λ n. n % 2 ^ width t) same ∙ add-mul-mod_self_right (2 ^ width t - 1 - x) d.0 (2 ^ width t) ∙ mod-eq_of_lt (omega arith)
      ∙ sym (ap (λ a. wrap t (unary_to Invert (number_to (width t) (greatest t) a))) (mod-eq_of_lt p) ∙ invert_is (width t) (greatest t) x p)

  -- a truth of words that are 0, cut to one bit
  pub lane_not : (x : ℕ) → x < 2 ^ width t → bit_and (cond (x == 0) (2 ^ w - 1) 0) 1 ≡ unary_bits Not t x
  lane_not x p =
      by (x == 0)
      ∙ sym (ap (λ a. wrap t (unary_to Not (number_to (width t) (greatest t) a))) (mod-eq_of_lt p) ∙ not_is t x p)
    where
      odd : (k : ℕ) × (2 ^ w ≡ 2 * k + 2)
      odd = subst (λ n. (k : ℕ) × (2 ^ n ≡ 2 * k + 2)) (sym e) (twos t)

      by : (b : Bool) → bit_and (cond b (2 ^ w - 1) 0) 1 ≡ cond b 1 0
      by true = and_mask (2 ^ w - 1) 1 ∙ ap (λ n. n % 2 ^ 1) (omega (arith, odd.1)) ∙ add-mul-mod_self_right 1 odd.0 2
      by false = refl

  pub lane_negate : (x : ℕ) → x < 2 ^ width t → bit_and ((0 + (2 ^ w - x)) % 2 ^ w) (2 ^ width t - 1) ≡ (2 ^ width t - x) % 2 ^ width t
  lane_negate x p = minus_at 0 x (omega arith) ∙ ap (λ n. n % 2 ^ width t) (omega arith)

  pub lane_magnitude : (x : ℕ) → x < 2 ^ width t → cond (is_on (cond (nat_lt (greatest t) x) (2 ^ w - 1) 0)) ((2 ^ width t - x) % 2 ^ width t) x ≡ magnitude (width t) (greatest t) x
  lane_magnitude x p = ap (λ b. cond b ((2 ^ width t - x) % 2 ^ width t) x) (sign_is x) ∙ word_magnitude t x p

  turn_twice : (s r : Bool) (q n : ℕ) → cond s (cond r q n) (cond r n q) ≡ cond (differ s r) n q
  turn_twice true true q n = refl
  turn_twice true false q n = refl
  turn_twice false true q n = refl
  turn_twice false false q n = refl

  module _ (x y : ℕ) (p : x < 2 ^ width t) (q : y < 2 ^ width t) (h : 0 < y) where
    pub lane_div : cond (is_on (cond (nat_lt (greatest t) x) (2 ^ w - 1) 0))
        (cond (is_on (cond (nat_lt (greatest t) y) (2 ^ w - 1) 0)) (magnitude (width t) (greatest t) x / magnitude (width t) (greatest t) y) ((2 ^ width t - magnitude (width t) (greatest t) x / magnitude (width t) (greatest t) y) % 2 ^ width t))
        (cond (is_on (cond (nat_lt (greatest t) y) (2 ^ w - 1) 0)) ((2 ^ width t - magnitude (width t) (greatest t) x / magnitude (width t) (greatest t) y) % 2 ^ width t) (magnitude (width t) (greatest t) x / magnitude (width t) (greatest t) y))
        ≡ op_bits Div t x y
    lane_div =
        let n = magnitude (width t) (greatest t) x / magnitude (width t) (greatest t) y in
        let m = (2 ^ width t - n) % 2 ^ width t in
        ap₂ (λ a b. cond a (cond b n m) (cond b m n)) (sign_is x) (sign_is y)
        ∙ turn_twice (nat_lt (greatest t) x) (nat_lt (greatest t) y) n m ∙ word_div t x y p q h

    pub lane_rem : cond (is_on (cond (nat_lt (greatest t) x) (2 ^ w - 1) 0))
        ((2 ^ width t - magnitude (width t) (greatest t) x % magnitude (width t) (greatest t) y) % 2 ^ width t)
        (magnitude (width t) (greatest t) x % magnitude (width t) (greatest t) y) ≡ op_bits Rem t x y
    lane_rem =
        let n = magnitude (width t) (greatest t) x % magnitude (width t) (greatest t) y in
        ap (λ a. cond a ((2 ^ width t - n) % 2 ^ width t) n) (sign_is x) ∙ word_rem t x y p q h

-- ---- turned words

turned_signed : (t : Elem) (x : ℕ) → nat_lt (greatest t) (2 ^ width t - 1) ≡ true → (x + 2 ^ (cell_width t - 1)) % 2 ^ cell_width t ≡ turned (width t) (greatest t) x
turned_signed Truth x e = absurd cc
turned_signed I8 x e = refl
turned_signed U8 x e = absurd cc
turned_signed I16 x e = refl
turned_signed U16 x e = absurd cc
turned_signed I32 x e = refl
turned_signed U32 x e = absurd cc
turned_signed I64 x e = refl
turned_signed U64 x e = absurd cc

pub turned_is : (w : ℕ) (t : Elem) → w ≡ cell_width t → nat_lt (greatest t) (2 ^ width t - 1) ≡ true → (x : ℕ) → (x + 2 ^ (w - 1)) % 2 ^ w ≡ turned (width t) (greatest t) x
turned_is w t e s x = subst (λ n. (x + 2 ^ (n - 1)) % 2 ^ n ≡ turned (width t) (greatest t) x) (sym e) (turned_signed t x s)

unmoved : (m x : ℕ) → x < m → x ≡ (x + 0) % m
unmoved m x p = let same : x + 0 ≡ x = omega arith in sym (ap (λ n. n % m) same ∙ mod-eq_of_lt p)

pub unturned : (t : Elem) → nat_lt (greatest t) (2 ^ width t - 1) ≡ false → (x : ℕ) → x < 2 ^ width t → x ≡ turned (width t) (greatest t) x
unturned Truth e x p = unmoved (2 ^ 1) x p
unturned I8 e x p = absurd cc
unturned U8 e x p = unmoved (2 ^ 8) x p
unturned I16 e x p = absurd cc
unturned U16 e x p = unmoved (2 ^ 16) x p
unturned I32 e x p = absurd cc
unturned U32 e x p = unmoved (2 ^ 32) x p
unturned I64 e x p = absurd cc
unturned U64 e x p = unmoved (2 ^ 64) x p

greatest_signed : (t : Elem) → nat_lt (greatest t) (2 ^ width t - 1) ≡ true → 2 ^ (cell_width t - 1) - 1 ≡ greatest t
greatest_signed Truth e = absurd cc
greatest_signed I8 e = refl
greatest_signed U8 e = absurd cc
greatest_signed I16 e = refl
greatest_signed U16 e = absurd cc
greatest_signed I32 e = refl
greatest_signed U32 e = absurd cc
greatest_signed I64 e = refl
greatest_signed U64 e = absurd cc

pub greatest_is : (w : ℕ) (t : Elem) → w ≡ cell_width t → nat_lt (greatest t) (2 ^ width t - 1) ≡ true → 2 ^ (w - 1) - 1 ≡ greatest t
greatest_is w t e s = subst (λ n. 2 ^ (n - 1) - 1 ≡ greatest t) (sym e) (greatest_signed t s)

-- no bits of an unsigned type stand for a negative number
pub no_sign : (t : Elem) → nat_lt (greatest t) (2 ^ width t - 1) ≡ false → (x : ℕ) → x < 2 ^ width t → nat_lt (greatest t) x ≡ false
no_sign Truth e x p = le-ltb 1 x (omega arith)
no_sign I8 e x p = absurd cc
no_sign U8 e x p = le-ltb (2 ^ 8 - 1) x (omega arith)
no_sign I16 e x p = absurd cc
no_sign U16 e x p = le-ltb (2 ^ 16 - 1) x (omega arith)
no_sign I32 e x p = absurd cc
no_sign U32 e x p = le-ltb (2 ^ 32 - 1) x (omega arith)
no_sign I64 e x p = absurd cc
no_sign U64 e x p = le-ltb (2 ^ 64 - 1) x (omega arith)

-- a type other than bool fills its words
pub filled : (t : Elem) → (t ≡ Truth → ⊥) → cell_width t ≡ width t
filled Truth n = absurd (n refl)
filled I8 n = refl
filled U8 n = refl
filled I16 n = refl
filled U16 n = refl
filled I32 n = refl
filled U32 n = refl
filled I64 n = refl
filled U64 n = refl

-- the type that is told to be bool
pub is_the_truth : (t : Elem) → is_truth t ≡ true → t ≡ Truth
is_the_truth Truth e = refl
is_the_truth I8 e = absurd (false≢true e)
is_the_truth U8 e = absurd (false≢true e)
is_the_truth I16 e = absurd (false≢true e)
is_the_truth U16 e = absurd (false≢true e)
is_the_truth I32 e = absurd (false≢true e)
is_the_truth U32 e = absurd (false≢true e)
is_the_truth I64 e = absurd (false≢true e)
is_the_truth U64 e = absurd (false≢true e)

pub no_truth : (t : Elem) → is_truth t ≡ false → t ≡ Truth → ⊥
no_truth t e p = true≢false (ap is_truth (sym p) ∙ e)

-- of words that a type fills nothing is cut
pub not_cut : (w : ℕ) (t : Elem) → w ≡ cell_width t → (t ≡ Truth → ⊥) → (x : ℕ) → x < 2 ^ w → x ≡ bit_and x (2 ^ width t - 1)
not_cut w t e n x p = sym (and_mask x (width t) ∙ mod-eq_of_lt (subst (λ k. x < 2 ^ k) (e ∙ filled t n) p))

-- a bool is shifted by nothing
pub no_amount : (m n : ℕ) (ys : List ℕ) → length ys ≡ n → replicate n (0 % m) ≡ map (λ b. bit_and b (width Truth - 1)) ys
no_amount m zero [] p = refl
no_amount m (suc n) [] p = absurd (omega arith)
no_amount m zero (y ∷ ys) p = absurd (omega arith)
no_amount m (suc n) (y ∷ ys) p = ap₂ (λ c t. c ∷ t) (zero-mod m ∙ sym (and_zero_r y)) (no_amount m n ys (omega arith))

-- of a type without negative values
module _ (t : Elem) (s : nat_lt (greatest t) (2 ^ width t - 1) ≡ false) (x : ℕ) (p : x < 2 ^ width t) where
  pub plain_magnitude : x ≡ magnitude (width t) (greatest t) x
  plain_magnitude = ap (λ b. cond b ((2 ^ width t - x) % 2 ^ width t) x) (sym (no_sign t s x p)) ∙ word_magnitude t x p

  pub plain_shr : (y : ℕ) → y < 2 ^ width t → x / 2 ^ bit_and y (width t - 1) ≡ op_bits Shr t x y
  plain_shr y q = ap (λ b. cond b (2 ^ width t - 1 - (2 ^ width t - 1 - x) / 2 ^ bit_and y (width t - 1)) (x / 2 ^ bit_and y (width t - 1))) (sym (no_sign t s x p)) ∙ word_shr t x y p q

-- ---- the operators on one value

module _ (t : Elem) (x : ℕ) (p : x < 2 ^ width t) where
  plain : (op : UnaryOp) → unary_bits op t x ≡ wrap t (unary_to op (number_to (width t) (greatest t) x))
  plain op = ap (λ a. wrap t (unary_to op (number_to (width t) (greatest t) a))) (mod-eq_of_lt p)

  pub unary_negate : (2 ^ width t - x) % 2 ^ width t ≡ unary_bits Negate t x
  unary_negate = sym (plain Negate ∙ negate_is (width t) (greatest t) x (omega arith))

  pub unary_absolute : magnitude (width t) (greatest t) x ≡ unary_bits Absolute t x
  unary_absolute = sym (plain Absolute ∙ absolute_is t x p)

-- ---- conversion, in words of 64 bits

-- the highest bit turned, and its worth taken away
flipped : (k m x : ℕ) → m ≡ 2 ^ k → bit_and x m ≡ cond (nat_lt (m - 1) x) m 0 → x < 2 * m → 2 * m ≤ 2 ^ 64 → (bit_xor x m + (2 ^ 64 - m)) % 2 ^ 64 ≡ cond (nat_lt (m - 1) x) ((x + (2 ^ 64 - 2 * m)) % 2 ^ 64) x
flipped k m x d a p q = by (nat_lt (m - 1) x) refl
  where
    some : 0 < m
    some = omega (arith, d, pow_pos k)

    by : (b : Bool) → nat_lt (m - 1) x ≡ b → (bit_xor x m + (2 ^ 64 - m)) % 2 ^ 64 ≡ cond b ((x + (2 ^ 64 - 2 * m)) % 2 ^ 64) x
    by true e =
        let both : bit_and x m ≡ m = a ∙ ap (λ b. cond b m 0) e in
        ap (λ n. n % 2 ^ 64) (omega (arith, xor_add_and x m, both, ltb-true (m - 1) x e, some, q))
    by false e =
        let none : bit_and x m ≡ 0 = a ∙ ap (λ b. cond b m 0) e in
        let sum : bit_xor x m + (2 ^ 64 - m) ≡ x + 1 * 2 ^ 64 = omega (arith, xor_add_and x m, none, q) in
        ap (λ n. n % 2 ^ 64) sum ∙ add-mul-mod_self_right x 1 (2 ^ 64) ∙ mod-eq_of_lt (omega (arith, ltb-false (m - 1) x e, some, p, q))

kept : (x : ℕ) → x < 2 ^ 64 → (bit_xor x 0 + (2 ^ 64 - 0)) % 2 ^ 64 ≡ x
kept x p =
    let sum : bit_xor x 0 + 2 ^ 64 ≡ x + 1 * 2 ^ 64 = omega (arith, xor_zero_r x) in
    ap (λ n. n % 2 ^ 64) sum ∙ add-mul-mod_self_right x 1 (2 ^ 64) ∙ mod-eq_of_lt p

-- a number of less than w bits has bit k, the highest, or not
bit_of_two : (k x : ℕ) → x < 2 * 2 ^ k → bit_and x (2 ^ k) ≡ cond (nat_lt (2 ^ k - 1) x) (2 ^ k) 0
bit_of_two k x p = by (nat_lt (2 ^ k - 1) x) refl
  where
    block : (a r : ℕ) → r < 2 ^ k → bit_and (a * 2 ^ k + r) (1 * 2 ^ k + 0) ≡ bit_and a 1 * 2 ^ k + bit_and r 0
    block a r h = and_block k a 1 r 0 h (pow_pos k)

    by : (b : Bool) → nat_lt (2 ^ k - 1) x ≡ b → bit_and x (2 ^ k) ≡ cond b (2 ^ k) 0
    by true e =
        let h : x - 2 ^ k < 2 ^ k = omega (arith, p, ltb-true (2 ^ k - 1) x e, pow_pos k) in
        let same : x ≡ 1 * 2 ^ k + (x - 2 ^ k) = omega (arith, ltb-true (2 ^ k - 1) x e, pow_pos k) in
        let one : 2 ^ k ≡ 1 * 2 ^ k + 0 = omega arith in
        ap₂ bit_and same one ∙ block 1 (x - 2 ^ k) h ∙ omega (arith, and_zero_r (x - 2 ^ k))
    by false e =
        let h : x < 2 ^ k = omega (arith, ltb-false (2 ^ k - 1) x e, pow_pos k) in
        let same : x ≡ 0 * 2 ^ k + x = omega arith in
        let one : 2 ^ k ≡ 1 * 2 ^ k + 0 = omega arith in
        ap₂ bit_and same one ∙ block 0 x h ∙ omega (arith, and_zero_r x)

spread_is : (t : Elem) (x : ℕ) → x < 2 ^ width t → (bit_xor x (2 ^ width t - 1 - greatest t) + (2 ^ 64 - (2 ^ width t - 1 - greatest t))) % 2 ^ 64 ≡ cond (nat_lt (greatest t) x) ((x + (2 ^ 64 - 2 ^ width t)) % 2 ^ 64) x
spread_is Truth x p = kept x (omega (arith, p)) ∙ ap (λ b. cond b ((x + (2 ^ 64 - 2)) % 2 ^ 64) x) (sym (no_sign Truth refl x p))
spread_is I8 x p = flipped 7 (2 ^ 7) x refl (bit_of_two 7 x p) p (lit≤ tt)
spread_is U8 x p = kept x (omega (arith, p)) ∙ ap (λ b. cond b ((x + (2 ^ 64 - 2 ^ 8)) % 2 ^ 64) x) (sym (no_sign U8 refl x p))
spread_is I16 x p = flipped 15 (2 ^ 15) x refl (bit_of_two 15 x p) p (lit≤ tt)
spread_is U16 x p = kept x (omega (arith, p)) ∙ ap (λ b. cond b ((x + (2 ^ 64 - 2 ^ 16)) % 2 ^ 64) x) (sym (no_sign U16 refl x p))
spread_is I32 x p = flipped 31 (2 ^ 31) x refl (bit_of_two 31 x p) p (lit≤ tt)
spread_is U32 x p = kept x (omega (arith, p)) ∙ ap (λ b. cond b ((x + (2 ^ 64 - 2 ^ 32)) % 2 ^ 64) x) (sym (no_sign U32 refl x p))
spread_is I64 x p = flipped 63 (2 ^ 63) x refl (bit_of_two 63 x p) p (lit≤ tt)
spread_is U64 x p = kept x (omega (arith, p)) ∙ ap (λ b. cond b ((x + (2 ^ 64 - 2 ^ 64)) % 2 ^ 64) x) (sym (no_sign U64 refl x p))

half_is : (t : Elem) → nat_lt (greatest t) (2 ^ width t - 1) ≡ true → 2 ^ (cell_width t - 1) ≡ 2 ^ width t - 1 - greatest t
half_is Truth e = absurd cc
half_is I8 e = refl
half_is U8 e = absurd cc
half_is I16 e = refl
half_is U16 e = absurd cc
half_is I32 e = refl
half_is U32 e = absurd cc
half_is I64 e = refl
half_is U64 e = absurd cc

cut_as : (m n : ℕ) (v : Elem) → n ≡ width v → m % 2 ^ n ≡ bit_and m (2 ^ width v - 1)
cut_as m n v d = ap (λ k. m % 2 ^ k) d ∙ sym (and_mask m (width v))

module _ (w n : ℕ) (t v : Elem) (e : w ≡ cell_width t) (d : n ≡ width v) (x : ℕ) (p : x < 2 ^ width t) where
  pub lane_spread : nat_lt (greatest t) (2 ^ width t - 1) ≡ true → (bit_xor x (2 ^ (w - 1)) + (2 ^ 64 - 2 ^ (w - 1))) % 2 ^ 64 % 2 ^ n ≡ wrap v (number t x)
  lane_spread s =
      let half : 2 ^ (w - 1) ≡ 2 ^ width t - 1 - greatest t = subst (λ k. 2 ^ (k - 1) ≡ 2 ^ width t - 1 - greatest t) (sym e) (half_is t s) in
      cut_as ((bit_xor x (2 ^ (w - 1)) + (2 ^ 64 - 2 ^ (w - 1))) % 2 ^ 64) n v d
      ∙ ap (λ h. bit_and ((bit_xor x h + (2 ^ 64 - h)) % 2 ^ 64) (2 ^ width v - 1)) half
      ∙ ap (λ k. bit_and k (2 ^ width v - 1)) (spread_is t x p)
      ∙ word_spread t v x p

  pub lane_wide : nat_lt (greatest t) (2 ^ width t - 1) ≡ false → x % 2 ^ n ≡ wrap v (number t x)
  lane_wide s =
      cut_as x n v d
      ∙ ap (λ b. bit_and (cond b ((x + (2 ^ 64 - 2 ^ width t)) % 2 ^ 64) x) (2 ^ width v - 1)) (sym (no_sign t s x p))
      ∙ word_spread t v x p

-- to bool: the bits are 0 just where the number is
pub lane_truth : (t : Elem) (x : ℕ) → x < 2 ^ width t → cond (is_on x) 1 0 ≡ not_zero (number t x)
lane_truth t x p = ap (λ b. cond b 1 0) (sym (on_is x)) ∙ sym (bit_of (not (x == 0))) ∙ truth_is t x x (sym (mod-eq_of_lt p))
