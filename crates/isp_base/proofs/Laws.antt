-- What holds of the values of every element type.
use Rattle.std.proofs.Common.{◌≡◌, refl, sym, ap, ◌∙◌, ℕ, suc, zero, ◌+◌, ◌-◌, ◌*◌, ◌/◌, ◌%◌, ◌^◌, ◌<◌, Bool, true, false, cond, ℤ, pos, negsuc, neg_ℤ, ◌+ℤ◌, ◌-ℤ◌}
use Rattle.std.proofs.Common.{◌*ℤ◌, nat_lt, arith, mod-eq_of_lt, mod-lt, pow_pos, ltb-true, ltb-false, zero-mul, unsigned_abs}
use Rattle.std.proofs.lemmas.Int.{ints}
use Rattle.std.proofs.Math.Nat.{pow-succ'}
use Rattle.std.proofs.lemmas.Nat.{div-add-mod'}
use borrow.Author.Differences.{up, down, same_in, same_out, sum_is_lem, neg_is, product_is}
use lib.IntN.{negsuc-*ℤ-pos}
use Rattle.std.specs.Int.{int_rem_euclid}
use Rattle.isp_base.specs.declared.types.Elem.{Elem}
use Rattle.isp_base.specs.declared.types.Elem.TheVariants.{Bool as Truth, I8, U8, I16, U16, I32, U32, I64, U64}
use Rattle.isp_base.specs.Values.{width, greatest, number, number_to, wrap_to, wrap}
use Rattle.isp_base.specs.Ranges.{IsSigned, IsUnsigned, IsValue, SameModulo}
use Rattle.isp_base.proofs.Elems.{number_below, number_above}
use Rattle.isp_base.proofs.Wraps.{wrap_to-same, wrap_to-pos, wrap_to-lt, wrap_number, read}

-- ---- bits stand for values

signed_value : (h b : ℕ) → b < 2 ^ suc h → IsSigned h (number_to (suc h) (2 ^ h - 1) b)
unfolding number_to
signed_value h b p = by (nat_lt (2 ^ h - 1) b) refl
  where
    by : (s : Bool) → nat_lt (2 ^ h - 1) b ≡ s → IsSigned h (cond s (pos b -ℤ pos (2 ^ suc h)) (pos b))
    by true e = (omega (arith, ints, pow-succ' 2 h, ltb-true _ _ e), omega (arith, ints, pow-succ' 2 h, ltb-true _ _ e))
    by false e = let some = pow_pos h in (omega (arith, ints, ltb-false _ _ e), omega (arith, ints, ltb-false _ _ e))

unsigned_value : (w b : ℕ) → b < 2 ^ w → IsUnsigned w (number_to w (2 ^ w - 1) b)
unsigned_value w b p =
    let e = number_below w (2 ^ w - 1) b (omega arith) in
    (omega (arith, ints, e), omega (arith, ints, e))

value_to : (t : Elem) (b : ℕ) → b < 2 ^ width t → IsValue t (number_to (width t) (greatest t) b)
value_to Truth b p = unsigned_value 1 b p
value_to I8 b p = signed_value 7 b p
value_to U8 b p = unsigned_value 8 b p
value_to I16 b p = signed_value 15 b p
value_to U16 b p = unsigned_value 16 b p
value_to I32 b p = signed_value 31 b p
value_to U32 b p = unsigned_value 32 b p
value_to I64 b p = signed_value 63 b p
value_to U64 b p = unsigned_value 64 b p

-- ---- a value's bits stand for it

signed_back : (h : ℕ) (z : ℤ) → IsSigned h z → number_to (suc h) (2 ^ h - 1) (wrap_to (suc h) z) ≡ z
signed_back h (pos n) v =
    let two = pow-succ' 2 h in
    let l : n < 2 ^ h = omega (arith, ints, v.1) in
    ap (number_to (suc h) (2 ^ h - 1)) (wrap_to-pos (suc h) n ∙ mod-eq_of_lt (omega arith)) ∙ number_below (suc h) (2 ^ h - 1) n (omega arith)
signed_back h (negsuc n) v =
    let two = pow-succ' 2 h in
    let l : n < 2 ^ h = omega (arith, ints, v.0) in
    let m = 2 ^ suc h - 1 - n in
    ap (number_to (suc h) (2 ^ h - 1)) (wrap_to-same (suc h) (negsuc n) (pos m) 1 0 (omega (arith, ints)) ∙ wrap_to-pos (suc h) m ∙ mod-eq_of_lt (omega arith))
    ∙ number_above (suc h) (2 ^ h - 1) m (omega arith) ∙ omega (arith, ints)

unsigned_back : (w : ℕ) (z : ℤ) → IsUnsigned w z → number_to w (2 ^ w - 1) (wrap_to w z) ≡ z
unsigned_back w (pos n) v =
    let l : n < 2 ^ w = omega (arith, ints, v.1) in
    ap (number_to w (2 ^ w - 1)) (wrap_to-pos w n ∙ mod-eq_of_lt l) ∙ number_below w (2 ^ w - 1) n (omega arith)
unsigned_back w (negsuc n) v = absurd (omega (arith, ints, v.0))

back_to : (t : Elem) (z : ℤ) → IsValue t z → number_to (width t) (greatest t) (wrap t z) ≡ z
back_to Truth z v = unsigned_back 1 z v
back_to I8 z v = signed_back 7 z v
back_to U8 z v = unsigned_back 8 z v
back_to I16 z v = signed_back 15 z v
back_to U16 z v = unsigned_back 16 z v
back_to I32 z v = signed_back 31 z v
back_to U32 z v = unsigned_back 32 z v
back_to I64 z v = signed_back 63 z v
back_to U64 z v = unsigned_back 64 z v

-- bits that fit are read as they are
plain : (t : Elem) (b : ℕ) → b < 2 ^ width t → number t b ≡ number_to (width t) (greatest t) b
plain t b p = ap (number_to (width t) (greatest t)) (mod-eq_of_lt p)

pub value_is : (t : Elem) (z : ℤ) → IsValue t (number t (wrap t z))
value_is t z = value_to t (wrap t z % 2 ^ width t) (mod-lt (wrap t z) (pow_pos (width t)))

pub back_is : (t : Elem) (z : ℤ) → IsValue t z → number t (wrap t z) ≡ z
back_is t z v = plain t (wrap t z) (wrap_to-lt (width t) z) ∙ back_to t z v

pub bits_are : (t : Elem) (b : ℕ) → b < 2 ^ width t → wrap t (number t b) ≡ b
bits_are t b p = ap (wrap t) (plain t b p) ∙ wrap_number (width t) (greatest t) b p

-- ---- a multiple of 2 to the width

product : (q m : ℕ) → neg_ℤ (pos q) *ℤ pos m ≡ neg_ℤ (pos (q * m))
product zero m = ap pos (zero-mul m) ∙ ap (λ n. neg_ℤ (pos n)) (sym (zero-mul m))
product (suc q) m = negsuc-*ℤ-pos q m

-- what is left of a whole number
pub residue_of : (m : ℕ) (z : ℤ) → 0 < m → (unsigned_abs (int_rem_euclid z (pos m)) < m) × SameModulo m (pos (unsigned_abs (int_rem_euclid z (pos m)))) z
residue_of m (pos n) h = (mod-lt n h, (neg_ℤ (pos (n / m)), omega (arith, ints, product (n / m) m, div-add-mod' n m)))
residue_of m (negsuc n) h =
    let some = mod-lt n h in
    (omega arith, (pos (n / m + 1), omega (arith, ints, div-add-mod' n m)))

residue : (w : ℕ) (z : ℤ) → SameModulo (2 ^ w) (pos (wrap_to w z)) z
unfolding wrap_to
residue w z = (residue_of (2 ^ w) z (pow_pos w)).1

fewer : (k : ℤ) (j m : ℕ) → (k -ℤ pos j) *ℤ pos m ≡ k *ℤ pos m -ℤ pos (j * m)
fewer k j m =
    let d = k -ℤ pos j in
    let sum : up d + down k + j ≡ up k + down d = omega (arith, same_out, sum_is_lem, neg_is) in
    let times = ap (λ x. x * m) sum in
    omega (arith, same_in, sum_is_lem, neg_is, product_is)

same_more : (m : ℕ) (y z : ℤ) (n j : ℕ) → y +ℤ pos (j * m) ≡ pos n → SameModulo m (pos n) z → SameModulo m y z
same_more m y z n j e s = (s.0 -ℤ pos j, omega (arith, ints, e, s.1, fewer s.0 j m))

pub same_is : (t : Elem) (z : ℤ) → SameModulo (2 ^ width t) (number t (wrap t z)) z
same_is t z =
    let a = read (width t) (greatest t) (wrap t z) in
    same_more (2 ^ width t) (number t (wrap t z)) z (wrap t z) a.0 (ap (λ n. n +ℤ pos (a.0 * 2 ^ width t)) (plain t (wrap t z) (wrap_to-lt (width t) z)) ∙ a.1) (residue (width t) z)

-- numbers that differ by a multiple wrap alike
alike : (w : ℕ) (y z : ℤ) → SameModulo (2 ^ w) y z → wrap_to w z ≡ wrap_to w y
alike w y z s = by s.0 s.1
  where
    by : (k : ℤ) → y ≡ z +ℤ k *ℤ pos (2 ^ w) → wrap_to w z ≡ wrap_to w y
    by (pos c) e = wrap_to-same w z y c 0 (omega (arith, ints, e))
    by (negsuc c) e = wrap_to-same w z y 0 (suc c) (omega (arith, ints, e, negsuc-*ℤ-pos c (2 ^ w)))

pub only_is : (t : Elem) (y z : ℤ) → IsValue t y → SameModulo (2 ^ width t) y z → number t (wrap t z) ≡ y
only_is t y z v s = ap (number t) (alike (width t) y z s) ∙ back_is t y v
