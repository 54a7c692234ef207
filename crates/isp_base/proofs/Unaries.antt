-- The operators on one value, on bits that fit their element type.
use Rattle.std.proofs.Common.{◌≡◌, refl, sym, ap, ◌∙◌, ℕ, suc, zero, ◌+◌, ◌-◌, ◌*◌, ◌%◌, ◌^◌, ◌<◌, ◌≤◌, ◌==◌, Bool, true, false, cond, pos, neg_ℤ, ◌-ℤ◌, nat_lt, arith, unsigned_abs, mod-eq_of_lt, mod-lt, pow_pos, bit_and, w8, w16, w32, w64}
use Rattle.std.specs.Int.{bit_at}
use Rattle.std.proofs.lemmas.Nat.Bits.{bit_at_not}
use Rattle.std.specs.Ordering.{int_eq}
use borrow.Author.Differences.{same_in, same_out, sum_is_lem, neg_is}
use native.Mathlib.Nat.{add-mul-mod_self_right, zero-mod}
use lib.Bits.{and_mask}
use mir.Val.{bool_byte}
use Rattle.isp_base.specs.declared.types.Elem.{Elem}
use Rattle.isp_base.specs.declared.types.Elem.TheVariants.{Bool as Truth, I8, U8, I16, U16, I32, U32, I64, U64}
use Rattle.isp_base.specs.declared.operators.UnaryOp.{UnaryOp}
use Rattle.isp_base.specs.declared.operators.UnaryOp.TheVariants.{Invert, Not}
use Rattle.isp_base.specs.Values.{width, greatest, number, number_to, wrap_to, wrap}
use Rattle.isp_base.specs.Unary.{unary_to, unary_bits}
use Rattle.isp_base.specs.Words.{magnitude}
use Rattle.isp_base.proofs.Elems.{number_below, one_lt}
use Rattle.isp_base.proofs.Wraps.{wrap_to-same, wrap_to-pos, read}
use Rattle.isp_base.proofs.Signs.{signed, number_signed}
use Rattle.isp_base.proofs.Words.{multiple, same_number, magnitude_lt}

-- the low bits are what an operator reads
pub low_fits : (t : Elem) (b x : ℕ) → x ≡ b % 2 ^ width t → x < 2 ^ width t
low_fits t b x e = omega (arith, e, mod-lt b (pow_pos (width t)))

pub unary_at : (o op : UnaryOp) → op ≡ o → (t : Elem) (b x n : ℕ) → x ≡ b % 2 ^ width t → n ≡ wrap t (unary_to o (number_to (width t) (greatest t) x)) → n ≡ unary_bits op t b
unary_at o op h t b x n e f =
    f ∙ ap (λ a. wrap t (unary_to o (number_to (width t) (greatest t) a))) e ∙ ap (λ p. unary_bits p t b) (sym h)

pub negate_is : (w g x : ℕ) → x ≤ 2 ^ w → wrap_to w (neg_ℤ (number_to w g x)) ≡ (2 ^ w - x) % 2 ^ w
negate_is w g x h =
    let a = read w g x in
    wrap_to-same w (neg_ℤ (number_to w g x)) (pos (2 ^ w - x)) 1 a.0 (omega (arith, same_in, same_out, sum_is_lem, neg_is, a.1)) ∙ wrap_to-pos w (2 ^ w - x)

pub invert_is : (w g x : ℕ) → x < 2 ^ w → wrap_to w (neg_ℤ (number_to w g x) -ℤ pos 1) ≡ 2 ^ w - 1 - x
invert_is w g x h =
    let a = read w g x in
    wrap_to-same w (neg_ℤ (number_to w g x) -ℤ pos 1) (pos (2 ^ w - 1 - x)) 1 a.0 (omega (arith, same_in, same_out, sum_is_lem, neg_is, a.1))
    ∙ wrap_to-pos w (2 ^ w - 1 - x) ∙ mod-eq_of_lt (omega arith)

-- all bits turned, cut to the width
pub word_invert : (t : Elem) (x : ℕ) → x < 2 ^ width t → bit_and (2 ^ 64 - 1 - x) (2 ^ width t - 1) ≡ 2 ^ width t - 1 - x
word_invert t x h =
    let d = multiple t in
    let e : 2 ^ 64 - 1 - x ≡ (2 ^ width t - 1 - x) + d.0 * 2 ^ width t = omega (arith, d.1) in
    and_mask (2 ^ 64 - 1 - x) (width t) ∙ ap (λ n. n % 2 ^ width t) e ∙ add-mul-mod_self_right (2 ^ width t - 1 - x) d.0 (2 ^ width t) ∙ mod-eq_of_lt (omega arith)

absolute : (s : Bool) (m : ℕ) → unsigned_abs (signed s m) ≡ m
absolute true zero = refl
absolute true (suc m) = refl
absolute false m = refl

pub absolute_is : (t : Elem) (x : ℕ) → x < 2 ^ width t → wrap t (pos (unsigned_abs (number_to (width t) (greatest t) x))) ≡ magnitude (width t) (greatest t) x
absolute_is t x h =
    let w = width t in
    let g = greatest t in
    ap (λ z. wrap t (pos (unsigned_abs z))) (number_signed w g x h)
    ∙ ap (λ n. wrap t (pos n)) (absolute (nat_lt g x) (magnitude w g x))
    ∙ wrap_to-pos w (magnitude w g x) ∙ mod-eq_of_lt (magnitude_lt t x h)

-- a number is zero where its bits are
pub zero_is : (t : Elem) (x : ℕ) → x < 2 ^ width t → int_eq (number_to (width t) (greatest t) x) (pos 0) ≡ (x == 0)
zero_is t x h =
    let w = width t in
    let g = greatest t in
    let n = number_to w g in
    sym (ap (λ a. int_eq (n a) (number t 0)) (mod-eq_of_lt h) ∙ ap (λ a. int_eq (n x) (n a)) (mod-eq_of_lt (pow_pos w)) ∙ ap (int_eq (n x)) (number_below w g 0 (omega arith)))
    ∙ same_number t x 0 h (pow_pos w)

-- a bool as a number
pub bit_of : (b : Bool) → bool_byte b ≡ cond b 1 0
bit_of true = refl
bit_of false = refl

small : (w : ℕ) (b : Bool) → 1 < 2 ^ w → wrap_to w (cond b (pos 1) (pos 0)) ≡ cond b 1 0
small w true h = wrap_to-pos w 1 ∙ mod-eq_of_lt h
small w false h = wrap_to-pos w 0 ∙ zero-mod (2 ^ w)

pub not_is : (t : Elem) (x : ℕ) → x < 2 ^ width t → wrap t (unary_to Not (number_to (width t) (greatest t) x)) ≡ cond (x == 0) 1 0
not_is t x h = ap (λ b. wrap t (cond b (pos 1) (pos 0))) (zero_is t x h) ∙ small (width t) (x == 0) (one_lt t)

-- `~` turns each bit
turned_at : (t : Elem) (b k : ℕ) → b < 2 ^ width t → k < width t → bit_at (2 ^ width t - 1 - b) k ≡ 1 - bit_at b k
turned_at Truth zero zero p q = refl
turned_at Truth (suc zero) zero p q = refl
turned_at Truth (suc (suc b)) zero p q = absurd (omega arith)
turned_at Truth b (suc k) p q = absurd (omega arith)
turned_at I8 b k p q = bit_at_not w8 b k p q
turned_at U8 b k p q = bit_at_not w8 b k p q
turned_at I16 b k p q = bit_at_not w16 b k p q
turned_at U16 b k p q = bit_at_not w16 b k p q
turned_at I32 b k p q = bit_at_not w32 b k p q
turned_at U32 b k p q = bit_at_not w32 b k p q
turned_at I64 b k p q = bit_at_not w64 b k p q
turned_at U64 b k p q = bit_at_not w64 b k p q

pub invert_turns : (t : Elem) (b k : ℕ) → b < 2 ^ width t → k < width t → bit_at (unary_bits Invert t b) k ≡ 1 - bit_at b k
invert_turns t b k p q =
    ap (λ n. bit_at n k) (ap (λ a. wrap t (unary_to Invert (number_to (width t) (greatest t) a))) (mod-eq_of_lt p) ∙ invert_is (width t) (greatest t) b p)
    ∙ turned_at t b k p q
