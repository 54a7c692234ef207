-- Counting on in whole numbers modulo a power of two: what sums, differences and conversions to fewer bits make of it.
use Rattle.std.specs.Prelude.{◌≡◌, ℕ, suc, ◌+◌, ◌-◌, ◌*◌, ◌%◌, ◌^◌, ◌<◌, ◌≤◌, Bool, true, false, not, nat_lt, ℤ, pos, negsuc, ◌+ℤ◌, ◌-ℤ◌, ◌*ℤ◌}
use Rattle.std.proofs.Common.{refl, sym, ap, ◌∙◌, arith, ltb-false, mod-eq_of_lt}
use Rattle.std.proofs.lemmas.Int.{ints}
use Rattle.std.proofs.lemmas.Nat.{pow-add}
use lib.IntN.{negsuc-*ℤ-pos}
use Rattle.isp_base.specs.Values.{width, number, wrap, wrap_to, op_bits}
use Rattle.isp_base.specs.declared.operators.BinOp.TheVariants.{Add, Sub}
use Rattle.isp_base.specs.declared.types.Elem.{Elem}
use Rattle.isp_base.specs.declared.types.Elem.TheVariants.{Bool as Truth, I8, U8, I16, U16, I32, U32, I64, U64}
use Rattle.isp_base.proofs.Converts.{no_truth}
use Rattle.isp_base.proofs.Elems.{number_below}
use Rattle.isp_base.proofs.Laws.{same_is}
use Rattle.isp_base.proofs.Wraps.{wrap_to-same, wrap_to-pos}
use Rattle.isp_meaning.specs.Payloads.{converted}
use Rattle.isp_steady.specs.Known.{counted_on}
use Rattle.isp_steady.specs.Linear.{cuts}

-- two whole numbers are the same once multiples of 2 ^ w are added
record Near (w : ℕ) (y z : ℤ) : Type 0 where
  pub more : ℕ
  pub less : ℕ
  pub same : y +ℤ pos (more * 2 ^ w) ≡ z +ℤ pos (less * 2 ^ w)

near_wraps : (w : ℕ) (y z : ℤ) → Near w y z → wrap_to w y ≡ wrap_to w z
near_wraps w y z n = wrap_to-same w y z n.more n.less n.same

of_modulo : (w : ℕ) (y z k : ℤ) → y ≡ z +ℤ k *ℤ pos (2 ^ w) → Near w y z
of_modulo w y z (pos c) e = record { more = 0; less = c; same = omega (arith, ints, e) }
of_modulo w y z (negsuc c) e = record { more = suc c; less = 0; same = omega (arith, ints, e, negsuc-*ℤ-pos c (2 ^ w)) }

-- a value and the number that was wrapped
near_value : (t : Elem) (z : ℤ) → Near (width t) (number t (wrap t z)) z
near_value t z = let s = same_is t z in of_modulo (width t) (number t (wrap t z)) z s.0 s.1

near_plus : (w : ℕ) (y z c : ℤ) → Near w y z → Near w (y +ℤ c) (z +ℤ c)
near_plus w y z c n = record { more = n.more; less = n.less; same = omega (arith, ints, n.same) }

near_plus_left : (w : ℕ) (y z c : ℤ) → Near w y z → Near w (c +ℤ y) (c +ℤ z)
near_plus_left w y z c n = record { more = n.more; less = n.less; same = omega (arith, ints, n.same) }

near_minus : (w : ℕ) (y z c : ℤ) → Near w y z → Near w (y -ℤ c) (z -ℤ c)
near_minus w y z c n = record { more = n.more; less = n.less; same = omega (arith, ints, n.same) }

-- with fewer bits
near_cut : (v w d : ℕ) (y z : ℤ) → 2 ^ w ≡ d * 2 ^ v → Near w y z → Near v y z
near_cut v w d y z e n =
    let more : n.more * 2 ^ w ≡ n.more * d * 2 ^ v = ap (λ m. n.more * m) e ∙ omega arith in
    let less : n.less * 2 ^ w ≡ n.less * d * 2 ^ v = ap (λ m. n.less * m) e ∙ omega arith in
    record { more = n.more * d; less = n.less * d; same = ap (λ m. y +ℤ pos m) (sym more) ∙ n.same ∙ ap (λ m. z +ℤ pos m) less }

-- ---- conversions

not_below : (x y : ℕ) → not (nat_lt x y) ≡ true → y ≤ x
not_below x y e = by (nat_lt x y) refl e
  where
    by : (b : Bool) → nat_lt x y ≡ b → not b ≡ true → y ≤ x
    by true is h = absurd (cc)
    by false is h = omega (arith, ltb-false x y is)

whole : (from to : Elem) → cuts from to ≡ true → (width to ≤ width from) × (to ≡ Truth → ⊥)
whole from Truth e = absurd (cc)
whole from I8 e = (not_below _ _ e, λ h. absurd (cc))
whole from U8 e = (not_below _ _ e, λ h. absurd (cc))
whole from I16 e = (not_below _ _ e, λ h. absurd (cc))
whole from U16 e = (not_below _ _ e, λ h. absurd (cc))
whole from I32 e = (not_below _ _ e, λ h. absurd (cc))
whole from U32 e = (not_below _ _ e, λ h. absurd (cc))
whole from I64 e = (not_below _ _ e, λ h. absurd (cc))
whole from U64 e = (not_below _ _ e, λ h. absurd (cc))

factor : (v w : ℕ) → v ≤ w → 2 ^ w ≡ 2 ^ (w - v) * 2 ^ v
factor v w h = ap (λ n. 2 ^ n) (let e : w ≡ w - v + v = omega arith in e) ∙ pow-add 2 (w - v) v

-- counted on, then wrapped once more
pub counted_wraps : (t : Elem) (y : ℤ) (p : ℕ) → counted_on t (wrap t y) p ≡ wrap t (y +ℤ pos p)
counted_wraps t y p = near_wraps (width t) _ _ (near_plus (width t) (number t (wrap t y)) y (pos p) (near_value t y))

pub cut_counts : (from to : Elem) (u p : ℕ) → cuts from to ≡ true → converted from to (counted_on from u p) ≡ counted_on to (converted from to u) p
cut_counts from to u p e =
    let h = whole from to e in
    let z = number from u +ℤ pos p in
    sym (no_truth to (number from (wrap from z)) h.1)
    ∙ near_wraps (width to) (number from (wrap from z)) z (near_cut (width to) (width from) _ _ _ (factor (width to) (width from) h.0) (near_value from z))
    ∙ sym (counted_wraps to (number from u) p)
    ∙ ap (λ c. counted_on to c p) (no_truth to (number from u) h.1)

-- ---- sums and differences

swapped : (x y z : ℤ) → x +ℤ y +ℤ z ≡ x +ℤ z +ℤ y
swapped x y z = omega (arith, ints)

swapped_left : (x y z : ℤ) → z +ℤ (x +ℤ y) ≡ z +ℤ x +ℤ y
swapped_left x y z = omega (arith, ints)

less_swapped : (x y z : ℤ) → x +ℤ y -ℤ z ≡ x -ℤ z +ℤ y
less_swapped x y z = omega (arith, ints)

module _ (t : Elem) (u w p : ℕ) where
  pub sum_counts : op_bits Add t (counted_on t u p) w ≡ counted_on t (op_bits Add t u w) p
  sum_counts =
      near_wraps (width t) _ _ (near_plus (width t) (number t (counted_on t u p)) (number t u +ℤ pos p) (number t w) (near_value t (number t u +ℤ pos p)))
      ∙ ap (wrap t) (swapped (number t u) (pos p) (number t w)) ∙ sym (counted_wraps t (number t u +ℤ number t w) p)

  pub sum_counts_left : op_bits Add t w (counted_on t u p) ≡ counted_on t (op_bits Add t w u) p
  sum_counts_left =
      near_wraps (width t) _ _ (near_plus_left (width t) (number t (counted_on t u p)) (number t u +ℤ pos p) (number t w) (near_value t (number t u +ℤ pos p)))
      ∙ ap (wrap t) (swapped_left (number t u) (pos p) (number t w)) ∙ sym (counted_wraps t (number t w +ℤ number t u) p)

  pub less_counts : op_bits Sub t (counted_on t u p) w ≡ counted_on t (op_bits Sub t u w) p
  less_counts =
      near_wraps (width t) _ _ (near_minus (width t) (number t (counted_on t u p)) (number t u +ℤ pos p) (number t w) (near_value t (number t u +ℤ pos p)))
      ∙ ap (wrap t) (less_swapped (number t u) (pos p) (number t w)) ∙ sym (counted_wraps t (number t u -ℤ number t w) p)

-- the number of lane p, wrapped, added
pub plus_lane : (t : Elem) (u p : ℕ) → op_bits Add t u (wrap t (pos p)) ≡ counted_on t u p
plus_lane t u p = near_wraps (width t) _ _ (near_plus_left (width t) (number t (wrap t (pos p))) (pos p) (number t u) (near_value t (pos p)))

-- ---- programIndex

pub index_counts : (p : ℕ) → p < 2 ^ 32 → counted_on I32 0 p ≡ p
index_counts p h =
    ap (λ z. wrap I32 (z +ℤ pos p)) (number_below 32 (2 ^ 31 - 1) 0 (omega arith)) ∙ wrap_to-pos 32 (0 + p) ∙ ap (λ n. n % 2 ^ 32) (let e : 0 + p ≡ p = omega arith in e) ∙ mod-eq_of_lt h
