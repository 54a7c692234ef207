-- Lanes that are named by a number, and operators over the lanes of a mask.
use Rattle.std.proofs.Common.{◌≡◌, ◌≢◌, ℕ, zero, suc, ◌+◌, ◌-◌, ◌*◌, ◌%◌, ◌^◌, ◌<◌, ◌≤◌, ◌⊎◌, inl, inr, Some, None, Bool, true, false, refl, sym, ap, ap₂, ◌∙◌, subst, arith, lit≤, mod-eq_of_lt, eq-eqb, bit_and}
use Rattle.std.specs.Prelude.{nat_eq, nat_lt, if◌then◌else◌, pos, negsuc, ◌+ℤ◌, ◌-ℤ◌, unsigned_abs}
use Rattle.std.specs.Int.Bits.{or_zero_r}
use Rattle.std.proofs.lemmas.Bool.{cases_eq, cases_lt, lt-ltb, le-ltb, ne_eqb, cond-true, cond-false}
use Rattle.std.proofs.lemmas.Int.{ints, int_rem_euclid_is}
use Rattle.std.proofs.lemmas.Nat.{and_mask, pow_pos}
use Rattle.isp_base.specs.Cross.{or_zero, instance, within, fold_below, and_this, exclusive_scan}
use Rattle.isp_base.specs.Maps.{Map, on}
use Rattle.isp_base.specs.Types.{gang_width}
use Rattle.isp_base.specs.declared.types.Gang.{Gang}
use Rattle.isp_base.specs.declared.types.Gang.TheVariants.{W4, W8, W16, W32}
use Rattle.isp_base.specs.Values.{width, number, number_to, op_bits}
use Rattle.isp_base.specs.declared.types.Elem.{Elem}
use Rattle.isp_base.specs.declared.types.Elem.TheVariants.{I32}
use Rattle.isp_base.proofs.Elems.{number_above, number_below}
use Rattle.isp_base.proofs.Words.{word_and, word_or}
use Rattle.isp_code.specs.Conf.{Conf}
use Rattle.isp_code.specs.Lines.{plain_of, scan_of}
use Rattle.isp_code.specs.declared.instr.Plain.{Plain}
use Rattle.isp_code.specs.declared.instr.Plain.TheVariants as plain
use Rattle.isp_code.specs.declared.instr.Scan.{Scan}
use Rattle.isp_code.specs.declared.instr.Scan.TheVariants as scan
use Rattle.isp_code.specs.declared.register.Register.{Register}
use Rattle.isp_wasm_meaning.specs.Syntax as wasm
use Rattle.isp_wasm_meaning.specs.Syntax.{Add, Expr, Select, Const32}
use Rattle.isp_wasm_meaning.specs.Meaning.{value, whole, chosen, flag, flags}
use Rattle.isp_wasm.specs.Places.{Setting, elem, gang, size_of}
use Rattle.isp_wasm.specs.Words.{constant, plain_expr}
use Rattle.isp_wasm.specs.Rows.{lane_at}
use Rattle.isp_wasm.specs.Templates.{lane_or, lane_or_zero, picked, folded, scan_expr, vector_local}
use Rattle.isp_wasm.specs.Standing.{Holds}
use Rattle.isp_wasm.specs.Thin.{IsInteger, IsVector}
use Rattle.isp_wasm.proofs.WordLaws.{chosen_is, constant_is, plain_is, op_fits, add_bits}
use Rattle.isp_wasm.proofs.Vectors.{vector_lane, vector_fits}
use Rattle.isp_wasm.proofs.MaskWords.{member_is}

-- ---- numbers of lanes

number_32_low : (b : ℕ) → b < 2 ^ 31 → number I32 b ≡ pos b
number_32_low b h = ap (number_to 32 (2 ^ 31 - 1)) (mod-eq_of_lt (let lt : b < 2 ^ 32 = omega arith in lt)) ∙ number_below 32 (2 ^ 31 - 1) b (omega arith)

number_32_high : (b : ℕ) → 2 ^ 31 ≤ b → b < 2 ^ 32 → number I32 b ≡ pos b -ℤ pos (2 ^ 32)
number_32_high b h f = ap (number_to 32 (2 ^ 31 - 1)) (mod-eq_of_lt f) ∙ number_above 32 (2 ^ 31 - 1) b (omega arith)

-- where n divides 2 ^ 32
instance_is : (n c p b : ℕ) → 0 < n → c * n ≡ 2 ^ 32 → b < 2 ^ 32 → instance n (pos p +ℤ number I32 b) ≡ (p + b) % n
instance_is n c p b some whole fit = by (cases_lt b (2 ^ 31))
  where
    by : (b < 2 ^ 31) ⊎ (2 ^ 31 ≤ b) → instance n (pos p +ℤ number I32 b) ≡ (p + b) % n
    by (inl lt) = ap (λ z. instance n (pos p +ℤ z)) (number_32_low b lt) ∙ ap unsigned_abs (int_rem_euclid_is (pos p +ℤ pos b) (pos n) n 0 (p + b) some refl (omega (arith, ints)))
    by (inr le) =
        ap (λ z. instance n (pos p +ℤ z)) (number_32_high b le fit) ∙ ap unsigned_abs (int_rem_euclid_is (pos p +ℤ (pos b -ℤ pos (2 ^ 32))) (pos n) n c (p + b) some refl (omega (arith, ints, whole)))

parts_of : (g : Gang) → (c : ℕ) × (c * gang_width g ≡ 2 ^ 32) × (0 < gang_width g)
parts_of W4 = (2 ^ 30, refl, lit≤ tt)
parts_of W8 = (2 ^ 29, refl, lit≤ tt)
parts_of W16 = (2 ^ 28, refl, lit≤ tt)
parts_of W32 = (2 ^ 27, refl, lit≤ tt)

halves_of : (g : Gang) → (c : ℕ) × (c * (2 * gang_width g) ≡ 2 ^ 32) × (0 < 2 * gang_width g)
halves_of W4 = (2 ^ 29, refl, lit≤ tt)
halves_of W8 = (2 ^ 28, refl, lit≤ tt)
halves_of W16 = (2 ^ 27, refl, lit≤ tt)
halves_of W32 = (2 ^ 26, refl, lit≤ tt)

pub lane_named : (g : Gang) (p b : ℕ) → b < 2 ^ 32 → instance (gang_width g) (pos p +ℤ number I32 b) ≡ (p + b) % gang_width g
lane_named g p b fit = let c = parts_of g in instance_is (gang_width g) c.0 p b c.2 c.1 fit

pub lane_of_two : (g : Gang) (b : ℕ) → b < 2 ^ 32 → instance (2 * gang_width g) (number I32 b) ≡ b % (2 * gang_width g)
lane_of_two g b fit =
    let c = halves_of g in
    ap (instance (2 * gang_width g)) (let e : number I32 b ≡ pos 0 +ℤ number I32 b = omega (arith, ints) in e) ∙ instance_is (2 * gang_width g) c.0 0 b c.2 c.1 fit
    ∙ ap (λ z. z % (2 * gang_width g)) (let e : 0 + b ≡ b = omega arith in e)

pub lane_first : (g : Gang) (b : ℕ) → b < 2 ^ 32 → instance (gang_width g) (number I32 b) ≡ b % gang_width g
lane_first g b fit =
    ap (instance (gang_width g)) (let e : number I32 b ≡ pos 0 +ℤ number I32 b = omega (arith, ints) in e) ∙ lane_named g 0 b fit ∙ ap (λ z. z % gang_width g) (let e : 0 + b ≡ b = omega arith in e)

pub modulo_is : (g : Gang) (x : ℕ) → bit_and x ((gang_width g - 1) % 2 ^ 32) ≡ x % gang_width g
modulo_is W4 x = and_mask x 2
modulo_is W8 x = and_mask x 3
modulo_is W16 x = and_mask x 4
modulo_is W32 x = and_mask x 5

pub modulo_two : (g : Gang) (x : ℕ) → bit_and x ((2 * gang_width g - 1) % 2 ^ 32) ≡ x % (2 * gang_width g)
modulo_two W4 x = and_mask x 3
modulo_two W8 x = and_mask x 4
modulo_two W16 x = and_mask x 5
modulo_two W32 x = and_mask x 6

pub turned_lane : (g : Gang) (b p : ℕ) → (b + p) % 2 ^ 32 % gang_width g ≡ (p + b) % gang_width g
turned_lane W4 b p = omega arith
turned_lane W8 b p = omega arith
turned_lane W16 b p = omega arith
turned_lane W32 b p = omega arith

pub lane_low : (g : Gang) (x : ℕ) → x % gang_width g < gang_width g
lane_low W4 x = omega arith
lane_low W8 x = omega arith
lane_low W16 x = omega arith
lane_low W32 x = omega arith

pub two_low : (g : Gang) (x : ℕ) → x % (2 * gang_width g) < 2 * gang_width g
two_low W4 x = omega arith
two_low W8 x = omega arith
two_low W16 x = omega arith
two_low W32 x = omega arith

-- past the ends there is 0
pub shifted_lane : (n p b : ℕ) (x : Map) → n ≤ 32 → p < n → b < 2 ^ 32 → within n x (pos p +ℤ number I32 b) ≡ (if nat_lt ((b + p) % 2 ^ 32) n then or_zero (x ((b + p) % 2 ^ 32)) else 0)
shifted_lane n p b x le low fit = by (cases_lt b (2 ^ 31)) (cases_lt (p + b) (2 ^ 32))
  where
    by : (b < 2 ^ 31) ⊎ (2 ^ 31 ≤ b) → (p + b < 2 ^ 32) ⊎ (2 ^ 32 ≤ p + b) → within n x (pos p +ℤ number I32 b) ≡ (if nat_lt ((b + p) % 2 ^ 32) n then or_zero (x ((b + p) % 2 ^ 32)) else 0)
    by (inl lt) h =
        ap (λ z. within n x (pos p +ℤ z)) (number_32_low b lt) ∙ ap (within n x) (let e : pos p +ℤ pos b ≡ pos (p + b) = omega (arith, ints) in e)
        ∙ ap (λ q. if nat_lt q n then or_zero (x q) else 0) (let e : p + b ≡ (b + p) % 2 ^ 32 = omega arith in e)
    by (inr high) (inl lt) =
        ap (λ z. within n x (pos p +ℤ z)) (number_32_high b high fit) ∙ ap (within n x) (let e : pos p +ℤ (pos b -ℤ pos (2 ^ 32)) ≡ negsuc (2 ^ 32 - 1 - (p + b)) = omega (arith, ints) in e)
        ∙ sym (ap (λ t. if t then or_zero (x ((b + p) % 2 ^ 32)) else 0) (le-ltb ((b + p) % 2 ^ 32) n (omega arith)))
    by (inr high) (inr back) =
        ap (λ z. within n x (pos p +ℤ z)) (number_32_high b high fit) ∙ ap (within n x) (let e : pos p +ℤ (pos b -ℤ pos (2 ^ 32)) ≡ pos (p + b - 2 ^ 32) = omega (arith, ints) in e)
        ∙ ap (λ q. if nat_lt q n then or_zero (x q) else 0) (let e : p + b - 2 ^ 32 ≡ (b + p) % 2 ^ 32 = omega arith in e)

-- ---- one of n

pub zero_of : (t : wasm.Size) (l : ℕ → ℕ) → value l (constant t 0) ≡ 0
zero_of wasm.I32 l = refl
zero_of wasm.I64 l = refl

pub picked_is : (w : Setting) (t : wasm.Size) (l : ℕ → ℕ) (i : Expr) (q : ℕ) (f : ℕ → Expr) (v : ℕ → ℕ) (n : ℕ) → n ≤ 64 → value l i ≡ q → ((p : ℕ) → p < n → value l (f p) ≡ v p) → value l (picked w t i f n) ≡ (if nat_lt q n then v q else 0)
picked_is w t l i q f v zero le is h = zero_of t l ∙ sym (ap (λ b. if b then v q else 0) (le-ltb q 0 (omega arith)))
picked_is w t l i q f v (suc n) le is h =
    ap₂ (λ a b. chosen (flag (nat_eq a b)) (value l (f n)) (value l (picked w t i f n))) is (mod-eq_of_lt (let lt : n < 2 ^ 32 = omega arith in lt)) ∙ chosen_is (nat_eq q n) (value l (f n)) (value l (picked w t i f n))
    ∙ ap₂ (λ a b. if nat_eq q n then a else b) (h n (omega arith)) (picked_is w t l i q f v n (omega arith) is (λ p q. h p (omega arith))) ∙ by (cases_eq q n) (cases_lt q n)
  where
    by : (q ≡ n) ⊎ (q ≡ n → ⊥) → (q < n) ⊎ (n ≤ q) → (if nat_eq q n then v n else (if nat_lt q n then v q else 0)) ≡ (if nat_lt q (suc n) then v q else 0)
    by (inl e) g = cond-true (nat_eq q n) (v n) (if nat_lt q n then v q else 0) (eq-eqb q n e) ∙ ap v (sym e) ∙ sym (ap (λ b. if b then v q else 0) (lt-ltb q (suc n) (omega arith)))
    by (inr ne) (inl lt) = cond-false (nat_eq q n) (v n) (if nat_lt q n then v q else 0) (ne_eqb q n ne) ∙ ap (λ b. if b then v q else 0) (lt-ltb q n lt ∙ sym (lt-ltb q (suc n) (omega arith)))
    by (inr ne) (inr le) = let other : q ≢ n = ne in cond-false (nat_eq q n) (v n) (if nat_lt q n then v q else 0) (ne_eqb q n ne) ∙ ap (λ b. if b then v q else 0) (le-ltb q n le ∙ sym (le-ltb q (suc n) (omega arith)))

pub picked_low : (w : Setting) (t : wasm.Size) (l : ℕ → ℕ) (i : Expr) (q : ℕ) (f : ℕ → Expr) (v : ℕ → ℕ) (n : ℕ) → n ≤ 64 → q < n → value l i ≡ q → ((p : ℕ) → p < n → value l (f p) ≡ v p) → value l (picked w t i f n) ≡ v q
picked_low w t l i q f v n le lt is h = picked_is w t l i q f v n le is h ∙ ap (λ b. if b then v q else 0) (lt-ltb q n lt)

-- ---- the lanes of a mask

or_zero_is : (b : Bool) (x : ℕ) → (if b then x else 0) ≡ or_zero (if b then Some x else None)
or_zero_is true x = refl
or_zero_is false x = refl

pub chosen_flags : (b : Bool) (x y : ℕ) → chosen (flags 8 b) x y ≡ (if b then x else y)
chosen_flags true x y = refl
chosen_flags false x y = refl

module _ (w : Setting) (c : Conf) (l : ℕ → ℕ) (h : Holds w c.scalars c.vectors c.masks l) where
  pub lane_or_is : (x k : Register) (t : Elem) → IsVector w x t → elem w x ≡ t → (other : Expr) (u : ℕ) → value l other ≡ u → (p : ℕ) → p < gang w
      → value l (lane_or w x k other p) ≡ (if c.masks k.number p then c.vectors x.number p else u)
  lane_or_is x k t xv e other u is p low =
      let lane : value l (lane_at (elem w x) (vector_local w x) p) ≡ c.vectors x.number p = subst (λ z. value l (lane_at z (vector_local w x) p) ≡ c.vectors x.number p) (sym e) (vector_lane w c l h x t xv p low) in
      ap (λ m. chosen m (value l (lane_at (elem w x) (vector_local w x) p)) (value l other)) (member_is w c.scalars c.vectors c.masks l h k p)
      ∙ chosen_flags (c.masks k.number p) (value l (lane_at (elem w x) (vector_local w x) p)) (value l other) ∙ ap₂ (λ a b. if c.masks k.number p then a else b) lane is

  pub lane_zero_is : (x k : Register) → IsVector w x (elem w x) → (p : ℕ) → p < gang w → value l (lane_or_zero w x k p) ≡ or_zero (on (c.masks k.number) (c.vectors x.number) p)
  lane_zero_is x k xv p low =
      lane_or_is x k (elem w x) xv refl (constant (size_of (elem w x)) 0) 0 (zero_of (size_of (elem w x)) l) p low ∙ or_zero_is (c.masks k.number p) (c.vectors x.number p)

  masked_fits : (x k : Register) → IsVector w x (elem w x) → (u : ℕ) → u < 2 ^ width (elem w x) → (p : ℕ) → p < gang w → (if c.masks k.number p then c.vectors x.number p else u) < 2 ^ width (elem w x)
  masked_fits x k xv u fit p low = by (c.masks k.number p)
    where
      by : (b : Bool) → (if b then c.vectors x.number p else u) < 2 ^ width (elem w x)
      by true = vector_fits w c l h x (elem w x) xv p low
      by false = fit

  -- an operator over the lanes, with what leaves every value as it is where there is none
  fold_is : (o : Plain) (x k : Register) (u : ℕ) → IsInteger (elem w x) → IsVector w x (elem w x) → u < 2 ^ width (elem w x) → ((a : ℕ) → a < 2 ^ width (elem w x) → op_bits (plain_of o) (elem w x) a u ≡ a)
      → (n : ℕ) → n ≤ gang w
      → (value l (folded w (plain_expr o (elem w x)) (constant (size_of (elem w x)) u) (lane_or w x k (constant (size_of (elem w x)) u)) n) ≡ fold_below (op_bits (plain_of o) (elem w x)) u (on (c.masks k.number) (c.vectors x.number)) n)
      × (fold_below (op_bits (plain_of o) (elem w x)) u (on (c.masks k.number) (c.vectors x.number)) n < 2 ^ width (elem w x))
  fold_is o x k u num xv fit stays zero le = (constant_is l (elem w x) u fit, fit)
  fold_is o x k u num xv fit stays (suc n) le = next (fold_is o x k u num xv fit stays n (omega arith))
    where
      t : Elem
      t = elem w x

      acc : ℕ
      acc = fold_below (op_bits (plain_of o) t) u (on (c.masks k.number) (c.vectors x.number)) n

      more : Bool → ℕ
      more b = and_this (op_bits (plain_of o) t) acc (if b then Some (c.vectors x.number n) else None)

      by : (b : Bool) → acc < 2 ^ width t → (op_bits (plain_of o) t acc (if b then c.vectors x.number n else u) ≡ more b) × (more b < 2 ^ width t)
      by true low = (refl, op_fits o t acc (c.vectors x.number n))
      by false low = (stays acc low, low)

      next : (value l (folded w (plain_expr o t) (constant (size_of t) u) (lane_or w x k (constant (size_of t) u)) n) ≡ acc) × (acc < 2 ^ width t)
          → (value l (folded w (plain_expr o t) (constant (size_of t) u) (lane_or w x k (constant (size_of t) u)) (suc n)) ≡ more (c.masks k.number n)) × (more (c.masks k.number n) < 2 ^ width t)
      next ih = (
        plain_is o t l (folded w (plain_expr o t) (constant (size_of t) u) (lane_or w x k (constant (size_of t) u)) n) (lane_or w x k (constant (size_of t) u) n) acc (if c.masks k.number n then c.vectors x.number n else u) num ih.0
            (lane_or_is x k t xv refl (constant (size_of t) u) u (constant_is l t u fit) n (omega arith)) ih.1 (masked_fits x k xv u fit n (omega arith)) ∙ (by (c.masks k.number n) ih.1).0,
        (by (c.masks k.number n) ih.1).1,
      )

  add_stays : (t : Elem) (a : ℕ) → a < 2 ^ width t → op_bits (plain_of plain.Add) t a 0 ≡ a
  add_stays t a q = sym (add_bits t a 0 q (pow_pos (width t))) ∙ ap (λ z. z % 2 ^ width t) (let e : a + 0 ≡ a = omega arith in e) ∙ mod-eq_of_lt q

  or_stays : (t : Elem) (a : ℕ) → a < 2 ^ width t → op_bits (plain_of plain.Or) t a 0 ≡ a
  or_stays t a q = sym (word_or t a 0 q (pow_pos (width t))) ∙ or_zero_r a

  and_stays : (t : Elem) (a : ℕ) → a < 2 ^ width t → op_bits (plain_of plain.And) t a (2 ^ width t - 1) ≡ a
  and_stays t a q = let some = pow_pos (width t) in sym (word_and t a (2 ^ width t - 1) q (omega arith)) ∙ and_mask a (width t) ∙ mod-eq_of_lt q

  -- what the lower lanes give
  pub scan_is : (o : Scan) (x k : Register) → IsInteger (elem w x) → IsVector w x (elem w x) → (p : ℕ) → p ≤ gang w
      → (value l (scan_expr w o x k p) ≡ exclusive_scan (scan_of o) (elem w x) (on (c.masks k.number) (c.vectors x.number)) p) × (exclusive_scan (scan_of o) (elem w x) (on (c.masks k.number) (c.vectors x.number)) p < 2 ^ width (elem w x))
  scan_is scan.Add x k num xv p le = fold_is plain.Add x k 0 num xv (pow_pos (width (elem w x))) (add_stays (elem w x)) p le
  scan_is scan.Or x k num xv p le = fold_is plain.Or x k 0 num xv (pow_pos (width (elem w x))) (or_stays (elem w x)) p le
  scan_is scan.And x k num xv p le = fold_is plain.And x k (2 ^ width (elem w x) - 1) num xv (let some = pow_pos (width (elem w x)) in omega arith) (and_stays (elem w x)) p le
