-- Conversions of all lanes of a row.
use Rattle.std.proofs.Common.{◌≡◌, ℕ, zero, suc, ◌+◌, ◌-◌, ◌%◌, ◌^◌, ◌<◌, ◌≤◌, ◌⊎◌, inl, inr, Bool, true, false, cond, not, refl, sym, ap, ◌∙◌, subst, arith, mod-eq_of_lt, bit_and}
use Rattle.std.specs.Prelude.{nat_eq, nat_lt, if◌then◌else◌}
use Rattle.std.proofs.lemmas.Bool.{cases_lt, lt-ltb, le-ltb}
use Rattle.std.proofs.lemmas.Nat.{and_mask, pow_pos, pow_below}
use Rattle.std.proofs.Math.Nat.{mod-lt}
use Rattle.std.proofs.Math.Pow.{mod-mod-pow}
use Rattle.isp_base.specs.Values.{width, greatest, number, convert_bits, compare_to, wrap}
use Rattle.isp_base.specs.declared.operators.Compare.TheVariants as compare
use Rattle.isp_base.specs.declared.types.Elem.{Elem}
use Rattle.isp_base.specs.declared.types.Elem.TheVariants.{Bool as Truth, I8, U8, I16, U16, I32, U32, I64, U64}
use Rattle.isp_base.proofs.Words.{same_number}
use Rattle.isp_base.proofs.Converts.{whole_is}
use Rattle.isp_wasm_meaning.specs.Syntax.{Shape, I8x16, I16x8, I32x4, I64x2, And, Bits, Expr, Const128, Two}
use Rattle.isp_wasm_meaning.specs.Meaning.{flag, flags, of_lanes, signed, wide}
use Rattle.isp_wasm.specs.Places.{Setting, gang, shape_of}
use Rattle.isp_wasm.specs.Rows.{cell, compare_row, convert_row, narrowed, present, resized_row, without_sign}
use Rattle.isp_wasm.specs.Thin.{IsInteger}
use Rattle.isp_wasm.proofs.Converts.{signed_low, signed_high, spread, spread_low, truth_value}
use Rattle.isp_wasm.proofs.Rows.{IsShort, IsLow, row_same, row_bits, row_constant, row_narrowed, row_present, row_resized}
use Rattle.isp_wasm.proofs.Cells.{IsCells, lane_width, fits_cell, covered, zero_cells, compare_cells}

-- ---- the number of 64 bits that has the sign of a lane

high_number : (s : Shape) (v : ℕ) → v < 2 ^ wide s → 2 ^ (wide s - 1) ≤ v
    → (2 ^ 64 ≤ v + (2 ^ 64 - 2 ^ wide s) + 2 ^ (wide s - 1)) × (v + (2 ^ 64 - 2 ^ wide s) < 2 ^ 64) × ((v + (2 ^ 64 - 2 ^ wide s)) % 2 ^ wide s ≡ v)
high_number I8x16 v h k = (omega arith, omega arith, omega arith)
high_number I16x8 v h k = (omega arith, omega arith, omega arith)
high_number I32x4 v h k = (omega arith, omega arith, omega arith)
high_number I64x2 v h k = (omega arith, omega arith, omega arith)

signed_lane : (s : Shape) (v : ℕ) → v < 2 ^ wide s → IsShort s (signed (wide s) 64 v) × (signed (wide s) 64 v % 2 ^ wide s ≡ v)
signed_lane s v h = by (cases_lt v (2 ^ (wide s - 1)))
  where
    by : (v < 2 ^ (wide s - 1)) ⊎ (2 ^ (wide s - 1) ≤ v) → IsShort s (signed (wide s) 64 v) × (signed (wide s) 64 v % 2 ^ wide s ≡ v)
    by (inl lt) = subst (λ y. IsShort s y × (y % 2 ^ wide s ≡ v)) (sym (signed_low (wide s) 64 v lt)) (inl lt, mod-eq_of_lt h)
    by (inr le) =
        let is = high_number s v h le in subst (λ y. IsShort s y × (y % 2 ^ wide s ≡ v)) (sym (signed_high (wide s) 64 v le)) (inr (is.0, is.1), is.2)

-- of a type with a sign it is the value with its sign
signed_value : (n x : ℕ) → signed n 64 x ≡ cond (nat_lt (2 ^ (n - 1) - 1) x) (x + (2 ^ 64 - 2 ^ n)) x
signed_value n x = by (cases_lt x (2 ^ (n - 1)))
  where
    by : (x < 2 ^ (n - 1)) ⊎ (2 ^ (n - 1) ≤ x) → signed n 64 x ≡ cond (nat_lt (2 ^ (n - 1) - 1) x) (x + (2 ^ 64 - 2 ^ n)) x
    by (inl lt) = signed_low n 64 x lt ∙ sym (ap (λ b. cond b (x + (2 ^ 64 - 2 ^ n)) x) (le-ltb (2 ^ (n - 1) - 1) x (omega (arith, lt))))
    by (inr le) = signed_high n 64 x le ∙ sym (ap (λ b. cond b (x + (2 ^ 64 - 2 ^ n)) x) (lt-ltb (2 ^ (n - 1) - 1) x (omega (arith, le, pow_pos (n - 1)))))

abbrev lane_number : Elem → ℕ → ℕ
lane_number t x = signed (wide (shape_of t)) 64 (cell t x)

bool_bit : (x : ℕ) → x < 2 → lane_number Truth x % 2 ≡ x
bool_bit zero h = refl
bool_bit (suc zero) h = refl
bool_bit (suc (suc x)) h = absurd (omega (arith, h))

low_again : (y m k : ℕ) → k ≤ m → y % 2 ^ m % 2 ^ k ≡ y % 2 ^ k
low_again y m k h = subst (λ i. y % 2 ^ i % 2 ^ k ≡ y % 2 ^ k) (let e : m - k + k ≡ m = omega (arith, h) in e) (mod-mod-pow y (m - k) k)

-- lanes of which the lowest k bits are values
kept_cells : (n k : ℕ) (u : Elem) (l : ℕ → ℕ) (e : ℕ → Expr) (g v : ℕ → ℕ) → IsInteger u → IsLow n l g (shape_of u) e → ((p : ℕ) → p < n → g p % 2 ^ k ≡ v p)
    → IsCells n u l (λ j. if nat_lt k (width u) then Two (Bits And) (e j) (Const128 (of_lanes (shape_of u) (λ i. 2 ^ k - 1))) else e j) (λ p. v p % 2 ^ width u)
kept_cells n k u l e g v num x is = by (cases_lt k (width u))
  where
    s : Shape
    s = shape_of u

    masked : ℕ → Expr
    masked j = Two (Bits And) (e j) (Const128 (of_lanes s (λ i. 2 ^ k - 1)))

    same : wide s ≡ width u
    same = lane_width u num

    by : (k < width u) ⊎ (width u ≤ k) → IsCells n u l (λ j. if nat_lt k (width u) then masked j else e j) (λ p. v p % 2 ^ width u)
    by (inl lt) =
        let wider : 2 ^ k < 2 ^ width u = pow_below k (width u) lt in
        subst (λ b. IsCells n u l (λ j. if b then masked j else e j) (λ p. v p % 2 ^ width u)) (sym (lt-ltb k (width u) lt))
        (covered n u l masked (λ p. bit_and (g p % 2 ^ wide s) (2 ^ k - 1)) (λ p. v p % 2 ^ width u) num
        (λ p q. and_mask (g p % 2 ^ wide s) k ∙ low_again (g p) (wide s) k (subst (λ m. k ≤ m) (sym same) (omega (arith, lt))) ∙ is p q
        ∙ sym (mod-eq_of_lt (let low = subst (λ y. y < 2 ^ k) (is p q) (mod-lt (g p) (pow_pos k)) in omega (arith, low, wider))))
        (row_bits n s And l e (λ j. Const128 (of_lanes s (λ i. 2 ^ k - 1))) (λ p. g p % 2 ^ wide s) (λ p. 2 ^ k - 1) x
        (row_constant n s l (λ p. 2 ^ k - 1) (λ p q. subst (λ m. 2 ^ k - 1 < 2 ^ m) (sym same) (omega (arith, wider))))))
    by (inr le) =
        subst (λ b. IsCells n u l (λ j. if b then masked j else e j) (λ p. v p % 2 ^ width u)) (sym (le-ltb k (width u) le))
        (covered n u l e (λ p. g p % 2 ^ wide s) (λ p. v p % 2 ^ width u) num
        (λ p q. ap (λ m. g p % 2 ^ m) same ∙ sym (low_again (g p) k (width u) le) ∙ ap (λ y. y % 2 ^ width u) (is p q)) x)

module _ (w : Setting) (l : ℕ → ℕ) (e : ℕ → Expr) (f : ℕ → ℕ) where
  abbrev Fits : Elem → Type 0
  Fits t = (p : ℕ) → p < gang w → f p < 2 ^ width t

  abbrev sized_row : Elem → Elem → ℕ → Expr
  sized_row t u = resized_row (shape_of t) (shape_of u) (present w (shape_of t) e)

  sized_low : (t u : Elem) → IsCells (gang w) t l e f → Fits t → IsLow (gang w) l (λ p. lane_number t (f p)) (shape_of u) (sized_row t u)
  sized_low t u a fit =
      let s = shape_of t in
      row_resized (gang w) l (λ p. lane_number t (f p)) s (shape_of u) (present w s e) (λ p q. (signed_lane s (cell t (f p)) (fits_cell t (f p) (fit p q))).0)
      (row_present w s l e (λ p. lane_number t (f p) % 2 ^ wide s)
      (row_same (gang w) s l e (λ p. cell t (f p)) (λ p. lane_number t (f p) % 2 ^ wide s) (λ p q. sym (signed_lane s (cell t (f p)) (fits_cell t (f p) (fit p q))).1) a))

  spread_is : (t u : Elem) (p : ℕ) → f p < 2 ^ width t → spread t (f p) % 2 ^ width u ≡ wrap u (number t (f p))
  spread_is t u p h = whole_is t u (f p) (f p) (sym (mod-eq_of_lt h))

  abbrev Wrapped : (t u : Elem) → (ℕ → Expr) → Type 0
  Wrapped t u row = IsCells (gang w) u l row (λ p. wrap u (number t (f p)))

  with_sign : (t u : Elem) → IsInteger u → IsCells (gang w) t l e f → Fits t → ((p : ℕ) → lane_number t (f p) ≡ spread t (f p)) → Wrapped t u (sized_row t u)
  with_sign t u num a fit is =
      covered (gang w) u l (sized_row t u) (λ p. lane_number t (f p) % 2 ^ wide (shape_of u)) (λ p. wrap u (number t (f p))) num
      (λ p q. ap (λ y. y % 2 ^ wide (shape_of u)) (is p) ∙ ap (λ m. spread t (f p) % 2 ^ m) (lane_width u num) ∙ spread_is t u p (fit p q)) (sized_low t u a fit)

  no_sign : (t u : Elem) → IsInteger u → IsCells (gang w) t l e f → Fits t → ((p : ℕ) → p < gang w → lane_number t (f p) % 2 ^ width t ≡ f p) → greatest t ≡ 2 ^ width t - 1
      → Wrapped t u (λ j. if nat_lt (width t) (width u) then Two (Bits And) (sized_row t u j) (Const128 (of_lanes (shape_of u) (λ i. 2 ^ width t - 1))) else sized_row t u j)
  no_sign t u num a fit is most =
      let row = λ (j : ℕ). if nat_lt (width t) (width u) then Two (Bits And) (sized_row t u j) (Const128 (of_lanes (shape_of u) (λ i. 2 ^ width t - 1))) else sized_row t u j in
      row_same (gang w) (shape_of u) l row (λ p. cell u (f p % 2 ^ width u)) (λ p. cell u (wrap u (number t (f p))))
      (λ p q. let h = fit p q in ap (λ y. cell u (y % 2 ^ width u)) (sym (spread_low t (f p) (subst (λ m. f p ≤ m) (sym most) (omega (arith, h))))) ∙ ap (cell u) (spread_is t u p h))
      (kept_cells (gang w) (width t) u l (sized_row t u) (λ p. lane_number t (f p)) f num (sized_low t u a fit) is)

  -- the bits of an integer's lane
  own_bits : (t : Elem) → IsInteger t → Fits t → (p : ℕ) → p < gang w → lane_number t (f p) % 2 ^ wide (shape_of t) ≡ cell t (f p)
  own_bits t num fit p q = (signed_lane (shape_of t) (cell t (f p)) (fits_cell t (f p) (fit p q))).1

  to_integer : (t u : Elem) → IsInteger u → IsCells (gang w) t l e f → Fits t → Wrapped t u (without_sign t u (sized_row t u))
  to_integer Truth u num a fit = no_sign Truth u num a fit (λ p q. bool_bit (f p) (fit p q)) refl
  to_integer I8 u num a fit = with_sign I8 u num a fit (λ p. signed_value 8 (f p))
  to_integer U8 u num a fit = no_sign U8 u num a fit (own_bits U8 tt fit) refl
  to_integer I16 u num a fit = with_sign I16 u num a fit (λ p. signed_value 16 (f p))
  to_integer U16 u num a fit = no_sign U16 u num a fit (own_bits U16 tt fit) refl
  to_integer I32 u num a fit = with_sign I32 u num a fit (λ p. signed_value 32 (f p))
  to_integer U32 u num a fit = no_sign U32 u num a fit (own_bits U32 tt fit) refl
  to_integer I64 u num a fit = with_sign I64 u num a fit (λ p. signed_value 64 (f p))
  to_integer U64 u num a fit = no_sign U64 u num a fit (own_bits U64 tt fit) refl

  -- whether it is not 0
  flag_cell : (b : Bool) → flags 8 b ≡ cell Truth (flag b)
  flag_cell true = refl
  flag_cell false = refl

  to_bool : (t : Elem) → IsCells (gang w) t l e f → Fits t → IsCells (gang w) Truth l (convert_row w t Truth e) (λ p. convert_bits Truth (number t (f p)))
  to_bool t a fit =
      let s = shape_of t in
      let zeros : ℕ → Expr = (λ j. Const128 0) in
      let row = compare_row compare.NotEqual t e zeros in
      let m : ℕ → Bool = (λ p. compare_to compare.NotEqual (number t (f p)) (number t 0)) in
      row_same (gang w) I8x16 l (narrowed s (present w s row)) (λ p. flags 8 (m p)) (λ p. cell Truth (convert_bits Truth (number t (f p))))
      (λ p q. ap (λ b. flags 8 (not b)) (same_number t (f p) 0 (fit p q) (pow_pos (width t))) ∙ flag_cell (not (nat_eq (f p) 0)) ∙ ap (cell Truth) (truth_value t (f p) (fit p q)))
      (row_narrowed (gang w) s l (present w s row) m
      (row_present w s l row (λ p. flags (wide s) (m p))
      (compare_cells (gang w) compare.NotEqual t l e zeros f (λ p. 0) a (zero_cells (gang w) t l) (λ p q. (fit p q, pow_pos (width t))))))

  pub convert_cells : (t u : Elem) → IsCells (gang w) t l e f → Fits t → IsCells (gang w) u l (convert_row w t u e) (λ p. convert_bits u (number t (f p)))
  convert_cells t Truth a fit = to_bool t a fit
  convert_cells t I8 a fit = to_integer t I8 tt a fit
  convert_cells t U8 a fit = to_integer t U8 tt a fit
  convert_cells t I16 a fit = to_integer t I16 tt a fit
  convert_cells t U16 a fit = to_integer t U16 tt a fit
  convert_cells t I32 a fit = to_integer t I32 tt a fit
  convert_cells t U32 a fit = to_integer t U32 tt a fit
  convert_cells t I64 a fit = to_integer t I64 tt a fit
  convert_cells t U64 a fit = to_integer t U64 tt a fit
