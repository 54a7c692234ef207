-- The lanes of vectors of a type: what the operators on rows make of them.
use Rattle.std.proofs.Common.{◌≡◌, ℕ, suc, ◌+◌, ◌-◌, ◌*◌, ◌/◌, ◌%◌, ◌^◌, ◌<◌, ◌≤◌, ◌≢◌, ◌⊎◌, inl, inr, ◌==◌, Bool, true, false, cond, not, refl, sym, ap, ap₂, ◌∙◌, subst, arith, lit≤, mod-eq_of_lt, eq-eqb, zero, bit_and, bit_xor}
use Rattle.std.specs.Prelude.{nat_eq, nat_lt, if◌then◌else◌, int_lt}
use Rattle.std.proofs.lemmas.Bool.{cases_lt, cases_eq, le-ltb, ne_eqb}
use Rattle.std.proofs.lemmas.Nat.{pow_pos}
use Rattle.isp_base.specs.Truths.{is_true}
use Rattle.isp_base.specs.Unary.{unary_to, unary_bits}
use Rattle.isp_base.specs.Values.{width, greatest, number, number_to, wrap, op_bits, compare_to}
use Rattle.isp_base.specs.Words.{magnitude}
use Rattle.isp_base.specs.declared.operators.Compare.{Compare}
use Rattle.isp_base.specs.declared.operators.Compare.TheVariants as compare
use Rattle.isp_base.specs.declared.operators.UnaryOp.{UnaryOp}
use Rattle.isp_base.specs.declared.operators.UnaryOp.TheVariants as unary
use Rattle.isp_base.specs.declared.types.Elem.{Elem}
use Rattle.isp_base.specs.declared.types.Elem.TheVariants.{Bool as Truth, I8, U8, I16, U16, I32, U32, I64, U64}
use Rattle.isp_base.proofs.Words.{word_less, word_and, word_or, word_xor, word_min, word_max, same_number}
use Rattle.isp_base.proofs.Unaries.{unary_at, negate_is, invert_is, absolute_is, not_is}
use Rattle.isp_code.specs.Lines.{plain_of}
use Rattle.isp_code.specs.declared.instr.Plain.{Plain}
use Rattle.isp_code.specs.declared.instr.Plain.TheVariants as plain
use Rattle.isp_wasm_meaning.specs.Digits.{packed}
use Rattle.isp_wasm_meaning.specs.Syntax as wasm
use Rattle.isp_wasm_meaning.specs.Syntax.{I8x16, I64x2, Add, Sub, Mul, And, Or, Xor, Eq, LtS, LtU, Expr, Const32, Const128}
use Rattle.isp_wasm_meaning.specs.Meaning.{lane, flags, wide, count, value, whole, bitwise, shifted, tested, raised, of_lanes}
use Rattle.isp_wasm.specs.Places.{Setting, shape_of, gang}
use Rattle.isp_wasm.specs.Words.{plain_expr, less_of, right_of}
use Rattle.isp_wasm.specs.Rows.{cell, as_cell, lane_at, raised_lanes, below_row, inverted, compare_row, unary_row, ones, by_lane, plain_row, shift_row}
use Rattle.isp_wasm.specs.Thin.{IsInteger, IsUnary}
use Rattle.isp_wasm.proofs.WordLaws.{less_words, add_bits, sub_bits, mul_bits, plain_is, op_fits, same_test, shl_known, shr_known}
use Rattle.isp_wasm.proofs.Converts.{negative_is, all_turned}
use Rattle.isp_wasm.proofs.Rows.{IsRow, row_same, row_whole, row_tested, row_bits, row_shifted, row_select, row_constant, row_built}

-- ---- one lane

pub lane_width : (t : Elem) → IsInteger t → wide (shape_of t) ≡ width t
lane_width Truth h = absurd h
lane_width I8 h = refl
lane_width U8 h = refl
lane_width I16 h = refl
lane_width U16 h = refl
lane_width I32 h = refl
lane_width U32 h = refl
lane_width I64 h = refl
lane_width U64 h = refl

pub cell_is : (t : Elem) (b : ℕ) → IsInteger t → cell t b ≡ b
cell_is Truth b h = absurd h
cell_is I8 b h = refl
cell_is U8 b h = refl
cell_is I16 b h = refl
cell_is U16 b h = refl
cell_is I32 b h = refl
cell_is U32 b h = refl
cell_is I64 b h = refl
cell_is U64 b h = refl

-- what is in a lane fits its type
pub cell_fits : (t : Elem) (b : ℕ) → cell t b < 2 ^ wide (shape_of t) → b < 2 ^ width t
cell_fits Truth b h = omega arith
cell_fits I8 b h = h
cell_fits U8 b h = h
cell_fits I16 b h = h
cell_fits U16 b h = h
cell_fits I32 b h = h
cell_fits U32 b h = h
cell_fits I64 b h = h
cell_fits U64 b h = h

pub fits_cell : (t : Elem) (b : ℕ) → b < 2 ^ width t → cell t b < 2 ^ wide (shape_of t)
fits_cell Truth b h = omega arith
fits_cell I8 b h = h
fits_cell U8 b h = h
fits_cell I16 b h = h
fits_cell U16 b h = h
fits_cell I32 b h = h
fits_cell U32 b h = h
fits_cell I64 b h = h
fits_cell U64 b h = h

as_bool : (b : ℕ) → b < 2 → (b ≡ 0) ⊎ (b ≡ 1)
as_bool zero h = inl refl
as_bool (suc zero) h = inr refl
as_bool (suc (suc b)) h = absurd (omega arith)

-- a bool's cell is flags
pub bool_flags : (b : ℕ) → b < 2 → cell Truth b ≡ flags 8 (is_true b)
bool_flags zero h = refl
bool_flags (suc zero) h = refl
bool_flags (suc (suc b)) h = absurd (omega arith)

pub cell_of_bool : (b : Bool) → flags 8 b ≡ cell Truth (if b then 1 else 0)
cell_of_bool true = refl
cell_of_bool false = refl

pub cell_written : (t : Elem) (l : ℕ → ℕ) (e : Expr) (v : ℕ) → value l e ≡ v → v < 2 ^ width t → value l (as_cell t e) % 2 ^ wide (shape_of t) ≡ cell t v
cell_written Truth l e v is h = ap (λ x. (0 % 2 ^ 32 + (2 ^ 32 - x)) % 2 ^ 32 % 2 ^ 8) is ∙ by (as_bool v h)
  where
    by : (v ≡ 0) ⊎ (v ≡ 1) → (0 % 2 ^ 32 + (2 ^ 32 - v)) % 2 ^ 32 % 2 ^ 8 ≡ v * 255
    by (inl e) = subst (λ v. (0 % 2 ^ 32 + (2 ^ 32 - v)) % 2 ^ 32 % 2 ^ 8 ≡ v * 255) (sym e) refl
    by (inr e) = subst (λ v. (0 % 2 ^ 32 + (2 ^ 32 - v)) % 2 ^ 32 % 2 ^ 8 ≡ v * 255) (sym e) refl
cell_written I8 l e v is h = ap (λ x. x % 2 ^ 8) is ∙ mod-eq_of_lt h
cell_written U8 l e v is h = ap (λ x. x % 2 ^ 8) is ∙ mod-eq_of_lt h
cell_written I16 l e v is h = ap (λ x. x % 2 ^ 16) is ∙ mod-eq_of_lt h
cell_written U16 l e v is h = ap (λ x. x % 2 ^ 16) is ∙ mod-eq_of_lt h
cell_written I32 l e v is h = ap (λ x. x % 2 ^ 32) is ∙ mod-eq_of_lt h
cell_written U32 l e v is h = ap (λ x. x % 2 ^ 32) is ∙ mod-eq_of_lt h
cell_written I64 l e v is h = ap (λ x. x % 2 ^ 64) is ∙ mod-eq_of_lt h
cell_written U64 l e v is h = ap (λ x. x % 2 ^ 64) is ∙ mod-eq_of_lt h

-- the lanes of a row of a type
abbrev pub IsCells : ℕ → Elem → (ℕ → ℕ) → (ℕ → Expr) → (ℕ → ℕ) → Type 0
IsCells n t l e f = IsRow n (shape_of t) l e (λ p. cell t (f p))

-- a lane and its part
pub split_lane : (t : Elem) (p : ℕ) → (p / count (shape_of t) * count (shape_of t) + p % count (shape_of t) ≡ p) × (p % count (shape_of t) < count (shape_of t))
split_lane Truth p = (omega arith, omega arith)
split_lane I8 p = (omega arith, omega arith)
split_lane U8 p = (omega arith, omega arith)
split_lane I16 p = (omega arith, omega arith)
split_lane U16 p = (omega arith, omega arith)
split_lane I32 p = (omega arith, omega arith)
split_lane U32 p = (omega arith, omega arith)
split_lane I64 p = (omega arith, omega arith)
split_lane U64 p = (omega arith, omega arith)

lane_of_row : (n : ℕ) (t : Elem) (l : ℕ → ℕ) (e : ℕ → Expr) (f : ℕ → ℕ) (p : ℕ) → IsCells n t l e f → p < n
    → lane (shape_of t) (p % count (shape_of t)) (value l (e (p / count (shape_of t)))) ≡ cell t (f p)
lane_of_row n t l e f p x h =
    let at = split_lane t p in x (p / count (shape_of t)) (p % count (shape_of t)) at.1 (subst (λ q. q < n) (sym at.0) h) ∙ ap (λ q. cell t (f q)) at.0

low_bit : (b : ℕ) → b < 2 → bit_and (b * 255) 1 ≡ b
low_bit zero h = refl
low_bit (suc zero) h = refl
low_bit (suc (suc b)) h = absurd (omega arith)

pub lane_value : (n : ℕ) (t : Elem) (l : ℕ → ℕ) (e : ℕ → Expr) (f : ℕ → ℕ) (p : ℕ) → IsCells n t l e f → p < n → f p < 2 ^ width t → value l (lane_at t e p) ≡ f p
lane_value n Truth l e f p x h fit = ap (λ v. bit_and v 1) (lane_of_row n Truth l e f p x h) ∙ low_bit (f p) fit
lane_value n I8 l e f p x h fit = lane_of_row n I8 l e f p x h
lane_value n U8 l e f p x h fit = lane_of_row n U8 l e f p x h
lane_value n I16 l e f p x h fit = lane_of_row n I16 l e f p x h
lane_value n U16 l e f p x h fit = lane_of_row n U16 l e f p x h
lane_value n I32 l e f p x h fit = lane_of_row n I32 l e f p x h
lane_value n U32 l e f p x h fit = lane_of_row n U32 l e f p x h
lane_value n I64 l e f p x h fit = lane_of_row n I64 l e f p x h
lane_value n U64 l e f p x h fit = lane_of_row n U64 l e f p x h

pub by_lane_is : (w : Setting) (t : Elem) (l : ℕ → ℕ) (e : ℕ → Expr) (v : ℕ → ℕ) → ((p : ℕ) → p < gang w → (value l (e p) ≡ v p) × (v p < 2 ^ width t)) → IsCells (gang w) t l (by_lane w t e) v
by_lane_is w t l e v h =
    row_built (gang w) (shape_of t) l (λ p. as_cell t (e p)) (λ p. cell t (v p)) (λ p q. cell_written t l (e p) (v p) (h p q).0 (h p q).1)

-- ---- order

module _ (n : ℕ) (l : ℕ → ℕ) (x y : ℕ → Expr) (f g : ℕ → ℕ) where
  as_numbers : (t : Elem) (o : wasm.Test) → IsInteger t → IsCells n t l x f → IsCells n t l y g
      → IsRow n (shape_of t) l (λ j. wasm.Two (wasm.CompareLanes (shape_of t) o) (x j) (y j)) (λ p. flags (wide (shape_of t)) (tested (width t) o (f p) (g p)))
  as_numbers t o num a b =
      row_same n (shape_of t) l (λ j. wasm.Two (wasm.CompareLanes (shape_of t) o) (x j) (y j)) (λ p. flags (wide (shape_of t)) (tested (wide (shape_of t)) o (cell t (f p)) (cell t (g p))))
      (λ p. flags (wide (shape_of t)) (tested (width t) o (f p) (g p)))
      (λ p q. ap₂ (λ u v. flags (wide (shape_of t)) (tested (wide (shape_of t)) o u v)) (cell_is t (f p) num) (cell_is t (g p) num) ∙ ap (λ k. flags (wide (shape_of t)) (tested k o (f p) (g p))) (lane_width t num))
      (row_tested n (shape_of t) o l x y (λ p. cell t (f p)) (λ p. cell t (g p)) a b)

  abbrev pub Fit : Elem → Type 0
  Fit t = (p : ℕ) → p < n → (f p < 2 ^ width t) × (g p < 2 ^ width t)

  less_numbers : (t : Elem) → IsInteger t → IsCells n t l x f → IsCells n t l y g → Fit t
      → IsRow n (shape_of t) l (λ j. wasm.Two (wasm.CompareLanes (shape_of t) (less_of t)) (x j) (y j)) (λ p. flags (wide (shape_of t)) (int_lt (number t (f p)) (number t (g p))))
  less_numbers t num a b fit =
      row_same n (shape_of t) l (λ j. wasm.Two (wasm.CompareLanes (shape_of t) (less_of t)) (x j) (y j)) (λ p. flags (wide (shape_of t)) (tested (width t) (less_of t) (f p) (g p)))
      (λ p. flags (wide (shape_of t)) (int_lt (number t (f p)) (number t (g p)))) (λ p q. ap (flags (wide (shape_of t))) (less_words t (f p) (g p) (fit p q).0 (fit p q).1)) (as_numbers t (less_of t) num a b)

  less_bools : IsCells n Truth l x f → IsCells n Truth l y g → Fit Truth
      → IsRow n I8x16 l (λ j. wasm.Two (wasm.CompareLanes I8x16 LtU) (x j) (y j)) (λ p. flags 8 (int_lt (number Truth (f p)) (number Truth (g p))))
  less_bools a b fit =
      row_same n I8x16 l (λ j. wasm.Two (wasm.CompareLanes I8x16 LtU) (x j) (y j)) (λ p. flags 8 (nat_lt (f p * 255) (g p * 255))) (λ p. flags 8 (int_lt (number Truth (f p)) (number Truth (g p))))
      (λ p q. ap (flags 8) (same_test (f p * 255) (g p * 255) (f p) (g p) (λ i. omega arith) (λ i. omega arith) ∙ less_words Truth (f p) (g p) (fit p q).0 (fit p q).1))
      (row_tested n I8x16 LtU l x y (λ p. f p * 255) (λ p. g p * 255) a b)

raised_row : (n : ℕ) (l : ℕ → ℕ) (x : ℕ → Expr) (f : ℕ → ℕ) → IsRow n I64x2 l x f → IsRow n I64x2 l (λ j. raised_lanes (x j)) (λ p. whole 64 Add (f p) (2 ^ 63))
raised_row n l x f a = row_whole n I64x2 Add l x (λ j. Const128 (of_lanes I64x2 (λ i. 2 ^ 63))) f (λ p. 2 ^ 63) a (row_constant n I64x2 l (λ p. 2 ^ 63) (λ p q. lit≤ tt))

raised_back : (x : ℕ) → x < 2 ^ 64 → raised 64 (whole 64 Add x (2 ^ 63)) ≡ x
raised_back x h = by (cases_lt x (2 ^ 63))
  where
    by : (x < 2 ^ 63) ⊎ (2 ^ 63 ≤ x) → ((x + 2 ^ 63) % 2 ^ 64 + 2 ^ 63) % 2 ^ 64 ≡ x
    by (inl lt) = omega arith
    by (inr le) = omega arith

pub below_cells : (n : ℕ) (t : Elem) (l : ℕ → ℕ) (x y : ℕ → Expr) (f g : ℕ → ℕ) → IsCells n t l x f → IsCells n t l y g → Fit n l x y f g t
    → IsRow n (shape_of t) l (below_row t x y) (λ p. flags (wide (shape_of t)) (int_lt (number t (f p)) (number t (g p))))
below_cells n U64 l x y f g a b fit =
    row_same n I64x2 l (below_row U64 x y) (λ p. flags 64 (nat_lt (raised 64 (whole 64 Add (f p) (2 ^ 63))) (raised 64 (whole 64 Add (g p) (2 ^ 63))))) (λ p. flags 64 (int_lt (number U64 (f p)) (number U64 (g p))))
    (λ p q. ap (flags 64) (ap₂ nat_lt (raised_back (f p) (fit p q).0) (raised_back (g p) (fit p q).1) ∙ less_words U64 (f p) (g p) (fit p q).0 (fit p q).1))
    (row_tested n I64x2 LtS l (λ j. raised_lanes (x j)) (λ j. raised_lanes (y j)) (λ p. whole 64 Add (f p) (2 ^ 63)) (λ p. whole 64 Add (g p) (2 ^ 63)) (raised_row n l x f a) (raised_row n l y g b))
below_cells n Truth l x y f g a b fit = less_bools n l x y f g a b fit
below_cells n I8 l x y f g a b fit = less_numbers n l x y f g I8 tt a b fit
below_cells n U8 l x y f g a b fit = less_numbers n l x y f g U8 tt a b fit
below_cells n I16 l x y f g a b fit = less_numbers n l x y f g I16 tt a b fit
below_cells n U16 l x y f g a b fit = less_numbers n l x y f g U16 tt a b fit
below_cells n I32 l x y f g a b fit = less_numbers n l x y f g I32 tt a b fit
below_cells n U32 l x y f g a b fit = less_numbers n l x y f g U32 tt a b fit
below_cells n I64 l x y f g a b fit = less_numbers n l x y f g I64 tt a b fit

cell_test : (t : Elem) (u v : ℕ) → nat_eq (cell t u) (cell t v) ≡ nat_eq u v
cell_test Truth u v = by (cases_eq u v)
  where
    by : (u ≡ v) ⊎ (u ≡ v → ⊥) → nat_eq (u * 255) (v * 255) ≡ nat_eq u v
    by (inl e) = eq-eqb (u * 255) (v * 255) (ap (λ z. z * 255) e) ∙ sym (eq-eqb u v e)
    by (inr ne) = let other : u ≢ v = ne in ne_eqb (u * 255) (v * 255) (λ e. other (omega arith)) ∙ sym (ne_eqb u v ne)
cell_test I8 u v = refl
cell_test U8 u v = refl
cell_test I16 u v = refl
cell_test U16 u v = refl
cell_test I32 u v = refl
cell_test U32 u v = refl
cell_test I64 u v = refl
cell_test U64 u v = refl

same_cells : (n : ℕ) (t : Elem) (l : ℕ → ℕ) (x y : ℕ → Expr) (f g : ℕ → ℕ) → IsCells n t l x f → IsCells n t l y g → Fit n l x y f g t
    → IsRow n (shape_of t) l (λ j. wasm.Two (wasm.CompareLanes (shape_of t) Eq) (x j) (y j)) (λ p. flags (wide (shape_of t)) (compare_to compare.Equal (number t (f p)) (number t (g p))))
same_cells n t l x y f g a b fit =
    row_same n (shape_of t) l (λ j. wasm.Two (wasm.CompareLanes (shape_of t) Eq) (x j) (y j)) (λ p. flags (wide (shape_of t)) (nat_eq (cell t (f p)) (cell t (g p))))
    (λ p. flags (wide (shape_of t)) (compare_to compare.Equal (number t (f p)) (number t (g p))))
    (λ p q. ap (flags (wide (shape_of t))) (cell_test t (f p) (g p) ∙ sym (same_number t (f p) (g p) (fit p q).0 (fit p q).1)))
    (row_tested n (shape_of t) Eq l x y (λ p. cell t (f p)) (λ p. cell t (g p)) a b)

-- ---- flags turned

turned_flags : (w : ℕ) (b : Bool) → bit_xor (flags w b) (2 ^ w - 1) ≡ flags w (not b)
turned_flags w true = let some = pow_pos w in all_turned w (2 ^ w - 1) (omega arith) ∙ (let e : 2 ^ w - 1 - (2 ^ w - 1) ≡ 0 = omega arith in e)
turned_flags w false = all_turned w 0 (pow_pos w) ∙ (let e : 2 ^ w - 1 - 0 ≡ 2 ^ w - 1 = omega arith in e)

all_ones : (s : wasm.Shape) → of_lanes s (λ i. 2 ^ wide s - 1) ≡ 2 ^ 128 - 1
unfolding packed
all_ones wasm.I8x16 = refl
all_ones wasm.I16x8 = refl
all_ones wasm.I32x4 = refl
all_ones wasm.I64x2 = refl

ones_row : (n : ℕ) (s : wasm.Shape) (l : ℕ → ℕ) → IsRow n s l (λ j. ones) (λ p. 2 ^ wide s - 1)
ones_row n s l = subst (λ e. IsRow n s l (λ j. Const128 e) (λ p. 2 ^ wide s - 1)) (all_ones s) (row_constant n s l (λ p. 2 ^ wide s - 1) (λ p q. let some = pow_pos (wide s) in omega arith))

pub turned_row : (n : ℕ) (s : wasm.Shape) (l : ℕ → ℕ) (x : ℕ → Expr) (m : ℕ → Bool) → IsRow n s l x (λ p. flags (wide s) (m p)) → IsRow n s l (inverted x) (λ p. flags (wide s) (not (m p)))
turned_row n s l x m a =
    row_same n s l (inverted x) (λ p. bit_xor (flags (wide s) (m p)) (2 ^ wide s - 1)) (λ p. flags (wide s) (not (m p))) (λ p q. turned_flags (wide s) (m p))
    (row_bits n s Xor l x (λ j. ones) (λ p. flags (wide s) (m p)) (λ p. 2 ^ wide s - 1) a (ones_row n s l))

pub compare_cells : (n : ℕ) (o : Compare) (t : Elem) (l : ℕ → ℕ) (x y : ℕ → Expr) (f g : ℕ → ℕ) → IsCells n t l x f → IsCells n t l y g → Fit n l x y f g t
    → IsRow n (shape_of t) l (compare_row o t x y) (λ p. flags (wide (shape_of t)) (compare_to o (number t (f p)) (number t (g p))))
compare_cells n compare.Equal t l x y f g a b fit = same_cells n t l x y f g a b fit
compare_cells n compare.NotEqual t l x y f g a b fit =
    turned_row n (shape_of t) l (λ j. wasm.Two (wasm.CompareLanes (shape_of t) Eq) (x j) (y j)) (λ p. compare_to compare.Equal (number t (f p)) (number t (g p))) (same_cells n t l x y f g a b fit)
compare_cells n compare.Less t l x y f g a b fit = below_cells n t l x y f g a b fit
compare_cells n compare.LessOrEqual t l x y f g a b fit =
    turned_row n (shape_of t) l (below_row t y x) (λ p. int_lt (number t (g p)) (number t (f p))) (below_cells n t l y x g f b a (λ p q. ((fit p q).1, (fit p q).0)))
compare_cells n compare.Greater t l x y f g a b fit = below_cells n t l y x g f b a (λ p q. ((fit p q).1, (fit p q).0))
compare_cells n compare.GreaterOrEqual t l x y f g a b fit = turned_row n (shape_of t) l (below_row t x y) (λ p. int_lt (number t (f p)) (number t (g p))) (below_cells n t l x y f g a b fit)

-- ---- operators on numbers

-- without the word of cells
bare : (n : ℕ) (t : Elem) (l : ℕ → ℕ) (x : ℕ → Expr) (f : ℕ → ℕ) → IsInteger t → IsCells n t l x f → IsRow n (shape_of t) l x f
bare n t l x f num a = row_same n (shape_of t) l x (λ p. cell t (f p)) f (λ p q. cell_is t (f p) num) a

pub covered : (n : ℕ) (t : Elem) (l : ℕ → ℕ) (x : ℕ → Expr) (f g : ℕ → ℕ) → IsInteger t → ((p : ℕ) → p < n → f p ≡ g p) → IsRow n (shape_of t) l x f → IsCells n t l x g
covered n t l x f g num same a = row_same n (shape_of t) l x f (λ p. cell t (g p)) (λ p q. same p q ∙ sym (cell_is t (g p) num)) a

whole_cells : (n : ℕ) (o : wasm.Whole) (t : Elem) (l : ℕ → ℕ) (x y : ℕ → Expr) (f g v : ℕ → ℕ) → IsInteger t → IsCells n t l x f → IsCells n t l y g → ((p : ℕ) → p < n → whole (width t) o (f p) (g p) ≡ v p)
    → IsCells n t l (λ j. wasm.Two (wasm.Lanes (shape_of t) o) (x j) (y j)) v
whole_cells n o t l x y f g v num a b is =
    covered n t l (λ j. wasm.Two (wasm.Lanes (shape_of t) o) (x j) (y j)) (λ p. whole (wide (shape_of t)) o (f p) (g p)) v num (λ p q. ap (λ k. whole k o (f p) (g p)) (lane_width t num) ∙ is p q)
    (row_whole n (shape_of t) o l x y f g (bare n t l x f num a) (bare n t l y g num b))

bits_cells : (n : ℕ) (o : wasm.Bitwise) (t : Elem) (l : ℕ → ℕ) (x y : ℕ → Expr) (f g v : ℕ → ℕ) → IsInteger t → IsCells n t l x f → IsCells n t l y g → ((p : ℕ) → p < n → bitwise o (f p) (g p) ≡ v p)
    → IsCells n t l (λ j. wasm.Two (wasm.Bits o) (x j) (y j)) v
bits_cells n o t l x y f g v num a b is =
    covered n t l (λ j. wasm.Two (wasm.Bits o) (x j) (y j)) (λ p. bitwise o (f p) (g p)) v num is (row_bits n (shape_of t) o l x y f g (bare n t l x f num a) (bare n t l y g num b))

-- a shift of all lanes by one amount
shifted_cells : (n : ℕ) (o : wasm.Shift) (t : Elem) (l : ℕ → ℕ) (x : ℕ → Expr) (f v : ℕ → ℕ) (b : ℕ) → IsInteger t → IsCells n t l x f → ((p : ℕ) → p < n → shifted (width t) o (f p) (b % width t % 2 ^ 32) ≡ v p)
    → IsCells n t l (λ j. wasm.Two (wasm.ShiftLanes (shape_of t) o) (x j) (Const32 (b % width t))) v
shifted_cells n o t l x f v b num a is =
    covered n t l (λ j. wasm.Two (wasm.ShiftLanes (shape_of t) o) (x j) (Const32 (b % width t))) (λ p. shifted (wide (shape_of t)) o (f p) (b % width t % 2 ^ 32)) v num
    (λ p q. ap (λ k. shifted k o (f p) (b % width t % 2 ^ 32)) (lane_width t num) ∙ is p q) (row_shifted n (shape_of t) o l x (Const32 (b % width t)) f (bare n t l x f num a))

module _ (n : ℕ) (t : Elem) (l : ℕ → ℕ) (x : ℕ → Expr) (f : ℕ → ℕ) (b : ℕ) (num : IsInteger t) (a : IsCells n t l x f) (fit : (p : ℕ) → p < n → f p < 2 ^ width t) where
  pub shl_cells : IsCells n t l (shift_row plain.Shl t x b) (λ p. op_bits (plain_of plain.Shl) t (f p) b)
  shl_cells = shifted_cells n wasm.Shl t l x f (λ p. op_bits (plain_of plain.Shl) t (f p) b) b num a (λ p q. shl_known t (f p) b num (fit p q))

  pub shr_cells : IsCells n t l (shift_row plain.Shr t x b) (λ p. op_bits (plain_of plain.Shr) t (f p) b)
  shr_cells = shifted_cells n (right_of t) t l x f (λ p. op_bits (plain_of plain.Shr) t (f p) b) b num a (λ p q. shr_known t (f p) b num (fit p q))

choose_cells : (n : ℕ) (t : Elem) (l : ℕ → ℕ) (x y c : ℕ → Expr) (f g v : ℕ → ℕ) (m : ℕ → Bool) → IsCells n t l x f → IsCells n t l y g → IsRow n (shape_of t) l c (λ p. flags (wide (shape_of t)) (m p))
    → ((p : ℕ) → p < n → (if m p then f p else g p) ≡ v p) → IsCells n t l (λ j. wasm.Bitselect (x j) (y j) (c j)) v
choose_cells n t l x y c f g v m a b d is =
    row_same n (shape_of t) l (λ j. wasm.Bitselect (x j) (y j) (c j)) (λ p. if m p then cell t (f p) else cell t (g p)) (λ p. cell t (v p)) (λ p q. by (m p) (f p) (g p) ∙ ap (cell t) (is p q))
    (row_select n (shape_of t) l x y c (λ p. cell t (f p)) (λ p. cell t (g p)) m a b d)
  where
    by : (b : Bool) (u v : ℕ) → (if b then cell t u else cell t v) ≡ cell t (if b then u else v)
    by true u v = refl
    by false u v = refl

pub select_cells : (n : ℕ) (t : Elem) (l : ℕ → ℕ) (x y c : ℕ → Expr) (f g : ℕ → ℕ) (m : ℕ → Bool) → IsCells n t l x f → IsCells n t l y g → IsRow n (shape_of t) l c (λ p. flags (wide (shape_of t)) (m p))
    → IsCells n t l (λ j. wasm.Bitselect (x j) (y j) (c j)) (λ p. if m p then f p else g p)
select_cells n t l x y c f g m a b d = choose_cells n t l x y c f g (λ p. if m p then f p else g p) m a b d (λ p q. refl)

module _ (w : Setting) (l : ℕ → ℕ) (x y : ℕ → Expr) (f g : ℕ → ℕ) where
  -- lane by lane
  plain_lanes : (o : Plain) (t : Elem) → IsInteger t → IsCells (gang w) t l x f → IsCells (gang w) t l y g → Fit (gang w) l x y f g t
      → IsCells (gang w) t l (by_lane w t (λ p. plain_expr o t (lane_at t x p) (lane_at t y p))) (λ p. op_bits (plain_of o) t (f p) (g p))
  plain_lanes o t num a b fit =
      by_lane_is w t l (λ p. plain_expr o t (lane_at t x p) (lane_at t y p)) (λ p. op_bits (plain_of o) t (f p) (g p))
      (λ p q. (plain_is o t l (lane_at t x p) (lane_at t y p) (f p) (g p) num (lane_value (gang w) t l x f p a q (fit p q).0) (lane_value (gang w) t l y g p b q (fit p q).1) (fit p q).0 (fit p q).1, op_fits o t (f p) (g p)))

  mul_lanes : (t : Elem) → IsInteger t → IsCells (gang w) t l x f → IsCells (gang w) t l y g → Fit (gang w) l x y f g t
      → IsCells (gang w) t l (λ j. wasm.Two (wasm.Lanes (shape_of t) Mul) (x j) (y j)) (λ p. op_bits (plain_of plain.Mul) t (f p) (g p))
  mul_lanes t num a b fit =
      whole_cells (gang w) Mul t l x y f g (λ p. op_bits (plain_of plain.Mul) t (f p) (g p)) num a b (λ p q. mul_bits t (f p) (g p) (fit p q).0 (fit p q).1)

  mul_cells : (t : Elem) → IsInteger t → IsCells (gang w) t l x f → IsCells (gang w) t l y g → Fit (gang w) l x y f g t → IsCells (gang w) t l (plain_row w plain.Mul t x y) (λ p. op_bits (plain_of plain.Mul) t (f p) (g p))
  mul_cells Truth num a b fit = absurd num
  mul_cells I8 num a b fit = plain_lanes plain.Mul I8 num a b fit
  mul_cells U8 num a b fit = plain_lanes plain.Mul U8 num a b fit
  mul_cells I16 num a b fit = mul_lanes I16 num a b fit
  mul_cells U16 num a b fit = mul_lanes U16 num a b fit
  mul_cells I32 num a b fit = mul_lanes I32 num a b fit
  mul_cells U32 num a b fit = mul_lanes U32 num a b fit
  mul_cells I64 num a b fit = mul_lanes I64 num a b fit
  mul_cells U64 num a b fit = mul_lanes U64 num a b fit

  pub plain_cells : (o : Plain) (t : Elem) → IsInteger t → IsCells (gang w) t l x f → IsCells (gang w) t l y g → Fit (gang w) l x y f g t
      → IsCells (gang w) t l (plain_row w o t x y) (λ p. op_bits (plain_of o) t (f p) (g p))
  plain_cells plain.Add t num a b fit = whole_cells (gang w) Add t l x y f g (λ p. op_bits (plain_of plain.Add) t (f p) (g p)) num a b (λ p q. add_bits t (f p) (g p) (fit p q).0 (fit p q).1)
  plain_cells plain.Sub t num a b fit = whole_cells (gang w) Sub t l x y f g (λ p. op_bits (plain_of plain.Sub) t (f p) (g p)) num a b (λ p q. sub_bits t (f p) (g p) (fit p q).0 (fit p q).1)
  plain_cells plain.Mul t num a b fit = mul_cells t num a b fit
  plain_cells plain.And t num a b fit = bits_cells (gang w) And t l x y f g (λ p. op_bits (plain_of plain.And) t (f p) (g p)) num a b (λ p q. word_and t (f p) (g p) (fit p q).0 (fit p q).1)
  plain_cells plain.Or t num a b fit = bits_cells (gang w) Or t l x y f g (λ p. op_bits (plain_of plain.Or) t (f p) (g p)) num a b (λ p q. word_or t (f p) (g p) (fit p q).0 (fit p q).1)
  plain_cells plain.Xor t num a b fit = bits_cells (gang w) Xor t l x y f g (λ p. op_bits (plain_of plain.Xor) t (f p) (g p)) num a b (λ p q. word_xor t (f p) (g p) (fit p q).0 (fit p q).1)
  plain_cells plain.Shl t num a b fit = plain_lanes plain.Shl t num a b fit
  plain_cells plain.Shr t num a b fit = plain_lanes plain.Shr t num a b fit
  plain_cells plain.Min t num a b fit =
      choose_cells (gang w) t l y x (below_row t y x) g f (λ p. op_bits (plain_of plain.Min) t (f p) (g p)) (λ p. int_lt (number t (g p)) (number t (f p))) b a
      (below_cells (gang w) t l y x g f b a (λ p q. ((fit p q).1, (fit p q).0)))
      (λ p q. ap (λ m. if m then g p else f p) (sym (word_less t (g p) (f p) (fit p q).1 (fit p q).0)) ∙ word_min t (f p) (g p) (fit p q).0 (fit p q).1)
  plain_cells plain.Max t num a b fit =
      choose_cells (gang w) t l x y (below_row t y x) f g (λ p. op_bits (plain_of plain.Max) t (f p) (g p)) (λ p. int_lt (number t (g p)) (number t (f p))) a b
      (below_cells (gang w) t l y x g f b a (λ p q. ((fit p q).1, (fit p q).0)))
      (λ p q. ap (λ m. if m then f p else g p) (sym (word_less t (g p) (f p) (fit p q).1 (fit p q).0)) ∙ word_max t (f p) (g p) (fit p q).0 (fit p q).1)

all_zeros : (t : Elem) → of_lanes (shape_of t) (λ i. cell t 0) ≡ 0
unfolding packed
all_zeros Truth = refl
all_zeros I8 = refl
all_zeros U8 = refl
all_zeros I16 = refl
all_zeros U16 = refl
all_zeros I32 = refl
all_zeros U32 = refl
all_zeros I64 = refl
all_zeros U64 = refl

pub zero_cells : (n : ℕ) (t : Elem) (l : ℕ → ℕ) → IsCells n t l (λ j. Const128 0) (λ p. 0)
zero_cells n t l = subst (λ e. IsRow n (shape_of t) l (λ j. Const128 e) (λ p. cell t 0)) (all_zeros t) (row_constant n (shape_of t) l (λ p. cell t 0) (λ p q. fits_cell t 0 (pow_pos (width t))))

module _ (n : ℕ) (l : ℕ → ℕ) (x : ℕ → Expr) (f : ℕ → ℕ) where
  minus_cells : (t : Elem) → IsInteger t → IsCells n t l x f → ((p : ℕ) → p < n → f p < 2 ^ width t) → IsCells n t l (λ j. wasm.Two (wasm.Lanes (shape_of t) Sub) (Const128 0) (x j)) (λ p. (2 ^ width t - f p) % 2 ^ width t)
  minus_cells t num a fit =
      whole_cells n Sub t l (λ j. Const128 0) x (λ p. 0) f (λ p. (2 ^ width t - f p) % 2 ^ width t) num (zero_cells n t l) a
      (λ p q. ap (λ k. k % 2 ^ width t) (let e : 0 + (2 ^ width t - f p) ≡ 2 ^ width t - f p = omega arith in e))

  -- the operator on the bits
  unary_same : (o : UnaryOp) (t : Elem) (p v : ℕ) → f p < 2 ^ width t → v ≡ wrap t (unary_to o (number_to (width t) (greatest t) (f p))) → v ≡ unary_bits o t (f p)
  unary_same o t p v fit is = unary_at o o refl t (f p) (f p) v (sym (mod-eq_of_lt fit)) is

  absolute_cells : (t : Elem) → IsInteger t → IsCells n t l x f → ((p : ℕ) → p < n → f p < 2 ^ width t) → IsCells n t l (unary_row unary.Absolute t x) (λ p. unary_bits unary.Absolute t (f p))
  absolute_cells t num a fit =
      choose_cells n t l (λ j. wasm.Two (wasm.Lanes (shape_of t) Sub) (Const128 0) (x j)) x (below_row t x (λ j. Const128 0)) (λ p. (2 ^ width t - f p) % 2 ^ width t) f (λ p. unary_bits unary.Absolute t (f p))
      (λ p. int_lt (number t (f p)) (number t 0)) (minus_cells t num a fit) a (below_cells n t l x (λ j. Const128 0) f (λ p. 0) a (zero_cells n t l) (λ p q. (fit p q, pow_pos (width t))))
      (λ p q. unary_same unary.Absolute t p (if int_lt (number t (f p)) (number t 0) then (2 ^ width t - f p) % 2 ^ width t else f p) (fit p q)
      (ap (λ b. if b then (2 ^ width t - f p) % 2 ^ width t else f p) (negative_is t (f p) (fit p q)) ∙ by (f p) (fit p q) (cases_lt (greatest t) (f p)) ∙ sym (absolute_is t (f p) (fit p q))))
    where
      by : (v : ℕ) → v < 2 ^ width t → (greatest t < v) ⊎ (v ≤ greatest t) → (if nat_lt (greatest t) v then (2 ^ width t - v) % 2 ^ width t else v) ≡ magnitude (width t) (greatest t) v
      by v h (inl lt) = ap (λ u. if nat_lt (greatest t) v then u else v) (mod-eq_of_lt (omega arith))
      by v h (inr le) = ap (λ b. if b then (2 ^ width t - v) % 2 ^ width t else v) (le-ltb (greatest t) v le) ∙ sym (ap (λ b. if b then 2 ^ width t - v else v) (le-ltb (greatest t) v le))

  invert_cells : (t : Elem) → IsInteger t → IsCells n t l x f → ((p : ℕ) → p < n → f p < 2 ^ width t) → IsCells n t l (inverted x) (λ p. unary_bits unary.Invert t (f p))
  invert_cells t num a fit =
      covered n t l (inverted x) (λ p. bit_xor (f p) (2 ^ wide (shape_of t) - 1)) (λ p. unary_bits unary.Invert t (f p)) num
      (λ p q. ap (λ k. bit_xor (f p) (2 ^ k - 1)) (lane_width t num)
      ∙ unary_same unary.Invert t p (bit_xor (f p) (2 ^ width t - 1)) (fit p q) (all_turned (width t) (f p) (fit p q) ∙ sym (invert_is (width t) (greatest t) (f p) (fit p q))))
      (row_bits n (shape_of t) Xor l x (λ j. ones) f (λ p. 2 ^ wide (shape_of t) - 1) (bare n t l x f num a) (ones_row n (shape_of t) l))

  not_cells : IsCells n Truth l x f → ((p : ℕ) → p < n → f p < 2) → IsCells n Truth l (inverted x) (λ p. unary_bits unary.Not Truth (f p))
  not_cells a fit =
      row_same n I8x16 l (inverted x) (λ p. flags 8 (not (is_true (f p)))) (λ p. cell Truth (unary_bits unary.Not Truth (f p)))
      (λ p q. cell_of_bool (not (is_true (f p))) ∙ ap (cell Truth) (by (f p) (fit p q) ∙ unary_same unary.Not Truth p (cond (f p == 0) 1 0) (fit p q) (sym (not_is Truth (f p) (fit p q)))))
      (turned_row n I8x16 l x (λ p. is_true (f p)) (row_same n I8x16 l x (λ p. cell Truth (f p)) (λ p. flags 8 (is_true (f p))) (λ p q. bool_flags (f p) (fit p q)) a))
    where
      by : (v : ℕ) → v < 2 → ◌≡◌ {A = ℕ} (if not (is_true v) then 1 else 0) (cond (v == 0) 1 0)
      by zero h = refl
      by (suc zero) h = refl
      by (suc (suc v)) h = absurd (omega arith)

  pub unary_cells : (o : UnaryOp) (t : Elem) → IsUnary o t → IsCells n t l x f → ((p : ℕ) → p < n → f p < 2 ^ width t) → IsCells n t l (unary_row o t x) (λ p. unary_bits o t (f p))
  unary_cells unary.Negate t num a fit =
      row_same n (shape_of t) l (unary_row unary.Negate t x) (λ p. cell t ((2 ^ width t - f p) % 2 ^ width t)) (λ p. cell t (unary_bits unary.Negate t (f p)))
      (λ p q. ap (cell t) (unary_same unary.Negate t p ((2 ^ width t - f p) % 2 ^ width t) (fit p q) (sym (negate_is (width t) (greatest t) (f p) (let h = fit p q in omega arith)))))
      (minus_cells t num a fit)
  unary_cells unary.Invert t num a fit = invert_cells t num a fit
  unary_cells unary.Absolute t num a fit = absolute_cells t num a fit
  unary_cells unary.Not t e a fit =
      subst (λ u. IsCells n u l x f → ((p : ℕ) → p < n → f p < 2 ^ width u) → IsCells n u l (inverted x) (λ p. unary_bits unary.Not u (f p))) (sym e) not_cells a fit
