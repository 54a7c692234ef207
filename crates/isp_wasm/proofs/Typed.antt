-- Expressions of values and of rows have the types that are wanted.
use Rattle.std.proofs.Common.{◌≡◌, ℕ, zero, suc, ◌+◌, ◌-◌, ◌*◌, ◌/◌, ◌%◌, ◌^◌, ◌<◌, ◌≤◌, Option, Bool, true, false, ◌&&◌, refl, sym, subst, arith, lit≤}
use Rattle.std.specs.Prelude.{nat_eq, nat_lt, min, if◌then◌else◌}
use Rattle.std.proofs.lemmas.Bool.{lt-ltb, ltb-true}
use Rattle.std.proofs.Math.Nat.{mod-lt}
use Rattle.isp_base.specs.Values.{width}
use Rattle.isp_base.specs.declared.operators.Compare.{Compare}
use Rattle.isp_base.specs.declared.operators.Compare.TheVariants as compare
use Rattle.isp_base.specs.declared.operators.UnaryOp.{UnaryOp}
use Rattle.isp_base.specs.declared.operators.UnaryOp.TheVariants as unary
use Rattle.isp_base.specs.declared.types.Elem.{Elem}
use Rattle.isp_base.specs.declared.types.Elem.TheVariants.{Bool as Truth, I8, U8, I16, U16, I32, U32, I64, U64}
use Rattle.isp_code.specs.declared.instr.Plain.{Plain}
use Rattle.isp_code.specs.declared.instr.Plain.TheVariants as plain
use Rattle.isp_wasm_meaning.specs.Lists.{evens}
use Rattle.isp_wasm_meaning.specs.Meaning.{count, of_lanes}
use Rattle.isp_wasm_meaning.specs.Module.{ValueType, V128}
use Rattle.isp_wasm_meaning.specs.Module as valued
use Rattle.isp_wasm_meaning.specs.Syntax as wasm
use Rattle.isp_wasm_meaning.specs.Syntax.{Size, Whole, Shape, I8x16, I16x8, I32x4, I64x2, Add, Sub, Mul, And, Or, Xor, Shl, ShrU, ShrS, Test, Eq, Ne, LtU, LtS}
use Rattle.isp_wasm_meaning.specs.Syntax.{Unary, Eqz, Wrap, ExtendU, ExtendS, Extend8S, Extend16S, Splat, Extract, ExtendLow, ExtendHigh, Of, BitsOf, ShiftOf, Lanes, CompareLanes, ShiftLanes, Bits, Replace, Shuffle}
use Rattle.isp_wasm_meaning.specs.Syntax.{Binary, Expr, Const32, Const64, Const128, One, Two, Select, Bitselect}
use Rattle.isp_wasm_meaning.specs.Valid.{same_type, sized, unpacked, taken, given, is_unary, first_taken, second_taken, given_by, is_binary, has_type}
use Rattle.isp_wasm.specs.Places.{Setting, gang, parts, shape_of, size_of}
use Rattle.isp_wasm.specs.Words as words
use Rattle.isp_wasm.specs.Words.{constant, with_sign, cut, amount_of, less_of, right_of, below, whole_expr, plain_expr, unary_expr, compare_expr, longer, convert_expr}
use Rattle.isp_wasm.specs.Rows.{as_cell, lane_at, built, half, extended, widened, joined, narrowed, resized_row, without_sign, ones, raised_lanes, below_row, inverted, compare_row, unary_row, by_lane, present, convert_row, plain_row, shift_row}
use Rattle.isp_wasm.specs.Thin.{IsUnary, IsInteger}

pub both : (a b : Bool) → a ≡ true → b ≡ true → (a && b) ≡ true
both true b p q = q
both false b p q = p

pub same : (t : ValueType) → same_type t t ≡ true
same valued.I32 = refl
same valued.I64 = refl
same V128 = refl

-- the part of bytes that a part of lanes is widened from
abbrev pub source : Shape → ℕ → ℕ
source I8x16 j = j
source I16x8 j = j / 2
source I32x4 j = j / 2 / 2
source I64x2 j = j / 2 / 2 / 2

module _ (local : ℕ → Option ValueType) where
  -- an expression has a type
  abbrev pub T : Expr → ValueType → Type 0
  T e t = has_type local e t ≡ true

  -- that of a value of an element type
  abbrev pub V : Expr → Elem → Type 0
  V e t = T e (sized (size_of t))

  pub one : (o : Unary) (x : Expr) → is_unary o ≡ true → T x (taken o) → T (One o x) (given o)
  one o x ok h = both (same_type (given o) (given o)) (is_unary o && has_type local x (taken o)) (same (given o)) (both (is_unary o) (has_type local x (taken o)) ok h)

  pub two : (o : Binary) (x y : Expr) → is_binary o ≡ true → T x (first_taken o) → T y (second_taken o) → T (Two o x y) (given_by o)
  two o x y ok h k =
      both (same_type (given_by o) (given_by o)) (is_binary o && (has_type local x (first_taken o) && has_type local y (second_taken o))) (same (given_by o))
      (both (is_binary o) (has_type local x (first_taken o) && has_type local y (second_taken o)) ok (both (has_type local x (first_taken o)) (has_type local y (second_taken o)) h k))

  pub select : (c x y : Expr) (t : ValueType) → T c valued.I32 → T x t → T y t → T (Select c x y) t
  select c x y t h p q = both (has_type local c valued.I32) (has_type local x t && has_type local y t) h (both (has_type local x t) (has_type local y t) p q)

  pub bitselect : (x y c : Expr) → T x V128 → T y V128 → T c V128 → T (Bitselect x y c) V128
  bitselect x y c h p q = both (has_type local x V128) (has_type local y V128 && has_type local c V128) h (both (has_type local y V128) (has_type local c V128) p q)

  pub number : (s : Size) (n : ℕ) → T (constant s n) (sized s)
  number wasm.I32 n = refl
  number wasm.I64 n = refl

  -- ---- values

  pub with_sign_typed : (t : Elem) (x : Expr) → V x t → V (with_sign t x) t
  with_sign_typed Truth x h = h
  with_sign_typed I8 x h = one Extend8S x refl h
  with_sign_typed U8 x h = h
  with_sign_typed I16 x h = one Extend16S x refl h
  with_sign_typed U16 x h = h
  with_sign_typed I32 x h = h
  with_sign_typed U32 x h = h
  with_sign_typed I64 x h = h
  with_sign_typed U64 x h = h

  pub cut_typed : (t : Elem) (x : Expr) → V x t → V (cut t x) t
  cut_typed Truth x h = h
  cut_typed I8 x h = two (BitsOf wasm.I32 And) x (Const32 (2 ^ 8 - 1)) refl h refl
  cut_typed U8 x h = two (BitsOf wasm.I32 And) x (Const32 (2 ^ 8 - 1)) refl h refl
  cut_typed I16 x h = two (BitsOf wasm.I32 And) x (Const32 (2 ^ 16 - 1)) refl h refl
  cut_typed U16 x h = two (BitsOf wasm.I32 And) x (Const32 (2 ^ 16 - 1)) refl h refl
  cut_typed I32 x h = h
  cut_typed U32 x h = h
  cut_typed I64 x h = h
  cut_typed U64 x h = h

  pub amount_typed : (t : Elem) (x : Expr) → V x t → V (amount_of t x) t
  amount_typed Truth x h = h
  amount_typed I8 x h = two (BitsOf wasm.I32 And) x (Const32 7) refl h refl
  amount_typed U8 x h = two (BitsOf wasm.I32 And) x (Const32 7) refl h refl
  amount_typed I16 x h = two (BitsOf wasm.I32 And) x (Const32 15) refl h refl
  amount_typed U16 x h = two (BitsOf wasm.I32 And) x (Const32 15) refl h refl
  amount_typed I32 x h = h
  amount_typed U32 x h = h
  amount_typed I64 x h = h
  amount_typed U64 x h = h

  pub below_typed : (t : Elem) (x y : Expr) → V x t → V y t → T (below t x y) valued.I32
  below_typed t x y h k = two (wasm.Compare (size_of t) (less_of t)) (with_sign t x) (with_sign t y) refl (with_sign_typed t x h) (with_sign_typed t y k)

  pub whole_typed : (t : Elem) (o : Whole) (x y : Expr) → V x t → V y t → V (whole_expr t o x y) t
  whole_typed t o x y h k = cut_typed t (Two (Of (size_of t) o) x y) (two (Of (size_of t) o) x y refl h k)

  pub plain_typed : (o : Plain) (t : Elem) (x y : Expr) → V x t → V y t → V (plain_expr o t x y) t
  plain_typed plain.Add t x y h k = whole_typed t Add x y h k
  plain_typed plain.Sub t x y h k = whole_typed t Sub x y h k
  plain_typed plain.Mul t x y h k = whole_typed t Mul x y h k
  plain_typed plain.And t x y h k = two (BitsOf (size_of t) And) x y refl h k
  plain_typed plain.Or t x y h k = two (BitsOf (size_of t) Or) x y refl h k
  plain_typed plain.Xor t x y h k = two (BitsOf (size_of t) Xor) x y refl h k
  plain_typed plain.Shl t x y h k = cut_typed t (Two (ShiftOf (size_of t) Shl) x (amount_of t y)) (two (ShiftOf (size_of t) Shl) x (amount_of t y) refl h (amount_typed t y k))
  plain_typed plain.Shr t x y h k =
      cut_typed t (Two (ShiftOf (size_of t) (right_of t)) (with_sign t x) (amount_of t y))
      (two (ShiftOf (size_of t) (right_of t)) (with_sign t x) (amount_of t y) refl (with_sign_typed t x h) (amount_typed t y k))
  plain_typed plain.Min t x y h k = select (below t y x) y x (sized (size_of t)) (below_typed t y x k h) k h
  plain_typed plain.Max t x y h k = select (below t y x) x y (sized (size_of t)) (below_typed t y x k h) h k

  pub zero_typed : (t : Elem) → V (constant (size_of t) 0) t
  zero_typed t = number (size_of t) 0

  pub negated : (t : Elem) (x : Expr) → V x t → V (whole_expr t Sub (constant (size_of t) 0) x) t
  negated t x h = whole_typed t Sub (constant (size_of t) 0) x (zero_typed t) h

  pub magnitude_typed : (t : Elem) (x : Expr) → V x t → V (Select (below t x (constant (size_of t) 0)) (whole_expr t Sub (constant (size_of t) 0) x) x) t
  magnitude_typed t x h =
      select (below t x (constant (size_of t) 0)) (whole_expr t Sub (constant (size_of t) 0) x) x (sized (size_of t)) (below_typed t x (constant (size_of t) 0) h (zero_typed t)) (negated t x h) h

  pub unary_typed : (o : UnaryOp) (t : Elem) (x : Expr) → IsUnary o t → V x t → V (unary_expr o t x) t
  unary_typed unary.Negate t x is h = negated t x h
  unary_typed unary.Invert t x is h = two (BitsOf (size_of t) Xor) x (constant (size_of t) (2 ^ width t - 1)) refl h (number (size_of t) (2 ^ width t - 1))
  unary_typed unary.Absolute t x is h = magnitude_typed t x h
  unary_typed unary.Not t x is h = subst (λ u. T (One (Eqz (size_of t)) x) (sized (size_of u))) (sym is) (one (Eqz (size_of t)) x refl h)

  pub compare_typed : (o : Compare) (t : Elem) (x y : Expr) → V x t → V y t → T (compare_expr o t x y) valued.I32
  compare_typed compare.Equal t x y h k = two (wasm.Compare (size_of t) Eq) x y refl h k
  compare_typed compare.NotEqual t x y h k = two (wasm.Compare (size_of t) Ne) x y refl h k
  compare_typed compare.Less t x y h k = below_typed t x y h k
  compare_typed compare.LessOrEqual t x y h k = one (Eqz wasm.I32) (below t y x) refl (below_typed t y x k h)
  compare_typed compare.Greater t x y h k = below_typed t y x k h
  compare_typed compare.GreaterOrEqual t x y h k = one (Eqz wasm.I32) (below t x y) refl (below_typed t x y h k)

  longer_typed : (t : Elem) (x : Expr) → T x valued.I32 → T (longer t x) valued.I64
  longer_typed Truth x h = one ExtendU x refl h
  longer_typed I8 x h = one ExtendS x refl h
  longer_typed U8 x h = one ExtendU x refl h
  longer_typed I16 x h = one ExtendS x refl h
  longer_typed U16 x h = one ExtendU x refl h
  longer_typed I32 x h = one ExtendS x refl h
  longer_typed U32 x h = one ExtendU x refl h
  longer_typed I64 x h = one ExtendU x refl h
  longer_typed U64 x h = one ExtendU x refl h

  sized_typed : (t : Elem) (a b : Size) (x : Expr) → T x (sized a) → T (words.sized t a b x) (sized b)
  sized_typed t wasm.I32 wasm.I32 x h = h
  sized_typed t wasm.I32 wasm.I64 x h = longer_typed t x h
  sized_typed t wasm.I64 wasm.I32 x h = one Wrap x refl h
  sized_typed t wasm.I64 wasm.I64 x h = h

  cut_sized : (t u : Elem) (x : Expr) → V x t → V (cut u (words.sized t (size_of t) (size_of u) (with_sign t x))) u
  cut_sized t u x h = cut_typed u (words.sized t (size_of t) (size_of u) (with_sign t x)) (sized_typed t (size_of t) (size_of u) (with_sign t x) (with_sign_typed t x h))

  pub convert_typed : (t u : Elem) (x : Expr) → V x t → V (convert_expr t u x) u
  convert_typed t Truth x h = two (wasm.Compare (size_of t) Ne) x (constant (size_of t) 0) refl h (zero_typed t)
  convert_typed t I8 x h = cut_sized t I8 x h
  convert_typed t U8 x h = cut_sized t U8 x h
  convert_typed t I16 x h = cut_sized t I16 x h
  convert_typed t U16 x h = cut_sized t U16 x h
  convert_typed t I32 x h = cut_sized t I32 x h
  convert_typed t U32 x h = cut_sized t U32 x h
  convert_typed t I64 x h = cut_sized t I64 x h
  convert_typed t U64 x h = cut_sized t U64 x h

  -- ---- lanes

  pub low : (p n : ℕ) → 0 < n → nat_lt (p % n) n ≡ true
  low p n h = lt-ltb (p % n) n (mod-lt p h)

  pub lane_typed : (t : Elem) (e : ℕ → Expr) (p : ℕ) → T (e (p / count (shape_of t))) V128 → V (lane_at t e p) t
  lane_typed Truth e p h = two (BitsOf wasm.I32 And) (One (Extract I8x16 (p % 16)) (e (p / 16))) (Const32 1) refl (one (Extract I8x16 (p % 16)) (e (p / 16)) (low p 16 (lit≤ tt)) h) refl
  lane_typed I8 e p h = one (Extract I8x16 (p % 16)) (e (p / 16)) (low p 16 (lit≤ tt)) h
  lane_typed U8 e p h = one (Extract I8x16 (p % 16)) (e (p / 16)) (low p 16 (lit≤ tt)) h
  lane_typed I16 e p h = one (Extract I16x8 (p % 8)) (e (p / 8)) (low p 8 (lit≤ tt)) h
  lane_typed U16 e p h = one (Extract I16x8 (p % 8)) (e (p / 8)) (low p 8 (lit≤ tt)) h
  lane_typed I32 e p h = one (Extract I32x4 (p % 4)) (e (p / 4)) (low p 4 (lit≤ tt)) h
  lane_typed U32 e p h = one (Extract I32x4 (p % 4)) (e (p / 4)) (low p 4 (lit≤ tt)) h
  lane_typed I64 e p h = one (Extract I64x2 (p % 2)) (e (p / 2)) (low p 2 (lit≤ tt)) h
  lane_typed U64 e p h = one (Extract I64x2 (p % 2)) (e (p / 2)) (low p 2 (lit≤ tt)) h

  pub cell_typed : (t : Elem) (x : Expr) → V x t → T (as_cell t x) (unpacked (shape_of t))
  cell_typed Truth x h = two (Of wasm.I32 Sub) (Const32 0) x refl refl h
  cell_typed I8 x h = h
  cell_typed U8 x h = h
  cell_typed I16 x h = h
  cell_typed U16 x h = h
  cell_typed I32 x h = h
  cell_typed U32 x h = h
  cell_typed I64 x h = h
  cell_typed U64 x h = h

  built_typed : (s : Shape) (n : ℕ) (f : ℕ → Expr) → n ≤ count s → ((i : ℕ) → i < n → T (f i) (unpacked s)) → T (built s n f) V128
  built_typed s zero f le h = refl
  built_typed s (suc n) f le h = two (Replace s n) (built s n f) (f n) (lt-ltb n (count s) (omega (arith, le))) (built_typed s n f (omega (arith, le)) (λ i l. h i (omega (arith, l)))) (h n (omega arith))

  -- ---- rows

  half_typed : (s : Shape) (b : Bool) (x : Expr) → is_unary (ExtendLow s) ≡ true → is_unary (ExtendHigh s) ≡ true → T x V128 → T (if b then One (ExtendLow s) x else One (ExtendHigh s) x) V128
  half_typed s true x p q h = one (ExtendLow s) x p h
  half_typed s false x p q h = one (ExtendHigh s) x q h

  pub widened_typed : (s : Shape) (e : ℕ → Expr) (j : ℕ) → T (e (source s j)) V128 → T (widened s e j) V128
  widened_typed I8x16 e j h = h
  widened_typed I16x8 e j h = half_typed I16x8 (nat_eq (j % 2) 0) (e (j / 2)) refl refl h
  widened_typed I32x4 e j h = half_typed I32x4 (nat_eq (j % 2) 0) (half I16x8 (j / 2) (e (j / 2 / 2))) refl refl (half_typed I16x8 (nat_eq (j / 2 % 2) 0) (e (j / 2 / 2)) refl refl h)
  widened_typed I64x2 e j h =
      half_typed I64x2 (nat_eq (j % 2) 0) (half I32x4 (j / 2) (half I16x8 (j / 2 / 2) (e (j / 2 / 2 / 2)))) refl refl
      (half_typed I32x4 (nat_eq (j / 2 % 2) 0) (half I16x8 (j / 2 / 2) (e (j / 2 / 2 / 2))) refl refl (half_typed I16x8 (nat_eq (j / 2 / 2 % 2) 0) (e (j / 2 / 2 / 2)) refl refl h))

  joined_typed : (s : Shape) (e : ℕ → Expr) (j : ℕ) → is_binary (Shuffle (evens s)) ≡ true → ((i : ℕ) → T (e i) V128) → T (joined s e j) V128
  joined_typed s e j ok h = two (Shuffle (evens s)) (e (2 * j)) (e (2 * j + 1)) ok (h (2 * j)) (h (2 * j + 1))

  pub narrowed_typed : (s : Shape) (e : ℕ → Expr) (j : ℕ) → ((i : ℕ) → T (e i) V128) → T (narrowed s e j) V128
  narrowed_typed I8x16 e j h = h j
  narrowed_typed I16x8 e j h = joined_typed I16x8 e j refl h
  narrowed_typed I32x4 e j h = joined_typed I16x8 (joined I32x4 e) j refl (λ i. joined_typed I32x4 e i refl h)
  narrowed_typed I64x2 e j h = joined_typed I16x8 (joined I32x4 (joined I64x2 e)) j refl (λ i. joined_typed I32x4 (joined I64x2 e) i refl (λ k. joined_typed I64x2 e k refl h))

  extended_typed : (s : Shape) (e : ℕ → Expr) → is_unary (ExtendLow s) ≡ true → is_unary (ExtendHigh s) ≡ true → ((i : ℕ) → T (e i) V128) → (j : ℕ) → T (extended s e j) V128
  extended_typed s e p q h j = half_typed s (nat_eq (j % 2) 0) (e (j / 2)) p q (h (j / 2))

  resized_typed : (s t : Shape) (e : ℕ → Expr) → ((i : ℕ) → T (e i) V128) → (j : ℕ) → T (resized_row s t e j) V128
  resized_typed s I8x16 e h j = narrowed_typed s e j h
  resized_typed I8x16 I16x8 e h j = widened_typed I16x8 e j (h (source I16x8 j))
  resized_typed I8x16 I32x4 e h j = widened_typed I32x4 e j (h (source I32x4 j))
  resized_typed I8x16 I64x2 e h j = widened_typed I64x2 e j (h (source I64x2 j))
  resized_typed I16x8 I16x8 e h j = h j
  resized_typed I16x8 I32x4 e h j = extended_typed I32x4 e refl refl h j
  resized_typed I16x8 I64x2 e h j = extended_typed I64x2 (extended I32x4 e) refl refl (extended_typed I32x4 e refl refl h) j
  resized_typed I32x4 I16x8 e h j = joined_typed I32x4 e j refl h
  resized_typed I32x4 I32x4 e h j = h j
  resized_typed I32x4 I64x2 e h j = extended_typed I64x2 e refl refl h j
  resized_typed I64x2 I16x8 e h j = joined_typed I32x4 (joined I64x2 e) j refl (λ i. joined_typed I64x2 e i refl h)
  resized_typed I64x2 I32x4 e h j = joined_typed I64x2 e j refl h
  resized_typed I64x2 I64x2 e h j = h j

  masked_typed : (b : Bool) (x : Expr) (n : ℕ) → T x V128 → T (if b then Two (Bits And) x (Const128 n) else x) V128
  masked_typed true x n h = two (Bits And) x (Const128 n) refl h refl
  masked_typed false x n h = h

  without_sign_typed : (t u : Elem) (e : ℕ → Expr) (j : ℕ) → T (e j) V128 → T (without_sign t u e j) V128
  without_sign_typed Truth u e j h = masked_typed (nat_lt 1 (width u)) (e j) (of_lanes (shape_of u) (λ i. 2 ^ 1 - 1)) h
  without_sign_typed I8 u e j h = h
  without_sign_typed U8 u e j h = masked_typed (nat_lt 8 (width u)) (e j) (of_lanes (shape_of u) (λ i. 2 ^ 8 - 1)) h
  without_sign_typed I16 u e j h = h
  without_sign_typed U16 u e j h = masked_typed (nat_lt 16 (width u)) (e j) (of_lanes (shape_of u) (λ i. 2 ^ 16 - 1)) h
  without_sign_typed I32 u e j h = h
  without_sign_typed U32 u e j h = masked_typed (nat_lt 32 (width u)) (e j) (of_lanes (shape_of u) (λ i. 2 ^ 32 - 1)) h
  without_sign_typed I64 u e j h = h
  without_sign_typed U64 u e j h = masked_typed (nat_lt 64 (width u)) (e j) (of_lanes (shape_of u) (λ i. 2 ^ 64 - 1)) h

  equals : (s : Shape) → is_binary (CompareLanes s Eq) ≡ true
  equals I8x16 = refl
  equals I16x8 = refl
  equals I32x4 = refl
  equals I64x2 = refl

  sums : (s : Shape) → (is_binary (Lanes s Add) ≡ true) × (is_binary (Lanes s Sub) ≡ true)
  sums I8x16 = (refl, refl)
  sums I16x8 = (refl, refl)
  sums I32x4 = (refl, refl)
  sums I64x2 = (refl, refl)

  high : Expr
  high = Const128 (of_lanes I64x2 (λ i. 2 ^ 63))

  module _ (x y : ℕ → Expr) (j : ℕ) (h : T (x j) V128) (k : T (y j) V128) where
    pub below_row_typed : (t : Elem) → T (below_row t x y j) V128
    unfolding high
    below_row_typed Truth = two (CompareLanes I8x16 LtU) (x j) (y j) refl h k
    below_row_typed I8 = two (CompareLanes I8x16 LtS) (x j) (y j) refl h k
    below_row_typed U8 = two (CompareLanes I8x16 LtU) (x j) (y j) refl h k
    below_row_typed I16 = two (CompareLanes I16x8 LtS) (x j) (y j) refl h k
    below_row_typed U16 = two (CompareLanes I16x8 LtU) (x j) (y j) refl h k
    below_row_typed I32 = two (CompareLanes I32x4 LtS) (x j) (y j) refl h k
    below_row_typed U32 = two (CompareLanes I32x4 LtU) (x j) (y j) refl h k
    below_row_typed I64 = two (CompareLanes I64x2 LtS) (x j) (y j) refl h k
    below_row_typed U64 = two (CompareLanes I64x2 LtS) (raised_lanes (x j)) (raised_lanes (y j)) refl (two (Lanes I64x2 Add) (x j) high refl h refl) (two (Lanes I64x2 Add) (y j) high refl k refl)

    pub equal_row_typed : (t : Elem) → T (Two (CompareLanes (shape_of t) Eq) (x j) (y j)) V128
    equal_row_typed t = two (CompareLanes (shape_of t) Eq) (x j) (y j) (equals (shape_of t)) h k

  inverted_typed : (x : ℕ → Expr) (j : ℕ) → T (x j) V128 → T (inverted x j) V128
  inverted_typed x j h = two (Bits Xor) (x j) ones refl h refl

  pub compare_row_typed : (o : Compare) (t : Elem) (x y : ℕ → Expr) (j : ℕ) → T (x j) V128 → T (y j) V128 → T (compare_row o t x y j) V128
  compare_row_typed compare.Equal t x y j h k = equal_row_typed x y j h k t
  compare_row_typed compare.NotEqual t x y j h k = inverted_typed (λ j. Two (CompareLanes (shape_of t) Eq) (x j) (y j)) j (equal_row_typed x y j h k t)
  compare_row_typed compare.Less t x y j h k = below_row_typed x y j h k t
  compare_row_typed compare.LessOrEqual t x y j h k = inverted_typed (below_row t y x) j (below_row_typed y x j k h t)
  compare_row_typed compare.Greater t x y j h k = below_row_typed y x j k h t
  compare_row_typed compare.GreaterOrEqual t x y j h k = inverted_typed (below_row t x y) j (below_row_typed x y j h k t)

  pub shift_row_typed : (o : Plain) (t : Elem) (x : ℕ → Expr) (b j : ℕ) → T (x j) V128 → T (shift_row o t x b j) V128
  shift_row_typed plain.Shl t x b j h = two (ShiftLanes (shape_of t) Shl) (x j) (Const32 (b % width t)) refl h refl
  shift_row_typed o t x b j h = two (ShiftLanes (shape_of t) (right_of t)) (x j) (Const32 (b % width t)) refl h refl

  pub unary_row_typed : (o : UnaryOp) (t : Elem) (x : ℕ → Expr) (j : ℕ) → T (x j) V128 → T (unary_row o t x j) V128
  unary_row_typed unary.Negate t x j h = two (Lanes (shape_of t) Sub) (Const128 0) (x j) (sums (shape_of t)).1 refl h
  unary_row_typed unary.Invert t x j h = two (Bits Xor) (x j) ones refl h refl
  unary_row_typed unary.Absolute t x j h =
      bitselect (Two (Lanes (shape_of t) Sub) (Const128 0) (x j)) (x j) (below_row t x (λ j. Const128 0) j) (two (Lanes (shape_of t) Sub) (Const128 0) (x j) (sums (shape_of t)).1 refl h) h
      (below_row_typed x (λ j. Const128 0) j h refl t)
  unary_row_typed unary.Not t x j h = two (Bits Xor) (x j) ones refl h refl

  module _ (w : Setting) where
    pub present_typed : (s : Shape) (e : ℕ → Expr) → ((i : ℕ) → i < parts w s → T (e i) V128) → (j : ℕ) → T (present w s e j) V128
    present_typed s e h j = by (nat_lt j (parts w s)) refl
      where
        by : (b : Bool) → nat_lt j (parts w s) ≡ b → T (if b then e j else Const128 0) V128
        by true is = h j (ltb-true j (parts w s) is)
        by false is = refl

    pub convert_row_typed : (t u : Elem) (e : ℕ → Expr) → ((i : ℕ) → i < parts w (shape_of t) → T (e i) V128) → (j : ℕ) → T (convert_row w t u e j) V128
    convert_row_typed t u e h j = by u
      where
        sized_typed : (u : Elem) → T (without_sign t u (resized_row (shape_of t) (shape_of u) (present w (shape_of t) e)) j) V128
        sized_typed u =
            let row = resized_row (shape_of t) (shape_of u) (present w (shape_of t) e) in
            without_sign_typed t u row j (resized_typed (shape_of t) (shape_of u) (present w (shape_of t) e) (present_typed (shape_of t) e h) j)

        by : (u : Elem) → T (convert_row w t u e j) V128
        by Truth =
            let row = compare_row compare.NotEqual t e (λ j. Const128 0) in
            narrowed_typed (shape_of t) (present w (shape_of t) row) j (present_typed (shape_of t) row (λ i l. compare_row_typed compare.NotEqual t e (λ j. Const128 0) i (h i l) refl))
        by I8 = sized_typed I8
        by U8 = sized_typed U8
        by I16 = sized_typed I16
        by U16 = sized_typed U16
        by I32 = sized_typed I32
        by U32 = sized_typed U32
        by I64 = sized_typed I64
        by U64 = sized_typed U64

    -- of lanes of the gang alone
    pub by_lane_typed : (t : Elem) (f : ℕ → Expr) → ((p : ℕ) → p < gang w → V (f p) t) → (j : ℕ) → T (by_lane w t f j) V128
    by_lane_typed t f h j =
        built_typed (shape_of t) (min (count (shape_of t)) (gang w - j * count (shape_of t))) (λ i. as_cell t (f (j * count (shape_of t) + i))) (omega arith)
        (λ i l. cell_typed t (f (j * count (shape_of t) + i)) (h (j * count (shape_of t) + i) (omega (arith, l))))

    -- the part of a lane
    pub part_low : (s : Shape) (p : ℕ) → p < gang w → p / count s < parts w s
    part_low I8x16 p h = omega (arith, h)
    part_low I16x8 p h = omega (arith, h)
    part_low I32x4 p h = omega (arith, h)
    part_low I64x2 p h = omega (arith, h)

    module _ (t : Elem) (x y : ℕ → Expr) (h : (i : ℕ) → i < parts w (shape_of t) → T (x i) V128) (k : (i : ℕ) → i < parts w (shape_of t) → T (y i) V128) (j : ℕ) (l : j < parts w (shape_of t)) where
      lanes_typed : (o : Plain) → T (by_lane w t (λ p. plain_expr o t (lane_at t x p) (lane_at t y p)) j) V128
      lanes_typed o =
          by_lane_typed t (λ p. plain_expr o t (lane_at t x p) (lane_at t y p))
          (λ p q. plain_typed o t (lane_at t x p) (lane_at t y p) (lane_typed t x p (h (p / count (shape_of t)) (part_low (shape_of t) p q))) (lane_typed t y p (k (p / count (shape_of t)) (part_low (shape_of t) p q)))) j

      product_typed : is_binary (Lanes (shape_of t) Mul) ≡ true → T (Two (Lanes (shape_of t) Mul) (x j) (y j)) V128
      product_typed ok = two (Lanes (shape_of t) Mul) (x j) (y j) ok (h j l) (k j l)

    pub plain_row_typed : (o : Plain) (t : Elem) (x y : ℕ → Expr) → IsInteger t → ((i : ℕ) → i < parts w (shape_of t) → T (x i) V128) → ((i : ℕ) → i < parts w (shape_of t) → T (y i) V128)
        → (j : ℕ) → j < parts w (shape_of t) → T (plain_row w o t x y j) V128
    plain_row_typed plain.Add t x y is h k j l = two (Lanes (shape_of t) Add) (x j) (y j) (sums (shape_of t)).0 (h j l) (k j l)
    plain_row_typed plain.Sub t x y is h k j l = two (Lanes (shape_of t) Sub) (x j) (y j) (sums (shape_of t)).1 (h j l) (k j l)
    plain_row_typed plain.Mul Truth x y is h k j l = absurd is
    plain_row_typed plain.Mul I8 x y is h k j l = lanes_typed I8 x y h k j l plain.Mul
    plain_row_typed plain.Mul U8 x y is h k j l = lanes_typed U8 x y h k j l plain.Mul
    plain_row_typed plain.Mul I16 x y is h k j l = product_typed I16 x y h k j l refl
    plain_row_typed plain.Mul U16 x y is h k j l = product_typed U16 x y h k j l refl
    plain_row_typed plain.Mul I32 x y is h k j l = product_typed I32 x y h k j l refl
    plain_row_typed plain.Mul U32 x y is h k j l = product_typed U32 x y h k j l refl
    plain_row_typed plain.Mul I64 x y is h k j l = product_typed I64 x y h k j l refl
    plain_row_typed plain.Mul U64 x y is h k j l = product_typed U64 x y h k j l refl
    plain_row_typed plain.And t x y is h k j l = two (Bits And) (x j) (y j) refl (h j l) (k j l)
    plain_row_typed plain.Or t x y is h k j l = two (Bits Or) (x j) (y j) refl (h j l) (k j l)
    plain_row_typed plain.Xor t x y is h k j l = two (Bits Xor) (x j) (y j) refl (h j l) (k j l)
    plain_row_typed plain.Shl t x y is h k j l = lanes_typed t x y h k j l plain.Shl
    plain_row_typed plain.Shr t x y is h k j l = lanes_typed t x y h k j l plain.Shr
    plain_row_typed plain.Min t x y is h k j l = bitselect (y j) (x j) (below_row t y x j) (k j l) (h j l) (below_row_typed y x j (k j l) (h j l) t)
    plain_row_typed plain.Max t x y is h k j l = bitselect (x j) (y j) (below_row t y x j) (h j l) (k j l) (below_row_typed y x j (k j l) (h j l) t)
