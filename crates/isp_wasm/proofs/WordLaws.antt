-- What the expressions of one value compute, at bits that fit.
use Rattle.std.proofs.Common.{◌≡◌, ℕ, ◌+◌, ◌-◌, ◌*◌, ◌/◌, ◌%◌, ◌^◌, ◌<◌, ◌≤◌, ◌⊎◌, inl, inr, Bool, true, false, cond, not, refl, sym, ap, ap₂, ◌∙◌, subst, arith, mod-eq_of_lt, lit≤, bit_and, bit_or, bit_xor}
use Rattle.std.specs.Prelude.{nat_eq, nat_lt, if◌then◌else◌, int_lt}
use Rattle.std.proofs.lemmas.Bool.{cases_lt, lt-ltb, le-ltb}
use Rattle.std.proofs.lemmas.Nat.{and_mask, pow_pos}
use Rattle.std.proofs.Math.Nat.{mod-lt, div-le_self}
use Rattle.isp_base.specs.Values.{width, greatest, number, number_to, wrap_to, op_bits, outcome_to, compare_bits, compare_to}
use Rattle.isp_base.specs.Words.{turned}
use Rattle.isp_base.specs.declared.operators.Compare.{Compare}
use Rattle.isp_base.specs.declared.operators.Compare.TheVariants as compare
use Rattle.isp_base.specs.declared.types.Elem.{Elem}
use Rattle.isp_base.specs.declared.types.Elem.TheVariants.{Bool as Truth, I8, U8, I16, U16, I32, U32, I64, U64}
use Rattle.isp_base.proofs.Wraps.{wrap_to-lt, add_is, sub_is, mul_is}
use Rattle.isp_base.proofs.Words.{word_less, word_and, word_or, word_xor, word_shl, word_shr, word_min, word_max, low_of, same_number}
use Rattle.isp_code.specs.Lines.{plain_of}
use Rattle.isp_code.specs.declared.instr.Plain.{Plain}
use Rattle.isp_code.specs.declared.instr.Plain.TheVariants as plain
use Rattle.isp_wasm_meaning.specs.Syntax as wasm
use Rattle.isp_wasm_meaning.specs.Syntax.{Whole, Add, Sub, Mul, LtS, LtU, ShrS, ShrU, Shl, Expr, Two, Of}
use Rattle.isp_wasm_meaning.specs.Meaning.{value, whole, shifted, tested, flag, bits, signed, raised, chosen}
use Rattle.isp_wasm.specs.Places.{size_of}
use Rattle.isp_wasm.specs.Words.{constant, with_sign, cut, amount_of, less_of, right_of, below, whole_expr, plain_expr, compare_expr}
use Rattle.isp_wasm.specs.Thin.{IsInteger}

pub same_test : (a b x y : ℕ) → (a < b → x < y) → (b ≤ a → y ≤ x) → nat_lt a b ≡ nat_lt x y
same_test a b x y f g = by (cases_lt a b)
  where
    by : (a < b) ⊎ (b ≤ a) → nat_lt a b ≡ nat_lt x y
    by (inl lt) = lt-ltb a b lt ∙ sym (lt-ltb x y (f lt))
    by (inr le) = le-ltb a b le ∙ sym (le-ltb x y (g le))

pub flag_is : (b : Bool) → flag b ≡ if b then 1 else 0
flag_is true = refl
flag_is false = refl

pub chosen_is : (b : Bool) (u v : ℕ) → chosen (flag b) u v ≡ (if b then u else v)
chosen_is true u v = refl
chosen_is false u v = refl

-- ---- sizes

-- a value has no more bits than its local
pub fits_local : (t : Elem) (x : ℕ) → x < 2 ^ width t → x < 2 ^ bits (size_of t)
fits_local Truth x h = omega arith
fits_local I8 x h = omega arith
fits_local U8 x h = omega arith
fits_local I16 x h = omega arith
fits_local U16 x h = omega arith
fits_local I32 x h = h
fits_local U32 x h = h
fits_local I64 x h = h
fits_local U64 x h = h

pub constant_is : (l : ℕ → ℕ) (t : Elem) (n : ℕ) → n < 2 ^ width t → value l (constant (size_of t) n) ≡ n
constant_is l Truth n p = mod-eq_of_lt (omega arith)
constant_is l I8 n p = mod-eq_of_lt (omega arith)
constant_is l U8 n p = mod-eq_of_lt (omega arith)
constant_is l I16 n p = mod-eq_of_lt (omega arith)
constant_is l U16 n p = mod-eq_of_lt (omega arith)
constant_is l I32 n p = mod-eq_of_lt p
constant_is l U32 n p = mod-eq_of_lt p
constant_is l I64 n p = mod-eq_of_lt p
constant_is l U64 n p = mod-eq_of_lt p

pub cut_is : (t : Elem) (l : ℕ → ℕ) (e : Expr) → IsInteger t → value l e < 2 ^ bits (size_of t) → value l (cut t e) ≡ value l e % 2 ^ width t
cut_is Truth l e num h = absurd num
cut_is I8 l e num h = and_mask (value l e) 8
cut_is U8 l e num h = and_mask (value l e) 8
cut_is I16 l e num h = and_mask (value l e) 16
cut_is U16 l e num h = and_mask (value l e) 16
cut_is I32 l e num h = sym (mod-eq_of_lt h)
cut_is U32 l e num h = sym (mod-eq_of_lt h)
cut_is I64 l e num h = sym (mod-eq_of_lt h)
cut_is U64 l e num h = sym (mod-eq_of_lt h)

-- ---- sums, differences, products

pub twice_cut : (t : Elem) (n : ℕ) → n % 2 ^ bits (size_of t) % 2 ^ width t ≡ n % 2 ^ width t
twice_cut Truth n = omega arith
twice_cut I8 n = omega arith
twice_cut U8 n = omega arith
twice_cut I16 n = omega arith
twice_cut U16 n = omega arith
twice_cut I32 n = omega arith
twice_cut U32 n = omega arith
twice_cut I64 n = omega arith
twice_cut U64 n = omega arith

less_cut : (t : Elem) (x y : ℕ) → y ≤ 2 ^ width t → (x + (2 ^ bits (size_of t) - y)) % 2 ^ width t ≡ (x + (2 ^ width t - y)) % 2 ^ width t
less_cut Truth x y h = omega arith
less_cut I8 x y h = omega arith
less_cut U8 x y h = omega arith
less_cut I16 x y h = omega arith
less_cut U16 x y h = omega arith
less_cut I32 x y h = refl
less_cut U32 x y h = refl
less_cut I64 x y h = refl
less_cut U64 x y h = refl

whole_cut : (t : Elem) (o : Whole) (x y : ℕ) → y ≤ 2 ^ width t → whole (bits (size_of t)) o x y % 2 ^ width t ≡ whole (width t) o x y
whole_cut t Add x y h = twice_cut t (x + y)
whole_cut t Sub x y h = twice_cut t (x + (2 ^ bits (size_of t) - y)) ∙ less_cut t x y h
whole_cut t Mul x y h = twice_cut t (x * y)

pub whole_below : (n : ℕ) (o : Whole) (x y : ℕ) → whole n o x y < 2 ^ n
whole_below n Add x y = mod-lt (x + y) (pow_pos n)
whole_below n Sub x y = mod-lt (x + (2 ^ n - y)) (pow_pos n)
whole_below n Mul x y = mod-lt (x * y) (pow_pos n)

pub whole_value : (t : Elem) (o : Whole) (l : ℕ → ℕ) (a b : Expr) (x y : ℕ) → IsInteger t → value l a ≡ x → value l b ≡ y → y ≤ 2 ^ width t → value l (whole_expr t o a b) ≡ whole (width t) o x y
whole_value t o l a b x y num e f h =
    cut_is t l (Two (Of (size_of t) o) a b) num (whole_below (bits (size_of t)) o (value l a) (value l b))
    ∙ ap₂ (λ u v. whole (bits (size_of t)) o u v % 2 ^ width t) e f ∙ whole_cut t o x y h

-- the sums and products of a type are those of its bits
pub add_bits : (t : Elem) (x y : ℕ) → x < 2 ^ width t → y < 2 ^ width t → whole (width t) Add x y ≡ op_bits (plain_of plain.Add) t x y
add_bits t x y p q = sym (add_is (width t) (greatest t) (x % 2 ^ width t) (y % 2 ^ width t) ∙ ap₂ (λ m n. (m + n) % 2 ^ width t) (mod-eq_of_lt p) (mod-eq_of_lt q))

pub sub_bits : (t : Elem) (x y : ℕ) → x < 2 ^ width t → y < 2 ^ width t → whole (width t) Sub x y ≡ op_bits (plain_of plain.Sub) t x y
sub_bits t x y p q =
    sym (sub_is (width t) (greatest t) (x % 2 ^ width t) (y % 2 ^ width t) (omega (arith, mod-eq_of_lt q))
    ∙ ap₂ (λ m n. (m + (2 ^ width t - n)) % 2 ^ width t) (mod-eq_of_lt p) (mod-eq_of_lt q))

pub mul_bits : (t : Elem) (x y : ℕ) → x < 2 ^ width t → y < 2 ^ width t → whole (width t) Mul x y ≡ op_bits (plain_of plain.Mul) t x y
mul_bits t x y p q = sym (mul_is (width t) (greatest t) (x % 2 ^ width t) (y % 2 ^ width t) ∙ ap₂ (λ m n. (m * n) % 2 ^ width t) (mod-eq_of_lt p) (mod-eq_of_lt q))

-- ---- order

unturned_1 : (x : ℕ) → x < 2 → x ≡ turned 1 1 x
unturned_1 x p = sym (ap (λ a. a % 2) (let e : x + (2 - 1 - 1) ≡ x = omega arith in e) ∙ mod-eq_of_lt p)

-- where no number is negative
pub unturned : (w x : ℕ) → x < 2 ^ w → x ≡ turned w (2 ^ w - 1) x
unturned w x p = sym (ap (λ a. a % 2 ^ w) (let e : x + (2 ^ w - 1 - (2 ^ w - 1)) ≡ x = omega arith in e) ∙ mod-eq_of_lt p)

-- a sign in more bits keeps the order
spread_8 : (x : ℕ) → x < 2 ^ 8 → raised 32 (signed 8 32 (x % 2 ^ 8)) ≡ turned 8 (2 ^ 7 - 1) x + (2 ^ 31 - 2 ^ 7)
spread_8 x h = ap (λ v. raised 32 (signed 8 32 v)) (mod-eq_of_lt h) ∙ by (cases_lt x (2 ^ 7))
  where
    by : (x < 2 ^ 7) ⊎ (2 ^ 7 ≤ x) → raised 32 (signed 8 32 x) ≡ turned 8 (2 ^ 7 - 1) x + (2 ^ 31 - 2 ^ 7)
    by (inl lt) = ap (λ b. raised 32 (if b then x else x + (2 ^ 32 - 2 ^ 8))) (lt-ltb x (2 ^ 7) lt) ∙ omega arith
    by (inr le) = ap (λ b. raised 32 (if b then x else x + (2 ^ 32 - 2 ^ 8))) (le-ltb x (2 ^ 7) le) ∙ omega arith

spread_16 : (x : ℕ) → x < 2 ^ 16 → raised 32 (signed 16 32 (x % 2 ^ 16)) ≡ turned 16 (2 ^ 15 - 1) x + (2 ^ 31 - 2 ^ 15)
spread_16 x h = ap (λ v. raised 32 (signed 16 32 v)) (mod-eq_of_lt h) ∙ by (cases_lt x (2 ^ 15))
  where
    by : (x < 2 ^ 15) ⊎ (2 ^ 15 ≤ x) → raised 32 (signed 16 32 x) ≡ turned 16 (2 ^ 15 - 1) x + (2 ^ 31 - 2 ^ 15)
    by (inl lt) = ap (λ b. raised 32 (if b then x else x + (2 ^ 32 - 2 ^ 16))) (lt-ltb x (2 ^ 15) lt) ∙ omega arith
    by (inr le) = ap (λ b. raised 32 (if b then x else x + (2 ^ 32 - 2 ^ 16))) (le-ltb x (2 ^ 15) le) ∙ omega arith

pub moved_test : (a b c : ℕ) → nat_lt (a + c) (b + c) ≡ nat_lt a b
moved_test a b c = same_test (a + c) (b + c) a b (λ l. omega arith) (λ l. omega arith)

-- bits of w, as numbers that may be negative or not
pub less_words : (t : Elem) (x y : ℕ) → x < 2 ^ width t → y < 2 ^ width t → tested (width t) (less_of t) x y ≡ int_lt (number t x) (number t y)
less_words Truth x y h p = ap₂ nat_lt (unturned_1 x h) (unturned_1 y p) ∙ word_less Truth x y h p
less_words I8 x y h p = word_less I8 x y h p
less_words U8 x y h p = ap₂ nat_lt (unturned 8 x h) (unturned 8 y p) ∙ word_less U8 x y h p
less_words I16 x y h p = word_less I16 x y h p
less_words U16 x y h p = ap₂ nat_lt (unturned 16 x h) (unturned 16 y p) ∙ word_less U16 x y h p
less_words I32 x y h p = word_less I32 x y h p
less_words U32 x y h p = ap₂ nat_lt (unturned 32 x h) (unturned 32 y p) ∙ word_less U32 x y h p
less_words I64 x y h p = word_less I64 x y h p
less_words U64 x y h p = ap₂ nat_lt (unturned 64 x h) (unturned 64 y p) ∙ word_less U64 x y h p

less_values : (t : Elem) (l : ℕ → ℕ) (a b : Expr) (x y : ℕ) → value l a ≡ x → value l b ≡ y → x < 2 ^ width t → y < 2 ^ width t
    → tested (bits (size_of t)) (less_of t) (value l (with_sign t a)) (value l (with_sign t b)) ≡ int_lt (number t x) (number t y)
less_values Truth l a b x y e f h p = ap₂ nat_lt e f ∙ less_words Truth x y h p
less_values I8 l a b x y e f h p =
    ap₂ (λ u v. nat_lt (raised 32 (signed 8 32 (u % 2 ^ 8))) (raised 32 (signed 8 32 (v % 2 ^ 8)))) e f
    ∙ ap₂ nat_lt (spread_8 x h) (spread_8 y p) ∙ moved_test (turned 8 (2 ^ 7 - 1) x) (turned 8 (2 ^ 7 - 1) y) (2 ^ 31 - 2 ^ 7) ∙ word_less I8 x y h p
less_values U8 l a b x y e f h p = ap₂ nat_lt e f ∙ less_words U8 x y h p
less_values I16 l a b x y e f h p =
    ap₂ (λ u v. nat_lt (raised 32 (signed 16 32 (u % 2 ^ 16))) (raised 32 (signed 16 32 (v % 2 ^ 16)))) e f
    ∙ ap₂ nat_lt (spread_16 x h) (spread_16 y p) ∙ moved_test (turned 16 (2 ^ 15 - 1) x) (turned 16 (2 ^ 15 - 1) y) (2 ^ 31 - 2 ^ 15) ∙ word_less I16 x y h p
less_values U16 l a b x y e f h p = ap₂ nat_lt e f ∙ less_words U16 x y h p
less_values I32 l a b x y e f h p = ap₂ (tested 32 LtS) e f ∙ less_words I32 x y h p
less_values U32 l a b x y e f h p = ap₂ nat_lt e f ∙ less_words U32 x y h p
less_values I64 l a b x y e f h p = ap₂ (tested 64 LtS) e f ∙ less_words I64 x y h p
less_values U64 l a b x y e f h p = ap₂ nat_lt e f ∙ less_words U64 x y h p

pub below_is : (t : Elem) (l : ℕ → ℕ) (a b : Expr) (x y : ℕ) → value l a ≡ x → value l b ≡ y → x < 2 ^ width t → y < 2 ^ width t → value l (below t a b) ≡ flag (int_lt (number t x) (number t y))
below_is t l a b x y e f h p = ap flag (less_values t l a b x y e f h p)

pub bool_below : (t : Elem) (b : Bool) → (if b then 1 else 0) < 2 ^ width t
bool_below Truth true = lit≤ tt
bool_below I8 true = lit≤ tt
bool_below U8 true = lit≤ tt
bool_below I16 true = lit≤ tt
bool_below U16 true = lit≤ tt
bool_below I32 true = lit≤ tt
bool_below U32 true = lit≤ tt
bool_below I64 true = lit≤ tt
bool_below U64 true = lit≤ tt
bool_below t false = pow_pos (width t)

pub compare_fits : (o : Compare) (t : Elem) (x y : ℕ) → compare_bits o t x y < 2
compare_fits o t x y = bool_below Truth (compare_to o (number t x) (number t y))

not_flag : (b : Bool) → flag (nat_eq (flag b) 0) ≡ if not b then 1 else 0
not_flag true = refl
not_flag false = refl

pub compare_is : (o : Compare) (t : Elem) (l : ℕ → ℕ) (a b : Expr) (x y : ℕ) → value l a ≡ x → value l b ≡ y → x < 2 ^ width t → y < 2 ^ width t → value l (compare_expr o t a b) ≡ compare_bits o t x y
compare_is compare.Equal t l a b x y e f h p = ap₂ (λ u v. flag (nat_eq u v)) e f ∙ flag_is (nat_eq x y) ∙ ap (λ b. if b then 1 else 0) (sym (same_number t x y h p))
compare_is compare.NotEqual t l a b x y e f h p = ap₂ (λ u v. flag (not (nat_eq u v))) e f ∙ flag_is (not (nat_eq x y)) ∙ ap (λ b. if not b then 1 else 0) (sym (same_number t x y h p))
compare_is compare.Less t l a b x y e f h p = below_is t l a b x y e f h p ∙ flag_is (int_lt (number t x) (number t y))
compare_is compare.LessOrEqual t l a b x y e f h p = ap (λ v. flag (nat_eq v 0)) (below_is t l b a y x f e p h) ∙ not_flag (int_lt (number t y) (number t x))
compare_is compare.Greater t l a b x y e f h p = below_is t l b a y x f e p h ∙ flag_is (int_lt (number t y) (number t x))
compare_is compare.GreaterOrEqual t l a b x y e f h p = ap (λ v. flag (nat_eq v 0)) (below_is t l a b x y e f h p) ∙ not_flag (int_lt (number t x) (number t y))

-- ---- operators on two values

amount_low : (t : Elem) (l : ℕ → ℕ) (e : Expr) (y : ℕ) → IsInteger t → value l e ≡ y → value l (amount_of t e) % bits (size_of t) ≡ bit_and y (width t - 1)
amount_low Truth l e y num h = absurd num
amount_low I8 l e y num h = ap (λ u. bit_and u 7 % 32) h ∙ mod-eq_of_lt (let e = and_mask y 3 in let lt : bit_and y 7 < 32 = omega (arith, e) in lt)
amount_low U8 l e y num h = ap (λ u. bit_and u 7 % 32) h ∙ mod-eq_of_lt (let e = and_mask y 3 in let lt : bit_and y 7 < 32 = omega (arith, e) in lt)
amount_low I16 l e y num h = ap (λ u. bit_and u 15 % 32) h ∙ mod-eq_of_lt (let e = and_mask y 4 in let lt : bit_and y 15 < 32 = omega (arith, e) in lt)
amount_low U16 l e y num h = ap (λ u. bit_and u 15 % 32) h ∙ mod-eq_of_lt (let e = and_mask y 4 in let lt : bit_and y 15 < 32 = omega (arith, e) in lt)
amount_low I32 l e y num h = ap (λ u. u % 32) h ∙ sym (and_mask y 5)
amount_low U32 l e y num h = ap (λ u. u % 32) h ∙ sym (and_mask y 5)
amount_low I64 l e y num h = ap (λ u. u % 64) h ∙ sym (and_mask y 6)
amount_low U64 l e y num h = ap (λ u. u % 64) h ∙ sym (and_mask y 6)

shl_value : (t : Elem) (l : ℕ → ℕ) (a b : Expr) (x y : ℕ) → IsInteger t → value l a ≡ x → value l b ≡ y → x < 2 ^ width t → y < 2 ^ width t → value l (plain_expr plain.Shl t a b) ≡ op_bits (plain_of plain.Shl) t x y
shl_value t l a b x y num e f h p =
    cut_is t l (Two (wasm.ShiftOf (size_of t) Shl) a (amount_of t b)) num (mod-lt (value l a * 2 ^ (value l (amount_of t b) % bits (size_of t))) (pow_pos (bits (size_of t))))
    ∙ ap₂ (λ u v. (u * 2 ^ v) % 2 ^ bits (size_of t) % 2 ^ width t) e (amount_low t l b y num f)
    ∙ twice_cut t (x * 2 ^ bit_and y (width t - 1)) ∙ sym (low_of t (x * 2 ^ bit_and y (width t - 1))) ∙ word_shl t x y h p

-- what comes out of a shift to the right
abbrev pub right : Elem → ℕ → ℕ → ℕ
right t x d = cond (nat_lt (greatest t) x) (2 ^ width t - 1 - (2 ^ width t - 1 - x) / d) (x / d)

-- of d that is 2 ^ y
abbrev pub right_shifted : ℕ → wasm.Shift → ℕ → ℕ → ℕ
right_shifted w ShrS x d = if nat_lt x (2 ^ (w - 1)) then x / d else 2 ^ w - 1 - (2 ^ w - 1 - x) / d
right_shifted w o x d = x / d

shifted_is : (t : Elem) (x y : ℕ) → IsInteger t → shifted (bits (size_of t)) (right_of t) x y ≡ right_shifted (bits (size_of t)) (right_of t) x (2 ^ (y % bits (size_of t)))
shifted_is Truth x y num = absurd num
shifted_is I8 x y num = refl
shifted_is U8 x y num = refl
shifted_is I16 x y num = refl
shifted_is U16 x y num = refl
shifted_is I32 x y num = refl
shifted_is U32 x y num = refl
shifted_is I64 x y num = refl
shifted_is U64 x y num = refl

-- a number that was small, with its sign in 32 bits
small_right_8 : (x d : ℕ) → x < 2 ^ 8 → right_shifted 32 ShrS (signed 8 32 (x % 2 ^ 8)) d % 2 ^ 8 ≡ right I8 x d
small_right_8 x d h = ap (λ v. right_shifted 32 ShrS (signed 8 32 v) d % 2 ^ 8) (mod-eq_of_lt h) ∙ by (cases_lt x (2 ^ 7))
  where
    by : (x < 2 ^ 7) ⊎ (2 ^ 7 ≤ x) → right_shifted 32 ShrS (signed 8 32 x) d % 2 ^ 8 ≡ right I8 x d
    by (inl lt) =
        ap (λ b. right_shifted 32 ShrS (if b then x else x + (2 ^ 32 - 2 ^ 8)) d % 2 ^ 8) (lt-ltb x (2 ^ 7) lt)
        ∙ ap (λ b. (if b then x / d else 2 ^ 32 - 1 - (2 ^ 32 - 1 - x) / d) % 2 ^ 8) (lt-ltb x (2 ^ 31) (omega arith))
        ∙ mod-eq_of_lt (let le = div-le_self x d in omega arith) ∙ sym (ap (λ b. cond b (2 ^ 8 - 1 - (2 ^ 8 - 1 - x) / d) (x / d)) (le-ltb (2 ^ 7 - 1) x (omega arith)))
    by (inr le) =
        ap (λ b. right_shifted 32 ShrS (if b then x else x + (2 ^ 32 - 2 ^ 8)) d % 2 ^ 8) (le-ltb x (2 ^ 7) le)
        ∙ ap (λ b. (if b then (x + (2 ^ 32 - 2 ^ 8)) / d else 2 ^ 32 - 1 - (2 ^ 32 - 1 - (x + (2 ^ 32 - 2 ^ 8))) / d) % 2 ^ 8) (le-ltb (x + (2 ^ 32 - 2 ^ 8)) (2 ^ 31) (omega arith))
        ∙ ap (λ q. (2 ^ 32 - 1 - q / d) % 2 ^ 8) (let e : 2 ^ 32 - 1 - (x + (2 ^ 32 - 2 ^ 8)) ≡ 2 ^ 8 - 1 - x = omega arith in e)
        ∙ (let less = div-le_self (2 ^ 8 - 1 - x) d in omega arith)
        ∙ sym (ap (λ b. cond b (2 ^ 8 - 1 - (2 ^ 8 - 1 - x) / d) (x / d)) (lt-ltb (2 ^ 7 - 1) x (omega arith)))

small_right_16 : (x d : ℕ) → x < 2 ^ 16 → right_shifted 32 ShrS (signed 16 32 (x % 2 ^ 16)) d % 2 ^ 16 ≡ right I16 x d
small_right_16 x d h = ap (λ v. right_shifted 32 ShrS (signed 16 32 v) d % 2 ^ 16) (mod-eq_of_lt h) ∙ by (cases_lt x (2 ^ 15))
  where
    by : (x < 2 ^ 15) ⊎ (2 ^ 15 ≤ x) → right_shifted 32 ShrS (signed 16 32 x) d % 2 ^ 16 ≡ right I16 x d
    by (inl lt) =
        ap (λ b. right_shifted 32 ShrS (if b then x else x + (2 ^ 32 - 2 ^ 16)) d % 2 ^ 16) (lt-ltb x (2 ^ 15) lt)
        ∙ ap (λ b. (if b then x / d else 2 ^ 32 - 1 - (2 ^ 32 - 1 - x) / d) % 2 ^ 16) (lt-ltb x (2 ^ 31) (omega arith))
        ∙ mod-eq_of_lt (let le = div-le_self x d in omega arith) ∙ sym (ap (λ b. cond b (2 ^ 16 - 1 - (2 ^ 16 - 1 - x) / d) (x / d)) (le-ltb (2 ^ 15 - 1) x (omega arith)))
    by (inr le) =
        ap (λ b. right_shifted 32 ShrS (if b then x else x + (2 ^ 32 - 2 ^ 16)) d % 2 ^ 16) (le-ltb x (2 ^ 15) le)
        ∙ ap (λ b. (if b then (x + (2 ^ 32 - 2 ^ 16)) / d else 2 ^ 32 - 1 - (2 ^ 32 - 1 - (x + (2 ^ 32 - 2 ^ 16))) / d) % 2 ^ 16) (le-ltb (x + (2 ^ 32 - 2 ^ 16)) (2 ^ 31) (omega arith))
        ∙ ap (λ q. (2 ^ 32 - 1 - q / d) % 2 ^ 16) (let e : 2 ^ 32 - 1 - (x + (2 ^ 32 - 2 ^ 16)) ≡ 2 ^ 16 - 1 - x = omega arith in e)
        ∙ (let less = div-le_self (2 ^ 16 - 1 - x) d in omega arith)
        ∙ sym (ap (λ b. cond b (2 ^ 16 - 1 - (2 ^ 16 - 1 - x) / d) (x / d)) (lt-ltb (2 ^ 15 - 1) x (omega arith)))

-- a number as wide as its local, where none or some are negative
wide_right : (w x d : ℕ) → x < 2 ^ w → (if nat_lt x (2 ^ (w - 1)) then x / d else 2 ^ w - 1 - (2 ^ w - 1 - x) / d) % 2 ^ w ≡ cond (nat_lt (2 ^ (w - 1) - 1) x) (2 ^ w - 1 - (2 ^ w - 1 - x) / d) (x / d)
wide_right w x d h = by (cases_lt x (2 ^ (w - 1)))
  where
    by : (x < 2 ^ (w - 1)) ⊎ (2 ^ (w - 1) ≤ x) → (if nat_lt x (2 ^ (w - 1)) then x / d else 2 ^ w - 1 - (2 ^ w - 1 - x) / d) % 2 ^ w ≡ cond (nat_lt (2 ^ (w - 1) - 1) x) (2 ^ w - 1 - (2 ^ w - 1 - x) / d) (x / d)
    by (inl lt) =
        ap (λ b. (if b then x / d else 2 ^ w - 1 - (2 ^ w - 1 - x) / d) % 2 ^ w) (lt-ltb x (2 ^ (w - 1)) lt) ∙ mod-eq_of_lt (let le = div-le_self x d in omega arith)
        ∙ sym (ap (λ b. cond b (2 ^ w - 1 - (2 ^ w - 1 - x) / d) (x / d)) (le-ltb (2 ^ (w - 1) - 1) x (omega arith)))
    by (inr le) =
        ap (λ b. (if b then x / d else 2 ^ w - 1 - (2 ^ w - 1 - x) / d) % 2 ^ w) (le-ltb x (2 ^ (w - 1)) le) ∙ mod-eq_of_lt (omega arith)
        ∙ sym (ap (λ b. cond b (2 ^ w - 1 - (2 ^ w - 1 - x) / d) (x / d)) (lt-ltb (2 ^ (w - 1) - 1) x (let some = pow_pos (w - 1) in omega arith)))

plain_right : (w x d : ℕ) → x < 2 ^ w → x / d % 2 ^ w ≡ cond (nat_lt (2 ^ w - 1) x) (2 ^ w - 1 - (2 ^ w - 1 - x) / d) (x / d)
plain_right w x d h = mod-eq_of_lt (let le = div-le_self x d in omega arith) ∙ sym (ap (λ b. cond b (2 ^ w - 1 - (2 ^ w - 1 - x) / d) (x / d)) (le-ltb (2 ^ w - 1) x (omega arith)))

right_is : (t : Elem) (l : ℕ → ℕ) (a : Expr) (x d : ℕ) → IsInteger t → value l a ≡ x → x < 2 ^ width t → right_shifted (bits (size_of t)) (right_of t) (value l (with_sign t a)) d % 2 ^ width t ≡ right t x d
right_is Truth l a x d num e h = absurd num
right_is I8 l a x d num e h = ap (λ u. right_shifted 32 ShrS (signed 8 32 (u % 2 ^ 8)) d % 2 ^ 8) e ∙ small_right_8 x d h
right_is U8 l a x d num e h = ap (λ u. u / d % 2 ^ 8) e ∙ plain_right 8 x d h
right_is I16 l a x d num e h = ap (λ u. right_shifted 32 ShrS (signed 16 32 (u % 2 ^ 16)) d % 2 ^ 16) e ∙ small_right_16 x d h
right_is U16 l a x d num e h = ap (λ u. u / d % 2 ^ 16) e ∙ plain_right 16 x d h
right_is I32 l a x d num e h = ap (λ u. right_shifted 32 ShrS u d % 2 ^ 32) e ∙ wide_right 32 x d h
right_is U32 l a x d num e h = ap (λ u. u / d % 2 ^ 32) e ∙ plain_right 32 x d h
right_is I64 l a x d num e h = ap (λ u. right_shifted 64 ShrS u d % 2 ^ 64) e ∙ wide_right 64 x d h
right_is U64 l a x d num e h = ap (λ u. u / d % 2 ^ 64) e ∙ plain_right 64 x d h

signed_below : (w x : ℕ) → 2 ^ w ≤ 2 ^ 32 → x < 2 ^ w → signed w 32 x < 2 ^ 32
signed_below w x le h = by (nat_lt x (2 ^ (w - 1)))
  where
    by : (b : Bool) → (if b then x else x + (2 ^ 32 - 2 ^ w)) < 2 ^ 32
    by true = omega arith
    by false = omega arith

pub sign_fits : (t : Elem) (l : ℕ → ℕ) (a : Expr) (x : ℕ) → value l a ≡ x → x < 2 ^ width t → value l (with_sign t a) < 2 ^ bits (size_of t)
sign_fits Truth l a x e h = subst (λ u. u < 2 ^ 32) (sym e) (omega arith)
sign_fits I8 l a x e h = signed_below 8 (value l a % 2 ^ 8) (lit≤ tt) (mod-lt (value l a) (lit≤ tt))
sign_fits U8 l a x e h = subst (λ u. u < 2 ^ 32) (sym e) (omega arith)
sign_fits I16 l a x e h = signed_below 16 (value l a % 2 ^ 16) (lit≤ tt) (mod-lt (value l a) (lit≤ tt))
sign_fits U16 l a x e h = subst (λ u. u < 2 ^ 32) (sym e) (omega arith)
sign_fits I32 l a x e h = subst (λ u. u < 2 ^ 32) (sym e) h
sign_fits U32 l a x e h = subst (λ u. u < 2 ^ 32) (sym e) h
sign_fits I64 l a x e h = subst (λ u. u < 2 ^ 64) (sym e) h
sign_fits U64 l a x e h = subst (λ u. u < 2 ^ 64) (sym e) h

right_below : (w : ℕ) (o : wasm.Shift) (x d : ℕ) → x < 2 ^ w → right_shifted w o x d < 2 ^ w
right_below w ShrS x d h = by (nat_lt x (2 ^ (w - 1)))
  where
    by : (b : Bool) → (if b then x / d else 2 ^ w - 1 - (2 ^ w - 1 - x) / d) < 2 ^ w
    by true = let le = div-le_self x d in omega arith
    by false = omega arith
right_below w ShrU x d h = let le = div-le_self x d in omega arith
right_below w Shl x d h = let le = div-le_self x d in omega arith

shr_value : (t : Elem) (l : ℕ → ℕ) (a b : Expr) (x y : ℕ) → IsInteger t → value l a ≡ x → value l b ≡ y → x < 2 ^ width t → y < 2 ^ width t → value l (plain_expr plain.Shr t a b) ≡ op_bits (plain_of plain.Shr) t x y
shr_value t l a b x y num e f h p =
    let v = value l (with_sign t a) in
    let n = value l (amount_of t b) in
    let is = shifted_is t v n num in
    cut_is t l (Two (wasm.ShiftOf (size_of t) (right_of t)) (with_sign t a) (amount_of t b)) num
    (subst (λ u. u < 2 ^ bits (size_of t)) (sym is) (right_below (bits (size_of t)) (right_of t) v (2 ^ (n % bits (size_of t))) (sign_fits t l a x e h)))
    ∙ ap (λ u. u % 2 ^ width t) is
    ∙ ap (λ k. right_shifted (bits (size_of t)) (right_of t) v (2 ^ k) % 2 ^ width t) (amount_low t l b y num f)
    ∙ right_is t l a x (2 ^ bit_and y (width t - 1)) num e h ∙ word_shr t x y h p

-- ---- a shift by a known amount, in as many bits as a type has

known_amount : (t : Elem) (b : ℕ) → IsInteger t → b % width t % 2 ^ 32 % width t ≡ bit_and (b % 2 ^ width t) (width t - 1)
known_amount Truth b num = absurd num
known_amount I8 b num = (let e : b % 8 % 2 ^ 32 % 8 ≡ b % 2 ^ 8 % 8 = omega arith in e) ∙ sym (and_mask (b % 2 ^ 8) 3)
known_amount U8 b num = (let e : b % 8 % 2 ^ 32 % 8 ≡ b % 2 ^ 8 % 8 = omega arith in e) ∙ sym (and_mask (b % 2 ^ 8) 3)
known_amount I16 b num = (let e : b % 16 % 2 ^ 32 % 16 ≡ b % 2 ^ 16 % 16 = omega arith in e) ∙ sym (and_mask (b % 2 ^ 16) 4)
known_amount U16 b num = (let e : b % 16 % 2 ^ 32 % 16 ≡ b % 2 ^ 16 % 16 = omega arith in e) ∙ sym (and_mask (b % 2 ^ 16) 4)
known_amount I32 b num = (let e : b % 32 % 2 ^ 32 % 32 ≡ b % 2 ^ 32 % 32 = omega arith in e) ∙ sym (and_mask (b % 2 ^ 32) 5)
known_amount U32 b num = (let e : b % 32 % 2 ^ 32 % 32 ≡ b % 2 ^ 32 % 32 = omega arith in e) ∙ sym (and_mask (b % 2 ^ 32) 5)
known_amount I64 b num = (let e : b % 64 % 2 ^ 32 % 64 ≡ b % 2 ^ 64 % 64 = omega arith in e) ∙ sym (and_mask (b % 2 ^ 64) 6)
known_amount U64 b num = (let e : b % 64 % 2 ^ 32 % 64 ≡ b % 2 ^ 64 % 64 = omega arith in e) ∙ sym (and_mask (b % 2 ^ 64) 6)

-- an operator takes the low bits of its right operand
low_operand : (o : Plain) (t : Elem) (x b : ℕ) → op_bits (plain_of o) t x (b % 2 ^ width t) ≡ op_bits (plain_of o) t x b
low_operand o t x b =
    ap (λ y. wrap_to (width t) (outcome_to (width t) (plain_of o) (number t x) (number_to (width t) (greatest t) y))) (mod-eq_of_lt (mod-lt b (pow_pos (width t))))

pub shl_known : (t : Elem) (x b : ℕ) → IsInteger t → x < 2 ^ width t → shifted (width t) Shl x (b % width t % 2 ^ 32) ≡ op_bits (plain_of plain.Shl) t x b
shl_known t x b num h =
    let y = b % 2 ^ width t in
    ap (λ k. (x * 2 ^ k) % 2 ^ width t) (known_amount t b num) ∙ sym (low_of t (x * 2 ^ bit_and y (width t - 1)))
    ∙ word_shl t x y h (mod-lt b (pow_pos (width t))) ∙ low_operand plain.Shl t x b

lane_shifted : (t : Elem) (x y : ℕ) → IsInteger t → shifted (width t) (right_of t) x y ≡ right_shifted (width t) (right_of t) x (2 ^ (y % width t))
lane_shifted Truth x y num = absurd num
lane_shifted I8 x y num = refl
lane_shifted U8 x y num = refl
lane_shifted I16 x y num = refl
lane_shifted U16 x y num = refl
lane_shifted I32 x y num = refl
lane_shifted U32 x y num = refl
lane_shifted I64 x y num = refl
lane_shifted U64 x y num = refl

lane_right : (t : Elem) (x d : ℕ) → IsInteger t → x < 2 ^ width t → right_shifted (width t) (right_of t) x d % 2 ^ width t ≡ right t x d
lane_right Truth x d num h = absurd num
lane_right I8 x d num h = wide_right 8 x d h
lane_right U8 x d num h = plain_right 8 x d h
lane_right I16 x d num h = wide_right 16 x d h
lane_right U16 x d num h = plain_right 16 x d h
lane_right I32 x d num h = wide_right 32 x d h
lane_right U32 x d num h = plain_right 32 x d h
lane_right I64 x d num h = wide_right 64 x d h
lane_right U64 x d num h = plain_right 64 x d h

pub shr_known : (t : Elem) (x b : ℕ) → IsInteger t → x < 2 ^ width t → shifted (width t) (right_of t) x (b % width t % 2 ^ 32) ≡ op_bits (plain_of plain.Shr) t x b
shr_known t x b num h =
    let y = b % 2 ^ width t in
    let d = 2 ^ bit_and y (width t - 1) in
    lane_shifted t x (b % width t % 2 ^ 32) num ∙ ap (λ k. right_shifted (width t) (right_of t) x (2 ^ k)) (known_amount t b num)
    ∙ sym (mod-eq_of_lt (right_below (width t) (right_of t) x d h)) ∙ lane_right t x d num h
    ∙ word_shr t x y h (mod-lt b (pow_pos (width t))) ∙ low_operand plain.Shr t x b

pub shifted_below : (w : ℕ) (o : wasm.Shift) (x y : ℕ) → x < 2 ^ w → shifted w o x y < 2 ^ w
shifted_below w Shl x y h = mod-lt (x * 2 ^ (y % w)) (pow_pos w)
shifted_below w ShrU x y h = right_below w ShrU x (2 ^ (y % w)) h
shifted_below w ShrS x y h = right_below w ShrS x (2 ^ (y % w)) h

pub select_less : (t : Elem) (l : ℕ → ℕ) (a b c d : Expr) (x y u v : ℕ) → value l a ≡ x → value l b ≡ y → x < 2 ^ width t → y < 2 ^ width t → value l c ≡ u → value l d ≡ v
    → chosen (value l (below t a b)) (value l c) (value l d) ≡ cond (nat_lt (turned (width t) (greatest t) x) (turned (width t) (greatest t) y)) u v
select_less t l a b c d x y u v e f h p g k =
    ap (λ m. chosen m (value l c) (value l d)) (below_is t l a b x y e f h p) ∙ chosen_is (int_lt (number t x) (number t y)) (value l c) (value l d)
    ∙ ap₂ (λ c d. if int_lt (number t x) (number t y) then c else d) g k ∙ ap (λ m. if m then u else v) (sym (word_less t x y h p))

pub plain_is : (o : Plain) (t : Elem) (l : ℕ → ℕ) (a b : Expr) (x y : ℕ) → IsInteger t → value l a ≡ x → value l b ≡ y → x < 2 ^ width t → y < 2 ^ width t → value l (plain_expr o t a b) ≡ op_bits (plain_of o) t x y
plain_is plain.Add t l a b x y num e f h p = whole_value t Add l a b x y num e f (omega arith) ∙ add_bits t x y h p
plain_is plain.Sub t l a b x y num e f h p = whole_value t Sub l a b x y num e f (omega arith) ∙ sub_bits t x y h p
plain_is plain.Mul t l a b x y num e f h p = whole_value t Mul l a b x y num e f (omega arith) ∙ mul_bits t x y h p
plain_is plain.And t l a b x y num e f h p = ap₂ bit_and e f ∙ word_and t x y h p
plain_is plain.Or t l a b x y num e f h p = ap₂ bit_or e f ∙ word_or t x y h p
plain_is plain.Xor t l a b x y num e f h p = ap₂ bit_xor e f ∙ word_xor t x y h p
plain_is plain.Shl t l a b x y num e f h p = shl_value t l a b x y num e f h p
plain_is plain.Shr t l a b x y num e f h p = shr_value t l a b x y num e f h p
plain_is plain.Min t l a b x y num e f h p = select_less t l b a b a y x y x f e p h f e ∙ word_min t x y h p
plain_is plain.Max t l a b x y num e f h p = select_less t l b a a b y x x y f e p h e f ∙ word_max t x y h p

pub op_fits : (o : Plain) (t : Elem) (x y : ℕ) → op_bits (plain_of o) t x y < 2 ^ width t
op_fits o t x y = wrap_to-lt (width t) (outcome_to (width t) (plain_of o) (number t x) (number t y))
