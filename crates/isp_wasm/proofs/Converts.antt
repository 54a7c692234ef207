-- Operators on one value, and conversions.
use Rattle.std.proofs.Common.{◌≡◌, ℕ, ◌+◌, ◌-◌, ◌%◌, ◌^◌, ◌<◌, ◌≤◌, ◌⊎◌, inl, inr, ◌==◌, Bool, true, false, cond, not, refl, sym, ap, ap₂, ◌∙◌, subst, arith, mod-eq_of_lt, lit≤, bit_xor}
use Rattle.std.specs.Prelude.{nat_eq, nat_lt, if◌then◌else◌, int_lt}
use Rattle.std.specs.Int.Bits.{xor_add_and}
use Rattle.std.proofs.lemmas.Bool.{cases_lt, lt-ltb, le-ltb}
use Rattle.std.proofs.lemmas.Nat.{and_mask, pow_pos}
use Rattle.std.proofs.Math.Nat.{mod-lt}
use Rattle.isp_base.specs.Unary.{unary_to, unary_bits}
use Rattle.isp_base.specs.Values.{width, greatest, wrap, number, convert_bits}
use Rattle.isp_base.specs.Words.{turned, magnitude}
use Rattle.isp_base.specs.declared.operators.UnaryOp.{UnaryOp}
use Rattle.isp_base.specs.declared.operators.UnaryOp.TheVariants as unary
use Rattle.isp_base.specs.declared.types.Elem.{Elem}
use Rattle.isp_base.specs.declared.types.Elem.TheVariants.{Bool as Truth, I8, U8, I16, U16, I32, U32, I64, U64}
use Rattle.isp_base.proofs.Wraps.{wrap_to-lt}
use Rattle.isp_base.proofs.Words.{word_less}
use Rattle.isp_base.proofs.Converts.{truth_is, whole_is}
use Rattle.isp_base.proofs.Unaries.{unary_at, negate_is, invert_is, absolute_is, not_is, bit_of}
use Rattle.isp_wasm_meaning.specs.Syntax as wasm
use Rattle.isp_wasm_meaning.specs.Syntax.{Sub, Expr}
use Rattle.isp_wasm_meaning.specs.Meaning.{value, flag, bits, signed, chosen}
use Rattle.isp_wasm.specs.Places.{size_of}
use Rattle.isp_wasm.specs.Words.{constant, with_sign, cut, below, whole_expr, unary_expr, convert_expr, sized}
use Rattle.isp_wasm.specs.Thin.{IsInteger, IsUnary}
use Rattle.isp_wasm.proofs.WordLaws.{same_test, flag_is, chosen_is, constant_is, cut_is, whole_value, twice_cut, below_is}

-- ---- a sign

sign_test : (t : Elem) (x : ℕ) → x < 2 ^ width t → nat_lt (turned (width t) (greatest t) x) (turned (width t) (greatest t) 0) ≡ nat_lt (greatest t) x
sign_test Truth x h = same_test (turned 1 1 x) (turned 1 1 0) 1 x (λ l. omega arith) (λ l. omega arith)
sign_test I8 x h = same_test (turned 8 (2 ^ 7 - 1) x) (turned 8 (2 ^ 7 - 1) 0) (2 ^ 7 - 1) x (λ l. omega arith) (λ l. omega arith)
sign_test U8 x h = same_test (turned 8 (2 ^ 8 - 1) x) (turned 8 (2 ^ 8 - 1) 0) (2 ^ 8 - 1) x (λ l. omega arith) (λ l. omega arith)
sign_test I16 x h = same_test (turned 16 (2 ^ 15 - 1) x) (turned 16 (2 ^ 15 - 1) 0) (2 ^ 15 - 1) x (λ l. omega arith) (λ l. omega arith)
sign_test U16 x h = same_test (turned 16 (2 ^ 16 - 1) x) (turned 16 (2 ^ 16 - 1) 0) (2 ^ 16 - 1) x (λ l. omega arith) (λ l. omega arith)
sign_test I32 x h = same_test (turned 32 (2 ^ 31 - 1) x) (turned 32 (2 ^ 31 - 1) 0) (2 ^ 31 - 1) x (λ l. omega arith) (λ l. omega arith)
sign_test U32 x h = same_test (turned 32 (2 ^ 32 - 1) x) (turned 32 (2 ^ 32 - 1) 0) (2 ^ 32 - 1) x (λ l. omega arith) (λ l. omega arith)
sign_test I64 x h = same_test (turned 64 (2 ^ 63 - 1) x) (turned 64 (2 ^ 63 - 1) 0) (2 ^ 63 - 1) x (λ l. omega arith) (λ l. omega arith)
sign_test U64 x h = same_test (turned 64 (2 ^ 64 - 1) x) (turned 64 (2 ^ 64 - 1) 0) (2 ^ 64 - 1) x (λ l. omega arith) (λ l. omega arith)

-- whether a number is negative
pub negative_is : (t : Elem) (x : ℕ) → x < 2 ^ width t → int_lt (number t x) (number t 0) ≡ nat_lt (greatest t) x
negative_is t x h = sym (word_less t x 0 h (pow_pos (width t))) ∙ sign_test t x h

pub negative_expr : (t : Elem) (l : ℕ → ℕ) (a : Expr) (x : ℕ) → value l a ≡ x → x < 2 ^ width t → value l (below t a (constant (size_of t) 0)) ≡ flag (nat_lt (greatest t) x)
negative_expr t l a x e h = below_is t l a (constant (size_of t) 0) x 0 e (constant_is l t 0 (pow_pos (width t))) h (pow_pos (width t)) ∙ ap flag (negative_is t x h)

pub minus_expr : (t : Elem) (l : ℕ → ℕ) (a : Expr) (x : ℕ) → IsInteger t → value l a ≡ x → x ≤ 2 ^ width t → value l (whole_expr t Sub (constant (size_of t) 0) a) ≡ (2 ^ width t - x) % 2 ^ width t
minus_expr t l a x num e h = whole_value t Sub l (constant (size_of t) 0) a 0 x num (constant_is l t 0 (pow_pos (width t))) e h ∙ ap (λ n. n % 2 ^ width t) (let e : 0 + (2 ^ width t - x) ≡ 2 ^ width t - x = omega arith in e)

-- the number without its sign
pub magnitude_is : (t : Elem) (l : ℕ → ℕ) (a : Expr) (x : ℕ) → IsInteger t → value l a ≡ x → x < 2 ^ width t
    → chosen (value l (below t a (constant (size_of t) 0))) (value l (whole_expr t Sub (constant (size_of t) 0) a)) (value l a) ≡ magnitude (width t) (greatest t) x
magnitude_is t l a x num e h =
    ap (λ m. chosen m (value l (whole_expr t Sub (constant (size_of t) 0) a)) (value l a)) (negative_expr t l a x e h)
    ∙ chosen_is (nat_lt (greatest t) x) (value l (whole_expr t Sub (constant (size_of t) 0) a)) (value l a)
    ∙ ap₂ (λ u v. if nat_lt (greatest t) x then u else v) (minus_expr t l a x num e (omega arith)) e ∙ by (cases_lt (greatest t) x)
  where
    by : (greatest t < x) ⊎ (x ≤ greatest t) → (if nat_lt (greatest t) x then (2 ^ width t - x) % 2 ^ width t else x) ≡ (if nat_lt (greatest t) x then 2 ^ width t - x else x)
    by (inl lt) = ap (λ u. if nat_lt (greatest t) x then u else x) (mod-eq_of_lt (omega arith))
    by (inr le) = ap (λ b. if b then (2 ^ width t - x) % 2 ^ width t else x) (le-ltb (greatest t) x le) ∙ sym (ap (λ b. if b then 2 ^ width t - x else x) (le-ltb (greatest t) x le))

-- ---- operators

pub all_turned : (w x : ℕ) → x < 2 ^ w → bit_xor x (2 ^ w - 1) ≡ 2 ^ w - 1 - x
all_turned w x h = let sum = xor_add_and x (2 ^ w - 1) in let low = and_mask x w ∙ mod-eq_of_lt h in omega (arith, sum, low)

not_value : (x : ℕ) → flag (nat_eq x 0) ≡ cond (x == 0) 1 0
not_value x = flag_is (nat_eq x 0)

pub unary_is : (o : UnaryOp) (t : Elem) (l : ℕ → ℕ) (a : Expr) (x : ℕ) → IsUnary o t → value l a ≡ x → x < 2 ^ width t → value l (unary_expr o t a) ≡ unary_bits o t x
unary_is unary.Negate t l a x num e h =
    unary_at unary.Negate unary.Negate refl t x x (value l (unary_expr unary.Negate t a)) (sym (mod-eq_of_lt h))
    (minus_expr t l a x num e (omega arith) ∙ sym (negate_is (width t) (greatest t) x (omega arith)))
unary_is unary.Invert t l a x num e h =
    unary_at unary.Invert unary.Invert refl t x x (value l (unary_expr unary.Invert t a)) (sym (mod-eq_of_lt h))
    (ap₂ bit_xor e (constant_is l t (2 ^ width t - 1) (let some = pow_pos (width t) in omega arith)) ∙ all_turned (width t) x h ∙ sym (invert_is (width t) (greatest t) x h))
unary_is unary.Absolute t l a x num e h =
    unary_at unary.Absolute unary.Absolute refl t x x (value l (unary_expr unary.Absolute t a)) (sym (mod-eq_of_lt h)) (magnitude_is t l a x num e h ∙ sym (absolute_is t x h))
unary_is unary.Not t l a x num e h =
    unary_at unary.Not unary.Not refl t x x (value l (unary_expr unary.Not t a)) (sym (mod-eq_of_lt h)) (ap (λ u. flag (nat_eq u 0)) e ∙ not_value x ∙ sym (not_is t x h))

pub unary_fits : (o : UnaryOp) (t : Elem) (x : ℕ) → unary_bits o t x < 2 ^ width t
unary_fits o t x = wrap_to-lt (width t) (unary_to o (number t x))

-- ---- conversions

-- the bits with their sign in 64
abbrev pub spread : Elem → ℕ → ℕ
spread t x = cond (nat_lt (greatest t) x) (x + (2 ^ 64 - 2 ^ width t)) x

pub spread_low : (t : Elem) (x : ℕ) → x ≤ greatest t → spread t x ≡ x
spread_low t x h = ap (λ b. cond b (x + (2 ^ 64 - 2 ^ width t)) x) (le-ltb (greatest t) x h)

spread_high : (t : Elem) (x : ℕ) → greatest t < x → spread t x ≡ x + (2 ^ 64 - 2 ^ width t)
spread_high t x h = ap (λ b. cond b (x + (2 ^ 64 - 2 ^ width t)) x) (lt-ltb (greatest t) x h)

pub signed_low : (w more x : ℕ) → x < 2 ^ (w - 1) → signed w more x ≡ x
signed_low w more x h = ap (λ b. if b then x else x + (2 ^ more - 2 ^ w)) (lt-ltb x (2 ^ (w - 1)) h)

pub signed_high : (w more x : ℕ) → 2 ^ (w - 1) ≤ x → signed w more x ≡ x + (2 ^ more - 2 ^ w)
signed_high w more x h = ap (λ b. if b then x else x + (2 ^ more - 2 ^ w)) (le-ltb x (2 ^ (w - 1)) h)

abbrev pub resized : Elem → wasm.Size → (ℕ → ℕ) → Expr → ℕ
resized t z l a = value l (sized t (size_of t) z (with_sign t a))

resized_low : (t : Elem) (z : wasm.Size) (l : ℕ → ℕ) (a : Expr) (x : ℕ) → value l a ≡ x → x < 2 ^ width t → x ≤ greatest t → resized t z l a ≡ x % 2 ^ bits z
resized_low Truth wasm.I32 l a x e h le = e ∙ sym (mod-eq_of_lt (omega arith))
resized_low Truth wasm.I64 l a x e h le = e ∙ sym (mod-eq_of_lt (omega arith))
resized_low I8 wasm.I32 l a x e h le = ap (λ u. signed 8 32 (u % 2 ^ 8)) e ∙ ap (signed 8 32) (mod-eq_of_lt h) ∙ signed_low 8 32 x (omega arith) ∙ sym (mod-eq_of_lt (omega arith))
resized_low I8 wasm.I64 l a x e h le =
    ap (λ u. signed 32 64 (signed 8 32 (u % 2 ^ 8))) e ∙ ap (λ u. signed 32 64 (signed 8 32 u)) (mod-eq_of_lt h) ∙ ap (signed 32 64) (signed_low 8 32 x (omega arith)) ∙ signed_low 32 64 x (omega arith)
    ∙ sym (mod-eq_of_lt (omega arith))
resized_low U8 wasm.I32 l a x e h le = e ∙ sym (mod-eq_of_lt (omega arith))
resized_low U8 wasm.I64 l a x e h le = e ∙ sym (mod-eq_of_lt (omega arith))
resized_low I16 wasm.I32 l a x e h le = ap (λ u. signed 16 32 (u % 2 ^ 16)) e ∙ ap (signed 16 32) (mod-eq_of_lt h) ∙ signed_low 16 32 x (omega arith) ∙ sym (mod-eq_of_lt (omega arith))
resized_low I16 wasm.I64 l a x e h le =
    ap (λ u. signed 32 64 (signed 16 32 (u % 2 ^ 16))) e ∙ ap (λ u. signed 32 64 (signed 16 32 u)) (mod-eq_of_lt h) ∙ ap (signed 32 64) (signed_low 16 32 x (omega arith)) ∙ signed_low 32 64 x (omega arith)
    ∙ sym (mod-eq_of_lt (omega arith))
resized_low U16 wasm.I32 l a x e h le = e ∙ sym (mod-eq_of_lt (omega arith))
resized_low U16 wasm.I64 l a x e h le = e ∙ sym (mod-eq_of_lt (omega arith))
resized_low I32 wasm.I32 l a x e h le = e ∙ sym (mod-eq_of_lt h)
resized_low I32 wasm.I64 l a x e h le = ap (signed 32 64) e ∙ signed_low 32 64 x (omega arith) ∙ sym (mod-eq_of_lt (omega arith))
resized_low U32 wasm.I32 l a x e h le = e ∙ sym (mod-eq_of_lt h)
resized_low U32 wasm.I64 l a x e h le = e ∙ sym (mod-eq_of_lt (omega arith))
resized_low I64 wasm.I32 l a x e h le = ap (λ u. u % 2 ^ 32) e
resized_low I64 wasm.I64 l a x e h le = e ∙ sym (mod-eq_of_lt h)
resized_low U64 wasm.I32 l a x e h le = ap (λ u. u % 2 ^ 32) e
resized_low U64 wasm.I64 l a x e h le = e ∙ sym (mod-eq_of_lt h)

resized_high : (t : Elem) (z : wasm.Size) (l : ℕ → ℕ) (a : Expr) (x : ℕ) → value l a ≡ x → x < 2 ^ width t → greatest t < x → resized t z l a ≡ (x + (2 ^ 64 - 2 ^ width t)) % 2 ^ bits z
resized_high I8 wasm.I32 l a x e h gt = ap (λ u. signed 8 32 (u % 2 ^ 8)) e ∙ ap (signed 8 32) (mod-eq_of_lt h) ∙ signed_high 8 32 x (omega arith) ∙ omega arith
resized_high I8 wasm.I64 l a x e h gt =
    ap (λ u. signed 32 64 (signed 8 32 (u % 2 ^ 8))) e ∙ ap (λ u. signed 32 64 (signed 8 32 u)) (mod-eq_of_lt h) ∙ ap (signed 32 64) (signed_high 8 32 x (omega arith))
    ∙ signed_high 32 64 (x + (2 ^ 32 - 2 ^ 8)) (omega arith) ∙ omega arith
resized_high I16 wasm.I32 l a x e h gt = ap (λ u. signed 16 32 (u % 2 ^ 16)) e ∙ ap (signed 16 32) (mod-eq_of_lt h) ∙ signed_high 16 32 x (omega arith) ∙ omega arith
resized_high I16 wasm.I64 l a x e h gt =
    ap (λ u. signed 32 64 (signed 16 32 (u % 2 ^ 16))) e ∙ ap (λ u. signed 32 64 (signed 16 32 u)) (mod-eq_of_lt h) ∙ ap (signed 32 64) (signed_high 16 32 x (omega arith))
    ∙ signed_high 32 64 (x + (2 ^ 32 - 2 ^ 16)) (omega arith) ∙ omega arith
resized_high I32 wasm.I32 l a x e h gt = e ∙ omega arith
resized_high I32 wasm.I64 l a x e h gt = ap (signed 32 64) e ∙ signed_high 32 64 x (omega arith) ∙ omega arith
resized_high I64 wasm.I32 l a x e h gt = ap (λ u. u % 2 ^ 32) e ∙ omega arith
resized_high I64 wasm.I64 l a x e h gt = e ∙ omega arith
resized_high Truth z l a x e h gt = absurd (omega arith)
resized_high U8 z l a x e h gt = absurd (omega arith)
resized_high U16 z l a x e h gt = absurd (omega arith)
resized_high U32 z l a x e h gt = absurd (omega arith)
resized_high U64 z l a x e h gt = absurd (omega arith)

resized_is : (t : Elem) (z : wasm.Size) (l : ℕ → ℕ) (a : Expr) (x : ℕ) → value l a ≡ x → x < 2 ^ width t → resized t z l a ≡ spread t x % 2 ^ bits z
resized_is t z l a x e h = by (cases_lt (greatest t) x)
  where
    by : (greatest t < x) ⊎ (x ≤ greatest t) → resized t z l a ≡ spread t x % 2 ^ bits z
    by (inl gt) = resized_high t z l a x e h gt ∙ ap (λ n. n % 2 ^ bits z) (sym (spread_high t x gt))
    by (inr le) = resized_low t z l a x e h le ∙ ap (λ n. n % 2 ^ bits z) (sym (spread_low t x le))

bits_pos : (z : wasm.Size) → 0 < 2 ^ bits z
bits_pos z = pow_pos (bits z)

-- to an integer
to_integer : (t u : Elem) (l : ℕ → ℕ) (a : Expr) (x : ℕ) → IsInteger u → value l a ≡ x → x < 2 ^ width t → value l (cut u (sized t (size_of t) (size_of u) (with_sign t a))) ≡ wrap u (number t x)
to_integer t u l a x num e h =
    let is = resized_is t (size_of u) l a x e h in
    cut_is u l (sized t (size_of t) (size_of u) (with_sign t a)) num (subst (λ n. n < 2 ^ bits (size_of u)) (sym is) (mod-lt (spread t x) (bits_pos (size_of u))))
    ∙ ap (λ n. n % 2 ^ width u) is ∙ twice_cut u (spread t x) ∙ whole_is t u x x (sym (mod-eq_of_lt h))

pub truth_value : (t : Elem) (x : ℕ) → x < 2 ^ width t → flag (not (nat_eq x 0)) ≡ convert_bits Truth (number t x)
truth_value t x h = flag_is (not (nat_eq x 0)) ∙ sym (bit_of (not (x == 0))) ∙ truth_is t x x (sym (mod-eq_of_lt h))

to_bool : (t : Elem) (l : ℕ → ℕ) (a : Expr) (x : ℕ) → value l a ≡ x → x < 2 ^ width t → value l (convert_expr t Truth a) ≡ convert_bits Truth (number t x)
to_bool t l a x e h = ap₂ (λ u v. flag (not (nat_eq u v))) e (constant_is l t 0 (pow_pos (width t))) ∙ truth_value t x h

pub convert_is : (t u : Elem) (l : ℕ → ℕ) (a : Expr) (x : ℕ) → value l a ≡ x → x < 2 ^ width t → value l (convert_expr t u a) ≡ convert_bits u (number t x)
convert_is t Truth l a x e h = to_bool t l a x e h
convert_is t I8 l a x e h = to_integer t I8 l a x tt e h
convert_is t U8 l a x e h = to_integer t U8 l a x tt e h
convert_is t I16 l a x e h = to_integer t I16 l a x tt e h
convert_is t U16 l a x e h = to_integer t U16 l a x tt e h
convert_is t I32 l a x e h = to_integer t I32 l a x tt e h
convert_is t U32 l a x e h = to_integer t U32 l a x tt e h
convert_is t I64 l a x e h = to_integer t I64 l a x tt e h
convert_is t U64 l a x e h = to_integer t U64 l a x tt e h

bool_low : (b : Bool) → cond b 1 0 < 2
bool_low true = lit≤ tt
bool_low false = lit≤ tt

pub convert_fits : (t u : Elem) (x : ℕ) → x < 2 ^ width t → convert_bits u (number t x) < 2 ^ width u
convert_fits t Truth x h = subst (λ n. n < 2) (sym (bit_of (not (x == 0))) ∙ truth_is t x x (sym (mod-eq_of_lt h))) (bool_low (not (x == 0)))
convert_fits t I8 x h = wrap_to-lt 8 (number t x)
convert_fits t U8 x h = wrap_to-lt 8 (number t x)
convert_fits t I16 x h = wrap_to-lt 16 (number t x)
convert_fits t U16 x h = wrap_to-lt 16 (number t x)
convert_fits t I32 x h = wrap_to-lt 32 (number t x)
convert_fits t U32 x h = wrap_to-lt 32 (number t x)
convert_fits t I64 x h = wrap_to-lt 64 (number t x)
convert_fits t U64 x h = wrap_to-lt 64 (number t x)
