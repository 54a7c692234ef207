-- What a word spells, read back: so no two registers, numbers, constants, types or texts are spelled alike.
use Rattle.std.specs.Prelude.{◌≡◌, ℕ, suc, ◌+◌, ◌-◌, ◌*◌, ◌/◌, ◌%◌, ◌<◌, ◌≤◌, ◌^◌, ℤ, pos, negsuc, neg_ℤ, true, false, not, int_lt, cond, if◌then◌else◌, ◌==◌, length, nat_lt, List, [], ◌∷◌, Option, Some, None, codes, bytes_eq}
use Rattle.std.specs.Char.{digit_char, digit_value, is_ascii_digit}
use Rattle.std.specs.Fmt.{decimal, signed_decimal}
use Rattle.std.specs.List.{list_all}
use Rattle.std.specs.Str.{all_ascii_digits}
use Rattle.std.specs.Str.Parse.{digits_value}
use Rattle.std.proofs.Common.{refl, arith, ap, ◌∙◌}
use Rattle.std.proofs.lemmas.Bool.{and_parts, ltb-true, ltb-false, not-true}
use Rattle.std.proofs.lemmas.Bool.Decides.{nat_tests}
use Rattle.std.proofs.lemmas.Fmt.{digits_value-decimal, digits_decimal, decimal_nonempty}
use Rattle.std.proofs.lemmas.Str.{digit_value-digit_char}
use Rattle.isp_base.specs.declared.types.Elem.{Elem}
use Rattle.isp_base.specs.declared.types.Elem.TheVariants.{Bool as Truth, I8, U8, I16, U16, I32, U32, I64, U64}
use Rattle.isp_code.specs.Writable.{number_fits, constant_fits, register_fits, result_fits, is_byte}
use Rattle.isp_code.specs.declared.register.Class.{Class}
use Rattle.isp_code.specs.declared.register.Class.TheVariants as class
use Rattle.isp_code.specs.declared.register.Register.{Register}
use Rattle.isp_asm.specs.Words.{letter, register_word, back_word, type_word, hex_word}
use Rattle.isp_asm.proofs.Numerals.{own, number_lt}

-- the first value whose word it is
abbrev pub first_of : {A : Type 0} → (A → List ℕ) → A → List A → List ℕ → A
first_of f d [] w = d
first_of f d (x ∷ xs) w = cond (bytes_eq w (f x)) x (first_of f d xs w)

abbrev pub type_back : List ℕ → Elem
type_back w = first_of type_word Truth (Truth ∷ I8 ∷ U8 ∷ I16 ∷ U16 ∷ I32 ∷ U32 ∷ I64 ∷ U64 ∷ []) w

pub type_kept : (t : Elem) → type_back (type_word t) ≡ t
type_kept Truth = refl
type_kept I8 = refl
type_kept U8 = refl
type_kept I16 = refl
type_kept U16 = refl
type_kept I32 = refl
type_kept U32 = refl
type_kept I64 = refl
type_kept U64 = refl

-- numbers, and numbers after a letter
pub number_kept : (n : ℕ) → number_fits n ≡ true → digits_value 10 (decimal n) ≡ n
number_kept n h = digits_value-decimal own n (number_lt n h)

abbrev pub lettered_back : List ℕ → ℕ
lettered_back [] = 0
lettered_back (c ∷ ds) = digits_value 10 ds

abbrev pub class_back : ℕ → Class
class_back c = cond (c == 115) class.Scalar (cond (c == 118) class.Vector (cond (c == 109) class.Mask class.Array))

class_kept : (c : Class) → class_back (letter c) ≡ c
class_kept class.Scalar = refl
class_kept class.Vector = refl
class_kept class.Mask = refl
class_kept class.Array = refl

abbrev pub register_back : List ℕ → Register
register_back [] = record { class = class.Scalar; number = 0 }
register_back (c ∷ ds) = record { class = class_back c; number = digits_value 10 ds }

pub register_kept : (r : Register) → register_fits r ≡ true → register_back (register_word r) ≡ r
register_kept r h = rw (class_kept r.class, number_kept r.number h) refl

abbrev pub back_back : List ℕ → Option Register
back_back w = if bytes_eq w (codes "-") then None else Some (register_back w)

no_minus : (c : Class) (ds : List ℕ) → bytes_eq (letter c ∷ ds) (codes "-") ≡ false
no_minus class.Scalar ds = refl
no_minus class.Vector ds = refl
no_minus class.Mask ds = refl
no_minus class.Array ds = refl

pub back_kept : (x : Option Register) → result_fits x ≡ true → back_back (back_word x) ≡ x
back_kept None h = refl
back_kept (Some r) h = rw (no_minus r.class (decimal r.number), register_kept r h) refl

-- constants
abbrev pub constant_back : List ℕ → ℤ
constant_back [] = pos 0
constant_back (c ∷ w) = if c == 45 then neg_ℤ (pos (digits_value 10 w)) else pos (digits_value 10 (c ∷ w))

pub magnitude_pos : (n : ℕ) → constant_fits (pos n) ≡ true → n < 2 ^ 64
magnitude_pos n h = ltb-true n (2 ^ 64) (and_parts (not (int_lt (pos n) (neg_ℤ (pos (2 ^ 63))))) (nat_lt n (2 ^ 64)) h).1

pub magnitude_neg : (n : ℕ) → constant_fits (negsuc n) ≡ true → suc n ≤ 2 ^ 63
magnitude_neg n h =
    let q = not-true (int_lt (negsuc n) (neg_ℤ (pos (2 ^ 63)))) (and_parts (not (int_lt (negsuc n) (neg_ℤ (pos (2 ^ 63))))) (int_lt (negsuc n) (pos (2 ^ 64))) h).0 in
    let k = ltb-false (2 ^ 63 - 1) n q in
    omega (arith, k)

digits_positive : (w : List ℕ) → 0 < length w → all_ascii_digits w ≡ true → constant_back w ≡ pos (digits_value 10 w)
digits_positive [] l h = absurd (omega (arith, l))
digits_positive (c ∷ cs) l h = rw (no_sign c (and_parts (is_ascii_digit c) (all_ascii_digits cs) h).0) refl
  where
    no_sign : (b : ℕ) → is_ascii_digit b ≡ true → (b == 45) ≡ false
    no_sign b e = grind (arith, nat_tests)

pub constant_kept : (z : ℤ) → constant_fits z ≡ true → constant_back (signed_decimal z) ≡ z
constant_kept (pos n) h =
    let l = magnitude_pos n h in
    digits_positive (decimal n) (decimal_nonempty n l) (digits_decimal own n l) ∙ ap (λ m. pos m) (digits_value-decimal own n l)
constant_kept (negsuc n) h = let l = magnitude_neg n h in rw (digits_value-decimal own (suc n) (omega (arith, l))) refl

-- bytes in hexadecimal
abbrev pub hex_back : List ℕ → List ℕ
hex_back [] = []
hex_back (a ∷ []) = []
hex_back (a ∷ b ∷ w) = (digit_value a * 16 + digit_value b) ∷ hex_back w

byte_kept : (b : ℕ) → b < 256 → digit_value (digit_char (b / 16)) * 16 + digit_value (digit_char (b % 16)) ≡ b
byte_kept b l = rw (digit_value-digit_char (b / 16) (omega (arith, l)), digit_value-digit_char (b % 16) (omega arith)) (omega arith)

pub hex_kept : (bs : List ℕ) → list_all is_byte bs ≡ true → hex_back (hex_word bs) ≡ bs
hex_kept [] h = refl
hex_kept (b ∷ bs) h =
    let q = and_parts (is_byte b) (list_all is_byte bs) h in
    rw (byte_kept b (ltb-true b 256 q.0), hex_kept bs q.1) refl
