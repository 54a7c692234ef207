-- Words that are spelled have no fault of their form, and are plain.
use Rattle.std.specs.Prelude.{◌≡◌, ℕ, suc, ◌<◌, ◌/◌, ◌%◌, ◌^◌, ℤ, pos, negsuc, neg_ℤ, Bool, true, false, ◌==◌, nat_eq, length, List, [], ◌∷◌, ◌++◌, map, replicate, Option, Some, None, codes, bytes_eq}
use Rattle.std.specs.Char.{digit_char, is_ascii_digit}
use Rattle.std.specs.Fmt.{decimal, signed_decimal}
use Rattle.std.specs.List.{list_all, list_any}
use Rattle.std.specs.Str.{all_ascii_digits}
use Rattle.std.specs.Str.Parse.{digits_value}
use Rattle.std.proofs.Common.{refl, sym, ap, ◌∙◌, arith}
use Rattle.std.proofs.lemmas.Bool.{and_parts, ltb-true, false≢true, false_from_ne_true}
use Rattle.std.proofs.lemmas.Bool.Decides.{nat_tests}
use Rattle.std.proofs.lemmas.Fmt.{digits_value-decimal, digits_decimal, decimal_nonempty}
use Rattle.std.proofs.lemmas.Slice.Eq.{bytes_eq-Decides}
use Rattle.isp_base.specs.declared.types.Elem.{Elem}
use Rattle.isp_base.specs.declared.types.Elem.TheVariants.{Bool as Truth, I8, U8, I16, U16, I32, U32, I64, U64}
use Rattle.isp_code.specs.Writable.{number_fits, constant_fits, register_fits, result_fits, name_fits, text_fits, is_byte, is_first_byte, is_word_byte}
use Rattle.isp_code.specs.declared.register.Class.{Class}
use Rattle.isp_code.specs.declared.register.Class.TheVariants as class
use Rattle.isp_code.specs.declared.register.Register.{Register}
use Rattle.isp_asm.specs.declared.fault.Rule.{Rule}
use Rattle.isp_asm.specs.declared.fault.Rule.TheVariants.{BadOperand, BadLabel}
use Rattle.isp_asm.specs.Faults.{is_shown, is_plain, words_fault}
use Rattle.isp_asm.specs.Forms.{Form, NumberIn, Constant, Lettered, Label, Back, Name, Hex, word_fault, digits_fault, lettered_fault, constant_fault, register, a_type, is_hex_digit, is_hex}
use Rattle.isp_asm.specs.Words.{letter, register_word, back_word, label_word, type_word, hex_word}
use Rattle.isp_asm.proofs.Numerals.{own, number_lt, decimal_right, decimal_shown}
use Rattle.isp_asm.proofs.WordReadings.{magnitude_pos, magnitude_neg}

abbrev pub Right : Form → List ℕ → Type 0
Right f w = (word_fault f w ≡ None) × (is_plain w ≡ true)

-- as many words as forms, each right
abbrev pub AllRight : List Form → List (List ℕ) → Type 0
AllRight [] [] = Unit {0}
AllRight [] (w ∷ ws) = ⊥
AllRight (f ∷ fs) [] = ⊥
AllRight (f ∷ fs) (w ∷ ws) = Right f w × AllRight fs ws

pub no_words_fault : (fs : List Form) (ws : List (List ℕ)) → AllRight fs ws → words_fault fs ws ≡ None
no_words_fault [] [] h = refl
no_words_fault [] (w ∷ ws) h = absurd h
no_words_fault (f ∷ fs) [] h = absurd h
no_words_fault (f ∷ fs) (w ∷ ws) h = rw (h.0.0, no_words_fault fs ws h.1) refl

pub all_plain : (fs : List Form) (ws : List (List ℕ)) → AllRight fs ws → list_all is_plain ws ≡ true
all_plain [] [] h = refl
all_plain [] (w ∷ ws) h = absurd h
all_plain (f ∷ fs) [] h = absurd h
all_plain (f ∷ fs) (w ∷ ws) h = rw (h.0.1, all_plain fs ws h.1) refl

pub right-append : (fs gs : List Form) (ws vs : List (List ℕ)) → AllRight fs ws → AllRight gs vs → AllRight (fs ++ gs) (ws ++ vs)
right-append [] gs [] vs h k = k
right-append [] gs (w ∷ ws) vs h k = absurd h
right-append (f ∷ fs) gs [] vs h k = absurd h
right-append (f ∷ fs) gs (w ∷ ws) vs h k = (h.0, right-append fs gs ws vs h.1 k)

plain_of : (w : List ℕ) → 0 < length w → list_all is_shown w ≡ true → is_plain w ≡ true
plain_of [] l h = absurd (omega (arith, l))
plain_of (c ∷ cs) l h = h

-- numbers
pub number_right : (fits : ℕ → Bool) (n : ℕ) → n < 2 ^ 64 → fits n ≡ true → Right (NumberIn fits) (decimal n)
number_right fits n l h = (decimal_right BadOperand fits n l h, plain_of (decimal n) (decimal_nonempty n l) (decimal_shown n l))

-- a letter and a number
behind_letter : (bad : Rule) (letters : List ℕ) (c n : ℕ) → list_any (nat_eq c) letters ≡ true → is_shown c ≡ true → number_fits n ≡ true → (lettered_fault bad letters (c ∷ decimal n) ≡ None) × (is_plain (c ∷ decimal n) ≡ true)
behind_letter bad letters c n a s h =
    let l = number_lt n h in
    (rw (a, decimal_right bad number_fits n l h) refl, rw (s, decimal_shown n l) refl)

pub lettered_right : (letters : List ℕ) (c n : ℕ) → list_any (nat_eq c) letters ≡ true → is_shown c ≡ true → number_fits n ≡ true → Right (Lettered letters) (c ∷ decimal n)
lettered_right letters c n a s h = behind_letter BadOperand letters c n a s h

pub label_right : (n : ℕ) → number_fits n ≡ true → Right Label (label_word n)
label_right n h = behind_letter BadLabel (codes "L") 76 n refl refl h

class_letter : (c : Class) → (list_any (nat_eq (letter c)) (codes "svma") ≡ true) × (is_shown (letter c) ≡ true)
class_letter class.Scalar = (refl, refl)
class_letter class.Vector = (refl, refl)
class_letter class.Mask = (refl, refl)
class_letter class.Array = (refl, refl)

pub register_right : (r : Register) → register_fits r ≡ true → Right register (register_word r)
register_right r h = let q = class_letter r.class in lettered_right (codes "svma") (letter r.class) r.number q.0 q.1 h

no_minus : (c : Class) (ds : List ℕ) → bytes_eq (letter c ∷ ds) (codes "-") ≡ false
no_minus class.Scalar ds = refl
no_minus class.Vector ds = refl
no_minus class.Mask ds = refl
no_minus class.Array ds = refl

pub back_right : (x : Option Register) → result_fits x ≡ true → Right Back (back_word x)
back_right None h = (refl, refl)
back_right (Some r) h = let q = register_right r h in (rw (no_minus r.class (decimal r.number)) q.0, q.1)

-- constants
not_zero : (n : ℕ) → suc n < 2 ^ 64 → bytes_eq (decimal (suc n)) (codes "0") ≡ false
not_zero n l =
    false_from_ne_true (bytes_eq (decimal (suc n)) (codes "0"))
    (λ e. let v = ap (λ w. digits_value 10 w) ((bytes_eq-Decides (decimal (suc n)) (codes "0")).0 e) in
    let k = digits_value-decimal own (suc n) l in
    no (suc n) (sym k ∙ v) (omega arith))
  where
    no : (m : ℕ) → m ≡ 0 → 0 < m → ⊥
    no m e p = omega (arith, e, p)

digit_first : (w : List ℕ) → 0 < length w → all_ascii_digits w ≡ true → constant_fault w ≡ digits_fault BadOperand (λ v. constant_fits (pos v)) w
digit_first [] l h = absurd (omega (arith, l))
digit_first (c ∷ cs) l h = rw (no_sign c (and_parts (is_ascii_digit c) (all_ascii_digits cs) h).0) refl
  where
    no_sign : (b : ℕ) → is_ascii_digit b ≡ true → (b == 45) ≡ false
    no_sign b e = grind (arith, nat_tests)

pub constant_right : (z : ℤ) → constant_fits z ≡ true → Right Constant (signed_decimal z)
constant_right (pos n) h =
    let l = magnitude_pos n h in
    (digit_first (decimal n) (decimal_nonempty n l) (digits_decimal own n l) ∙ decimal_right BadOperand (λ v. constant_fits (pos v)) n l h, plain_of (decimal n) (decimal_nonempty n l) (decimal_shown n l))
constant_right (negsuc n) h =
    let k = magnitude_neg n h in
    let l : suc n < 2 ^ 64 = omega (arith, k) in
    (rw (not_zero n l) (decimal_right BadOperand (λ v. constant_fits (neg_ℤ (pos v))) (suc n) l h), decimal_shown (suc n) l)

-- types
pub type_right : (t : Elem) → Right a_type (type_word t)
type_right Truth = (refl, refl)
type_right I8 = (refl, refl)
type_right U8 = (refl, refl)
type_right I16 = (refl, refl)
type_right U16 = (refl, refl)
type_right I32 = (refl, refl)
type_right U32 = (refl, refl)
type_right I64 = (refl, refl)
type_right U64 = (refl, refl)

pub types_right : (ts : List Elem) → AllRight (replicate (length (map type_word ts)) a_type) (map type_word ts)
types_right [] = tt
types_right (t ∷ ts) = (type_right t, types_right ts)

pub registers_right : (rs : List Register) → list_all register_fits rs ≡ true → AllRight (replicate (length (map register_word rs)) register) (map register_word rs)
registers_right [] h = tt
registers_right (r ∷ rs) h = let q = and_parts (register_fits r) (list_all register_fits rs) h in (register_right r q.0, registers_right rs q.1)

-- names
first_shown : (b : ℕ) → is_first_byte b ≡ true → is_shown b ≡ true
first_shown b h = grind (arith, nat_tests)

word_byte_shown : (b : ℕ) → is_word_byte b ≡ true → is_shown b ≡ true
word_byte_shown b h = grind (arith, nat_tests)

word_shown : (w : List ℕ) → list_all is_word_byte w ≡ true → list_all is_shown w ≡ true
word_shown [] h = refl
word_shown (b ∷ bs) h = let q = and_parts (is_word_byte b) (list_all is_word_byte bs) h in rw (word_byte_shown b q.0, word_shown bs q.1) refl

name_plain : (w : List ℕ) → name_fits w ≡ true → is_plain w ≡ true
name_plain [] h = h
name_plain (b ∷ bs) h = let q = and_parts (is_first_byte b) (list_all is_word_byte bs) h in rw (first_shown b q.0, word_shown bs q.1) refl

pub name_right : (w : List ℕ) → name_fits w ≡ true → Right Name w
name_right w h = (rw h refl, name_plain w h)

-- bytes in hexadecimal
hex_digit : (d : ℕ) → d < 16 → (is_hex_digit (digit_char d) ≡ true) × (is_shown (digit_char d) ≡ true)
hex_digit d l = (grind (arith, nat_tests), grind (arith, nat_tests))

hex_all : (bs : List ℕ) → list_all is_byte bs ≡ true → (is_hex (hex_word bs) ≡ true) × (list_all is_shown (hex_word bs) ≡ true)
hex_all [] h = (refl, refl)
hex_all (b ∷ bs) h =
    let q = and_parts (is_byte b) (list_all is_byte bs) h in
    let l = ltb-true b 256 q.0 in
    let x = hex_digit (b / 16) (omega (arith, l)) in
    let y = hex_digit (b % 16) (omega arith) in
    let r = hex_all bs q.1 in
    (rw (x.0, y.0, r.0) refl, rw (x.1, y.1, r.1) refl)

pub hex_right : (bs : List ℕ) → text_fits bs ≡ true → Right Hex (hex_word bs)
hex_right [] h = absurd (false≢true h)
hex_right (b ∷ bs) h = let q = hex_all (b ∷ bs) h in (rw q.0 refl, q.1)
