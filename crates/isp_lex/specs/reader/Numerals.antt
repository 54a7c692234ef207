-- What the code reads as a number.
use Rattle.std.specs.Prelude.{ℕ, Bool, true, false, cond, ◌&&◌, ◌||◌, not, List, [], ◌∷◌, length, take, drop, map, Option, Some, None, codes, nat_lt, nat_le, ◌^◌, ◌==◌}
use Rattle.std.specs.Str.{bytes_eq}
use Rattle.std.specs.Char.{digit_value, to_ascii_lowercase}
use Rattle.std.specs.Str.Parse.{digits_value}
use Rattle.isp_base.specs.declared.types.Elem.{Elem}
use Rattle.isp_base.specs.declared.types.Elem.TheVariants.{I32, U32, I64, U64}
use Rattle.isp_base.specs.declared.types.Value.{Value}
use Rattle.isp_base.specs.Values.{greatest}
use Rattle.isp_lex.specs.declared.numbers.Digits.{Digits}
use Rattle.isp_lex.specs.declared.numbers.Suffix.{Suffix}
use Rattle.isp_lex.specs.declared.numbers.Suffix.TheVariants as suffix
use Rattle.isp_lex.specs.Bytes.{next_is}
use Rattle.isp_lex.specs.reader.Runs.{run}

-- each byte is a digit of the radix
abbrev pub all_digits : ℕ → List ℕ → Bool
all_digits radix [] = true
all_digits radix (d ∷ ds) = nat_lt (digit_value d) radix && all_digits radix ds

-- the number that digits write, if it is below 2 ^ 64
abbrev pub numeral : ℕ → List ℕ → Option ℕ
numeral radix [] = None
numeral radix (d ∷ ds) =
    cond (all_digits radix (d ∷ ds) && nat_lt (digits_value radix (d ∷ ds)) (2 ^ 64)) (Some (digits_value radix (d ∷ ds))) None

-- `u` or `l`, in either case
abbrev pub is_suffix_letter : ℕ → Bool
is_suffix_letter byte = to_ascii_lowercase byte == 117 || to_ascii_lowercase byte == 108

-- a byte of the digits of a number, or of their prefix
abbrev pub is_digits_byte : ℕ → Bool
is_digits_byte b = not (is_suffix_letter b)

abbrev pub digits_at : Bool → Option ℕ → Option Digits
digits_at decimal None = None
digits_at decimal (Some n) = Some (record { is_decimal = decimal; bits = n })

-- `0` and this letter come first
abbrev pub is_prefixed : ℕ → List ℕ → Bool
is_prefixed c text = next_is 48 text && next_is c (drop 1 text)

-- the number that digits with their prefix write
abbrev pub digits_of : List ℕ → Option Digits
digits_of text =
    cond (is_prefixed 120 text) (digits_at false (numeral 16 (drop 2 text))) (
    cond (is_prefixed 98 text) (digits_at false (numeral 2 (drop 2 text))) (
    cond (next_is 48 text && nat_lt 1 (length text)) None (digits_at true (numeral 10 text))))

abbrev pub lower : List ℕ → List ℕ
lower text = map to_ascii_lowercase text

-- what a suffix asks, by its text in lower case
abbrev pub is_long : List ℕ → Bool
is_long s = bytes_eq s (lower (codes "l")) || bytes_eq s (lower (codes "ll"))

abbrev pub is_unsigned_long : List ℕ → Bool
is_unsigned_long s =
    (bytes_eq s (lower (codes "ul")) || bytes_eq s (lower (codes "lu")))
    || (bytes_eq s (lower (codes "ull")) || bytes_eq s (lower (codes "llu")))

abbrev pub suffix_of : List ℕ → Option Suffix
suffix_of s =
    cond (bytes_eq s (lower [])) (Some suffix.Plain) (
    cond (bytes_eq s (lower (codes "u"))) (Some suffix.Unsigned) (
    cond (is_long s) (Some suffix.Long) (
    cond (is_unsigned_long s) (Some suffix.UnsignedLong) None)))

-- the first of the types that has the number as a value
abbrev pub first_type : List Elem → ℕ → Option Elem
first_type [] n = None
first_type (t ∷ ts) n = cond (nat_le n (greatest t)) (Some t) (first_type ts n)

-- the types that a number may have, without a suffix and with one
abbrev pub plain_of : Bool → List Elem
plain_of true = I32 ∷ I64 ∷ U64 ∷ []
plain_of false = I32 ∷ U32 ∷ I64 ∷ U64 ∷ []

abbrev pub types_of : Bool → Suffix → List Elem
types_of decimal suffix.Plain = plain_of decimal
types_of decimal suffix.Unsigned = U32 ∷ U64 ∷ []
types_of decimal suffix.Long = I64 ∷ []
types_of decimal suffix.UnsignedLong = U64 ∷ []

abbrev pub value_at : Option Elem → ℕ → Option Value
value_at None n = None
value_at (Some t) n = Some (record { elem = t; bits = n })

abbrev pub typed : Option Digits → Option Suffix → Option Value
typed None s = None
typed (Some d) None = None
typed (Some d) (Some s) = value_at (first_type (types_of d.is_decimal s) d.bits) d.bits

-- a number's value and type
abbrev pub read_number : List ℕ → Option Value
read_number text = typed (digits_of (take (run is_digits_byte text) text)) (suffix_of (lower (drop (run is_digits_byte text) text)))
