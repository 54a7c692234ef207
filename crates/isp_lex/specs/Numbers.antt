-- Which texts are numbers, and of which value and type.
use Rattle.std.specs.Prelude.{◌≡◌, ℕ, ◌<◌, ◌≤◌, List, [], ◌∷◌, ◌++◌, length, map, true, codes}
use Rattle.std.specs.Char.{to_ascii_lowercase}
use Rattle.std.specs.Str.Parse.{IsNumeral, digits_value}
use Rattle.isp_base.specs.declared.types.Elem.{Elem}
use Rattle.isp_base.specs.declared.types.Elem.TheVariants.{I32, U32, I64, U64}
use Rattle.isp_base.specs.declared.types.Value.{Value}
use Rattle.isp_base.specs.Values.{greatest}
use Rattle.isp_lex.specs.Bytes.{next_is}

-- The digits of a number with their prefix, their value, and the types that it may have without a suffix.
-- More than one decimal digit never begin with 0.
pub data IsDigits : List ℕ → ℕ → List Elem → Type 0 where
  decimal : (digits : List ℕ)
      → IsNumeral 10 digits
      → (next_is 48 digits ≡ true → length digits ≡ 1)
      → IsDigits digits (digits_value 10 digits) (I32 ∷ I64 ∷ U64 ∷ [])
  hexadecimal : (digits : List ℕ)
      → IsNumeral 16 digits
      → IsDigits (codes "0x" ++ digits) (digits_value 16 digits) (I32 ∷ U32 ∷ I64 ∷ U64 ∷ [])
  binary : (digits : List ℕ)
      → IsNumeral 2 digits
      → IsDigits (codes "0b" ++ digits) (digits_value 2 digits) (I32 ∷ U32 ∷ I64 ∷ U64 ∷ [])

-- the types that a number may have without a suffix, a suffix in lower case, and the types that it may have with it
pub data Types : List Elem → List ℕ → List Elem → Type 0 where
  without : (types : List Elem) → Types types [] types
  with_u : (types : List Elem) → Types types (codes "u") (U32 ∷ U64 ∷ [])
  with_l : (types : List Elem) → Types types (codes "l") (I64 ∷ [])
  with_ll : (types : List Elem) → Types types (codes "ll") (I64 ∷ [])
  with_ul : (types : List Elem) → Types types (codes "ul") (U64 ∷ [])
  with_lu : (types : List Elem) → Types types (codes "lu") (U64 ∷ [])
  with_ull : (types : List Elem) → Types types (codes "ull") (U64 ∷ [])
  with_llu : (types : List Elem) → Types types (codes "llu") (U64 ∷ [])

-- the first of the types that has the number as a value
pub data FirstFit : List Elem → ℕ → Elem → Type 0 where
  here : (elem : Elem) (types : List Elem) (bits : ℕ)
      → bits ≤ greatest elem
      → FirstFit (elem ∷ types) bits elem
  later : (elem found : Elem) (types : List Elem) (bits : ℕ)
      → greatest elem < bits
      → FirstFit types bits found
      → FirstFit (elem ∷ types) bits found

-- a number: digits, then a suffix in either case, and the first type that fits
pub record IsNumber (number : Value) (text : List ℕ) : Type 0 where
  pub digits : List ℕ
  pub suffix : List ℕ
  pub plain : List Elem
  pub types : List Elem
  pub split : text ≡ digits ++ suffix
  pub value : IsDigits digits number.bits plain
  pub allowed : Types plain (map to_ascii_lowercase suffix) types
  pub fits : FirstFit types number.bits number.elem
