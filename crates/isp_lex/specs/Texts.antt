-- Texts in quotes, and what they say.
use Rattle.std.specs.Prelude.{◌≡◌, ℕ, Bool, true, cond, ◌&&◌, ◌==◌, not, nat_le, List, [], ◌∷◌, ◌++◌, Option, Some, None}
use Rattle.isp_lex.specs.Bytes.{next_is}

-- a byte that stands for itself: no control character, no quote and no backslash
abbrev pub is_plain : ℕ → Bool
is_plain byte = (nat_le 32 byte && not (byte == 127)) && (not (byte == 34) && not (byte == 92))

-- what a backslash with this byte after it says: `n`, `t`, `r`, a backslash and a quote
abbrev pub escaped : ℕ → Option ℕ
escaped letter =
    cond (letter == 110) (Some 10) (
    cond (letter == 116) (Some 9) (
    cond (letter == 114) (Some 13) (
    cond (letter == 92) (Some 92) (
    cond (letter == 34) (Some 34) None))))

-- what stands between the quotes, and the bytes that it says
pub data Decodes : List ℕ → List ℕ → Type 0 where
  nothing : Decodes [] []
  plain : (byte : ℕ) (body bytes : List ℕ)
      → is_plain byte ≡ true
      → Decodes body bytes
      → Decodes (byte ∷ body) (byte ∷ bytes)
  escape : (letter says : ℕ) (body bytes : List ℕ)
      → escaped letter ≡ Some says
      → Decodes body bytes
      → Decodes (92 ∷ letter ∷ body) (says ∷ bytes)

-- a text in quotes that says these bytes
abbrev pub IsQuoted : List ℕ → List ℕ → Type 0
IsQuoted bytes text = (body : List ℕ) × (text ≡ 34 ∷ (body ++ 34 ∷ [])) × Decodes body bytes

-- some text in quotes begins with these bytes
abbrev pub BeginsQuoted : List ℕ → Type 0
BeginsQuoted front = (more : List ℕ) × (bytes : List ℕ) × IsQuoted bytes (front ++ more)

-- A text in quotes goes on up to the rest and no further: it has begun with its quote, it is not closed, and no text in
-- quotes goes on with the next byte.
pub record StopsBefore (front rest : List ℕ) : Type 0 where
  pub quote : next_is 34 front ≡ true
  pub begun : BeginsQuoted front
  pub unclosed : (bytes : List ℕ) → IsQuoted bytes front → ⊥
  pub no_further : (byte : ℕ) (after : List ℕ) → rest ≡ byte ∷ after → BeginsQuoted (front ++ byte ∷ []) → ⊥
