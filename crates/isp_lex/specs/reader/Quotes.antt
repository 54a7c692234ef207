-- What the code reads of a text in quotes.
use Rattle.std.specs.Prelude.{◌≡◌, ℕ, suc, cond, ◌==◌, List, [], ◌∷◌, ◌++◌, length, drop, Option, Some, None, Bool, true, false, ◌||◌}
use Rattle.isp_lex.specs.declared.quotes.Said.{Said}
use Rattle.isp_lex.specs.declared.quotes.Said.TheVariants as said
use Rattle.isp_lex.specs.Texts.{Decodes, is_plain, escaped}

-- what the next character of a text says, or how far the text goes on
abbrev pub escape_of : Option ℕ → Said
escape_of None = said.Stops 1
escape_of (Some b) = said.Byte b 2

abbrev pub escape_at : List ℕ → Said
escape_at [] = said.Stops 1
escape_at (e ∷ rest) = escape_of (escaped e)

abbrev pub said_at : List ℕ → Said
said_at [] = said.Stops 0
said_at (b ∷ rest) = cond (b == 92) (escape_at rest) (cond (is_plain b) (said.Byte b 1) (said.Stops 0))

-- up to the place, a quote and what says the bytes
pub record Says (text : List ℕ) (at : ℕ) (bytes : List ℕ) : Type 0 where
  pub body : List ℕ
  pub split : text ≡ 34 ∷ (body ++ drop at text)
  pub size : suc (length body) ≡ at
  pub decoded : Decodes body bytes

-- a text may go on with this byte
abbrev pub goes_on : ℕ → Bool
goes_on b = is_plain b || (b == 34 || b == 92)

-- or, after a backslash, with this one
abbrev pub is_some : Option ℕ → Bool
is_some None = false
is_some (Some b) = true

abbrev pub is_escape : ℕ → Bool
is_escape b = is_some (escaped b)
