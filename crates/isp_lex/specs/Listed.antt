-- What every list of tokens is known to be: the tokens of some text. What follows from that for each token.
use Rattle.std.specs.Prelude.{◌≡◌, ℕ, ◌<◌, ◌≤◌, List, [], ◌∷◌, length}
use Rattle.std.specs.List.{All}
use Rattle.std.specs.Str.{IsUtf8}
use Rattle.isp_base.specs.Values.{greatest}
use Rattle.isp_lex.specs.declared.token.Token.{Token}
use Rattle.isp_lex.specs.declared.token.TokenKind.{TokenKind}
use Rattle.isp_lex.specs.declared.token.TokenKind.TheVariants as kind
use Rattle.isp_lex.specs.Lexing.{IsWord, Lexes, limit}
use Rattle.isp_lex.specs.Spelling.{IsReserved}
use Rattle.isp_lex.specs.Tokens.{TokenList}

-- the list is all tokens of a text, whose length it gives, and which is no longer than a source may be
pub record IsListed (list : TokenList) : Type 0 where
  pub text : List ℕ
  pub utf8 : IsUtf8 text
  pub size : length text ≡ list.end
  pub short : list.end ≤ limit
  pub lexed : Lexes 0 text list.items []

-- a name is a word that is not reserved, and a number is a value of its type
abbrev pub IsKind : TokenKind → Type 0
IsKind (kind.Word name) = IsWord name × (IsReserved name → ⊥)
IsKind (kind.Number value) = value.bits ≤ greatest value.elem
IsKind (kind.Text bytes) = Unit {0}
IsKind (kind.Mark mark) = Unit {0}
IsKind kind.LeftOut = Unit {0}

-- a token of a text of so many bytes has a byte of it at least
pub record IsToken (size : ℕ) (token : Token) : Type 0 where
  pub some : token.span.start < token.span.end
  pub within : token.span.end ≤ size
  pub kind : IsKind token.kind

-- from a place on, each token begins where the one before it ends, or later
abbrev pub InOrder : ℕ → List Token → Type 0
InOrder place [] = Unit {0}
InOrder place (token ∷ tokens) = (place ≤ token.span.start) × InOrder token.span.end tokens

-- what layers above may rely on: not more tokens than bytes, each a token of the text, in the order of the text
pub record AreTokens (list : TokenList) : Type 0 where
  pub short : list.end ≤ limit
  pub few : length list.items ≤ list.end
  pub each : All (IsToken list.end) list.items
  pub order : InOrder 0 list.items
