-- Tokens, and the marks among them.
use Rattle.std.specs.Prelude.{ℕ, List, [], ◌∷◌, Bool, false}
use denote.Enum.Bare.{sameb}
use Rattle.isp_base.specs.declared.types.Span.{Span}
use Rattle.isp_lex.specs.contracts.token.Mark.{the_type}
use Rattle.isp_lex.specs.declared.token.Mark.{Mark}
use Rattle.isp_lex.specs.declared.token.TokenKind.{TokenKind}
use Rattle.isp_lex.specs.declared.token.TokenKind.TheVariants as kind
use Rattle.isp_lex.specs.declared.token.Token.{Token}

-- the tokens of a text, and the text's length
pub record TokenList : Type 0 where
  pub items : List Token
  pub end : ℕ

-- whether a token is this mark
abbrev pub is_mark : Mark → TokenKind → Bool
is_mark m (kind.Mark l) = sameb the_type m l
is_mark m k = false

-- a token of a mark
abbrev pub at : Mark → Span → Token
at m s = record { kind = kind.Mark m; span = s }

-- whether the first token is this mark
abbrev pub starts_with : Mark → List Token → Bool
starts_with m [] = false
starts_with m (t ∷ ts) = is_mark m t.kind
