-- Where the tokens of a text begin and end.
use Rattle.std.specs.Prelude.{ℕ, List}
use Rattle.std.specs.Str.{IsCharBoundary}
use Rattle.isp_lex.specs.declared.token.Token.{Token}

-- a token begins and ends where a character of the text does, or at the text's end
abbrev pub IsCut : List ℕ → Token → Type 0
IsCut text t = IsCharBoundary text t.span.start × IsCharBoundary text t.span.end
