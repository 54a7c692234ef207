-- What a token is to scopes.
use Rattle.isp_lex.specs.declared.token.Mark.{Mark}
use Rattle.isp_lex.specs.declared.token.Mark.TheVariants as mark
use Rattle.isp_lex.specs.declared.token.TokenKind.{TokenKind}
use Rattle.isp_lex.specs.declared.token.TokenKind.TheVariants as kind
use Rattle.isp_scopes.specs.declared.sign.Sign.{Sign}
use Rattle.isp_scopes.specs.declared.sign.Sign.TheVariants.{Word, TypeWord, Foreach, If, Do, Body, Paren, Bracket, Close, Comma, Semicolon, BlockOpen, BlockClose, Other}

abbrev pub of_mark : Mark → Sign
of_mark mark.Const = TypeWord
of_mark mark.Uniform = TypeWord
of_mark mark.Varying = TypeWord
of_mark mark.Signed = TypeWord
of_mark mark.Unsigned = TypeWord
of_mark mark.Void = TypeWord
of_mark mark.Bool = TypeWord
of_mark mark.Int = TypeWord
of_mark mark.Int8 = TypeWord
of_mark mark.Int16 = TypeWord
of_mark mark.Int32 = TypeWord
of_mark mark.Int64 = TypeWord
of_mark mark.Uint = TypeWord
of_mark mark.Uint8 = TypeWord
of_mark mark.Uint16 = TypeWord
of_mark mark.Uint32 = TypeWord
of_mark mark.Uint64 = TypeWord
of_mark mark.Foreach = Foreach
of_mark mark.ForeachTiled = Foreach
of_mark mark.ForeachActive = Foreach
of_mark mark.ForeachUnique = Foreach
of_mark mark.If = If
of_mark mark.Cif = If
of_mark mark.Do = Do
of_mark mark.Cdo = Do
of_mark mark.While = Body
of_mark mark.Cwhile = Body
of_mark mark.For = Body
of_mark mark.Cfor = Body
of_mark mark.Else = Body
of_mark mark.ParenOpen = Paren
of_mark mark.BracketOpen = Bracket
of_mark mark.ParenClose = Close
of_mark mark.BracketClose = Close
of_mark mark.Comma = Comma
of_mark mark.Semicolon = Semicolon
of_mark mark.BraceOpen = BlockOpen
of_mark mark.BraceClose = BlockClose
of_mark _ = Other

abbrev pub sign_of : TokenKind → Sign
sign_of (kind.Word name) = Word
sign_of (kind.Mark m) = of_mark m
sign_of (kind.Number value) = Other
sign_of (kind.Text bytes) = Other
sign_of kind.LeftOut = Other
