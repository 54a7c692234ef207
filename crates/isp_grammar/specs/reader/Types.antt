-- How the words of a type are read.
use Rattle.std.specs.Prelude.{List, [], ◌∷◌, ◌++◌, Bool, true, false, if◌then◌else◌, Some, None, Ok}
use Rattle.isp_base.specs.Types.{span_to}
use Rattle.isp_base.specs.declared.types.Span.{Span}
use Rattle.isp_lex.specs.declared.token.Mark.TheVariants as mark
use Rattle.isp_lex.specs.declared.token.TokenKind.{TokenKind}
use Rattle.isp_lex.specs.declared.token.TokenKind.TheVariants as kind
use Rattle.isp_lex.specs.declared.token.Token.{Token}
use Rattle.isp_grammar.specs.reader.Readers.{Read, Reader, refuse}
use Rattle.isp_grammar.specs.Signs.{first_span}
use Rattle.isp_tree.specs.Tree.{has_sign}
use Rattle.isp_tree.specs.Tree.{TypeTree}
use Rattle.isp_grammar.specs.declared.stop.Why.TheVariants.{Unexpected}
use Rattle.isp_tree.specs.declared.types.Qualifier.{Qualifier}
use Rattle.isp_tree.specs.declared.types.Qualifier.TheVariants as qualifier
use Rattle.isp_tree.specs.declared.types.Base.TheVariants as base
use Rattle.isp_grammar.specs.declared.types.TypeWord.{TypeWord}
use Rattle.isp_grammar.specs.declared.types.TypeWord.TheVariants as by

-- what a token is in a type
abbrev pub type_word_of : TokenKind → TypeWord
type_word_of (kind.Word n) = by.Other
type_word_of (kind.Number v) = by.Other
type_word_of (kind.Text t) = by.Other
type_word_of (kind.Mark mark.Const) = by.Qualifier qualifier.Const
type_word_of (kind.Mark mark.Uniform) = by.Qualifier qualifier.Uniform
type_word_of (kind.Mark mark.Varying) = by.Qualifier qualifier.Varying
type_word_of (kind.Mark mark.Signed) = by.Qualifier qualifier.Signed
type_word_of (kind.Mark mark.Unsigned) = by.Qualifier qualifier.Unsigned
type_word_of (kind.Mark mark.Void) = by.Base base.Void
type_word_of (kind.Mark mark.Bool) = by.Base base.Bool
type_word_of (kind.Mark mark.Int) = by.Base base.Int
type_word_of (kind.Mark mark.Int8) = by.Base base.Int8
type_word_of (kind.Mark mark.Int16) = by.Base base.Int16
type_word_of (kind.Mark mark.Int32) = by.Base base.Int32
type_word_of (kind.Mark mark.Int64) = by.Base base.Int64
type_word_of (kind.Mark mark.Uint) = by.Base base.Uint
type_word_of (kind.Mark mark.Uint8) = by.Base base.Uint8
type_word_of (kind.Mark mark.Uint16) = by.Base base.Uint16
type_word_of (kind.Mark mark.Uint32) = by.Base base.Uint32
type_word_of (kind.Mark mark.Uint64) = by.Base base.Uint64
type_word_of (kind.Mark _) = by.Other
type_word_of kind.LeftOut = by.Other

abbrev pub is_type_word : TypeWord → Bool
is_type_word (by.Qualifier q) = true
is_type_word (by.Base b) = true
is_type_word by.Other = false

abbrev pub begins_type : TokenKind → Bool
begins_type k = is_type_word (type_word_of k)

-- where the qualifiers end without a base
abbrev pub type_end : Span → List Qualifier → Reader TypeTree
type_end s qs ts = if has_sign qs then Ok (record { qualifiers = qs; base = None; span = s }, ts) else refuse Unexpected ts

abbrev pub type_by : (Qualifier → Read TypeTree) → TypeWord → Span → List Qualifier → Token → List Token → Read TypeTree
type_by more (by.Qualifier q) s qs t ts = more q
type_by more (by.Base b) s qs t ts = Ok (record { qualifiers = qs; base = Some b; span = span_to s t.span }, ts)
type_by more by.Other s qs t ts = type_end s qs (t ∷ ts)

-- the rest of a type, after these qualifiers at that place
unfoldable pub type_more : Span → List Qualifier → Reader TypeTree
type_more s qs [] = type_end s qs []
type_more s qs (t ∷ ts) = type_by (λ q. type_more (span_to s t.span) (qs ++ q ∷ []) ts) (type_word_of t.kind) s qs t ts

unfoldable pub type_at : Reader TypeTree
type_at ts = type_more (first_span ts) [] ts

-- what the first token is in a type
abbrev pub type_word_at : List Token → TypeWord
type_word_at [] = by.Other
type_word_at (t ∷ ts) = type_word_of t.kind
