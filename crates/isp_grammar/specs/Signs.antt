-- How the words and signs of a tree are written, and how tight operators bind.
use Rattle.std.specs.Prelude.{ℕ, List, [], ◌∷◌, Bool, true, false, ◌||◌, codes}
use Rattle.isp_base.specs.declared.types.Span.{Span}
use Rattle.isp_base.specs.declared.types.Value.{Value}
use Rattle.isp_base.specs.Types.{span_to}
use Rattle.isp_lex.specs.declared.token.Mark.{Mark}
use Rattle.isp_lex.specs.declared.token.Mark.TheVariants as mark
use Rattle.isp_lex.specs.declared.token.TokenKind.TheVariants as kind
use Rattle.isp_lex.specs.declared.token.Token.{Token}
use Rattle.isp_tree.specs.declared.types.Word.{Word}
use Rattle.isp_tree.specs.declared.types.Qualifier.{Qualifier}
use Rattle.isp_tree.specs.declared.types.Qualifier.TheVariants as qualifier
use Rattle.isp_tree.specs.declared.types.Base.{Base}
use Rattle.isp_tree.specs.declared.types.Base.TheVariants as base
use Rattle.isp_tree.specs.declared.expr.Prefix.{Prefix}
use Rattle.isp_tree.specs.declared.expr.Prefix.TheVariants as prefix
use Rattle.isp_tree.specs.declared.expr.Operator.{Operator}
use Rattle.isp_tree.specs.declared.expr.Operator.TheVariants as op
use Rattle.isp_tree.specs.declared.stmt.Assignment.{Assignment}
use Rattle.isp_tree.specs.declared.stmt.Assignment.TheVariants as assignment
use Rattle.isp_tree.specs.declared.stmt.Change.{Change}
use Rattle.isp_tree.specs.declared.stmt.Change.TheVariants.{Increment, Decrement}
use Rattle.isp_tree.specs.declared.stmt.Form.{Form}
use Rattle.isp_tree.specs.declared.stmt.Form.TheVariants as form
use Rattle.isp_tree.specs.declared.stmt.Tiling.{Tiling}
use Rattle.isp_tree.specs.declared.stmt.Tiling.TheVariants as tiling
use Rattle.isp_tree.specs.declared.stmt.Jump.{Jump}
use Rattle.isp_tree.specs.declared.stmt.Jump.TheVariants.{Break, Continue}
use Rattle.isp_tree.specs.declared.function.Linkage.{Linkage}
use Rattle.isp_tree.specs.declared.function.Linkage.TheVariants.{Export, Static, Inline}

-- the token of a name
abbrev pub word : Word → Token
word w = record { kind = kind.Word w.name; span = w.span }

-- the token of the name `in`, of a `foreach_unique`
abbrev pub preposition : Span → Token
preposition s = record { kind = kind.Word (codes "in"); span = s }

-- the token of a number
abbrev pub numeral : Value → Span → Token
numeral v s = record { kind = kind.Number v; span = s }

-- the token of a text
abbrev pub textual : List ℕ → Span → Token
textual t s = record { kind = kind.Text t; span = s }

-- ---- types

abbrev pub qualifier_mark : Qualifier → Mark
qualifier_mark qualifier.Const = mark.Const
qualifier_mark qualifier.Uniform = mark.Uniform
qualifier_mark qualifier.Varying = mark.Varying
qualifier_mark qualifier.Signed = mark.Signed
qualifier_mark qualifier.Unsigned = mark.Unsigned

-- `signed` or `unsigned`
abbrev pub is_sign : Qualifier → Bool
is_sign qualifier.Const = false
is_sign qualifier.Uniform = false
is_sign qualifier.Varying = false
is_sign qualifier.Signed = true
is_sign qualifier.Unsigned = true

abbrev pub has_sign : List Qualifier → Bool
has_sign [] = false
has_sign (q ∷ qs) = is_sign q || has_sign qs

abbrev pub base_mark : Base → Mark
base_mark base.Void = mark.Void
base_mark base.Bool = mark.Bool
base_mark base.Int = mark.Int
base_mark base.Int8 = mark.Int8
base_mark base.Int16 = mark.Int16
base_mark base.Int32 = mark.Int32
base_mark base.Int64 = mark.Int64
base_mark base.Uint = mark.Uint
base_mark base.Uint8 = mark.Uint8
base_mark base.Uint16 = mark.Uint16
base_mark base.Uint32 = mark.Uint32
base_mark base.Uint64 = mark.Uint64

-- ---- expressions

abbrev pub truth_mark : Bool → Mark
truth_mark true = mark.True
truth_mark false = mark.False

abbrev pub prefix_mark : Prefix → Mark
prefix_mark prefix.Negative = mark.Minus
prefix_mark prefix.Inverse = mark.Inverse
prefix_mark prefix.Not = mark.Not

abbrev pub sign : Operator → Mark
sign op.Multiply = mark.Star
sign op.Divide = mark.Slash
sign op.Remainder = mark.Percent
sign op.Add = mark.Plus
sign op.Subtract = mark.Minus
sign op.ShiftLeft = mark.ShiftLeft
sign op.ShiftRight = mark.ShiftRight
sign op.Less = mark.Less
sign op.LessEqual = mark.LessEqual
sign op.Greater = mark.Greater
sign op.GreaterEqual = mark.GreaterEqual
sign op.Equal = mark.Equal
sign op.NotEqual = mark.NotEqual
sign op.And = mark.And
sign op.Xor = mark.Xor
sign op.Or = mark.Or
sign op.AndAlso = mark.AndAnd
sign op.OrElse = mark.OrOr

-- operators of a lower level bind tighter
abbrev pub level : Operator → ℕ
level op.Multiply = 1
level op.Divide = 1
level op.Remainder = 1
level op.Add = 2
level op.Subtract = 2
level op.ShiftLeft = 3
level op.ShiftRight = 3
level op.Less = 4
level op.LessEqual = 4
level op.Greater = 4
level op.GreaterEqual = 4
level op.Equal = 5
level op.NotEqual = 5
level op.And = 6
level op.Xor = 7
level op.Or = 8
level op.AndAlso = 9
level op.OrElse = 10

-- operands joined by operators of any level
abbrev pub joined_level : ℕ
joined_level = 10

-- an expression, which may be a choice by `?` and `:`
abbrev pub loosest : ℕ
loosest = 11

-- ---- statements and functions

abbrev pub assignment_mark : Assignment → Mark
assignment_mark assignment.Replace = mark.Assign
assignment_mark assignment.Add = mark.PlusAssign
assignment_mark assignment.Subtract = mark.MinusAssign
assignment_mark assignment.Multiply = mark.StarAssign
assignment_mark assignment.Divide = mark.SlashAssign
assignment_mark assignment.Remainder = mark.PercentAssign
assignment_mark assignment.And = mark.AndAssign
assignment_mark assignment.Or = mark.OrAssign
assignment_mark assignment.Xor = mark.XorAssign
assignment_mark assignment.ShiftLeft = mark.ShiftLeftAssign
assignment_mark assignment.ShiftRight = mark.ShiftRightAssign

abbrev pub change_mark : Change → Mark
change_mark Increment = mark.Increment
change_mark Decrement = mark.Decrement

abbrev pub if_mark : Form → Mark
if_mark form.Plain = mark.If
if_mark form.Coherent = mark.Cif

abbrev pub while_mark : Form → Mark
while_mark form.Plain = mark.While
while_mark form.Coherent = mark.Cwhile

abbrev pub do_mark : Form → Mark
do_mark form.Plain = mark.Do
do_mark form.Coherent = mark.Cdo

abbrev pub for_mark : Form → Mark
for_mark form.Plain = mark.For
for_mark form.Coherent = mark.Cfor

abbrev pub foreach_mark : Tiling → Mark
foreach_mark tiling.Plain = mark.Foreach
foreach_mark tiling.Tiled = mark.ForeachTiled

abbrev pub jump_mark : Jump → Mark
jump_mark Break = mark.Break
jump_mark Continue = mark.Continue

abbrev pub linkage_mark : Linkage → Mark
linkage_mark Export = mark.Export
linkage_mark Static = mark.Static
linkage_mark Inline = mark.Inline

-- ---- places

-- where the first and the last of some tokens stand
abbrev pub first_span : List Token → Span
first_span [] = record { start = 0; end = 0 }
first_span (t ∷ ts) = t.span

abbrev pub last_span : List Token → Span
last_span [] = record { start = 0; end = 0 }
last_span (t ∷ []) = t.span
last_span (t ∷ u ∷ us) = last_span (u ∷ us)

-- from the first byte of some tokens to the last
abbrev pub spread : List Token → Span
spread ts = span_to (first_span ts) (last_span ts)
