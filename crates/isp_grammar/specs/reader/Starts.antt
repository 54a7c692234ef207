-- What the first token says.
use Rattle.std.specs.Prelude.{Bool, true, false}
use Rattle.isp_lex.specs.declared.token.Mark.{Mark}
use Rattle.isp_lex.specs.declared.token.Mark.TheVariants as mark
use Rattle.isp_lex.specs.declared.token.TokenKind.{TokenKind}
use Rattle.isp_lex.specs.declared.token.TokenKind.TheVariants as kind
use Rattle.isp_grammar.specs.declared.start.Start.{Start}
use Rattle.isp_grammar.specs.declared.start.Start.TheVariants as by
use Rattle.isp_tree.specs.declared.stmt.Form.TheVariants as form
use Rattle.isp_tree.specs.declared.stmt.Tiling.TheVariants as tiling
use Rattle.isp_tree.specs.declared.stmt.Jump.TheVariants as jump

-- what a mark says of a statement that begins with it
abbrev pub start_of_mark : Mark → Start
start_of_mark mark.BraceOpen = by.Block
start_of_mark mark.Semicolon = by.Empty
start_of_mark mark.Void = by.Declare
start_of_mark mark.Bool = by.Declare
start_of_mark mark.Int = by.Declare
start_of_mark mark.Int8 = by.Declare
start_of_mark mark.Int16 = by.Declare
start_of_mark mark.Int32 = by.Declare
start_of_mark mark.Int64 = by.Declare
start_of_mark mark.Uint = by.Declare
start_of_mark mark.Uint8 = by.Declare
start_of_mark mark.Uint16 = by.Declare
start_of_mark mark.Uint32 = by.Declare
start_of_mark mark.Uint64 = by.Declare
start_of_mark mark.Signed = by.Declare
start_of_mark mark.Unsigned = by.Declare
start_of_mark mark.Const = by.Declare
start_of_mark mark.Uniform = by.Declare
start_of_mark mark.Varying = by.Declare
start_of_mark mark.ParenOpen = by.Simple
start_of_mark mark.Increment = by.Simple
start_of_mark mark.Minus = by.Simple
start_of_mark mark.Decrement = by.Simple
start_of_mark mark.Inverse = by.Simple
start_of_mark mark.Not = by.Simple
start_of_mark mark.True = by.Simple
start_of_mark mark.False = by.Simple
start_of_mark mark.ProgramIndex = by.Simple
start_of_mark mark.ProgramCount = by.Simple
start_of_mark mark.If = by.If form.Plain
start_of_mark mark.Cif = by.If form.Coherent
start_of_mark mark.While = by.While form.Plain
start_of_mark mark.Cwhile = by.While form.Coherent
start_of_mark mark.Do = by.Do form.Plain
start_of_mark mark.Cdo = by.Do form.Coherent
start_of_mark mark.For = by.For form.Plain
start_of_mark mark.Cfor = by.For form.Coherent
start_of_mark mark.Foreach = by.Foreach tiling.Plain
start_of_mark mark.ForeachTiled = by.Foreach tiling.Tiled
start_of_mark mark.ForeachActive = by.ForeachActive
start_of_mark mark.ForeachUnique = by.ForeachUnique
start_of_mark mark.Unmasked = by.Unmasked
start_of_mark mark.Break = by.Jump jump.Break
start_of_mark mark.Continue = by.Jump jump.Continue
start_of_mark mark.Return = by.Return
start_of_mark mark.Print = by.Print
start_of_mark mark.Assert = by.Assert
start_of_mark _ = by.Nothing

abbrev pub start_of : TokenKind → Start
start_of (kind.Word n) = by.Simple
start_of (kind.Number v) = by.Simple
start_of (kind.Text t) = by.Nothing
start_of (kind.Mark m) = start_of_mark m
start_of kind.LeftOut = by.Nothing

abbrev pub is_start : Start → Bool
is_start by.Block = true
is_start by.Empty = true
is_start by.Declare = true
is_start by.Simple = true
is_start (by.If f) = true
is_start (by.While f) = true
is_start (by.Do f) = true
is_start (by.For f) = true
is_start (by.Foreach t) = true
is_start by.ForeachActive = true
is_start by.ForeachUnique = true
is_start by.Unmasked = true
is_start (by.Jump j) = true
is_start by.Return = true
is_start by.Print = true
is_start by.Assert = true
is_start by.Nothing = false

abbrev pub begins_stmt : TokenKind → Bool
begins_stmt k = is_start (start_of k)

-- the first part of a `for`
abbrev pub is_first_start : Start → Bool
is_first_start by.Block = false
is_first_start by.Empty = false
is_first_start by.Declare = true
is_first_start by.Simple = true
is_first_start (by.If f) = false
is_first_start (by.While f) = false
is_first_start (by.Do f) = false
is_first_start (by.For f) = false
is_first_start (by.Foreach t) = false
is_first_start by.ForeachActive = false
is_first_start by.ForeachUnique = false
is_first_start by.Unmasked = false
is_first_start (by.Jump j) = false
is_first_start by.Return = false
is_first_start by.Print = false
is_first_start by.Assert = false
is_first_start by.Nothing = false

abbrev pub begins_first : TokenKind → Bool
begins_first k = is_first_start (start_of k)

abbrev pub is_simple_start : Start → Bool
is_simple_start by.Block = false
is_simple_start by.Empty = false
is_simple_start by.Declare = false
is_simple_start by.Simple = true
is_simple_start (by.If f) = false
is_simple_start (by.While f) = false
is_simple_start (by.Do f) = false
is_simple_start (by.For f) = false
is_simple_start (by.Foreach t) = false
is_simple_start by.ForeachActive = false
is_simple_start by.ForeachUnique = false
is_simple_start by.Unmasked = false
is_simple_start (by.Jump j) = false
is_simple_start by.Return = false
is_simple_start by.Print = false
is_simple_start by.Assert = false
is_simple_start by.Nothing = false

abbrev pub begins_simple : TokenKind → Bool
begins_simple k = is_simple_start (start_of k)
