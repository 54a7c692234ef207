-- How each sign and each word that the language reserves is written.
use Rattle.std.specs.Prelude.{ℕ, List, [], ◌∷◌, codes, ◌≡◌, ◌⊎◌}
use Rattle.isp_lex.specs.declared.token.Mark.{Mark}
use Rattle.isp_lex.specs.declared.token.Mark.TheVariants as mark

abbrev pub spelling : Mark → List ℕ
spelling mark.ParenOpen = codes "("
spelling mark.ParenClose = codes ")"
spelling mark.BraceOpen = codes "{"
spelling mark.BraceClose = codes "}"
spelling mark.BracketOpen = codes "["
spelling mark.BracketClose = codes "]"
spelling mark.Semicolon = codes ";"
spelling mark.Comma = codes ","
spelling mark.Question = codes "?"
spelling mark.Colon = codes ":"
spelling mark.Ellipsis = codes "..."
spelling mark.Assign = codes "="
spelling mark.Equal = codes "=="
spelling mark.NotEqual = codes "!="
spelling mark.Less = codes "<"
spelling mark.LessEqual = codes "<="
spelling mark.Greater = codes ">"
spelling mark.GreaterEqual = codes ">="
spelling mark.ShiftLeft = codes "<<"
spelling mark.ShiftRight = codes ">>"
spelling mark.ShiftLeftAssign = codes "<<="
spelling mark.ShiftRightAssign = codes ">>="
spelling mark.Plus = codes "+"
spelling mark.Increment = codes "++"
spelling mark.PlusAssign = codes "+="
spelling mark.Minus = codes "-"
spelling mark.Decrement = codes "--"
spelling mark.MinusAssign = codes "-="
spelling mark.Star = codes "*"
spelling mark.StarAssign = codes "*="
spelling mark.Slash = codes "/"
spelling mark.SlashAssign = codes "/="
spelling mark.Percent = codes "%"
spelling mark.PercentAssign = codes "%="
spelling mark.And = codes "&"
spelling mark.AndAnd = codes "&&"
spelling mark.AndAssign = codes "&="
spelling mark.Or = codes "|"
spelling mark.OrOr = codes "||"
spelling mark.OrAssign = codes "|="
spelling mark.Xor = codes "^"
spelling mark.XorAssign = codes "^="
spelling mark.Inverse = codes "~"
spelling mark.Not = codes "!"
spelling mark.Void = codes "void"
spelling mark.Bool = codes "bool"
spelling mark.Int = codes "int"
spelling mark.Int8 = codes "int8"
spelling mark.Int16 = codes "int16"
spelling mark.Int32 = codes "int32"
spelling mark.Int64 = codes "int64"
spelling mark.Uint = codes "uint"
spelling mark.Uint8 = codes "uint8"
spelling mark.Uint16 = codes "uint16"
spelling mark.Uint32 = codes "uint32"
spelling mark.Uint64 = codes "uint64"
spelling mark.Signed = codes "signed"
spelling mark.Unsigned = codes "unsigned"
spelling mark.Const = codes "const"
spelling mark.Uniform = codes "uniform"
spelling mark.Varying = codes "varying"
spelling mark.Export = codes "export"
spelling mark.Static = codes "static"
spelling mark.Inline = codes "inline"
spelling mark.If = codes "if"
spelling mark.Cif = codes "cif"
spelling mark.Else = codes "else"
spelling mark.While = codes "while"
spelling mark.Cwhile = codes "cwhile"
spelling mark.Do = codes "do"
spelling mark.Cdo = codes "cdo"
spelling mark.For = codes "for"
spelling mark.Cfor = codes "cfor"
spelling mark.Foreach = codes "foreach"
spelling mark.ForeachTiled = codes "foreach_tiled"
spelling mark.ForeachActive = codes "foreach_active"
spelling mark.ForeachUnique = codes "foreach_unique"
spelling mark.Unmasked = codes "unmasked"
spelling mark.Break = codes "break"
spelling mark.Continue = codes "continue"
spelling mark.Return = codes "return"
spelling mark.Print = codes "print"
spelling mark.Assert = codes "assert"
spelling mark.True = codes "true"
spelling mark.False = codes "false"
spelling mark.ProgramIndex = codes "programIndex"
spelling mark.ProgramCount = codes "programCount"

-- the words that the language leaves out
abbrev pub left_out : List (List ℕ)
left_out =
    codes "float" ∷ codes "double" ∷ codes "float16" ∷ codes "struct" ∷ codes "enum" ∷ codes "typedef" ∷
    codes "switch" ∷ codes "case" ∷ codes "default" ∷ codes "goto" ∷ codes "new" ∷ codes "delete" ∷
    codes "task" ∷ codes "launch" ∷ codes "sync" ∷ codes "soa" ∷ codes "extern" ∷ codes "sizeof" ∷
    codes "template" ∷ codes "typename" ∷ codes "operator" ∷ codes "NULL" ∷ codes "size_t" ∷ codes "ptrdiff_t" ∷
    codes "intptr_t" ∷ codes "uintptr_t" ∷ codes "cbreak" ∷ codes "ccontinue" ∷ codes "creturn" ∷ []

-- the word is one of the list
abbrev pub Among : List (List ℕ) → List ℕ → Type 0
Among [] word = ⊥
Among (w ∷ ws) word = (word ≡ w) ⊎ Among ws word

-- no name: a word in use, or one that is left out
abbrev pub IsReserved : List ℕ → Type 0
IsReserved word = ((m : Mark) × (word ≡ spelling m)) ⊎ Among left_out word
