-- What the code finds a word to be: by its length, and then one after another.
use Rattle.std.specs.Prelude.{ℕ, cond, ◌==◌, List, [], ◌∷◌, length, Option, Some, None, codes}
use Rattle.std.specs.Borrow.{Bor}
use Rattle.std.specs.Str.{bytes_eq}
use Rattle.isp_lex.specs.declared.token.Mark.{Mark}
use Rattle.isp_lex.specs.declared.token.Mark.TheVariants as mark
use Rattle.isp_lex.specs.declared.token.TokenKind.{TokenKind}
use Rattle.isp_lex.specs.declared.token.TokenKind.TheVariants as kind
use Rattle.isp_lex.specs.Spelling.{spelling}

-- the first of the words in use that is this one, and of those that are left out
abbrev pub found_in : List (Bor (List ℕ) × Mark) → Option TokenKind → List ℕ → Option TokenKind
found_in [] other word = other
found_in (w ∷ ws) other word = cond (bytes_eq word w.0.now) (Some (kind.Mark w.1)) (found_in ws other word)

abbrev pub left_in : List (Bor (List ℕ)) → List ℕ → Option TokenKind
left_in [] word = None
left_in (w ∷ ws) word = cond (bytes_eq word w.now) (Some kind.LeftOut) (left_in ws word)

-- the first of the marks that is spelled so
abbrev pub first_spelled : List Mark → Option TokenKind → List ℕ → Option TokenKind
first_spelled [] other word = other
first_spelled (m ∷ ms) other word = cond (bytes_eq word (spelling m)) (Some (kind.Mark m)) (first_spelled ms other word)

abbrev pub left_out_of : List (List ℕ) → List ℕ → Option TokenKind
left_out_of [] word = None
left_out_of (w ∷ ws) word = cond (bytes_eq word w) (Some kind.LeftOut) (left_out_of ws word)

-- the entry of a length
abbrev pub pick : {A : Type 0} → ℕ → List (ℕ × List A) → List A
pick n [] = []
pick n (g ∷ gs) = cond (n == g.0) g.1 (pick n gs)

-- the reserved words by length
abbrev pub marks_by_length : List (ℕ × List Mark)
marks_by_length =
    (2, mark.If ∷ mark.Do ∷ []) ∷
    (3, mark.Int ∷ mark.Cif ∷ mark.Cdo ∷ mark.For ∷ []) ∷
    (4, mark.Void ∷ mark.Bool ∷ mark.Int8 ∷ mark.Uint ∷ mark.Else ∷ mark.Cfor ∷ mark.True ∷ []) ∷
    (5, mark.Int16 ∷ mark.Int32 ∷ mark.Int64 ∷ mark.Uint8 ∷ mark.Const ∷ mark.While ∷ mark.Break ∷ mark.Print ∷ mark.False ∷ []) ∷
    (6, mark.Uint16 ∷ mark.Uint32 ∷ mark.Uint64 ∷ mark.Signed ∷ mark.Export ∷ mark.Static ∷ mark.Inline ∷ mark.Cwhile ∷ mark.Return ∷ mark.Assert ∷ []) ∷
    (7, mark.Uniform ∷ mark.Varying ∷ mark.Foreach ∷ []) ∷
    (8, mark.Unsigned ∷ mark.Unmasked ∷ mark.Continue ∷ []) ∷
    (12, mark.ProgramIndex ∷ mark.ProgramCount ∷ []) ∷
    (13, mark.ForeachTiled ∷ []) ∷
    (14, mark.ForeachActive ∷ mark.ForeachUnique ∷ []) ∷
    []

-- the left-out words by length
abbrev pub left_by_length : List (ℕ × List (List ℕ))
left_by_length =
    (3, codes "new" ∷ codes "soa" ∷ []) ∷
    (4, codes "enum" ∷ codes "case" ∷ codes "goto" ∷ codes "task" ∷ codes "sync" ∷ codes "NULL" ∷ []) ∷
    (5, codes "float" ∷ []) ∷
    (6, codes "double" ∷ codes "struct" ∷ codes "switch" ∷ codes "delete" ∷ codes "launch" ∷ codes "extern" ∷ codes "sizeof" ∷ codes "size_t" ∷ codes "cbreak" ∷ []) ∷
    (7, codes "float16" ∷ codes "typedef" ∷ codes "default" ∷ codes "creturn" ∷ []) ∷
    (8, codes "template" ∷ codes "typename" ∷ codes "operator" ∷ codes "intptr_t" ∷ []) ∷
    (9, codes "ptrdiff_t" ∷ codes "uintptr_t" ∷ codes "ccontinue" ∷ []) ∷
    []

-- the kind of a reserved word of a length
abbrev pub spelled : ℕ → List ℕ → Option TokenKind
spelled n word = first_spelled (pick n marks_by_length) (left_out_of (pick n left_by_length) word) word

abbrev pub reserved : List ℕ → Option TokenKind
reserved word = spelled (length word) word

abbrev pub or_name : Option TokenKind → List ℕ → TokenKind
or_name None word = kind.Word word
or_name (Some k) word = k

-- a word's kind
abbrev pub word_kind : List ℕ → TokenKind
word_kind word = or_name (reserved word) word
