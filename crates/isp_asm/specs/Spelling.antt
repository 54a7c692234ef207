-- The text of code: its lines in their order, each ended by a line feed, with one space between two words.
use Rattle.std.specs.Prelude.{ℕ, Bool, true, false, List, [], ◌∷◌, ◌++◌, map, codes}
use Rattle.std.specs.Fmt.{decimal}
use Rattle.std.specs.List.{flat_map}
use Rattle.isp_base.specs.Types.{gang_width}
use Rattle.isp_base.specs.declared.types.Elem.{Elem}
use Rattle.isp_base.specs.declared.types.Gang.{Gang}
use Rattle.isp_base.specs.declared.types.Gang.TheVariants.{W32}
use Rattle.isp_base.specs.declared.types.Span.{Span}
use Rattle.isp_code.specs.Listing.{Listing, Routine}
use Rattle.isp_code.specs.declared.function.Local.{Local}
use Rattle.isp_code.specs.declared.function.Param.{Param}
use Rattle.isp_code.specs.declared.function.ParamKind.{ParamKind}
use Rattle.isp_code.specs.declared.function.ParamKind.TheVariants as kind
use Rattle.isp_code.specs.declared.function.Returns.{Returns}
use Rattle.isp_code.specs.declared.function.Returns.TheVariants as returns
use Rattle.isp_code.specs.declared.function.Sharing.{Sharing}
use Rattle.isp_code.specs.declared.function.Sharing.TheVariants.{Shared, PerInstance}
use Rattle.isp_code.specs.declared.instr.Instr.{Instr}
use Rattle.isp_asm.specs.Rows.{instr_words}
use Rattle.isp_asm.specs.Words.{type_word, hex_word}

-- what a line says
pub data Line : Type 0 where
  Isp : Gang → Line
  Place : Span → Line
  Text : List ℕ → Line
  Func : (name : List ℕ) (exported : Bool) → Returns → Line
  Par : Param → Line
  Loc : Local → Line
  Scalars : List Elem → Line
  Vectors : List Elem → Line
  Masks : ℕ → Line
  Do : Instr → Line
  End : Line

abbrev pub export_word : Bool → List ℕ
export_word true = codes "export"
export_word false = codes "inner"

abbrev pub returns_words : Returns → List (List ℕ)
returns_words returns.Nothing = codes "void" ∷ []
returns_words (returns.Scalar t) = codes "s" ∷ type_word t ∷ []
returns_words (returns.Vector t) = codes "v" ∷ type_word t ∷ []

abbrev pub kind_word : ParamKind → List ℕ
kind_word kind.Scalar = codes "s"
kind_word kind.Vector = codes "v"
kind_word kind.Array = codes "a"

-- `u` of one that all lanes share, `p` of one of which each lane has its own
abbrev pub sharing_word : Sharing → List ℕ
sharing_word Shared = codes "u"
sharing_word PerInstance = codes "p"

-- the version that the first line names: gangs of 32 came with the second
abbrev pub version_of : Gang → ℕ
version_of W32 = 2
version_of g = 1

-- the first line, with the version and the number of lanes
abbrev pub header_words : Gang → List (List ℕ)
header_words g = codes "isp" ∷ decimal (version_of g) ∷ codes "gang" ∷ decimal (gang_width g) ∷ []

abbrev pub line_words : Line → List (List ℕ)
line_words (Isp g) = header_words g
line_words (Place s) = codes "place" ∷ decimal s.start ∷ decimal s.end ∷ []
line_words (Text bytes) = codes "text" ∷ hex_word bytes ∷ []
line_words (Func name exported r) = codes "func" ∷ name ∷ export_word exported ∷ returns_words r
line_words (Par p) = codes "par" ∷ kind_word p.kind ∷ type_word p.elem ∷ p.name ∷ []
line_words (Loc l) = codes "loc" ∷ sharing_word l.sharing ∷ type_word l.elem ∷ decimal l.size ∷ []
line_words (Scalars ts) = codes "s" ∷ map type_word ts
line_words (Vectors ts) = codes "v" ∷ map type_word ts
line_words (Masks n) = codes "m" ∷ decimal n ∷ []
line_words (Do i) = instr_words i
line_words End = codes "end" ∷ []

-- the further scalars, and the further vectors, have a line where there are any
abbrev pub if_any : (List Elem → Line) → List Elem → List Line
if_any l [] = []
if_any l (t ∷ ts) = l (t ∷ ts) ∷ []

abbrev pub param_line : Param → Line
param_line p = Par p

abbrev pub local_line : Local → Line
local_line l = Loc l

abbrev pub instr_line : Instr → Line
instr_line i = Do i

abbrev pub scalars_line : List Elem → Line
scalars_line ts = Scalars ts

abbrev pub vectors_line : List Elem → Line
vectors_line ts = Vectors ts

abbrev pub head_lines : Routine → List Line
head_lines h = map param_line h.params ++ (map local_line h.locals ++ (if_any scalars_line h.scalars ++ if_any vectors_line h.vectors))

abbrev pub routine_lines : Routine → List Line
routine_lines h = Func h.name h.exported h.returns ∷ (head_lines h ++ Masks h.masks ∷ (map instr_line h.code ++ End ∷ []))

abbrev pub place_line : Span → Line
place_line s = Place s

abbrev pub text_line : List ℕ → Line
text_line bytes = Text bytes

abbrev pub lines_of : Listing → List Line
lines_of c = Isp c.gang ∷ (map place_line c.places ++ (map text_line c.texts ++ flat_map routine_lines c.routines))

-- the words of a line with one space between them, and a line feed
abbrev pub spaced : List ℕ → List ℕ
spaced w = 32 ∷ w

abbrev pub line_text : List (List ℕ) → List ℕ
line_text [] = 10 ∷ []
line_text (w ∷ ws) = w ++ (flat_map spaced ws ++ 10 ∷ [])

abbrev pub lines_text : List Line → List ℕ
lines_text ls = flat_map (λ l. line_text (line_words l)) ls

abbrev pub text_of : Listing → List ℕ
text_of c = lines_text (lines_of c)
