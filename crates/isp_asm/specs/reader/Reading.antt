-- What the reader's parts answer: no part of the promise.
use Rattle.std.specs.Prelude.{ℕ, suc, Bool, ◌||◌, ◌&&◌, ◌==◌, List, length, map, Option, true, false, [], ◌∷◌, ◌++◌, ◌≡◌}
use Rattle.std.specs.Borrow.{Bor}
use Rattle.std.specs.List.{slice_split}
use Rattle.isp_base.specs.declared.types.Elem.{Elem}
use Rattle.isp_code.specs.Writable.{constant_fits, number_fits, result_fits, instr_fits, place_fits, text_fits, name_fits, param_fits, local_fits}
use Rattle.isp_asm.specs.Spelling as says
use Rattle.isp_asm.specs.Spelling.{Line, line_words}
use Rattle.isp_asm.specs.declared.line.Line as read
use Rattle.isp_asm.specs.declared.line.Line.TheVariants as line
use Rattle.isp_asm.specs.declared.fault.AsmFault.{AsmFault}
use Rattle.isp_asm.specs.declared.fault.AsmFault.TheVariants as asm_fault
use Rattle.isp_asm.specs.declared.fault.LineFault.{LineFault}
use Rattle.isp_asm.specs.declared.fault.LineFault.TheVariants as line_fault
use Rattle.isp_asm.specs.declared.fault.Rule.{Rule}
use Rattle.isp_asm.specs.declared.head.Head.{Head}
use Rattle.isp_asm.specs.declared.head.Head.TheVariants as head
use Rattle.isp_asm.specs.declared.order.Kind.{Kind}
use Rattle.isp_asm.specs.declared.row.Tail.{Tail}
use Rattle.isp_asm.specs.declared.row.Tail.TheVariants.{Nothing, Place, Label, Text, Number, Back}
use Rattle.isp_asm.specs.declared.shape.Ending.{Ending}
use Rattle.isp_asm.specs.declared.shape.Ending.TheVariants as ending
use Rattle.isp_asm.specs.declared.shape.Shape.{Shape}
use Rattle.isp_asm.specs.Faults.{Seen, has_room, is_space, operands_fault}
use Rattle.isp_asm.specs.Forms.{ending_forms, forms_at}
use Rattle.isp_asm.specs.Order.{kind_of, may_follow}
use Rattle.isp_asm.specs.Rows as rows
use Rattle.isp_asm.specs.Rows.{Row, row}

-- the bytes of words
abbrev pub words_of : List (Bor (List ℕ)) → List (List ℕ)
words_of ws = map (λ w. w.now) ws

-- the ending that a tail is
abbrev pub ending_of : Tail → Ending
ending_of Nothing = ending.Nothing
ending_of (Place p) = ending.Place
ending_of (Label n) = ending.Label
ending_of (Text t) = ending.Text
ending_of (Number z) = ending.Number
ending_of (Back x) = ending.Back

-- whether a shape has so many registers
abbrev pub has_registers : Shape → ℕ → Bool
has_registers s n = (n == s.fewest) || (s.more && (n == suc s.fewest))

-- what is wrong with the words after a first word
abbrev pub behind_fault : Head → List (List ℕ) → Option Rule
behind_fault h ws = operands_fault h (forms_at h (length ws)) ws

-- words, cut into registers and an ending
pub record Splits (s : Shape) (ws front back : List (Bor (List ℕ))) : Type 0 where
  pub whole : front ++ back ≡ ws
  pub registers : has_registers s (length front) ≡ true
  pub ending : length back ≡ length (ending_forms s.ending)

-- what a line can say
abbrev pub is_some_types : List Elem → Bool
is_some_types [] = false
is_some_types (t ∷ ts) = true

abbrev pub line_fits : Line → Bool
line_fits (says.Isp g) = true
line_fits (says.Place s) = place_fits s
line_fits (says.Text bytes) = text_fits bytes
line_fits (says.Func name exported r) = name_fits name
line_fits (says.Par p) = param_fits p
line_fits (says.Loc l) = local_fits l
line_fits (says.Scalars ts) = is_some_types ts
line_fits (says.Vectors ts) = is_some_types ts
line_fits (says.Masks n) = number_fits n
line_fits (says.Do i) = instr_fits i
line_fits says.End = true

-- what is known of a line that was read
abbrev pub said : read.Line → says.Line
said (line.Isp g) = says.Isp g
said (line.Place s) = says.Place s
said (line.Text bytes) = says.Text bytes.items
said (line.Func h) = says.Func h.name h.exported h.returns
said (line.Par p) = says.Par p
said (line.Loc l) = says.Loc l
said (line.Scalars ts) = says.Scalars ts.items
said (line.Vectors ts) = says.Vectors ts.items
said (line.Masks n) = says.Masks n
said (line.Do i) = says.Do i
said line.End = says.End

abbrev pub tail_fits : Tail → Bool
tail_fits Nothing = true
tail_fits (Place p) = number_fits p
tail_fits (Label n) = number_fits n
tail_fits (Text t) = number_fits t
tail_fits (Number z) = constant_fits z
tail_fits (Back x) = result_fits x

-- the head of a line, and where it stands
abbrev pub row_head : Row → Head
row_head (rows.line o rs t) = head.Op o
row_head (rows.call c) = head.Call

abbrev pub line_head : Line → Head
line_head (says.Isp g) = head.Isp
line_head (says.Place s) = head.Place
line_head (says.Text bytes) = head.Text
line_head (says.Func name exported r) = head.Func
line_head (says.Par p) = head.Par
line_head (says.Loc l) = head.Loc
line_head (says.Scalars ts) = head.Scalars
line_head (says.Vectors ts) = head.Vectors
line_head (says.Masks n) = head.Masks
line_head (says.Do i) = row_head (row i)
line_head says.End = head.End

abbrev pub line_kind : Line → Kind
line_kind l = kind_of (line_head l)

-- a line that can be written may stand after those that are seen
pub record Stands (s : Seen) (l : Line) : Type 0 where
  pub fits : line_fits l ≡ true
  pub follows : may_follow s.last (line_kind l) ≡ true
  pub room : has_room s (line_kind l) ≡ true

-- and it is what a text says
pub record Reads (s : Seen) (text : List ℕ) (l : Line) : Type 0 where
  pub words : line_words l ≡ slice_split is_space text
  pub stands : Stands s l

-- what is wrong with the types of further registers
abbrev pub types_fault : List (List ℕ) → Option Rule
types_fault ws = behind_fault head.Scalars ws

-- the fault of a line, by its number
abbrev pub fault_at : ℕ → LineFault → AsmFault
fault_at n line_fault.Memory = asm_fault.Memory
fault_at n (line_fault.Refused r) = asm_fault.Refused (record { rule = r; line = n })
