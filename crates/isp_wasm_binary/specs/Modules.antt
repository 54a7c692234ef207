-- A module as the standard has it, and its bytes: chapters 5.3 and 5.5 of the core specification of WebAssembly 2.0.
use Rattle.std.specs.Prelude.{ℕ, List, [], ◌∷◌, ◌++◌, Bool, true, false}
use Rattle.isp_wasm_meaning.specs.Syntax.{Code}
use Rattle.isp_wasm_meaning.specs.Module.{ValueType, I32, I64, V128}
use Rattle.isp_wasm_binary.specs.Numbers.{u32, vector, byte, bytes}
use Rattle.isp_wasm_binary.specs.Instructions.{word_bytes, code_bytes, End_word, Const32_word, Const64_word, Const128_word}

-- ---- what the sections have

pub record FuncType : Type 0 where
  pub params : List ValueType
  pub results : List ValueType

-- a function of the host: the name of its module, its own, and the number of its type
pub record Import : Type 0 where
  pub from : List ℕ
  pub name : List ℕ
  pub type : ℕ

-- so many locals of a type
pub record Group : Type 0 where
  pub count : ℕ
  pub type : ValueType

-- the number of its type, its locals after the parameters, and its code
pub record Body : Type 0 where
  pub type : ℕ
  pub locals : List Group
  pub code : Code

-- a value of a type, which may change or not
pub record Global : Type 0 where
  pub type : ValueType
  pub changes : Bool
  pub first : ℕ

pub data Kind : Type 0 where
  FunctionKind : Kind
  MemoryKind : Kind
  GlobalKind : Kind

pub record Export : Type 0 where
  pub name : List ℕ
  pub kind : Kind
  pub index : ℕ

-- bytes that the memory has from an address on
pub record Piece : Type 0 where
  pub at : ℕ
  pub has : List ℕ

-- The memory has so many pages of 65,536 bytes, and may grow. A name is its bytes in UTF-8 (5.2.4).
pub record Sections : Type 0 where
  pub types : List FuncType
  pub imports : List Import
  pub functions : List Body
  pub pages : ℕ
  pub globals : List Global
  pub exports : List Export
  pub pieces : List Piece

-- ---- and their bytes

-- 5.3.1 number types, 5.3.2 vector types
abbrev pub value_type : ValueType → List ℕ
value_type I32 = byte 0x7F
value_type I64 = byte 0x7E
value_type V128 = byte 0x7B

-- 5.3.5 result types, 5.3.6 function types
abbrev pub func_type : FuncType → List ℕ
func_type t = 0x60 ∷ (vector value_type t.params ++ vector value_type t.results)

-- 5.5.5 imports, of functions
abbrev pub import_bytes : Import → List ℕ
import_bytes i = bytes i.from ++ (bytes i.name ++ (0x00 ∷ u32 i.type))

-- 5.5.6 the type of each function
abbrev pub type_bytes : Body → List ℕ
type_bytes f = u32 f.type

-- 5.3.7 limits without a most, 5.3.8 memory types
abbrev pub memory_bytes : ℕ → List ℕ
memory_bytes n = 0x00 ∷ u32 n

-- 5.5.9 globals, 5.3.10 their types, 5.4.9 constant expressions
abbrev pub changes_byte : Bool → List ℕ
changes_byte false = byte 0x00
changes_byte true = byte 0x01

abbrev pub constant : ℕ → List ℕ
constant n = word_bytes (Const32_word n) ++ word_bytes End_word

abbrev pub first_of : ValueType → ℕ → List ℕ
first_of I32 n = constant n
first_of I64 n = word_bytes (Const64_word n) ++ word_bytes End_word
first_of V128 n = word_bytes (Const128_word n) ++ word_bytes End_word

abbrev pub global_bytes : Global → List ℕ
global_bytes g = value_type g.type ++ (changes_byte g.changes ++ first_of g.type g.first)

-- 5.5.10 exports
abbrev pub kind_byte : Kind → List ℕ
kind_byte FunctionKind = byte 0x00
kind_byte MemoryKind = byte 0x02
kind_byte GlobalKind = byte 0x03

abbrev pub export_bytes : Export → List ℕ
export_bytes e = bytes e.name ++ (kind_byte e.kind ++ u32 e.index)

-- 5.5.13 code: how many bytes it has, its locals, its expression
abbrev pub group_bytes : Group → List ℕ
group_bytes g = u32 g.count ++ value_type g.type

abbrev pub inner_bytes : Body → List ℕ
inner_bytes f = vector group_bytes f.locals ++ (code_bytes f.code ++ word_bytes End_word)

abbrev pub body_bytes : Body → List ℕ
body_bytes f = bytes (inner_bytes f)

-- 5.5.14 data segments, each in the memory from an address on
abbrev pub piece_bytes : Piece → List ℕ
piece_bytes p = 0x00 ∷ (constant p.at ++ bytes p.has)

-- 5.5.2 a section: its number, how many bytes it has, and these
abbrev pub section : ℕ → List ℕ → List ℕ
section n content = n ∷ bytes content

-- 5.5.16 `\0asm`, version 1, and the sections in their order
abbrev pub head : List ℕ
head = 0x00 ∷ 0x61 ∷ 0x73 ∷ 0x6D ∷ 0x01 ∷ 0x00 ∷ 0x00 ∷ 0x00 ∷ []

unfoldable pub sections_bytes : Sections → List ℕ
sections_bytes m =
    head
    ++ (section 1 (vector func_type m.types)
    ++ (section 2 (vector import_bytes m.imports)
    ++ (section 3 (vector type_bytes m.functions)
    ++ (section 5 (vector memory_bytes (m.pages ∷ []))
    ++ (section 6 (vector global_bytes m.globals)
    ++ (section 7 (vector export_bytes m.exports)
    ++ (section 10 (vector body_bytes m.functions)
    ++ section 11 (vector piece_bytes m.pieces))))))))
