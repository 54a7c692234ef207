-- When two modules are the same but for how their code is folded.
use Rattle.std.specs.Prelude.{◌≡◌, ℕ, ◌+◌, ◌%◌, ◌^◌, List, [], ◌∷◌, ◌++◌, map, Option, Some, None, Bool, true, false, slice_index}
use Rattle.std.specs.List.{flat_map}
use Rattle.isp_wasm_meaning.specs.Lists.{listed}
use Rattle.isp_wasm_meaning.specs.Module.{ValueType, I32, I64, V128}
use Rattle.isp_wasm_meaning.specs.Syntax.{Binary, Shuffle, Expr, Const32, Const64, Const128, Local, One, Two, Select, Bitselect}
use Rattle.isp_wasm_meaning.specs.Syntax.{Code, Skip, Then, Set, Load, Store, Divide, If, Block, Loop, Br, BrTable, Return, Unreachable, Call, Write, Fail, Print, GetGlobal, SetGlobal, Clear}
use Rattle.isp_wasm_binary.specs.Instructions.{Word, Const32_word, Const64_word, Const128_word, Get_word, Set_word, Unary_word, Binary_word, Division_word, Select_word, Bitselect_word, Load_word, Store_word}
use Rattle.isp_wasm_binary.specs.Instructions.{Block_word, Loop_word, If_word, Else_word, End_word, Br_word, BrTable_word, Return_word, Call_word, Unreachable_word, GetGlobal_word, SetGlobal_word, Fill_word, access, is_nothing, host_write, host_trap, host_print, hosts}
use Rattle.isp_wasm_binary.specs.Modules.{Global, Piece, Sections, sections_bytes}

-- ---- the instructions of folded code, one after the other

-- a shuffle names 16 bytes
abbrev pub sixteen : Binary → Binary
sixteen (Shuffle cs) = Shuffle (listed 16 (slice_index cs))
sixteen o = o

abbrev pub expr_words : Expr → List Word
expr_words (Const32 n) = Const32_word (n % 2 ^ 32) ∷ []
expr_words (Const64 n) = Const64_word (n % 2 ^ 64) ∷ []
expr_words (Const128 n) = Const128_word (n % 2 ^ 128) ∷ []
expr_words (Local x) = Get_word x ∷ []
expr_words (One o x) = expr_words x ++ Unary_word o ∷ []
expr_words (Two o x y) = expr_words x ++ (expr_words y ++ Binary_word (sixteen o) ∷ [])
expr_words (Select c x y) = expr_words x ++ (expr_words y ++ (expr_words c ++ Select_word ∷ []))
expr_words (Bitselect x y c) = expr_words x ++ (expr_words y ++ (expr_words c ++ Bitselect_word ∷ []))

abbrev pub result_words : Option ℕ → List Word
result_words None = []
result_words (Some x) = Set_word x ∷ []

abbrev pub returned_words : Option Expr → List Word
returned_words None = Return_word ∷ []
returned_words (Some x) = expr_words x ++ Return_word ∷ []

abbrev pub else_words : Bool → List Word → List Word
else_words true ws = []
else_words false ws = Else_word ∷ ws

abbrev pub code_words : Code → List Word
code_words Skip = []
code_words (Then a b) = code_words a ++ code_words b
code_words (Set x e) = expr_words e ++ Set_word x ∷ []
code_words (Load n x a o) = expr_words a ++ Load_word (access n) o ∷ Set_word x ∷ []
code_words (Store n a o e) = expr_words a ++ (expr_words e ++ Store_word (access n) o ∷ [])
code_words (Divide t o x a b) = expr_words a ++ (expr_words b ++ Division_word t o ∷ Set_word x ∷ [])
code_words (If c a b) = expr_words c ++ If_word ∷ (code_words a ++ (else_words (is_nothing b) (code_words b) ++ End_word ∷ []))
code_words (Block a) = Block_word ∷ (code_words a ++ End_word ∷ [])
code_words (Loop a) = Loop_word ∷ (code_words a ++ End_word ∷ [])
code_words (Br k) = Br_word k ∷ []
code_words (BrTable ks k c) = expr_words c ++ BrTable_word ks k ∷ []
code_words (Return x) = returned_words x
code_words Unreachable = Unreachable_word ∷ []
code_words (Call f xs x) = flat_map expr_words xs ++ Call_word (hosts + f) ∷ result_words x
code_words (Write a n) = expr_words a ++ (expr_words n ++ Call_word host_write ∷ [])
code_words (Fail k a b p) =
    Const32_word (k % 2 ^ 32) ∷ Const32_word (a % 2 ^ 32) ∷ Const32_word (b % 2 ^ 32) ∷ (expr_words p ++ Call_word host_trap ∷ Unreachable_word ∷ [])
code_words (Print o e) = expr_words e ++ Call_word (host_print o) ∷ []
code_words (GetGlobal x g) = GetGlobal_word g ∷ Set_word x ∷ []
code_words (SetGlobal g e) = expr_words e ++ SetGlobal_word g ∷ []
code_words (Clear a n) = expr_words a ++ Const32_word 0 ∷ (expr_words n ++ Fill_word ∷ [])

-- what a global keeps of a number, by its type
abbrev pub kept_by : ValueType → ℕ → ℕ
kept_by I32 n = n % 2 ^ 32
kept_by I64 n = n % 2 ^ 64
kept_by V128 n = n % 2 ^ 128

abbrev pub kept : Global → Global
kept g = record g { first = kept_by g.type g.first }

abbrev pub placed : Piece → Piece
placed p = record p { at = p.at % 2 ^ 32 }

-- The same types, host's functions, memory, globals, exports and data, and functions of the same types, with the same locals
-- and the same instructions in the same order.
pub record SameSections (m n : Sections) : Type 0 where
  pub types_are : m.types ≡ n.types
  pub imports_are : m.imports ≡ n.imports
  pub pages_are : m.pages ≡ n.pages
  pub globals_are : map kept m.globals ≡ map kept n.globals
  pub exports_are : m.exports ≡ n.exports
  pub pieces_are : map placed m.pieces ≡ map placed n.pieces
  pub function_types : map (λ f. f.type) m.functions ≡ map (λ f. f.type) n.functions
  pub function_locals : map (λ f. f.locals) m.functions ≡ map (λ f. f.locals) n.functions
  pub function_words : map (λ f. code_words f.code) m.functions ≡ map (λ f. code_words f.code) n.functions

-- no two that differ have the same bytes
abbrev pub SectionsTell : Type 0
SectionsTell = (m n : Sections) → sections_bytes m ≡ sections_bytes n → SameSections m n
