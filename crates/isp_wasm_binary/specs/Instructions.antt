-- The bytes of code: chapter 5.4 of the core specification of WebAssembly 2.0. An operator stands after its operands.
use Rattle.std.specs.Prelude.{ℕ, ◌+◌, List, [], ◌∷◌, ◌++◌, Option, Some, None, Bool, true, false, ◌&&◌, if◌then◌else◌, nat_eq}
use Rattle.std.specs.List.{flat_map}
use Rattle.isp_wasm_meaning.specs.Syntax.{Size, Division, Unary, Binary, Expr, Const32, Const64, Const128, Local, One, Two, Select, Bitselect}
use Rattle.isp_wasm_meaning.specs.Syntax.{Printed, SignedText, UnsignedText, TruthText, ByteText}
use Rattle.isp_wasm_meaning.specs.Syntax.{Code, Skip, Then, Set, Load, Store, Divide, If, Block, Loop, Br, BrTable, Return, Unreachable, Call, Write, Fail, Print, GetGlobal, SetGlobal, Clear}
use Rattle.isp_wasm_binary.specs.Numbers.{u32, i32, i64, v128, vector}
use Rattle.isp_wasm_binary.specs.Operators.{simd, no_such, unary_bytes, binary_bytes, division_bytes}

-- how many bytes a load or a store takes; the standard has none of any other number
pub data Access : Type 0 where
  Bytes1 : Access
  Bytes2 : Access
  Bytes4 : Access
  Bytes8 : Access
  Bytes16 : Access
  NoAccess : ℕ → Access

abbrev pub access : ℕ → Access
access n = if nat_eq n 1 then Bytes1 else (if nat_eq n 2 then Bytes2 else (if nat_eq n 4 then Bytes4 else (if nat_eq n 8 then Bytes8 else (if nat_eq n 16 then Bytes16 else NoAccess n))))

-- An instruction, as the standard has them one after the other.
pub data Word : Type 0 where
  Const32_word : ℕ → Word
  Const64_word : ℕ → Word
  Const128_word : ℕ → Word
  Get_word : (local : ℕ) → Word
  Set_word : (local : ℕ) → Word
  Unary_word : Unary → Word
  Binary_word : Binary → Word
  Division_word : Size → Division → Word
  Select_word : Word
  Bitselect_word : Word
  Load_word : Access → (offset : ℕ) → Word
  Store_word : Access → (offset : ℕ) → Word
  Block_word : Word
  Loop_word : Word
  If_word : Word
  Else_word : Word
  End_word : Word
  Br_word : (label : ℕ) → Word
  BrTable_word : (labels : List ℕ) (default : ℕ) → Word
  Return_word : Word
  Call_word : (function : ℕ) → Word
  Unreachable_word : Word
  GetGlobal_word : (global : ℕ) → Word
  SetGlobal_word : (global : ℕ) → Word
  Fill_word : Word

-- 5.4.6 memarg: the alignment, as the power of two that the bytes are, and the offset. i32.load8_u, i32.load16_u, i32.load,
-- i64.load, v128.load; i32.store8, i32.store16, i32.store, i64.store, v128.store
abbrev pub load_bytes : Access → ℕ → List ℕ
load_bytes Bytes1 o = 0x2D ∷ (u32 0 ++ u32 o)
load_bytes Bytes2 o = 0x2F ∷ (u32 1 ++ u32 o)
load_bytes Bytes4 o = 0x28 ∷ (u32 2 ++ u32 o)
load_bytes Bytes8 o = 0x29 ∷ (u32 3 ++ u32 o)
load_bytes Bytes16 o = simd 0 ++ (u32 4 ++ u32 o)
load_bytes (NoAccess n) o = no_such 4 ++ (u32 n ++ u32 o)

abbrev pub store_bytes : Access → ℕ → List ℕ
store_bytes Bytes1 o = 0x3A ∷ (u32 0 ++ u32 o)
store_bytes Bytes2 o = 0x3B ∷ (u32 1 ++ u32 o)
store_bytes Bytes4 o = 0x36 ∷ (u32 2 ++ u32 o)
store_bytes Bytes8 o = 0x37 ∷ (u32 3 ++ u32 o)
store_bytes Bytes16 o = simd 11 ++ (u32 4 ++ u32 o)
store_bytes (NoAccess n) o = no_such 5 ++ (u32 n ++ u32 o)

-- 5.4.1 control, 5.4.3 parametric, 5.4.4 variable, 5.4.6 memory, 5.4.7 numeric, 5.4.8 vector instructions. A block, a loop and
-- an if have the empty type, 0x40. memory.fill is of memory 0.
abbrev pub word_bytes : Word → List ℕ
word_bytes (Const32_word n) = 0x41 ∷ i32 n
word_bytes (Const64_word n) = 0x42 ∷ i64 n
word_bytes (Const128_word n) = simd 12 ++ v128 n
word_bytes (Get_word x) = 0x20 ∷ u32 x
word_bytes (Set_word x) = 0x21 ∷ u32 x
word_bytes (Unary_word o) = unary_bytes o
word_bytes (Binary_word o) = binary_bytes o
word_bytes (Division_word t o) = division_bytes t o
word_bytes Select_word = 0x1B ∷ []
word_bytes Bitselect_word = simd 82
word_bytes (Load_word a o) = load_bytes a o
word_bytes (Store_word a o) = store_bytes a o
word_bytes Block_word = 0x02 ∷ 0x40 ∷ []
word_bytes Loop_word = 0x03 ∷ 0x40 ∷ []
word_bytes If_word = 0x04 ∷ 0x40 ∷ []
word_bytes Else_word = 0x05 ∷ []
word_bytes End_word = 0x0B ∷ []
word_bytes (Br_word k) = 0x0C ∷ u32 k
word_bytes (BrTable_word ks k) = 0x0E ∷ (vector u32 ks ++ u32 k)
word_bytes Return_word = 0x0F ∷ []
word_bytes (Call_word f) = 0x10 ∷ u32 f
word_bytes Unreachable_word = 0x00 ∷ []
word_bytes (GetGlobal_word x) = 0x23 ∷ u32 x
word_bytes (SetGlobal_word x) = 0x24 ∷ u32 x
word_bytes Fill_word = 0xFC ∷ 0x0B ∷ 0x00 ∷ []

-- ---- folded code, as these instructions

-- 2.4.1 operands before their operator
abbrev pub expr_bytes : Expr → List ℕ
expr_bytes (Const32 n) = word_bytes (Const32_word n)
expr_bytes (Const64 n) = word_bytes (Const64_word n)
expr_bytes (Const128 n) = word_bytes (Const128_word n)
expr_bytes (Local x) = word_bytes (Get_word x)
expr_bytes (One o x) = expr_bytes x ++ word_bytes (Unary_word o)
expr_bytes (Two o x y) = expr_bytes x ++ (expr_bytes y ++ word_bytes (Binary_word o))
expr_bytes (Select c x y) = expr_bytes x ++ (expr_bytes y ++ (expr_bytes c ++ word_bytes Select_word))
expr_bytes (Bitselect x y c) = expr_bytes x ++ (expr_bytes y ++ (expr_bytes c ++ word_bytes Bitselect_word))

-- the host's functions, which come first (2.5.1): one writes bytes, one is told of a trap, four write a value
abbrev pub host_write : ℕ
host_write = 0

abbrev pub host_trap : ℕ
host_trap = 1

abbrev pub host_print : Printed → ℕ
host_print SignedText = 2
host_print UnsignedText = 3
host_print TruthText = 4
host_print ByteText = 5

abbrev pub hosts : ℕ
hosts = 6

-- what a local gets of a call's result
abbrev pub result_bytes : Option ℕ → List ℕ
result_bytes None = []
result_bytes (Some x) = word_bytes (Set_word x)

abbrev pub returned_bytes : Option Expr → List ℕ
returned_bytes None = word_bytes Return_word
returned_bytes (Some x) = expr_bytes x ++ word_bytes Return_word

-- code of no instruction; an `if` with no second branch has no `else`
abbrev pub is_nothing : Code → Bool
is_nothing Skip = true
is_nothing (Then a b) = is_nothing a && is_nothing b
is_nothing c = false

abbrev pub else_bytes : Bool → List ℕ → List ℕ
else_bytes true bs = []
else_bytes false bs = word_bytes Else_word ++ bs

abbrev pub code_bytes : Code → List ℕ
code_bytes Skip = []
code_bytes (Then a b) = code_bytes a ++ code_bytes b
code_bytes (Set x e) = expr_bytes e ++ word_bytes (Set_word x)
code_bytes (Load n x a o) = expr_bytes a ++ (word_bytes (Load_word (access n) o) ++ word_bytes (Set_word x))
code_bytes (Store n a o e) = expr_bytes a ++ (expr_bytes e ++ word_bytes (Store_word (access n) o))
code_bytes (Divide t o x a b) = expr_bytes a ++ (expr_bytes b ++ (word_bytes (Division_word t o) ++ word_bytes (Set_word x)))
code_bytes (If c a b) = expr_bytes c ++ (word_bytes If_word ++ (code_bytes a ++ (else_bytes (is_nothing b) (code_bytes b) ++ word_bytes End_word)))
code_bytes (Block a) = word_bytes Block_word ++ (code_bytes a ++ word_bytes End_word)
code_bytes (Loop a) = word_bytes Loop_word ++ (code_bytes a ++ word_bytes End_word)
code_bytes (Br k) = word_bytes (Br_word k)
code_bytes (BrTable ks k c) = expr_bytes c ++ word_bytes (BrTable_word ks k)
code_bytes (Return x) = returned_bytes x
code_bytes Unreachable = word_bytes Unreachable_word
code_bytes (Call f xs x) = flat_map expr_bytes xs ++ (word_bytes (Call_word (hosts + f)) ++ result_bytes x)
code_bytes (Write a n) = expr_bytes a ++ (expr_bytes n ++ word_bytes (Call_word host_write))
code_bytes (Fail k a b p) =
    word_bytes (Const32_word k) ++ (word_bytes (Const32_word a) ++ (word_bytes (Const32_word b) ++ (expr_bytes p ++ (word_bytes (Call_word host_trap) ++ word_bytes Unreachable_word))))
code_bytes (Print o e) = expr_bytes e ++ word_bytes (Call_word (host_print o))
code_bytes (GetGlobal x g) = word_bytes (GetGlobal_word g) ++ word_bytes (Set_word x)
code_bytes (SetGlobal g e) = expr_bytes e ++ word_bytes (SetGlobal_word g)
code_bytes (Clear a n) = expr_bytes a ++ (word_bytes (Const32_word 0) ++ (expr_bytes n ++ word_bytes Fill_word))
