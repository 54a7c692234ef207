-- What a type adds after a value, to put its sign back or to cut it off.
use Rattle.std.specs.Prelude.{ℕ, List, [], ◌++◌, ◌-◌, ◌^◌, ◌%◌, if◌then◌else◌, nat_eq}
use Rattle.isp_base.specs.declared.types.Elem.{Elem}
use Rattle.isp_base.specs.declared.types.Elem.TheVariants.{I8, U8, I16, U16, I32}
use Rattle.isp_wasm_meaning.specs.Syntax as wasm
use Rattle.isp_wasm_meaning.specs.Syntax.{Extend8S, Extend16S, ExtendS, ExtendU, Wrap, ExtendLow, ExtendHigh, BitsOf, And, Const32}
use Rattle.isp_wasm_binary.specs.Operators.{unary_bytes, binary_bytes}
use Rattle.isp_wasm_binary.specs.Instructions.{expr_bytes}

abbrev pub sign_tail : Elem → List ℕ
sign_tail I8 = unary_bytes Extend8S
sign_tail I16 = unary_bytes Extend16S
sign_tail t = []

-- `and` with a number
abbrev pub and_tail : ℕ → List ℕ
and_tail n = expr_bytes (Const32 n) ++ binary_bytes (BitsOf wasm.I32 And)

abbrev pub cut_tail : Elem → List ℕ
cut_tail I8 = and_tail (2 ^ 8 - 1)
cut_tail U8 = and_tail (2 ^ 8 - 1)
cut_tail I16 = and_tail (2 ^ 16 - 1)
cut_tail U16 = and_tail (2 ^ 16 - 1)
cut_tail t = []

abbrev pub amount_tail : Elem → List ℕ
amount_tail I8 = and_tail 7
amount_tail U8 = and_tail 7
amount_tail I16 = and_tail 15
amount_tail U16 = and_tail 15
amount_tail t = []

-- what makes a number of 32 bits one of 64, and from a size to another
abbrev pub longer_tail : Elem → List ℕ
longer_tail I8 = unary_bytes ExtendS
longer_tail I16 = unary_bytes ExtendS
longer_tail I32 = unary_bytes ExtendS
longer_tail t = unary_bytes ExtendU

abbrev pub sized_tail : Elem → wasm.Size → wasm.Size → List ℕ
sized_tail t wasm.I32 wasm.I64 = longer_tail t
sized_tail t wasm.I64 wasm.I32 = unary_bytes Wrap
sized_tail t a b = []

-- the low or the high half, by a part's number
abbrev pub half_tail : wasm.Shape → ℕ → List ℕ
half_tail s j = if nat_eq (j % 2) 0 then unary_bytes (ExtendLow s) else unary_bytes (ExtendHigh s)
