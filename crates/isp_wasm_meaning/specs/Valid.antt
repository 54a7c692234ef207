-- Which functions an engine takes, by chapter 3 of the core specification: each operator and each local gets values of its type.
use Rattle.std.specs.Prelude.{ℕ, suc, ◌^◌, List, [], ◌∷◌, ◌++◌, length, Option, Some, None, Bool, true, false, not, ◌&&◌, ◌||◌, nat_lt, nat_eq, if◌then◌else◌, slice_get}
use Rattle.std.specs.List.{list_all}
use Rattle.isp_wasm_meaning.specs.Syntax as wasm
use Rattle.isp_wasm_meaning.specs.Syntax.{Size, Unary, Eqz, Ctz, Wrap, ExtendU, ExtendS, Extend8S, Extend16S, Splat, Extract, ExtendLow, ExtendHigh, Bitmask}
use Rattle.isp_wasm_meaning.specs.Syntax.{Binary, Of, BitsOf, ShiftOf, Compare, Lanes, CompareLanes, ShiftLanes, Bits, Replace, Shuffle, Shape, I8x16, I64x2, Mul, LtU}
use Rattle.isp_wasm_meaning.specs.Syntax.{Expr, Const32, Const64, Const128, Local, One, Two, Select, Bitselect}
use Rattle.isp_wasm_meaning.specs.Syntax.{Printed, TruthText, ByteText, Code, Skip, Unreachable, Then, Set, Load, Store, Divide, If, Block, Loop, Br, BrTable, Return, Call, Write, Fail, Print, GetGlobal, SetGlobal, Clear}
use Rattle.isp_wasm_meaning.specs.Meaning.{count}
use Rattle.isp_wasm_meaning.specs.Module.{ValueType, I32, I64, V128, Function}

abbrev pub same_type : ValueType → ValueType → Bool
same_type I32 I32 = true
same_type I64 I64 = true
same_type V128 V128 = true
same_type t u = false

abbrev pub is_type : Option ValueType → ValueType → Bool
is_type None t = false
is_type (Some u) t = same_type u t

abbrev pub sized : Size → ValueType
sized wasm.I32 = I32
sized wasm.I64 = I64

-- the type of a lane outside a vector
abbrev pub unpacked : Shape → ValueType
unpacked I64x2 = I64
unpacked s = I32

-- ---- 3.3 operators: what they take and give, and that there are such

abbrev pub taken : Unary → ValueType
taken (Eqz t) = sized t
taken (Ctz t) = sized t
taken Wrap = I64
taken (Splat s) = unpacked s
taken (Extract s k) = V128
taken (ExtendLow s) = V128
taken (ExtendHigh s) = V128
taken (Bitmask s) = V128
taken o = I32

abbrev pub given : Unary → ValueType
given (Ctz t) = sized t
given ExtendU = I64
given ExtendS = I64
given (Splat s) = V128
given (Extract s k) = unpacked s
given (ExtendLow s) = V128
given (ExtendHigh s) = V128
given o = I32

abbrev pub is_unary : Unary → Bool
is_unary (Extract s k) = nat_lt k (count s)
is_unary (ExtendLow I8x16) = false
is_unary (ExtendHigh I8x16) = false
is_unary o = true

abbrev pub first_taken : Binary → ValueType
first_taken (Of t o) = sized t
first_taken (BitsOf t o) = sized t
first_taken (ShiftOf t o) = sized t
first_taken (Compare t o) = sized t
first_taken o = V128

abbrev pub second_taken : Binary → ValueType
second_taken (ShiftLanes s o) = I32
second_taken (Replace s k) = unpacked s
second_taken o = first_taken o

abbrev pub given_by : Binary → ValueType
given_by (Compare t o) = I32
given_by o = first_taken o

-- there is no i8x16.mul and no i64x2.lt_u
abbrev pub is_binary : Binary → Bool
is_binary (Lanes I8x16 Mul) = false
is_binary (CompareLanes I64x2 LtU) = false
is_binary (Replace s k) = nat_lt k (count s)
is_binary (Shuffle cs) = nat_eq (length cs) 16 && list_all (λ c. nat_lt c 32) cs
is_binary o = true

-- ---- 3.3.5 and on: where locals have these types

-- what so many bytes are loaded to and stored from
abbrev pub held : ℕ → Option ValueType
held n = if nat_eq n 16 then Some V128 else (if nat_eq n 8 then Some I64 else (if nat_eq n 4 || (nat_eq n 2 || nat_eq n 1) then Some I32 else None))

-- what the host takes of what it writes
abbrev pub taken_by : Printed → ValueType
taken_by TruthText = I32
taken_by ByteText = I32
taken_by o = I64

-- the globals that each module has, and those that change
abbrev pub global_type : ℕ → Option ValueType
global_type g = if nat_eq g 0 then Some I32 else (if nat_lt g 17 then Some V128 else (if nat_eq g 17 then Some I32 else None))

abbrev pub changes : ℕ → Bool
changes g = not (nat_eq g 0)

module _ (local : ℕ → Option ValueType) where
  abbrev pub has_type : Expr → ValueType → Bool
  has_type (Const32 n) t = same_type I32 t
  has_type (Const64 n) t = same_type I64 t
  has_type (Const128 n) t = same_type V128 t
  has_type (Local x) t = is_type (local x) t
  has_type (One o x) t = same_type (given o) t && (is_unary o && has_type x (taken o))
  has_type (Two o x y) t = same_type (given_by o) t && (is_binary o && (has_type x (first_taken o) && has_type y (second_taken o)))
  has_type (Select c x y) t = has_type c I32 && (has_type x t && has_type y t)
  has_type (Bitselect x y c) t = same_type V128 t && (has_type x V128 && (has_type y V128 && has_type c V128))

  abbrev pub of_type : Expr → Option ValueType → Bool
  of_type e None = false
  of_type e (Some t) = has_type e t

  -- 3.3.8 a branch out of the function is one that gives nothing back
  abbrev pub is_label : Option ValueType → ℕ → ℕ → Bool
  is_label None depth k = nat_lt k (suc depth)
  is_label (Some t) depth k = nat_lt k depth

  abbrev pub gives : Option ValueType → Option Expr → Bool
  gives None None = true
  gives (Some t) (Some e) = has_type e t
  gives r e = false

  -- 3.3.8 what is passed has the types that the function takes, and a local of its type gets what it gives
  abbrev pub have_types : List Expr → List ValueType → Bool
  have_types [] [] = true
  have_types (e ∷ es) (t ∷ ts) = has_type e t && have_types es ts
  have_types es ts = false

  abbrev pub gets : Option ValueType → Option ℕ → Bool
  gets None None = true
  gets (Some t) (Some x) = is_type (local x) t
  gets r x = false

  abbrev pub call_fits : Option Function → List Expr → Option ℕ → Bool
  call_fits None xs x = false
  call_fits (Some g) xs x = have_types xs g.params && gets g.result x

  -- in a module with these functions
  module _ (functions : List Function) (result : Option ValueType) where
    -- after so many labels
    abbrev pub is_valid : ℕ → Code → Bool
    is_valid depth Skip = true
    is_valid depth Unreachable = true
    is_valid depth (Then a b) = is_valid depth a && is_valid depth b
    is_valid depth (Set x e) = of_type e (local x)
    is_valid depth (Load n x a o) = of_type (Local x) (held n) && (has_type a I32 && nat_lt o (2 ^ 32))
    is_valid depth (Store n a o e) = of_type e (held n) && (has_type a I32 && nat_lt o (2 ^ 32))
    is_valid depth (Divide t o x a b) = has_type (Local x) (sized t) && (has_type a (sized t) && has_type b (sized t))
    is_valid depth (If c a b) = has_type c I32 && (is_valid (suc depth) a && is_valid (suc depth) b)
    is_valid depth (Block a) = is_valid (suc depth) a
    is_valid depth (Loop a) = is_valid (suc depth) a
    is_valid depth (Br k) = is_label result depth k
    is_valid depth (BrTable ks k e) = list_all (is_label result depth) ks && (is_label result depth k && has_type e I32)
    is_valid depth (Return e) = gives result e
    is_valid depth (Call f xs x) = call_fits (slice_get functions f) xs x
    is_valid depth (Write a n) = has_type a I32 && has_type n I32
    is_valid depth (Fail k a b p) = has_type p I32
    is_valid depth (Print o e) = has_type e (taken_by o)
    is_valid depth (GetGlobal x g) = of_type (Local x) (global_type g)
    is_valid depth (SetGlobal g e) = changes g && of_type e (global_type g)
    is_valid depth (Clear a n) = has_type a I32 && has_type n I32

-- after it anything may stand
abbrev pub ends_there : Code → Bool
ends_there Unreachable = true
ends_there (Br k) = true
ends_there (BrTable ks k e) = true
ends_there (Return e) = true
ends_there (Then a b) = ends_there b || ends_there a
ends_there c = false

-- 3.4.1 a function that gives a value back does not fall off its end
abbrev pub may_end : Option ValueType → Code → Bool
may_end None c = true
may_end (Some t) c = ends_there c

abbrev pub is_valid_function : List Function → Function → Bool
is_valid_function functions f = is_valid (slice_get (f.params ++ f.locals)) functions f.result 0 f.code && may_end f.result f.code
