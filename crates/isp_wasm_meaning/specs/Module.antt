-- A module, as chapter 2.5 of the core specification has it; what each module has in common stands here beside it.
--
--     import 0    "isp" "write": an address and a number of bytes (i32 i32), nothing back
--     import 1    "isp" "trap": kind, start and end of the place, instance (i32 i32 i32 i32); it does not return
--     import 2    "isp" "print_signed": a number, which is written in decimal (i64), nothing back
--     import 3    "isp" "print_unsigned": one without a sign (i64)
--     import 4    "isp" "print_bool": `false` for 0, else `true` (i32)
--     import 5    "isp" "print_byte": the byte that is written (i32)
--     memory 0    as many pages as its first bytes need and one more, without a most; exported as "isp.memory"
--     global 0    i32, which never changes: how many first bytes there are; exported as "isp.base"
--     globals 1 to 16    v128, which change: what a function gave back that is a vector
--     global 17    i32, which the host sets: after the last byte of the arrays that it passed; exported as "isp.stack"
use Rattle.std.specs.Prelude.{ℕ, List, [], length, ◌≡◌, ◌≤◌, Option, None, slice_index_or}
use Rattle.isp_wasm_meaning.specs.Syntax.{Code, Unreachable}
use Rattle.isp_wasm_meaning.specs.Meaning.{State, bytes}

-- 2.3 i32, i64, v128
pub data ValueType : Type 0 where
  I32 : ValueType
  I64 : ValueType
  V128 : ValueType

-- A function: the bytes of the name that it is exported by, if it is; the types of what it takes and gives, and of its other
-- locals, whose numbers come after those of the parameters; and what it does.
pub record Function : Type 0 where
  pub export : Option (List ℕ)
  pub params : List ValueType
  pub result : Option ValueType
  pub locals : List ValueType
  pub code : Code

-- The functions, by the number that a call has, which in the binary comes after those of the imports; and the first bytes
-- of the memory.
pub record Module : Type 0 where
  pub functions : List Function
  pub memory : List ℕ

-- a function that nobody calls
abbrev pub unused : Function
unused = record { export = None; params = []; result = None; locals = []; code = Unreachable }

abbrev pub code_in : Module → ℕ → Code
code_in m f = (slice_index_or m.functions f unused).code

-- the memory begins with these bytes
pub record HasMemory (m : Module) (s : State) : Type 0 where
  pub same : bytes (length m.memory) 0 s.memory ≡ m.memory
  pub room : length m.memory ≤ s.size
