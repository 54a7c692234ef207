-- The WebAssembly that is written, in folded form, as chapter 2.4 of the core specification has it. Expressions only compute;
-- what can trap, write or branch is code.
use Rattle.std.specs.Prelude.{ℕ, List, Option}

-- i8x16, i16x8, i32x4, i64x2
pub data Shape : Type 0 where
  I8x16 : Shape
  I16x8 : Shape
  I32x4 : Shape
  I64x2 : Shape

-- i32, i64
pub data Size : Type 0 where
  I32 : Size
  I64 : Size

-- add, sub, mul
pub data Whole : Type 0 where
  Add : Whole
  Sub : Whole
  Mul : Whole

-- and, or, xor
pub data Bitwise : Type 0 where
  And : Bitwise
  Or : Bitwise
  Xor : Bitwise

-- shl, shr_u, shr_s
pub data Shift : Type 0 where
  Shl : Shift
  ShrU : Shift
  ShrS : Shift

-- eq, ne, lt_u, lt_s
pub data Test : Type 0 where
  Eq : Test
  Ne : Test
  LtU : Test
  LtS : Test

-- div_u, rem_u
pub data Division : Type 0 where
  DivU : Division
  RemU : Division

pub data Unary : Type 0 where
  Eqz : Size → Unary
  -- i32.ctz, i64.ctz
  Ctz : Size → Unary
  -- i32.wrap_i64, i64.extend_i32_u, i64.extend_i32_s
  Wrap : Unary
  ExtendU : Unary
  ExtendS : Unary
  -- i32.extend8_s, i32.extend16_s
  Extend8S : Unary
  Extend16S : Unary
  Splat : Shape → Unary
  -- extract_lane, of lanes of 8 and 16 bits extract_lane_u
  Extract : Shape → (lane : ℕ) → Unary
  -- extend_low_s, extend_high_s of the shape with lanes of half the width, to this one
  ExtendLow : Shape → Unary
  ExtendHigh : Shape → Unary
  Bitmask : Shape → Unary

pub data Binary : Type 0 where
  Of : Size → Whole → Binary
  BitsOf : Size → Bitwise → Binary
  ShiftOf : Size → Shift → Binary
  Compare : Size → Test → Binary
  Lanes : Shape → Whole → Binary
  CompareLanes : Shape → Test → Binary
  -- of each lane, by one number of 32 bits
  ShiftLanes : Shape → Shift → Binary
  -- v128.and, v128.or, v128.xor
  Bits : Bitwise → Binary
  -- replace_lane, of a vector and a number
  Replace : Shape → (lane : ℕ) → Binary
  -- i8x16.shuffle
  Shuffle : (bytes : List ℕ) → Binary

pub data Expr : Type 0 where
  Const32 : ℕ → Expr
  Const64 : ℕ → Expr
  Const128 : ℕ → Expr
  -- local.get
  Local : ℕ → Expr
  One : Unary → Expr → Expr
  Two : Binary → Expr → Expr → Expr
  -- the second where the first is not zero, else the third; in the text of a module the first stands last
  Select : Expr → Expr → Expr → Expr
  -- v128.bitselect: the bits of the first where those of the third are 1, else of the second
  Bitselect : Expr → Expr → Expr → Expr

-- the texts that the host makes of values: a number of 64 bits with and without a sign, a bool, one byte
pub data Printed : Type 0 where
  SignedText : Printed
  UnsignedText : Printed
  TruthText : Printed
  ByteText : Printed

pub data Code : Type 0 where
  Skip : Code
  Unreachable : Code
  Then : Code → Code → Code
  -- local.set
  Set : (local : ℕ) → Expr → Code
  -- so many bytes from the address and the offset on, to a local: i32.load8_u, i32.load16_u, i32.load, i64.load, v128.load for 1, 2, 4, 8, 16
  Load : (bytes local : ℕ) (address : Expr) (offset : ℕ) → Code
  -- i32.store8, i32.store16, i32.store, i64.store, v128.store for 1, 2, 4, 8, 16
  Store : (bytes : ℕ) (address : Expr) (offset : ℕ) (value : Expr) → Code
  -- a quotient or a remainder, to a local
  Divide : Size → Division → (local : ℕ) → Expr → Expr → Code
  If : Expr → Code → Code → Code
  Block : Code → Code
  Loop : Code → Code
  Br : ℕ → Code
  -- to the label that the list has at the number, past its end to the last one
  BrTable : (labels : List ℕ) (default : ℕ) → Expr → Code
  Return : Option Expr → Code
  -- function number, arguments, and the local that gets the result
  Call : ℕ → List Expr → Option ℕ → Code
  -- a call of the host, which writes so many bytes from an address on
  Write : (address count : Expr) → Code
  -- a call of the host, which is told of a trap and does not return: kind, start and end of the place, instance
  Fail : (kind start end : ℕ) (instance : Expr) → Code
  -- a call of the host, which writes a value as a text
  Print : Printed → Expr → Code
  -- global.get, to a local; global.set
  GetGlobal : (local global : ℕ) → Code
  SetGlobal : (global : ℕ) → Expr → Code
  -- zeros to so many bytes from an address on: memory.fill with 0
  Clear : (address count : Expr) → Code
