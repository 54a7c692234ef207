-- What each local of a WebAssembly function is for, and how element types lie in it.
use Rattle.std.specs.Prelude.{ℕ, List, [], Option, slice_index_or, ◌+◌, ◌-◌, ◌/◌}
use Rattle.isp_base.specs.Types.{gang_width}
use Rattle.isp_base.specs.declared.types.Elem.{Elem}
use Rattle.isp_base.specs.declared.types.Elem.TheVariants.{Bool as Truth, I8, U8, I16, U16, I32, U32, I64, U64}
use Rattle.isp_code.specs.Conf.{Home, Frame}
use Rattle.isp_code.specs.Listing.{Listing, Routine}
use Rattle.isp_code.specs.Registers.{elem_of}
use Rattle.isp_code.specs.declared.register.Register.{Register}
use Rattle.isp_forms.specs.Runs.{Forms}
use Rattle.isp_wasm_meaning.specs.Syntax as wasm
use Rattle.isp_wasm_meaning.specs.Meaning.{count}

-- The number of the rung to jump to; a scalar register; a part of a vector or a mask register, 16 bytes; where an array
-- begins, and its number of elements; what is only of use within one instruction: a part of 16 bytes, and a number; how
-- many calls wait; and where the next array lies that a function opens.
pub data Place : Type 0 where
  Counter : Place
  Scalar : ℕ → Place
  Vector : ℕ → ℕ → Place
  Mask : ℕ → ℕ → Place
  Base : ℕ → Place
  Count : ℕ → Place
  Fresh : ℕ → Place
  Spare : wasm.Size → ℕ → Place
  Depth : Place
  Top : Place

-- what an instruction keeps that does not write it
abbrev pub IsKept : Place → Type 0
IsKept (Fresh j) = ⊥
IsKept (Spare t j) = ⊥
IsKept p = Unit {0}

abbrev pub size_of : Elem → wasm.Size
size_of I64 = wasm.I64
size_of U64 = wasm.I64
size_of t = wasm.I32

abbrev pub shape_of : Elem → wasm.Shape
shape_of Truth = wasm.I8x16
shape_of I8 = wasm.I8x16
shape_of U8 = wasm.I8x16
shape_of I16 = wasm.I16x8
shape_of U16 = wasm.I16x8
shape_of I32 = wasm.I32x4
shape_of U32 = wasm.I32x4
shape_of I64 = wasm.I64x2
shape_of U64 = wasm.I64x2

-- the bytes of an element in memory
abbrev pub bytes_of : Elem → ℕ
bytes_of Truth = 1
bytes_of I8 = 1
bytes_of U8 = 1
bytes_of I16 = 2
bytes_of U16 = 2
bytes_of I32 = 4
bytes_of U32 = 4
bytes_of I64 = 8
bytes_of U64 = 8

-- how many locals a row of so many lanes of a shape takes
abbrev pub parts_for : ℕ → wasm.Shape → ℕ
parts_for lanes s = (lanes + (count s - 1)) / count s

-- A function of some code, as it runs: its arrays, the calls that wait for it, the form of each instruction of the code, the local of each place; rungs, the first instruction of each, and
-- the rung that begins at an instruction; and where each store begins, how many elements it has, and their type; where each text lies; the memory as it begins, and its bytes;
-- and from where on arrays lie that functions open, where any may.
pub record Setting : Type 0 where
  pub code : Listing
  pub routine : Routine
  pub home : Home
  pub waiting : List Frame
  pub forms : Forms
  pub local : Place → ℕ
  pub rungs : ℕ
  pub heads : ℕ → ℕ
  pub rung_at : ℕ → ℕ
  pub begins : ℕ → ℕ
  pub sizes : ℕ → ℕ
  pub elems : ℕ → Elem
  pub text_at : ℕ → ℕ
  pub before : ℕ → ℕ
  pub room : ℕ
  pub stack : Option ℕ

module _ (w : Setting) where
  abbrev pub gang : ℕ
  gang = gang_width w.code.gang

  abbrev pub text : ℕ → List ℕ
  text t = slice_index_or w.code.texts t []

  abbrev pub elem : Register → Elem
  elem r = elem_of w.routine r

  abbrev pub shape : Register → wasm.Shape
  shape r = shape_of (elem r)

  abbrev pub parts : wasm.Shape → ℕ
  parts s = parts_for gang s
