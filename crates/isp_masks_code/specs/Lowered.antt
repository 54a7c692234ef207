-- A routine that is the code of a function: its header and its registers are those of the function, by rows.
use Rattle.std.specs.Prelude.{◌≡◌, ◌≤◌, ℕ, ◌+◌, List, length, Some, slice_get}
use Rattle.isp_base.specs.declared.types.Span.{Span}
use Rattle.isp_code.specs.Listing.{Listing, Routine}
use Rattle.isp_code.specs.Registers.{scalars_of, vectors_of}
use Rattle.isp_typed.specs.Fine.{FineFunction}
use Rattle.isp_typed.specs.Nodes.{block_nodes}
use Rattle.isp_typed.specs.Typed.{Program, TFunction}
use Rattle.isp_lower_code.specs.Asks.{All, Both}
use Rattle.isp_lower_code.specs.Callees.{rates_in}
use Rattle.isp_lower_code.specs.FirstRows.{Begins, first_rows}
use Rattle.isp_lower_code.specs.Header.{locals_of, params_of, returns_of, types_of}
use Rattle.isp_lower_code.specs.Room.{HasNumbers, masks_with, registers_asked}
use Rattle.isp_lower_code.specs.Own.{IsOwn}
use Rattle.isp_lower_code.specs.Rows.{Rows, HasRow, IsLoaded, layout_of}
use Rattle.isp_lower_code.specs.Setting.{AreAt}
use Rattle.isp_lower_code.specs.Sound.{HasMask}
use Rattle.isp_lower_code.specs.Tables.{AnyArray}
use Rattle.isp_lower_code.specs.declared.constant.Constant.{Constant}
use Rattle.isp_masks_code.specs.Again.{block_again}
use Rattle.isp_masks_code.specs.Asks.{block_asks}
use Rattle.isp_masks_code.specs.Keeping.{KeepsThem, constants_asks}
use Rattle.isp_masks_code.specs.Spots.{Numbers}
use Rattle.isp_masks_code.specs.Statements.{block_places, block_texts, function_code}

-- ---- a routine and a function

-- names and types accept it, in some program
abbrev pub IsFineFunction : TFunction → Type 0
IsFineFunction h = (fs : List TFunction) × FineFunction fs h

-- a function is small: each number that its body asks for can be had, and its registers can be named
pub record IsSmall (h : TFunction) : Type 0 where
  pub numbers : HasNumbers (block_asks h.answer h.body 3)
  pub registers : length h.variables + registers_asked (block_asks h.answer h.body 3) + 64 ≤ 4294967295
  -- no node's code stands more than twice
  pub twice : block_again h.body ≤ block_nodes h.body

-- what the body asks for is the function's own
abbrev pub BodyIsOwn : TFunction → Type 0
BodyIsOwn h = IsOwn h.variables h.answer (block_asks h.answer h.body 3)

-- in a program of some functions
pub record IsLowered (fs : List TFunction) (h : TFunction) (g : Routine) (places : List Span) (texts : List (List ℕ)) : Type 0 where
  pub name : g.name ≡ h.name
  pub exported : g.exported ≡ h.exported
  pub params : g.params ≡ params_of h.parameters h.variables
  pub returns : g.returns ≡ returns_of h.answer
  pub locals : g.locals ≡ locals_of h.variables
  -- the registers are rows, of which those of the variables, in their order, and of the result come first
  pub rows : Rows
  pub scalars_first : Begins (first_rows h.variables h.answer).scalars rows.scalars
  pub vectors_first : Begins (first_rows h.variables h.answer).vectors rows.vectors
  pub arrays_first : Begins (first_rows h.variables h.answer).arrays rows.arrays
  pub scalars : scalars_of g ≡ types_of rows.scalars
  pub vectors : vectors_of g ≡ types_of rows.vectors
  -- the registers and masks that the body asks for are there
  pub three : 3 ≤ g.masks
  pub present : All (HasRow rows) AnyArray AnyArray (HasMask g) (IsLoaded rows) (block_asks h.answer h.body 3)
  -- these constants are kept, and what the code asks for that makes them is there
  pub constants : List Constant
  pub keeps : KeepsThem (layout_of (rates_in fs) rows) constants
  pub spares : All (HasRow rows) AnyArray AnyArray (HasMask g) (IsLoaded rows) (constants_asks 3 constants)
  -- and there are no masks but three and those that are asked for
  pub masks_are : g.masks ≡ masks_with 3 (Both (constants_asks 3 constants) (block_asks h.answer h.body 3))
  -- the code, by the layout of the rows; what it names begins at these numbers
  pub numbers : Numbers
  pub low : numbers.place ≤ length places
  pub low_texts : numbers.text ≤ length texts
  pub code_is : g.code ≡ function_code (layout_of (rates_in fs) rows) h.answer constants h.body 0 numbers
  pub places_are : AreAt places numbers.place (block_places (layout_of (rates_in fs) rows) h.body)
  pub texts_are : AreAt texts numbers.text (block_texts h.body)

-- ---- a program

-- the code of each function, in order
pub record HasCode (program : Program) (code : Listing) : Type 0 where
  pub gang : code.gang ≡ program.gang
  pub count : length code.routines ≡ length program.functions
  pub each : (f : ℕ) (h : TFunction) (g : Routine) → slice_get program.functions f ≡ Some h → slice_get code.routines f ≡ Some g → IsLowered program.functions h g code.places code.texts
