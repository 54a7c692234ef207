-- Registers as rows (Rows), and how they grow: some are added, or constants are kept.
use Rattle.std.specs.Prelude.{◌≡◌, ◌≤◌, ◌+◌, ◌⊎◌, ℕ, List, length, map, Some, true}
use Rattle.isp_base.specs.declared.types.Elem.{Elem}
use Rattle.isp_base.specs.declared.types.Rate.{Rate}
use Rattle.isp_typed.specs.declared.variable.ArrayVariable.{ArrayVariable}
use Rattle.isp_lower_code.specs.FirstRows.{Begins}
pub use Rattle.isp_registers.specs.Lookup.{name_of, row_of}
use Rattle.isp_lower_code.specs.Room.{GrowsBy}
use Rattle.isp_lower_code.specs.Rows.{Name, Variable, Row, Rows, rows_at, elem_in, keeps, IsLoaded}
use Rattle.isp_lower_code.specs.declared.constant.Constant.{Constant}
use Rattle.isp_registers.specs.declared.registers.Registers.{Registers}

abbrev pub rows_of : Registers → Rows
rows_of r =
    record { scalars = map row_of r.scalars; vectors = map row_of r.vectors; arrays = map row_of r.arrays; loaded = map row_of r.loaded }

-- registers are added, and those that are there stay; no more constants are kept
pub record Grows (old new : Registers) : Type 0 where
  pub scalars : Begins (rows_of old).scalars (rows_of new).scalars
  pub vectors : Begins (rows_of old).vectors (rows_of new).vectors
  pub arrays : Begins (rows_of old).arrays (rows_of new).arrays
  pub loaded : Begins (rows_of old).loaded (rows_of new).loaded
  pub kept_scalars : (t : Elem) (b : ℕ) → keeps (rows_of new).scalars t b ≡ keeps (rows_of old).scalars t b
  pub kept_vectors : (t : Elem) (b : ℕ) → keeps (rows_of new).vectors t b ≡ keeps (rows_of old).vectors t b

-- no constant is kept but this one, and those that were
abbrev pub KeptOr : List Row → Elem → ℕ → Elem → ℕ → Type 0
KeptOr old u c t b = (keeps old t b ≡ true) ⊎ ((t ≡ u) × (b ≡ c))

-- of one class
pub record KeepsIn (old new : List Row) (u : Elem) (c : ℕ) : Type 0 where
  pub rows : Begins old new
  pub has : keeps new u c ≡ true
  pub only : (t : Elem) (b : ℕ) → keeps new t b ≡ true → KeptOr old u c t b
  pub few : length new ≤ length old + 1

-- registers are added, and those that are there stay
pub record Longer (old new : Registers) : Type 0 where
  pub scalars : Begins (rows_of old).scalars (rows_of new).scalars
  pub vectors : Begins (rows_of old).vectors (rows_of new).vectors
  pub arrays : Begins (rows_of old).arrays (rows_of new).arrays
  pub loaded : Begins (rows_of old).loaded (rows_of new).loaded

-- one constant is kept too, in a register that is there or is added
pub record Keeps (old new : Registers) (it : Constant) : Type 0 where
  pub rows : Longer old new
  pub has : keeps (rows_at (rows_of new) it.rate) it.elem it.bits ≡ true
  pub only : (r : Rate) (t : Elem) (b : ℕ) → keeps (rows_at (rows_of new) r) t b ≡ true → (keeps (rows_at (rows_of old) r) t b ≡ true) ⊎ ((r ≡ it.rate) × ((t ≡ it.elem) × (b ≡ it.bits)))
  pub few : GrowsBy 1 (rows_of old) (rows_of new)

-- a register has this name and this type
abbrev pub HasRow : Registers → Rate → Name → Elem → Type 0
HasRow r rate x t = elem_in (rows_at (rows_of r) rate) x ≡ Some t

abbrev pub HasArray : Registers → ArrayVariable → Type 0
HasArray r b = elem_in (rows_of r).arrays (Variable b.number) ≡ Some b.ty.elem

-- a packed load writes the variable
abbrev pub HasLoaded : Registers → ℕ → Type 0
HasLoaded r v = IsLoaded (rows_of r) v
