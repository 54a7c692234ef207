-- What code asks for is the function's own, its variables and what it gives back: by the function, and by the registers that
-- are there.
use Rattle.std.specs.Prelude.{◌≡◌, ◌<◌, ℕ, List, Option, Some, slice_get}
use Rattle.isp_base.specs.declared.types.Elem.{Elem}
use Rattle.isp_base.specs.declared.types.Rate.{Rate}
use Rattle.isp_base.specs.declared.types.Ty.{Ty}
use Rattle.isp_typed.specs.Fine.{HoldsArray, HoldsValue}
use Rattle.isp_typed.specs.Typed.{ty_of}
use Rattle.isp_typed.specs.declared.variable.ArrayVariable.{ArrayVariable}
use Rattle.isp_typed.specs.declared.variable.Holds.TheVariants as holds
use Rattle.isp_typed.specs.declared.variable.Variable as declared
use Rattle.isp_lower_code.specs.Asks.{All, Ask, Nothing, Both, Register, ArrayOf, LocalOf, MaskOf, Number, Loads}
use Rattle.isp_lower_code.specs.Rows as row
use Rattle.isp_lower_code.specs.Rows.{Name, Variable, Result, Spare, Place, Fresh, Kept, Rows, elem_in}

-- the array is a local one of the function
abbrev pub HoldsLocal : List declared.Variable → ArrayVariable → Type 0
HoldsLocal vars b = (n : ℕ) × (slice_get vars b.number ≡ Some (record { holds = holds.Local b.ty n; constant = b.constant }))

module _ (vars : List declared.Variable) (answer : Option Ty) where
  abbrev pub OwnRegister : Rate → Name → Elem → Type 0
  OwnRegister r (Variable v) t = HoldsValue vars v (ty_of r t)
  OwnRegister r Result t = answer ≡ Some (ty_of r t)
  OwnRegister r (Spare u j) t = Unit {0}
  OwnRegister r Place t = Unit {0}
  OwnRegister r (Fresh j) t = Unit {0}
  OwnRegister r (Kept u b) t = Unit {0}

  abbrev pub IsOwn : Ask → Type 0
  IsOwn Nothing = Unit {0}
  IsOwn (Both x y) = IsOwn x × IsOwn y
  IsOwn (Register r x t) = OwnRegister r x t
  IsOwn (ArrayOf b) = HoldsArray vars b
  IsOwn (LocalOf b) = HoldsLocal vars b
  IsOwn (MaskOf k) = Unit {0}
  IsOwn (Number k) = Unit {0}
  IsOwn (Loads v) = Unit {0}

-- ---- a function at work has the registers of its own that are asked for

module _ (rows : Rows) where
  abbrev pub HasOwnRow : Rate → Name → Elem → Type 0
  HasOwnRow r (Variable v) t = row.HasRow rows r (Variable v) t
  HasOwnRow r Result t = row.HasRow rows r Result t
  HasOwnRow r (Spare u j) t = Unit {0}
  HasOwnRow r Place t = Unit {0}
  HasOwnRow r (Fresh j) t = Unit {0}
  HasOwnRow r (Kept u b) t = Unit {0}

  abbrev pub HasOwn : Ask → Type 0
  HasOwn Nothing = Unit {0}
  HasOwn (Both x y) = HasOwn x × HasOwn y
  HasOwn (Register r x t) = HasOwnRow r x t
  HasOwn (ArrayOf b) = elem_in rows.arrays (Variable b.number) ≡ Some b.ty.elem
  HasOwn (LocalOf b) = elem_in rows.arrays (Variable b.number) ≡ Some b.ty.elem
  HasOwn (MaskOf k) = Unit {0}
  HasOwn (Number k) = Unit {0}
  HasOwn (Loads v) = Unit {0}

-- ---- and all that is asked for

abbrev pub HasArrayRow : Rows → ArrayVariable → Type 0
HasArrayRow rows b = elem_in rows.arrays (Variable b.number) ≡ Some b.ty.elem

abbrev pub HasAll : Rows → ℕ → Ask → Type 0
HasAll rows masks a = All (row.HasRow rows) (HasArrayRow rows) (HasArrayRow rows) (λ k. k < masks) (row.IsLoaded rows) a
