-- What is asked of the table of registers: each register that code asks for has its type, each array is a variable of the function, and
-- the layout knows the variables that packed loads write.
use Rattle.std.specs.Prelude.{◌≡◌, ℕ, List, true}
use Rattle.isp_base.specs.declared.types.Elem.{Elem}
use Rattle.isp_base.specs.declared.types.Rate.{Rate}
use Rattle.isp_code.specs.Listing.{Routine}
use Rattle.isp_code.specs.Registers.{elem_of}
use Rattle.isp_typed.specs.Fine.{HoldsArray}
use Rattle.isp_typed.specs.declared.variable.ArrayVariable.{ArrayVariable}
use Rattle.isp_typed.specs.declared.variable.Variable.{Variable}
use Rattle.isp_lower_code.specs.Asks.{Ask, All}
use Rattle.isp_lower_code.specs.Layout.{Layout, register}
use Rattle.isp_lower_code.specs.Rows.{Name, numbered}
use Rattle.isp_lower_code.specs.Standing.{Setting}

-- the register of a rate and a number has this type
abbrev pub IsTyped : Setting → Rate → ℕ → Elem → Type 0
IsTyped w r x t = elem_of w.routine (register r x) ≡ t

-- so has the register that a layout has for a name
abbrev pub IsNamedIn : Routine → Layout → Rate → Name → Elem → Type 0
IsNamedIn h l r x t = elem_of h (register r (numbered l r x)) ≡ t

-- a packed load writes the variable
abbrev pub IsLoadedIn : Layout → ℕ → Type 0
IsLoadedIn l v = l.loaded v ≡ true

-- nothing is asked of a mask, or of an array
abbrev pub AnyMask : ℕ → Type 0
AnyMask n = Unit {0}

abbrev pub AnyArray : ArrayVariable → Type 0
AnyArray b = Unit {0}

-- by the routine, the layout and the variables of a function
abbrev pub Table : Routine → Layout → List Variable → Ask → Type 0
Table h l vars a = All (IsNamedIn h l) (HoldsArray vars) (HoldsArray vars) AnyMask (IsLoadedIn l) a
