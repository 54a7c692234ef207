-- Registers as rows, and, for private clauses, a map that tells where the first row of each name stands.
use Rattle.std.specs.Prelude.{◌≡◌, ℕ, suc, List, [], ◌∷◌, Option, Some, None, IfSome}
use Rattle.std.specs.BTreeMap.{BTreeMap, get}
use Rattle.std.specs.Ordering.{nat_cmp}
use Rattle.isp_base.specs.declared.types.Elem.{Elem}
use Rattle.isp_base.specs.declared.types.Elem.TheVariants.{I64}
use Rattle.isp_lower_code.specs.Rows.{Name, Variable, Result, Spare, Place, Fresh, Kept, Row, name_number, number_in, elem_in}
use Rattle.isp_registers.specs.declared.registers.RegisterName.{RegisterName}
use Rattle.isp_registers.specs.declared.registers.RegisterName.TheVariants as one
use Rattle.isp_registers.specs.declared.registers.RegisterRow.{RegisterRow}

abbrev pub name_of : RegisterName → Name
name_of (one.Variable v) = Variable v
name_of one.Result = Result
name_of (one.Spare t j) = Spare t j.number
name_of one.Place = Place
name_of (one.Fresh j) = Fresh j
name_of (one.Kept t b) = Kept t b

abbrev pub row_of : RegisterRow → Row
row_of r = record { name = name_of r.name; elem = r.elem }

-- by the number of a name it finds the number of its first row
abbrev pub Tells : BTreeMap ℕ ℕ → List Row → Type 0
Tells places rows = (x : Name) (t : Elem) → elem_in rows x ≡ Some t → get nat_cmp places (name_number x) ≡ Some (number_in rows x)

-- the type that a name says, of a spare register, of the place of a run and of a constant
abbrev pub own_type : Name → Option Elem
own_type (Variable v) = None
own_type Result = None
own_type (Spare t j) = Some t
own_type Place = Some I64
own_type (Fresh j) = None
own_type (Kept t b) = Some t

abbrev pub HasOwnType : Name → Elem → Type 0
HasOwnType x t = IfSome (own_type x) (λ u. t ≡ u)

-- a fresh register is named by its number
abbrev pub IsNamedAt : ℕ → Name → Type 0
IsNamedAt n (Variable v) = Unit {0}
IsNamedAt n Result = Unit {0}
IsNamedAt n (Spare t j) = Unit {0}
IsNamedAt n Place = Unit {0}
IsNamedAt n (Fresh j) = j ≡ n
IsNamedAt n (Kept t b) = Unit {0}

-- so it is with some rows, of which the first has number n
abbrev pub AreNamedFrom : ℕ → List Row → Type 0
AreNamedFrom n [] = Unit {0}
AreNamedFrom n (y ∷ ys) = IsNamedAt n y.name × HasOwnType y.name y.elem × AreNamedFrom (suc n) ys

-- a name that is not that of a constant
abbrev pub IsPlain : Name → Type 0
IsPlain (Kept t b) = ⊥
IsPlain x = Unit {0}

-- a name that trees ask for, which is not that of a fresh register
abbrev pub IsAsked : Name → Type 0
IsAsked x = (n : ℕ) → IsNamedAt n x
