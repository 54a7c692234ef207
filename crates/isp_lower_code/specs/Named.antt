-- The registers that instructions name, whether a function has them, and which number is after them.
use Rattle.std.specs.Prelude.{◌≢◌, ◌<◌, ◌+◌, ℕ, List, [], ◌∷◌, length, max, Option, Some, None, if◌then◌else◌}
use Rattle.isp_code.specs.Operands.{operands}
use Rattle.isp_code.specs.declared.instr.Instr.{Instr}
use Rattle.isp_code.specs.declared.operand.Operand.{Operand}
use Rattle.isp_code.specs.declared.operand.Operand.TheVariants.{Any as AnyRegister, Scalar, Vector, Mask, Array, Number, Place, Text, Target, Back}
use Rattle.isp_code.specs.declared.register.Class.{Class}
use Rattle.isp_code.specs.declared.register.Class.TheVariants as class
use Rattle.isp_code.specs.declared.register.Register.{Register}
use Rattle.isp_code.specs.Registers.{same_class}
use Rattle.isp_lower_code.specs.Rows.{Rows}

-- something holds of each register that is named
module _ (P : Register → Type 0) where
  abbrev pub InOption : Option Register → Type 0
  InOption None = Unit {0}
  InOption (Some x) = P x

  abbrev pub InOperand : Operand → Type 0
  InOperand (AnyRegister x) = P x
  InOperand (Scalar x w) = P x
  InOperand (Vector x w) = P x
  InOperand (Mask x) = P x
  InOperand (Array x k w) = P x
  InOperand (Number z x) = Unit {0}
  InOperand (Place q) = Unit {0}
  InOperand (Text t) = Unit {0}
  InOperand (Target to) = Unit {0}
  InOperand (Back x) = InOption x

  abbrev pub InOperands : List Operand → Type 0
  InOperands [] = Unit {0}
  InOperands (o ∷ os) = InOperand o × InOperands os

  abbrev pub InInstr : Instr → Type 0
  InInstr i = InOperands (operands i)

  abbrev pub InCode : List Instr → Type 0
  InCode [] = Unit {0}
  InCode (i ∷ is) = InInstr i × InCode is

-- how many registers of a class there are
abbrev pub count_of : Rows → ℕ → Class → ℕ
count_of rows masks class.Scalar = length rows.scalars
count_of rows masks class.Vector = length rows.vectors
count_of rows masks class.Array = length rows.arrays
count_of rows masks class.Mask = masks

abbrev pub IsOf : Rows → ℕ → Register → Type 0
IsOf rows masks x = x.number < count_of rows masks x.class

-- a register that is not named
abbrev pub Unnamed : Register → List Instr → Type 0
Unnamed x code = InCode (λ y. y ≢ x) code

-- ---- the number after those of a class: one more than the greatest, and 0 where none is named

abbrev pub register_named : Operand → Option Register
register_named (AnyRegister x) = Some x
register_named (Scalar x w) = Some x
register_named (Vector x w) = Some x
register_named (Mask x) = Some x
register_named (Array x k w) = Some x
register_named (Number z x) = None
register_named (Place q) = None
register_named (Text t) = None
register_named (Target to) = None
register_named (Back x) = x

abbrev pub named_then : Option Register → List Register → List Register
named_then None xs = xs
named_then (Some x) xs = x ∷ xs

abbrev pub registers_named : List Operand → List Register
registers_named [] = []
registers_named (o ∷ os) = named_then (register_named o) (registers_named os)

abbrev pub behind_one : Class → Register → ℕ
behind_one c x = if same_class x.class c then x.number + 1 else 0

abbrev pub behind_registers : Class → List Register → ℕ
behind_registers c [] = 0
behind_registers c (x ∷ xs) = max (behind_one c x) (behind_registers c xs)

abbrev pub behind_named : Class → List Instr → ℕ
behind_named c [] = 0
behind_named c (i ∷ is) = max (behind_registers c (registers_named (operands i))) (behind_named c is)
