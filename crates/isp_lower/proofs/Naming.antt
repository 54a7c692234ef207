-- What holds of all registers that code names.
use Rattle.std.proofs.Common.{◌≡◌, ℕ, List, [], ◌∷◌, ◌++◌, length, Option, Some, None, refl}
use Rattle.isp_base.specs.declared.types.Rate.{Rate}
use Rattle.isp_base.specs.declared.types.Rate.TheVariants.{Uniform, Varying}
use Rattle.isp_code.specs.Operands.{operands}
use Rattle.isp_code.specs.declared.instr.Instr.{Instr}
use Rattle.isp_code.specs.declared.operand.Operand.{Operand}
use Rattle.isp_code.specs.declared.operand.Operand.TheVariants.{Any as AnyRegister, Scalar, Vector, Mask, Array, Number, Place, Text, Target, Back}
use Rattle.isp_code.specs.declared.register.Register.{Register}
use Rattle.isp_lower_code.specs.Layout.{class_at}
use Rattle.isp_lower_code.specs.Named.{InOption, InOperand, InOperands, InCode, count_of}
use Rattle.isp_lower_code.specs.Rows.{Rows, rows_at}

-- ---- something weaker holds too of what is named

module _ (P Q : Register → Type 0) (weaker : (x : Register) → P x → Q x) where
  option_weaker : (x : Option Register) → InOption P x → InOption Q x
  option_weaker None h = tt
  option_weaker (Some x) h = weaker x h

  operand_weaker : (o : Operand) → InOperand P o → InOperand Q o
  operand_weaker (AnyRegister x) h = weaker x h
  operand_weaker (Scalar x w) h = weaker x h
  operand_weaker (Vector x w) h = weaker x h
  operand_weaker (Mask x) h = weaker x h
  operand_weaker (Array x k w) h = weaker x h
  operand_weaker (Number z x) h = tt
  operand_weaker (Place q) h = tt
  operand_weaker (Text t) h = tt
  operand_weaker (Target to) h = tt
  operand_weaker (Back x) h = option_weaker x h

  operands_weaker : (os : List Operand) → InOperands P os → InOperands Q os
  operands_weaker [] h = tt
  operands_weaker (o ∷ os) h = (operand_weaker o h.0, operands_weaker os h.1)

  pub code_weaker : (is : List Instr) → InCode P is → InCode Q is
  code_weaker [] h = tt
  code_weaker (i ∷ is) h = (operands_weaker (operands i) h.0, code_weaker is h.1)

pub code_both : (P : Register → Type 0) (xs ys : List Instr) → InCode P xs → InCode P ys → InCode P (xs ++ ys)
code_both P [] ys h g = g
code_both P (x ∷ xs) ys h g = (h.0, code_both P xs ys h.1 g)

-- ---- how many registers of a rate there are

pub count_at : (rows : Rows) (masks : ℕ) (r : Rate) → count_of rows masks (class_at r) ≡ length (rows_at rows r)
count_at rows masks Uniform = refl
count_at rows masks Varying = refl
