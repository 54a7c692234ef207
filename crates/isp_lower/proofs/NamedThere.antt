-- The registers that the code of a tree names are there, by the laws of soundness.
use Rattle.std.proofs.Common.{◌≡◌, ℕ, ◌+◌, ◌<◌, List, [], ◌∷◌, length, Option, Some, None, sym, subst}
use Rattle.isp_code.specs.Fine as fine
use Rattle.isp_code.specs.Listing.{Listing, Routine}
use Rattle.isp_code.specs.Operands.{operands}
use Rattle.isp_code.specs.Registers as routine
use Rattle.isp_code.specs.declared.function.Returns.{Returns}
use Rattle.isp_code.specs.declared.function.Returns.TheVariants.{Nothing, Scalar as GivesScalar, Vector as GivesVector}
use Rattle.isp_code.specs.declared.instr.Instr.{Instr}
use Rattle.isp_code.specs.declared.instr.Instr.TheVariants.{Return}
use Rattle.isp_code.specs.declared.operand.Operand.{Operand}
use Rattle.isp_code.specs.declared.operand.Operand.TheVariants.{Any as AnyRegister, Scalar, Vector, Mask, Array, Number, Place, Text, Target, Back}
use Rattle.isp_code.specs.declared.register.Class.{Class}
use Rattle.isp_code.specs.declared.register.Class.TheVariants as class
use Rattle.isp_code.specs.declared.register.Register.{Register}
use Rattle.isp_typed.specs.Typed.{TExpr, TFunction, TSimple}
use Rattle.isp_lower_code.specs.Asks.{expr_asks, simple_asks}
use Rattle.isp_lower_code.specs.Callees.{rates_in}
use Rattle.isp_lower_code.specs.Code.{expr_code}
use Rattle.isp_lower_code.specs.Layout.{Layout}
use Rattle.isp_lower_code.specs.Named.{InOption, InOperand, InOperands, InCode, IsOf}
use Rattle.isp_lower_code.specs.Rows.{Rows, layout_of}
use Rattle.isp_lower_code.specs.Simple.{simple_code, simple_places}
use Rattle.isp_lower_code.specs.Sound.{AreSound}
use Rattle.isp_lower_code.specs.Spans.{expr_places}
use Rattle.isp_lower_code.proofs.Lemmas.{ExprTree, SimpleTree, counts, expr_in_rows, in_rows, many, simple_in_rows, with_places, with_rows}
use Rattle.isp_registers.specs.Growth.{rows_of}
use Rattle.isp_registers.specs.Reserved.{Has}
use Rattle.isp_registers.specs.declared.reserve.Reserve.{Reserve}
use Rattle.isp_lower.proofs.Naming.{code_weaker}

-- ---- what is sound names what is there

of_class : (h : Routine) (c : Class) (x : Register) → fine.IsThere h c x → x.number < routine.count_of h x.class
of_class h c x t = subst (λ k. x.number < routine.count_of h k) (sym t.0) t.1

back_there : (h : Routine) (g : Returns) (x : Option Register) → fine.IsGiven h g x → InOption (λ y. y.number < routine.count_of h y.class) x
back_there h g None f = tt
back_there h Nothing (Some x) f = absurd f
back_there h (GivesScalar t) (Some x) f = of_class h class.Scalar x f.0
back_there h (GivesVector t) (Some x) f = of_class h class.Vector x f.0

operand_there : (code : Listing) (h : Routine) (o : Operand) → fine.OperandFine code h o → InOperand (λ y. y.number < routine.count_of h y.class) o
operand_there code h (AnyRegister x) f = f
operand_there code h (Scalar x w) f = of_class h class.Scalar x f.0
operand_there code h (Vector x w) f = of_class h class.Vector x f.0
operand_there code h (Mask x) f = of_class h class.Mask x f
operand_there code h (Array x k w) f = of_class h class.Array x f.0
operand_there code h (Number z x) f = tt
operand_there code h (Place q) f = tt
operand_there code h (Text t) f = tt
operand_there code h (Target to) f = tt
operand_there code h (Back x) f = back_there h h.returns x f

operands_there : (code : Listing) (h : Routine) (os : List Operand) → fine.AllFine code h os → InOperands (λ y. y.number < routine.count_of h y.class) os
operands_there code h [] f = tt
operands_there code h (o ∷ os) f = (operand_there code h o f.0, operands_there code h os f.1)

sound_there : (code : Listing) (h : Routine) (is : List Instr) → AreSound code h is → InCode (λ y. y.number < routine.count_of h y.class) is
sound_there code h [] s = tt
sound_there code h (i ∷ is) s = (operands_there code h (operands i) s.0.0, sound_there code h is s.1)

-- a routine that has the registers of some rows
of_rows : (rows : Rows) (masks : ℕ) (code is : List Instr) → InCode (λ y. y.number < routine.count_of (with_rows rows masks code) y.class) is → InCode (IsOf rows masks) is
of_rows rows masks code is f =
    let h = with_rows rows masks code in
    code_weaker (λ y. y.number < routine.count_of h y.class) (IsOf rows masks) (λ x lt. subst (λ m. x.number < m) (counts rows masks code x.class) lt) is f

module _ (fs : List TFunction) (r : Reserve) (pc p k n : ℕ) (lt : k < r.masks) where
  abbrev rows : Rows
  rows = rows_of r.registers

  abbrev l : Layout
  l = layout_of (rates_in fs) rows

  pub expr_named : (x : TExpr) → ExprTree fs x → Has r (expr_asks x n) → InCode (IsOf rows r.masks) (expr_code l x pc p k n)
  expr_named x tree has =
      let is = expr_code l x pc p k n in
      let code = with_places fs (p + length (expr_places l x)) in
      of_rows rows r.masks (many (Return None) (pc + length is + 1)) is
      (sound_there code (in_rows fs rows r.masks pc p k n lt is) is (expr_in_rows fs rows r.masks pc p k n lt x tree has))

  pub simple_named : (x : TSimple) → SimpleTree fs x → Has r (simple_asks x n) → InCode (IsOf rows r.masks) (simple_code l x pc p k n)
  simple_named x tree has =
      let is = simple_code l x pc p k n in
      let code = with_places fs (p + length (simple_places l x)) in
      of_rows rows r.masks (many (Return None) (pc + length is + 1)) is
      (sound_there code (in_rows fs rows r.masks pc p k n lt is) is (simple_in_rows fs rows r.masks pc p k n lt x tree has))
