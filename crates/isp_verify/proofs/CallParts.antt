-- The parts of a call, one after the other.
use Rattle.std.proofs.Common.{◌≡◌, sym, ◌∙◌, refl, ap, List, [], ◌∷◌, ◌++◌, length, map, Option, Some, None, Bool, true, false, ◌&&◌, arith}
use Rattle.isp_code.specs.Listing.{Listing, Routine}
use Rattle.isp_code.specs.Operands.{call_operands, result_operands, any_register}
use Rattle.isp_code.specs.declared.function.Param.{Param}
use Rattle.isp_code.specs.declared.instr.Call.{Call}
use Rattle.isp_code.specs.declared.operand.Operand.{Operand}
use Rattle.isp_code.specs.declared.operand.Operand.TheVariants.{Any as AnyRegister, Mask, Place}
use Rattle.isp_code.specs.declared.register.Register.{Register}
use Rattle.isp_verify.specs.Faults.{or_later, operand_fault, operands_fault, argument_fits, arguments_fit}

-- where the first has no fault, that of the second comes
pub later : {A : Type 0} (a b : Option A) → None ≡ a → or_later a b ≡ b
later None b e = refl
later (Some x) b e = cc

pub first : {A : Type 0} (a b : Option A) (x : A) → Some x ≡ a → or_later a b ≡ Some x
first None b x e = cc
first (Some y) b x e = sym e

or_later-assoc : {A : Type 0} (a b c : Option A) → or_later (or_later a b) c ≡ or_later a (or_later b c)
or_later-assoc None b c = refl
or_later-assoc (Some x) b c = refl

module _ (code : Listing) (h : Routine) where
  pub operands_fault-append : (xs ys : List Operand) → operands_fault code h (xs ++ ys) ≡ or_later (operands_fault code h xs) (operands_fault code h ys)
  operands_fault-append [] ys = refl
  operands_fault-append (x ∷ xs) ys =
      ap (or_later (operand_fault code h x)) (operands_fault-append xs ys) ∙ sym (or_later-assoc (operand_fault code h x) (operands_fault code h xs) (operands_fault code h ys))

  abbrev under : Call → List Operand
  under c = AnyRegister c.mask ∷ Place c.place ∷ []

  pub call_parts : (c : Call)
      → operands_fault code h (call_operands c) ≡ or_later (operands_fault code h (result_operands c.result))
      (or_later (operands_fault code h (AnyRegister c.mask ∷ Place c.place ∷ []))
      (or_later (operands_fault code h (map any_register c.arguments)) (operands_fault code h (Mask c.mask ∷ []))))
  call_parts c =
      operands_fault-append (result_operands c.result) (AnyRegister c.mask ∷ Place c.place ∷ (map any_register c.arguments ++ Mask c.mask ∷ []))
      ∙ ap (or_later (operands_fault code h (result_operands c.result)))
      (operands_fault-append (under c) (map any_register c.arguments ++ Mask c.mask ∷ [])
      ∙ ap (or_later (operands_fault code h (under c))) (operands_fault-append (map any_register c.arguments) (Mask c.mask ∷ [])))

and_false : (a b : Bool) → b ≡ false → (a && b) ≡ false
and_false true b e = e
and_false false b e = refl

-- lists of two lengths do not belong together
pub unlike : (h : Routine) (ps : List Param) (xs : List Register) → (length ps ≡ length xs → ⊥) → arguments_fit h ps xs ≡ false
unlike h [] [] n = absurd (n refl)
unlike h [] (x ∷ xs) n = refl
unlike h (p ∷ ps) [] n = refl
unlike h (p ∷ ps) (x ∷ xs) n = and_false (argument_fits h p x) (arguments_fit h ps xs) (unlike h ps xs (λ e. n (omega (arith, e))))
