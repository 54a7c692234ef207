-- The registers of a call's arguments are as the callee's routine asks.
use Rattle.std.proofs.Common.{◌≡◌, ℕ, ◌+◌, ◌<◌, ◌≤◌, List, [], ◌∷◌, ◌++◌, length, map, Option, Some, refl, sym, ◌∙◌, subst, arith}
use Rattle.isp_base.specs.declared.types.Elem.{Elem}
use Rattle.isp_base.specs.declared.types.Rate.{Rate}
use Rattle.isp_base.specs.declared.types.Rate.TheVariants.{Uniform, Varying}
use Rattle.isp_code.specs.Fine.{AllFine, IsGiven, IsThere, IsPassed, ArePassed}
use Rattle.isp_code.specs.Listing.{Listing, Routine}
use Rattle.isp_code.specs.Operands.{any_register, result_operands}
use Rattle.isp_code.specs.Registers.{class_of, count_of, elem_of}
use Rattle.isp_code.specs.declared.function.Param.{Param}
use Rattle.isp_code.specs.declared.function.ParamKind.{ParamKind}
use Rattle.isp_code.specs.declared.operand.Operand.{Operand}
use Rattle.isp_code.specs.declared.operand.Operand.TheVariants.{Any as AnyRegister, Mask, Place}
use Rattle.isp_code.specs.declared.register.Register.{Register}
use Rattle.isp_typed.specs.Typed.{TExpr, TArgument, t_by_value, t_by_name, TArguments, t_no_arguments, t_argument_then, TFunction, type_of}
use Rattle.isp_typed.specs.declared.variable.Holds.{Holds}
use Rattle.isp_typed.specs.declared.variable.Holds.TheVariants as holds
use Rattle.isp_typed.specs.declared.variable.Variable.{Variable}
use Rattle.isp_lower_code.specs.Asks.{Ask, argument_asks, arguments_asks, lift_asks, taken}
use Rattle.isp_lower_code.specs.Callees.{rate_held, rates_held}
use Rattle.isp_lower_code.specs.Code.{argument_register, argument_registers, calling}
use Rattle.isp_lower_code.specs.Found.{operand}
use Rattle.isp_lower_code.specs.Header.{value_kind, kind_of, elem_held, value_returned}
use Rattle.isp_lower_code.specs.Layout.{Layout, class_at, register, mask_register, array_register}
use Rattle.isp_lower_code.specs.Sound.{HasKept, IsSound, IsRegister, IsShared, AreHeld, HasHeader, Granted}
use Rattle.isp_lower_code.proofs.SoundFound.{operand_there}
use Rattle.isp_lower_code.proofs.Trees.{ArgumentsTree, ArgumentTree}

module _ (h : Routine) (l : Layout) where
  -- what may be made a varying one may be left as it is
  lift_there : (given r : Rate) (t : Elem) (n : ℕ) → Granted h l (lift_asks Varying given t n) → Granted h l (lift_asks r given t n)
  lift_there given Uniform t n f = tt
  lift_there given Varying t n f = f

  pub taken_there : (r : Rate) (x : TExpr) (n : ℕ) (a : Ask) → Granted h l (taken Varying x n a) → Granted h l (taken r x n a)
  taken_there r x n a f = (lift_there (type_of x).rate r (type_of x).elem n f.0, f.1)

module _ (h : Routine) where
  -- ---- what is given back

  pub result_given : (r : Rate) (t : Elem) (d : ℕ) → IsRegister h r d t → IsGiven h (value_returned r t) (Some (register r d))
  result_given Uniform t d is = is
  result_given Varying t d is = is

  pub result_there : (r : Rate) (t : Elem) (d : ℕ) → IsRegister h r d t → (register r d).number < count_of h (register r d).class
  result_there r t d is = is.0.1

  class_is : (r : Rate) → class_at r ≡ class_of (value_kind r)
  class_is Uniform = refl
  class_is Varying = refl

  passed_is : (r : Rate) (x : Register) → IsPassed h (value_kind r) x
  passed_is Uniform x = tt
  passed_is Varying x = tt

-- ---- what is handed over

-- one register is passed as a parameter of a kind and a type
abbrev OneAs : Routine → ParamKind → Elem → Register → Type 0
OneAs h k t x = IsThere h (class_of k) x × (elem_of h x ≡ t) × IsPassed h k x

module _ (fs : List TFunction) (h : Routine) (l : Layout) (constants : HasKept h l) where
  pub arguments_passed : (vs : List Variable) (xs : TArguments) (ps : List Param) (n : ℕ) → ArgumentsTree fs vs xs → Granted h l (arguments_asks xs n) → AreHeld vs ps → ArePassed h ps (argument_registers l (rates_held vs) xs n)
  arguments_passed [] t_no_arguments [] n is f held = tt
  arguments_passed [] t_no_arguments (p ∷ ps) n is f held = absurd held
  arguments_passed [] (t_argument_then x xs) ps n is f held = absurd is
  arguments_passed (v ∷ vs) t_no_arguments ps n is f held = absurd is
  arguments_passed (v ∷ vs) (t_argument_then x xs) [] n is f held = absurd held
  arguments_passed (v ∷ vs) (t_argument_then x xs) (p ∷ ps) n is f held = (one v.holds x is.0 f.1.0 held.0 held.1, arguments_passed vs xs ps (n + 1) is.1 f.1.1 held.2)
    where
      one : (y : Holds) (x : TArgument) → ArgumentTree fs y x → Granted h l (argument_asks x n) → p.kind ≡ kind_of y → p.elem ≡ elem_held y → OneAs h p.kind p.elem (argument_register l (rate_held y) x n)
      one (holds.Value t) (t_by_value x) is f ek ee =
          let o = operand_there fs h l constants t.rate t.elem x n is.0 is.1 (taken_there h l t.rate x n _ f) in
          subst (λ k. OneAs h k p.elem (register t.rate (operand l t.rate x n))) (sym ek) (
            (o.0.0 ∙ class_is h t.rate, subst (λ c. operand l t.rate x n < count_of h c) (class_is h t.rate) o.0.1),
            o.1
                ∙ sym ee,
            passed_is h t.rate (register t.rate (operand l t.rate x n)),
          )
      one (holds.Value t) (t_by_name b sp) is f ek ee = absurd is
      one (holds.Given e) (t_by_value x) is f ek ee = absurd is
      one (holds.Given e) (t_by_name b sp) is f ek ee =
          subst (λ k. OneAs h k p.elem (array_register (l.array b.number))) (sym ek) (f.0, f.1 ∙ is.1 ∙ sym ee, subst (λ r. IsShared h r (l.array b.number)) is.0 f.2)
      one (holds.Local t m) (t_by_value x) is f ek ee = absurd is
      one (holds.Local t m) (t_by_name b sp) is f ek ee = absurd is

-- ---- the instruction

module _ (code : Listing) (h : Routine) (l : Layout) where
  fine_both : (a b : List Operand) → AllFine code h a → AllFine code h b → AllFine code h (a ++ b)
  fine_both [] b f g = g
  fine_both (o ∷ a) b f g = (f.0, fine_both a b f.1 g)

  all_there : (ps : List Param) (xs : List Register) → ArePassed h ps xs → AllFine code h (map any_register xs)
  all_there [] [] f = tt
  all_there [] (x ∷ xs) f = absurd f
  all_there (p ∷ ps) [] f = absurd f
  all_there (p ∷ ps) (x ∷ xs) f = (subst (λ c. x.number < count_of h c) (sym f.0.0.0) f.0.0.1, all_there ps xs f.1)

  pub calling_sound : (d : Option Register) (f : ℕ) (xs : TArguments) (p k n : ℕ) (g : TFunction) (to : HasHeader code f g)
      → IsGiven h to.routine.returns d → AllFine code h (result_operands d) → k < h.masks → p + 1 ≤ length code.places
      → ArePassed h to.routine.params (argument_registers l (l.rates f) xs n) → IsSound code h (calling l d f xs p k n)
  calling_sound d f xs p k n g to given there lk lp passed =
      let regs = argument_registers l (l.rates f) xs n in (
        fine_both (result_operands d) (AnyRegister (mask_register k) ∷ Place p ∷ (map any_register regs ++ Mask (mask_register k) ∷ [])) there
            (lk, (omega (arith, lp), fine_both (map any_register regs) (Mask (mask_register k) ∷ []) (all_there to.routine.params regs passed) ((refl, lk), tt))),
        record { callee = to.routine; found = to.found; result = given; passed = passed },
      )
