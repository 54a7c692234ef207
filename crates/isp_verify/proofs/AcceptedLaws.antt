-- What is fine has no fault, and what has no fault is fine.
use Rattle.std.proofs.Common.{◌≡◌, ◌≢◌, sym, ◌∙◌, ap, ap₂, refl, subst, ℕ, suc, ◌+◌, ◌<◌, List, [], ◌∷◌, length, take, Option, Some, None, Bool, true, not, ◌&&◌, eq-eqb, lt-ltb, arith}
use Rattle.std.specs.Prelude.{nat_lt, slice_get}
use Rattle.isp_base.specs.Ranks.{rank, same_elem, widened}
use Rattle.isp_base.specs.declared.types.Elem.{Elem}
use Rattle.isp_base.specs.declared.types.Elem.TheVariants.{Bool as Truth, I8, U8, I16, U16, I32, U32, I64, U64}
use Rattle.isp_code.specs.Fine.{has_value, IsThere, IsWanted, IsWantedArray, IsGiven, OperandFine, AllFine, IsPassed, ArePassed, CallFine, CallsFine}
use Rattle.isp_code.specs.Listing.{Listing, Routine}
use Rattle.isp_code.specs.Operands.{operands, call_operands}
use Rattle.isp_code.specs.Registers.{table_of, count_of, elem_of, same_class, class_of}
use Rattle.isp_code.specs.declared.function.Param.{Param}
use Rattle.isp_code.specs.declared.function.ParamKind.{ParamKind}
use Rattle.isp_code.specs.declared.function.ParamKind.TheVariants as kind
use Rattle.isp_code.specs.declared.function.Returns.{Returns}
use Rattle.isp_code.specs.declared.function.Returns.TheVariants.{Nothing, Scalar as GivesScalar, Vector as GivesVector}
use Rattle.isp_code.specs.declared.instr.Call.{Call}
use Rattle.isp_code.specs.declared.instr.Instr.{Instr}
use Rattle.isp_code.specs.declared.instr.Instr.TheVariants as instr
use Rattle.isp_code.specs.declared.operand.ArrayWant.{ArrayWant}
use Rattle.isp_code.specs.declared.operand.ArrayWant.TheVariants as array
use Rattle.isp_code.specs.declared.operand.Operand.{Operand}
use Rattle.isp_code.specs.declared.operand.Operand.TheVariants.{Any as AnyRegister, Scalar, Vector, Mask, Array, Number, Place, Text, Target, Back}
use Rattle.isp_code.specs.declared.operand.Want.{Want}
use Rattle.isp_code.specs.declared.operand.Want.TheVariants.{Any, Is, Integer, Word32, Sum, Like, Widens}
use Rattle.isp_code.specs.declared.register.Class.{Class}
use Rattle.isp_code.specs.declared.register.Class.TheVariants as class
use Rattle.isp_code.specs.declared.register.Register.{Register}
use Rattle.isp_verify.specs.Accepted.{IsFine}
use Rattle.isp_verify.specs.Faults.{or_later, unless, there, register_fault, is_wanted, is_a, back_fault, result_fits, is_wanted_array, is_passed, argument_fits, arguments_fit, call_fits, operand_fault, operands_fault}
use Rattle.isp_verify.specs.Faults.{instr_fault, at_instruction, instrs_fault, last, last_fault, stays, header_fits, header_fault, function_fault, functions_fault, code_fault}
use Rattle.isp_verify.specs.declared.fault.Rule.{Rule}
use Rattle.isp_verify.proofs.FineLaws.{instr_fine}
use Rattle.isp_verify.proofs.ProgressLaws.{none_at, instrs_fine, function_at}
use Rattle.isp_verify.proofs.Tests.{none_first, none_later, unless_none}
use Rattle.isp_verify.specs.declared.fault.Rule.TheVariants.{BadRegister, BadKind, BadJump, BadCall, BadEntry, FallsOff}

-- ---- tests that pass

same : (t u : Elem) → t ≡ u → same_elem t u ≡ true
same t u e = eq-eqb (rank t) (rank u) (ap rank e)

not_truth : (t : Elem) → t ≢ Truth → not (same_elem t Truth) ≡ true
not_truth Truth ne = absurd (ne refl)
not_truth I8 ne = refl
not_truth U8 ne = refl
not_truth I16 ne = refl
not_truth U16 ne = refl
not_truth I32 ne = refl
not_truth U32 ne = refl
not_truth I64 ne = refl
not_truth U64 ne = refl

class_itself : (c : Class) → same_class c c ≡ true
class_itself class.Scalar = refl
class_itself class.Vector = refl
class_itself class.Mask = refl
class_itself class.Array = refl

both : (a b : Bool) → a ≡ true → b ≡ true → (a && b) ≡ true
both a b e f = ap₂ (λ x y. x && y) e f

passes : (b : Bool) (r : Rule) → b ≡ true → unless b r ≡ None
passes b r e = ap (λ x. unless x r) e

no_fault : {A : Type 0} (a b : Option A) → a ≡ None → b ≡ None → or_later a b ≡ None
no_fault a b e f = ap₂ or_later e f

there_passes : (i n : ℕ) (b : Bool) → i < n → b ≡ true → there i n b ≡ None
there_passes i n b low e =
    no_fault (unless (nat_lt i n) BadRegister) (unless b BadKind) (passes (nat_lt i n) BadRegister (lt-ltb i n low)) (passes b BadKind e)

-- ---- operands

module _ (h : Routine) where
  low_of : (c : Class) (r : Register) → IsThere h c r → r.number < count_of h r.class
  low_of c r is = subst (λ k. r.number < count_of h k) (sym is.0) is.1

  class_is : (c : Class) (r : Register) → IsThere h c r → same_class r.class c ≡ true
  class_is c r is = subst (λ k. same_class r.class k ≡ true) is.0 (class_itself r.class)

  wanted : (w : Want) (t : Elem) → IsWanted h w t → is_wanted (table_of h) w t ≡ true
  wanted Any t is = refl
  wanted (Is u) t is = same t u is
  wanted Integer t is = not_truth t is
  wanted Word32 t is = is
  wanted Sum t is = is
  wanted (Like r) t is = same t (elem_of h r) is
  wanted (Widens r) t is = both (not (same_elem t Truth)) (same_elem (widened t) (elem_of h r)) (not_truth t is.0) (same (widened t) (elem_of h r) is.1)

  wanted_array : (k : ArrayWant) (a : Register) → IsWantedArray h k a → is_wanted_array h k a ≡ true
  wanted_array array.Any a is = refl
  wanted_array array.Shared a is = ap not is
  wanted_array array.Local a is = is

  a_passes : (c : Class) (w : Want) (r : Register) → IsThere h c r → IsWanted h w (elem_of h r) → is_a (table_of h) c w r ≡ true
  a_passes c w r is want =
      both (same_class r.class c) (is_wanted (table_of h) w (elem_of h r)) (class_is c r is) (wanted w (elem_of h r) want)

  register_passes : (c : Class) (w : Want) (r : Register) → IsThere h c r × IsWanted h w (elem_of h r) → register_fault (table_of h) r (is_a (table_of h) c w r) ≡ None
  register_passes c w r is =
      there_passes r.number (count_of h r.class) (is_a (table_of h) c w r) (low_of c r is.0) (a_passes c w r is.0 is.1)

  array_passes : (k : ArrayWant) (w : Want) (r : Register) → IsThere h class.Array r × IsWantedArray h k r × IsWanted h w (elem_of h r) → register_fault (table_of h) r (is_a (table_of h) class.Array w r && is_wanted_array h k r) ≡ None
  array_passes k w r is =
      there_passes r.number (count_of h r.class) (is_a (table_of h) class.Array w r && is_wanted_array h k r) (low_of class.Array r is.0)
      (both (is_a (table_of h) class.Array w r) (is_wanted_array h k r) (a_passes class.Array w r is.0 is.2) (wanted_array k r is.1))

  back_passes : (g : Returns) (x : Option Register) → IsGiven h g x → back_fault (table_of h) g x ≡ None
  back_passes Nothing None is = refl
  back_passes Nothing (Some x) is = absurd is
  back_passes (GivesScalar t) None is = absurd is
  back_passes (GivesScalar t) (Some x) is = register_passes class.Scalar (Is t) x is
  back_passes (GivesVector t) None is = absurd is
  back_passes (GivesVector t) (Some x) is = register_passes class.Vector (Is t) x is

  -- ---- calls

  result_passes : (g : Returns) (d : Option Register) → IsGiven h g d → result_fits (table_of h) g d ≡ true
  result_passes Nothing None is = refl
  result_passes Nothing (Some x) is = absurd is
  result_passes (GivesScalar t) None is = absurd is
  result_passes (GivesScalar t) (Some x) is = a_passes class.Scalar (Is t) x is.0 is.1
  result_passes (GivesVector t) None is = absurd is
  result_passes (GivesVector t) (Some x) is = a_passes class.Vector (Is t) x is.0 is.1

  passed_passes : (k : ParamKind) (x : Register) → IsPassed h k x → is_passed h k x ≡ true
  passed_passes kind.Scalar x is = refl
  passed_passes kind.Vector x is = refl
  passed_passes kind.Array x is = ap not is

  arguments_pass : (ps : List Param) (xs : List Register) → ArePassed h ps xs → arguments_fit h ps xs ≡ true
  arguments_pass [] [] is = refl
  arguments_pass [] (x ∷ xs) is = absurd is
  arguments_pass (p ∷ ps) [] is = absurd is
  arguments_pass (p ∷ ps) (x ∷ xs) is =
      both (argument_fits h p x) (arguments_fit h ps xs)
      (both (is_a (table_of h) (class_of p.kind) (Is p.elem) x) (is_passed h p.kind x) (a_passes (class_of p.kind) (Is p.elem) x is.0.0 is.0.1)
      (passed_passes p.kind x is.0.2)) (arguments_pass ps xs is.1)

  module _ (code : Listing) where
    operand_passes : (o : Operand) → OperandFine code h o → operand_fault code h o ≡ None
    operand_passes (AnyRegister r) is = there_passes r.number (count_of h r.class) true is refl
    operand_passes (Scalar r w) is = register_passes class.Scalar w r is
    operand_passes (Vector r w) is = register_passes class.Vector w r is
    operand_passes (Mask r) is = there_passes r.number (count_of h r.class) (same_class r.class class.Mask) (low_of class.Mask r is) (class_is class.Mask r is)
    operand_passes (Array r k w) is = array_passes k w r is
    operand_passes (Number z r) is = passes (has_value (elem_of h r) z) BadKind is
    operand_passes (Place q) is = there_passes q (length code.places) true is refl
    operand_passes (Text t) is = there_passes t (length code.texts) true is refl
    operand_passes (Target to) is = passes (nat_lt to (length h.code)) BadJump (lt-ltb to (length h.code) is)
    operand_passes (Back x) is = back_passes h.returns x is

    operands_pass : (os : List Operand) → AllFine code h os → operands_fault code h os ≡ None
    operands_pass [] is = refl
    operands_pass (o ∷ os) is = no_fault (operand_fault code h o) (operands_fault code h os) (operand_passes o is.0) (operands_pass os is.1)

    call_passes : (c : Call) → CallFine code h c → call_fits h c (slice_get code.routines c.function) ≡ true
    call_passes c is =
        ap (call_fits h c) is.found ∙ both (result_fits (table_of h) is.callee.returns c.result) (arguments_fit h is.callee.params c.arguments)
        (result_passes is.callee.returns c.result is.result) (arguments_pass is.callee.params c.arguments is.passed)

    pub instr_passes : (i : Instr) → AllFine code h (operands i) → CallsFine code h i → instr_fault code h i ≡ None
    instr_passes (instr.Scalar d i) is calls = operands_pass (operands (instr.Scalar d i)) is
    instr_passes (instr.Vector d i) is calls = operands_pass (operands (instr.Vector d i)) is
    instr_passes (instr.Mask d i) is calls = operands_pass (operands (instr.Mask d i)) is
    instr_passes (instr.Divide o d x y k p) is calls = operands_pass (operands (instr.Divide o d x y k p)) is
    instr_passes (instr.Store a i y k p) is calls = operands_pass (operands (instr.Store a i y k p)) is
    instr_passes (instr.Scatter a i y k p) is calls = operands_pass (operands (instr.Scatter a i y k p)) is
    instr_passes (instr.StoreRun a i y k p) is calls = operands_pass (operands (instr.StoreRun a i y k p)) is
    instr_passes (instr.PackedStore d a i y k p) is calls = operands_pass (operands (instr.PackedStore d a i y k p)) is
    instr_passes (instr.PackedLoad d a i y k p) is calls = operands_pass (operands (instr.PackedLoad d a i y k p)) is
    instr_passes (instr.Clear a k) is calls = operands_pass (operands (instr.Clear a k)) is
    instr_passes (instr.Jump to) is calls = operands_pass (operands (instr.Jump to)) is
    instr_passes (instr.JumpIf t x to) is calls = operands_pass (operands (instr.JumpIf t x to)) is
    instr_passes (instr.Say t) is calls = operands_pass (operands (instr.Say t)) is
    instr_passes (instr.PrintScalar x) is calls = operands_pass (operands (instr.PrintScalar x)) is
    instr_passes (instr.PrintVector x k) is calls = operands_pass (operands (instr.PrintVector x k)) is
    instr_passes (instr.Fail x p) is calls = operands_pass (operands (instr.Fail x p)) is
    instr_passes (instr.Return x) is calls = operands_pass (operands (instr.Return x)) is
    instr_passes (instr.Call c) is calls =
        no_fault (operands_fault code h (call_operands c)) (unless (call_fits h c (slice_get code.routines c.function)) BadCall)
        (operands_pass (call_operands c) is) (passes (call_fits h c (slice_get code.routines c.function)) BadCall (call_passes c calls))

-- ---- functions

at_none : (k n : ℕ) (r : Option Rule) → r ≡ None → at_instruction k n r ≡ None
at_none k n r e = ap (at_instruction k n) e

instrs_pass : (code : Listing) (k : ℕ) (h : Routine) (n : ℕ) (is : List Instr) → ((j : ℕ) (i : Instr) → slice_get is j ≡ Some i → instr_fault code h i ≡ None) → instrs_fault code k h n is ≡ None
instrs_pass code k h n [] each = refl
instrs_pass code k h n (i ∷ is) each =
    no_fault (at_instruction k n (instr_fault code h i)) (instrs_fault code k h (suc n) is) (at_none k n (instr_fault code h i) (each 0 i refl)) (instrs_pass code k h (suc n) is (λ j x at. each (suc j) x at))

function_passes : (code : Listing) (k : ℕ) (h : Routine) → header_fits (take k code.routines) h ≡ true
    → ((pc : ℕ) (i : Instr) → slice_get h.code pc ≡ Some i → AllFine code h (operands i) × CallsFine code h i)
    → stays (slice_get h.code (last h)) ≡ true → function_fault code k h ≡ None
function_passes code k h header lines ends =
    no_fault (at_instruction k 0 (header_fault (take k code.routines) h))
    (or_later (instrs_fault code k h 0 h.code) (at_instruction k (last h) (last_fault h)))
    (at_none k 0 (header_fault (take k code.routines) h) (passes (header_fits (take k code.routines) h) BadEntry header))
    (no_fault (instrs_fault code k h 0 h.code) (at_instruction k (last h) (last_fault h))
    (instrs_pass code k h 0 h.code (λ j i at. let f = lines j i at in instr_passes h code i f.0 f.1))
    (at_none k (last h) (last_fault h) (passes (stays (slice_get h.code (last h))) FallsOff ends)))

functions_pass : (code : Listing) (k : ℕ) (hs : List Routine) → ((j : ℕ) (h : Routine) → slice_get hs j ≡ Some h → function_fault code (k + j) h ≡ None) → functions_fault code k hs ≡ None
functions_pass code k [] each = refl
functions_pass code k (h ∷ hs) each =
    let here : k + 0 ≡ k = omega arith in
    no_fault (function_fault code k h) (functions_fault code (suc k) hs) (subst (λ q. function_fault code q h ≡ None) here (each 0 h refl)) (functions_pass code (suc k) hs later)
  where
    later : (j : ℕ) (x : Routine) → slice_get hs j ≡ Some x → function_fault code (suc k + j) x ≡ None
    later j x at = let e : k + suc j ≡ suc k + j = omega arith in subst (λ q. function_fault code q x ≡ None) e (each (suc j) x at)

pub fine_accepted : (code : Listing) → IsFine code → code_fault code ≡ None
fine_accepted code is =
    functions_pass code 0 code.routines (λ j h at. let e : j ≡ 0 + j = omega arith in subst (λ q. function_fault code q h ≡ None) e (function_passes code j h (is.headers j h at) (is.lines j h at) (is.ends j h at)))

-- ---- the other way round

module _ (code : Listing) (none : code_fault code ≡ None) where
  at : (f : ℕ) (h : Routine) → slice_get code.routines f ≡ Some h → function_fault code f h ≡ None
  at f h found = let e : 0 + f ≡ f = omega arith in subst (λ q. function_fault code q h ≡ None) e (function_at code 0 code.routines f h none found)

  header_at : (f : ℕ) (h : Routine) → slice_get code.routines f ≡ Some h → header_fits (take f code.routines) h ≡ true
  header_at f h found =
      unless_none (header_fits (take f code.routines) h) BadEntry (none_at f 0 (header_fault (take f code.routines) h) (none_first (at_instruction f 0 (header_fault (take f code.routines) h)) _ (at f h found)))

  rest_at : (f : ℕ) (h : Routine) → slice_get code.routines f ≡ Some h → or_later (instrs_fault code f h 0 h.code) (at_instruction f (last h) (last_fault h)) ≡ None
  rest_at f h found = none_later (at_instruction f 0 (header_fault (take f code.routines) h)) _ (at f h found)

  line_at : (f : ℕ) (h : Routine) → slice_get code.routines f ≡ Some h → (pc : ℕ) (i : Instr) → slice_get h.code pc ≡ Some i → AllFine code h (operands i) × CallsFine code h i
  line_at f h found pc i there =
      instr_fine code h i (instrs_fine code f h 0 h.code pc i (none_first (instrs_fault code f h 0 h.code) _ (rest_at f h found)) there)

  end_at : (f : ℕ) (h : Routine) → slice_get code.routines f ≡ Some h → stays (slice_get h.code (last h)) ≡ true
  end_at f h found =
      unless_none (stays (slice_get h.code (last h))) FallsOff (none_at f (last h) (last_fault h) (none_later (instrs_fault code f h 0 h.code) _ (rest_at f h found)))

pub accepted_fine : (code : Listing) → code_fault code ≡ None → IsFine code
accepted_fine code none = record { headers = header_at code none; lines = line_at code none; ends = end_at code none }
