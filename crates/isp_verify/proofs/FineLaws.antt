-- What has no fault is fine.
use Rattle.std.proofs.Common.{◌≡◌, sym, ◌∙◌, refl, subst, ◌<◌, List, [], ◌∷◌, length, map, Option, Some, None, true, false, not, ◌&&◌}
use Rattle.std.specs.Prelude.{slice_get}
use Rattle.isp_base.specs.Ranks.{same_elem, widened}
use Rattle.isp_base.specs.declared.types.Elem.{Elem}
use Rattle.isp_base.specs.declared.types.Elem.TheVariants.{Bool as Truth}
use Rattle.isp_code.specs.Fine.{has_value, IsThere, IsWanted, IsWantedArray, IsGiven, OperandFine, AllFine, IsPassed, ArePassed, CallFine, CallsFine}
use Rattle.isp_code.specs.Listing.{Listing, Routine}
use Rattle.isp_code.specs.Operands.{operands, call_operands, result_operands, any_register}
use Rattle.isp_code.specs.Registers.{table_of, count_of, elem_of, is_per_lane, same_class, class_of}
use Rattle.isp_code.specs.declared.function.Param.{Param}
use Rattle.isp_code.specs.declared.function.ParamKind.{ParamKind}
use Rattle.isp_code.specs.declared.function.ParamKind.TheVariants as kind
use Rattle.isp_code.specs.declared.function.Returns.{Returns}
use Rattle.isp_code.specs.declared.function.Returns.TheVariants.{Nothing, Scalar as GivesScalar, Vector as GivesVector}
use Rattle.isp_code.specs.declared.instr.Call.{Call}
use Rattle.isp_code.specs.declared.instr.Instr.{Instr}
use Rattle.isp_code.specs.declared.instr.Instr.TheVariants as instr
use Rattle.isp_code.specs.declared.operand.ArrayWant.{ArrayWant}
use Rattle.isp_code.specs.declared.operand.ArrayWant.TheVariants as array
use Rattle.isp_code.specs.declared.operand.Operand.{Operand}
use Rattle.isp_code.specs.declared.operand.Operand.TheVariants.{Any as AnyRegister, Scalar, Vector, Mask, Array, Number, Place, Text, Target, Back}
use Rattle.isp_code.specs.declared.operand.Want.{Want}
use Rattle.isp_code.specs.declared.operand.Want.TheVariants.{Any, Is, Integer, Word32, Sum, Like, Widens}
use Rattle.isp_code.specs.declared.register.Class.{Class}
use Rattle.isp_code.specs.declared.register.Class.TheVariants as class
use Rattle.isp_code.specs.declared.register.Register.{Register}
use Rattle.isp_verify.specs.Faults.{unless, register_fault, is_wanted, is_a, back_fault, result_fits, is_wanted_array, is_passed, argument_fits, arguments_fit, call_fits, operand_fault, operands_fault, instr_fault}
use Rattle.isp_verify.specs.declared.fault.Rule.TheVariants.{BadKind, BadJump, BadCall}
use Rattle.isp_verify.proofs.CallParts.{call_parts}
use Rattle.isp_verify.proofs.Tests.{same_elem-is, same_elem-not, same_class-is, both_first, both_second, not_true, none_first, none_later, unless_none, below, there_low, there_kind}

wanted_is : (h : Routine) (w : Want) (t : Elem) → is_wanted (table_of h) w t ≡ true → IsWanted h w t
wanted_is h Any t e = tt
wanted_is h (Is u) t e = same_elem-is t u e
wanted_is h Integer t e = same_elem-not t e
wanted_is h Word32 t e = e
wanted_is h Sum t e = e
wanted_is h (Like r) t e = same_elem-is t (elem_of h r) e
wanted_is h (Widens r) t e =
    (same_elem-not t (both_first (not (same_elem t Truth)) (same_elem (widened t) (elem_of h r)) e), same_elem-is (widened t) (elem_of h r) (both_second (not (same_elem t Truth)) (same_elem (widened t) (elem_of h r)) e))

array_is : (h : Routine) (k : ArrayWant) (a : Register) → is_wanted_array h k a ≡ true → IsWantedArray h k a
array_is h array.Any a e = tt
array_is h array.Shared a e = not_true (is_per_lane h a) e
array_is h array.Local a e = e

there_is : (h : Routine) (c : Class) (r : Register) → r.number < count_of h r.class → same_class r.class c ≡ true → IsThere h c r
there_is h c r low e = let is = same_class-is r.class c e in (is, subst (λ k. r.number < count_of h k) is low)

a_is : (h : Routine) (c : Class) (w : Want) (r : Register) → r.number < count_of h r.class → is_a (table_of h) c w r ≡ true → IsThere h c r × IsWanted h w (elem_of h r)
a_is h c w r low e =
    (there_is h c r low (both_first (same_class r.class c) (is_wanted (table_of h) w (elem_of h r)) e), wanted_is h w (elem_of h r) (both_second (same_class r.class c) (is_wanted (table_of h) w (elem_of h r)) e))

register_is : (h : Routine) (c : Class) (w : Want) (r : Register) → register_fault (table_of h) r (is_a (table_of h) c w r) ≡ None → IsThere h c r × IsWanted h w (elem_of h r)
register_is h c w r e = a_is h c w r (there_low r.number (count_of h r.class) (is_a (table_of h) c w r) e) (there_kind r.number (count_of h r.class) (is_a (table_of h) c w r) e)

array_fine : (h : Routine) (k : ArrayWant) (w : Want) (r : Register) → register_fault (table_of h) r (is_a (table_of h) class.Array w r && is_wanted_array h k r) ≡ None
    → IsThere h class.Array r × IsWantedArray h k r × IsWanted h w (elem_of h r)
array_fine h k w r e =
    let low = there_low r.number (count_of h r.class) (is_a (table_of h) class.Array w r && is_wanted_array h k r) e in
    let fits = there_kind r.number (count_of h r.class) (is_a (table_of h) class.Array w r && is_wanted_array h k r) e in
    let is = a_is h class.Array w r low (both_first (is_a (table_of h) class.Array w r) (is_wanted_array h k r) fits) in
    (is.0, array_is h k r (both_second (is_a (table_of h) class.Array w r) (is_wanted_array h k r) fits), is.1)

back_fine : (h : Routine) (g : Returns) (x : Option Register) → back_fault (table_of h) g x ≡ None → IsGiven h g x
back_fine h Nothing None e = tt
back_fine h (GivesScalar t) None e = cc
back_fine h (GivesVector t) None e = cc
back_fine h Nothing (Some x) e = let f = there_kind x.number (count_of h x.class) false e in cc
back_fine h (GivesScalar t) (Some x) e = register_is h class.Scalar (Is t) x e
back_fine h (GivesVector t) (Some x) e = register_is h class.Vector (Is t) x e

pub operand_fine : (code : Listing) (h : Routine) (o : Operand) → operand_fault code h o ≡ None → OperandFine code h o
operand_fine code h (AnyRegister r) e = there_low r.number (count_of h r.class) true e
operand_fine code h (Scalar r w) e = register_is h class.Scalar w r e
operand_fine code h (Vector r w) e = register_is h class.Vector w r e
operand_fine code h (Mask r) e =
    there_is h class.Mask r (there_low r.number (count_of h r.class) (same_class r.class class.Mask) e) (there_kind r.number (count_of h r.class) (same_class r.class class.Mask) e)
operand_fine code h (Array r k w) e = array_fine h k w r e
operand_fine code h (Number z r) e = unless_none (has_value (elem_of h r) z) BadKind e
operand_fine code h (Place q) e = there_low q (length code.places) true e
operand_fine code h (Text t) e = there_low t (length code.texts) true e
operand_fine code h (Target to) e = below to (length h.code) BadJump e
operand_fine code h (Back x) e = back_fine h h.returns x e

pub all_fine : (code : Listing) (h : Routine) (os : List Operand) → operands_fault code h os ≡ None → AllFine code h os
all_fine code h [] e = tt
all_fine code h (o ∷ os) e =
    (operand_fine code h o (none_first (operand_fault code h o) (operands_fault code h os) e), all_fine code h os (none_later (operand_fault code h o) (operands_fault code h os) e))

-- what is passed fits the parameters
result_is : (code : Listing) (h : Routine) (g : Returns) (d : Option Register) → AllFine code h (result_operands d) → result_fits (table_of h) g d ≡ true → IsGiven h g d
result_is code h Nothing None fine e = tt
result_is code h Nothing (Some d) fine e = cc
result_is code h (GivesScalar t) None fine e = cc
result_is code h (GivesScalar t) (Some d) fine e = a_is h class.Scalar (Is t) d fine.0 e
result_is code h (GivesVector t) None fine e = cc
result_is code h (GivesVector t) (Some d) fine e = a_is h class.Vector (Is t) d fine.0 e

passed_is : (h : Routine) (k : ParamKind) (x : Register) → is_passed h k x ≡ true → IsPassed h k x
passed_is h kind.Scalar x e = tt
passed_is h kind.Vector x e = tt
passed_is h kind.Array x e = not_true (is_per_lane h x) e

argument_is : (h : Routine) (p : Param) (x : Register) → x.number < count_of h x.class → argument_fits h p x ≡ true → IsThere h (class_of p.kind) x × (elem_of h x ≡ p.elem) × IsPassed h p.kind x
argument_is h p x low e =
    let is = a_is h (class_of p.kind) (Is p.elem) x low (both_first (is_a (table_of h) (class_of p.kind) (Is p.elem) x) (is_passed h p.kind x) e) in
    (is.0, is.1, passed_is h p.kind x (both_second (is_a (table_of h) (class_of p.kind) (Is p.elem) x) (is_passed h p.kind x) e))

arguments_are : (code : Listing) (h : Routine) (ps : List Param) (xs : List Register) → AllFine code h (map any_register xs) → arguments_fit h ps xs ≡ true → ArePassed h ps xs
arguments_are code h [] [] fine e = tt
arguments_are code h [] (x ∷ xs) fine e = cc
arguments_are code h (p ∷ ps) [] fine e = cc
arguments_are code h (p ∷ ps) (x ∷ xs) fine e =
    (argument_is h p x fine.0 (both_first (argument_fits h p x) (arguments_fit h ps xs) e), arguments_are code h ps xs fine.1 (both_second (argument_fits h p x) (arguments_fit h ps xs) e))

call_fine : (code : Listing) (h : Routine) (c : Call) → operands_fault code h (call_operands c) ≡ None → call_fits h c (slice_get code.routines c.function) ≡ true → CallFine code h c
call_fine code h c none fits = go (slice_get code.routines c.function) refl fits
  where
    go : (o : Option Routine) → slice_get code.routines c.function ≡ o → call_fits h c o ≡ true → CallFine code h c
    go None found e = cc
    go (Some g) found e =
        let parts = sym (call_parts code h c) ∙ none in
        let rest = none_later _ _ (none_later _ _ parts) in
        record {
          callee = g;
          found = found;
          result = result_is code h g.returns c.result (all_fine code h (result_operands c.result) (none_first _ _ parts)) (both_first (result_fits (table_of h) g.returns c.result) (arguments_fit h g.params c.arguments) e);
          passed = arguments_are code h g.params c.arguments (all_fine code h (map any_register c.arguments) (none_first _ _ rest)) (both_second (result_fits (table_of h) g.returns c.result) (arguments_fit h g.params c.arguments) e);
        }

pub instr_fine : (code : Listing) (h : Routine) (i : Instr) → instr_fault code h i ≡ None → AllFine code h (operands i) × CallsFine code h i
instr_fine code h (instr.Scalar d i) e = (all_fine code h (operands (instr.Scalar d i)) e, tt)
instr_fine code h (instr.Vector d i) e = (all_fine code h (operands (instr.Vector d i)) e, tt)
instr_fine code h (instr.Mask d i) e = (all_fine code h (operands (instr.Mask d i)) e, tt)
instr_fine code h (instr.Divide o d x y k p) e = (all_fine code h (operands (instr.Divide o d x y k p)) e, tt)
instr_fine code h (instr.Store a i y k p) e = (all_fine code h (operands (instr.Store a i y k p)) e, tt)
instr_fine code h (instr.Scatter a i y k p) e = (all_fine code h (operands (instr.Scatter a i y k p)) e, tt)
instr_fine code h (instr.StoreRun a i y k p) e = (all_fine code h (operands (instr.StoreRun a i y k p)) e, tt)
instr_fine code h (instr.PackedStore d a i y k p) e = (all_fine code h (operands (instr.PackedStore d a i y k p)) e, tt)
instr_fine code h (instr.PackedLoad d a i y k p) e = (all_fine code h (operands (instr.PackedLoad d a i y k p)) e, tt)
instr_fine code h (instr.Clear a k) e = (all_fine code h (operands (instr.Clear a k)) e, tt)
instr_fine code h (instr.Jump to) e = (all_fine code h (operands (instr.Jump to)) e, tt)
instr_fine code h (instr.JumpIf t x to) e = (all_fine code h (operands (instr.JumpIf t x to)) e, tt)
instr_fine code h (instr.Say t) e = (all_fine code h (operands (instr.Say t)) e, tt)
instr_fine code h (instr.PrintScalar x) e = (all_fine code h (operands (instr.PrintScalar x)) e, tt)
instr_fine code h (instr.PrintVector x k) e = (all_fine code h (operands (instr.PrintVector x k)) e, tt)
instr_fine code h (instr.Fail x p) e = (all_fine code h (operands (instr.Fail x p)) e, tt)
instr_fine code h (instr.Return x) e = (all_fine code h (operands (instr.Return x)) e, tt)
instr_fine code h (instr.Call c) e =
    let none = none_first (operands_fault code h (call_operands c)) (unless (call_fits h c (slice_get code.routines c.function)) BadCall) e in
    let fits = unless_none (call_fits h c (slice_get code.routines c.function)) BadCall (none_later (operands_fault code h (call_operands c)) _ e) in
    (all_fine code h (call_operands c) none, call_fine code h c none fits)
