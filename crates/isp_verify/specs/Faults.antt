-- Which code has a fault, and which fault is the first. Functions go in order; in each the header comes first, then the
-- instructions in order, last whether control falls off the end.
use Rattle.std.specs.Prelude.{ℕ, suc, ◌-◌, List, [], ◌∷◌, length, take, bytes_eq, Option, Some, None, Bool, true, false, not, ◌&&◌, ◌==◌, nat_lt, slice_get}
use Rattle.std.specs.List.{list_any}
use Rattle.isp_base.specs.Ranks.{same_elem, widened}
use Rattle.isp_base.specs.declared.types.Elem.{Elem}
use Rattle.isp_base.specs.declared.types.Elem.TheVariants.{Bool as Truth}
use Rattle.isp_code.specs.Fine.{has_value, is_word32, is_sum}
use Rattle.isp_code.specs.Listing.{Listing, Routine}
use Rattle.isp_code.specs.Operands.{operands, call_operands}
use Rattle.isp_code.specs.Registers.{Table, table_of, count_in, elem_in, elem_of, is_per_lane, is_local, same_class, class_of}
use Rattle.isp_code.specs.declared.function.Param.{Param}
use Rattle.isp_code.specs.declared.function.ParamKind.{ParamKind}
use Rattle.isp_code.specs.declared.function.ParamKind.TheVariants as kind
use Rattle.isp_code.specs.declared.function.Returns.{Returns}
use Rattle.isp_code.specs.declared.function.Returns.TheVariants.{Nothing, Scalar as GivesScalar, Vector as GivesVector}
use Rattle.isp_code.specs.declared.instr.Call.{Call}
use Rattle.isp_code.specs.declared.instr.Instr.{Instr}
use Rattle.isp_code.specs.declared.instr.Instr.TheVariants as instr
use Rattle.isp_code.specs.declared.operand.ArrayWant.{ArrayWant}
use Rattle.isp_code.specs.declared.operand.ArrayWant.TheVariants as array
use Rattle.isp_code.specs.declared.operand.Operand.{Operand}
use Rattle.isp_code.specs.declared.operand.Operand.TheVariants.{Any as AnyRegister, Scalar, Vector, Mask, Array, Number, Place, Text, Target, Back}
use Rattle.isp_code.specs.declared.operand.Want.{Want}
use Rattle.isp_code.specs.declared.operand.Want.TheVariants.{Any, Is, Integer, Word32, Sum, Like, Widens}
use Rattle.isp_code.specs.declared.register.Class.{Class}
use Rattle.isp_code.specs.declared.register.Class.TheVariants as class
use Rattle.isp_code.specs.declared.register.Register.{Register}
use Rattle.isp_verify.specs.declared.fault.Fault.{Fault}
use Rattle.isp_verify.specs.declared.fault.Rule.{Rule}
use Rattle.isp_verify.specs.declared.fault.Rule.TheVariants.{BadRegister, BadKind, BadJump, BadCall, BadEntry, FallsOff}

-- the first of two faults
abbrev pub or_later : {A : Type 0} → Option A → Option A → Option A
or_later (Some fault) later = Some fault
or_later None later = later

abbrev pub unless : Bool → Rule → Option Rule
unless true rule = None
unless false rule = Some rule

-- what is named is to be there, and then to be of its kind
abbrev pub there : ℕ → ℕ → Bool → Option Rule
there n count fits = or_later (unless (nat_lt n count) BadRegister) (unless fits BadKind)

-- in a function with these registers
module _ (t : Table) where
  abbrev pub register_fault : Register → Bool → Option Rule
  register_fault r fits = there r.number (count_in t r.class) fits

  -- a type is the one that is wanted
  abbrev pub is_wanted : Want → Elem → Bool
  is_wanted Any e = true
  is_wanted (Is u) e = same_elem e u
  is_wanted Integer e = not (same_elem e Truth)
  is_wanted Word32 e = is_word32 e
  is_wanted Sum e = is_sum e
  is_wanted (Like r) e = same_elem e (elem_in t r)
  is_wanted (Widens r) e = not (same_elem e Truth) && same_elem (widened e) (elem_in t r)

  -- a register has this class, and a type that is wanted
  abbrev pub is_a : Class → Want → Register → Bool
  is_a c w r = same_class r.class c && is_wanted w (elem_in t r)

  abbrev pub back_fault : Returns → Option Register → Option Rule
  back_fault Nothing None = None
  back_fault g None = Some BadKind
  back_fault Nothing (Some x) = register_fault x false
  back_fault (GivesScalar e) (Some x) = register_fault x (is_a class.Scalar (Is e) x)
  back_fault (GivesVector e) (Some x) = register_fault x (is_a class.Vector (Is e) x)

  -- the result of a call goes where one of its type fits, or nowhere if there is none
  abbrev pub result_fits : Returns → Option Register → Bool
  result_fits Nothing None = true
  result_fits (GivesScalar e) (Some d) = is_a class.Scalar (Is e) d
  result_fits (GivesVector e) (Some d) = is_a class.Vector (Is e) d
  result_fits g d = false

abbrev pub is_wanted_array : Routine → ArrayWant → Register → Bool
is_wanted_array h array.Any a = true
is_wanted_array h array.Shared a = not (is_per_lane h a)
is_wanted_array h array.Local a = is_local h a

-- an array that is passed is one that all lanes share
abbrev pub is_passed : Routine → ParamKind → Register → Bool
is_passed h kind.Array x = not (is_per_lane h x)
is_passed h k x = true

abbrev pub argument_fits : Routine → Param → Register → Bool
argument_fits h p x = is_a (table_of h) (class_of p.kind) (Is p.elem) x && is_passed h p.kind x

abbrev pub arguments_fit : Routine → List Param → List Register → Bool
arguments_fit h [] [] = true
arguments_fit h [] (x ∷ xs) = false
arguments_fit h (p ∷ ps) [] = false
arguments_fit h (p ∷ ps) (x ∷ xs) = argument_fits h p x && arguments_fit h ps xs

abbrev pub call_fits : Routine → Call → Option Routine → Bool
call_fits h c None = false
call_fits h c (Some g) = result_fits (table_of h) g.returns c.result && arguments_fit h g.params c.arguments

module _ (code : Listing) (h : Routine) where
  abbrev pub operand_fault : Operand → Option Rule
  operand_fault (AnyRegister r) = register_fault (table_of h) r true
  operand_fault (Scalar r w) = register_fault (table_of h) r (is_a (table_of h) class.Scalar w r)
  operand_fault (Vector r w) = register_fault (table_of h) r (is_a (table_of h) class.Vector w r)
  operand_fault (Mask r) = register_fault (table_of h) r (same_class r.class class.Mask)
  operand_fault (Array r k w) = register_fault (table_of h) r (is_a (table_of h) class.Array w r && is_wanted_array h k r)
  operand_fault (Number z r) = unless (has_value (elem_of h r) z) BadKind
  operand_fault (Place q) = there q (length code.places) true
  operand_fault (Text t) = there t (length code.texts) true
  operand_fault (Target to) = unless (nat_lt to (length h.code)) BadJump
  operand_fault (Back x) = back_fault (table_of h) h.returns x

  -- the operands go from left to right
  abbrev pub operands_fault : List Operand → Option Rule
  operands_fault [] = None
  operands_fault (o ∷ os) = or_later (operand_fault o) (operands_fault os)

  -- a call is compared with the function that it calls when all its operands are there
  abbrev pub call_fault : Call → Option Rule
  call_fault c = or_later (operands_fault (call_operands c)) (unless (call_fits h c (slice_get code.routines c.function)) BadCall)

  abbrev pub instr_fault : Instr → Option Rule
  instr_fault (instr.Call c) = call_fault c
  instr_fault i = operands_fault (operands i)

-- no parameter's name stands twice
abbrev pub is_named : List ℕ → Param → Bool
is_named name p = bytes_eq p.name name

abbrev pub names_differ : List Param → Bool
names_differ [] = true
names_differ (p ∷ ps) = not (list_any (is_named p.name) ps) && names_differ ps

abbrev pub is_vector : Param → Bool
is_vector p = same_class (class_of p.kind) class.Vector

abbrev pub gives_vector : Returns → Bool
gives_vector (GivesVector t) = true
gives_vector g = false

-- what is exported takes no vector and gives none
abbrev pub can_export : Routine → Bool
can_export h = not (list_any is_vector h.params) && not (gives_vector h.returns)

abbrev pub export_fits : Bool → Routine → Bool
export_fits true h = can_export h
export_fits false h = true

abbrev pub is_function : List ℕ → Routine → Bool
is_function name h = bytes_eq h.name name

abbrev pub header_fits : List Routine → Routine → Bool
header_fits earlier h =
    not (list_any (is_function h.name) earlier) && (names_differ h.params && (export_fits h.exported h && not (h.masks == 0)))

-- control does not fall off a jump or a return
abbrev pub stays : Option Instr → Bool
stays (Some (instr.Jump to)) = true
stays (Some (instr.Return x)) = true
stays i = false

abbrev pub at_instruction : ℕ → ℕ → Option Rule → Option Fault
at_instruction k n None = None
at_instruction k n (Some rule) = Some (record { rule = rule; function = k; instruction = n })

abbrev pub instrs_fault : Listing → ℕ → Routine → ℕ → List Instr → Option Fault
instrs_fault code k h n [] = None
instrs_fault code k h n (i ∷ is) = or_later (at_instruction k n (instr_fault code h i)) (instrs_fault code k h (suc n) is)

-- the number of the last instruction, or 0
abbrev pub last : Routine → ℕ
last h = length h.code - 1

abbrev pub header_fault : List Routine → Routine → Option Rule
header_fault earlier h = unless (header_fits earlier h) BadEntry

abbrev pub last_fault : Routine → Option Rule
last_fault h = unless (stays (slice_get h.code (last h))) FallsOff

abbrev pub function_fault : Listing → ℕ → Routine → Option Fault
function_fault code k h =
    or_later (at_instruction k 0 (header_fault (take k code.routines) h)) (or_later (instrs_fault code k h 0 h.code) (at_instruction k (last h) (last_fault h)))

abbrev pub functions_fault : Listing → ℕ → List Routine → Option Fault
functions_fault code k [] = None
functions_fault code k (h ∷ hs) = or_later (function_fault code k h) (functions_fault code (suc k) hs)

-- the first fault of some code
abbrev pub code_fault : Listing → Option Fault
code_fault code = functions_fault code 0 code.routines
