-- When facts pass: each is settled by one line, after which none in its range writes its register, and no jump leads into its
-- range; and what forms tell of operands are facts.
use Rattle.std.specs.Prelude.{ℕ, suc, List, [], ◌∷◌, map, Option, Some, None, Bool, true, false, not, ◌&&◌, if◌then◌else◌, nat_eq, nat_lt, nat_le, slice_get, slice_index_or}
use Rattle.std.specs.List.{list_all, list_any}
use Rattle.isp_base.specs.Values.{wrap}
use Rattle.isp_code.specs.Listing.{Routine}
use Rattle.isp_code.specs.Registers.{elem_of, same_class}
use Rattle.isp_code.specs.declared.instr.Instr.{Instr}
use Rattle.isp_code.specs.declared.instr.Instr.TheVariants as instr
use Rattle.isp_code.specs.declared.instr.MaskInstr.{MaskInstr}
use Rattle.isp_code.specs.declared.instr.MaskInstr.TheVariants as mask
use Rattle.isp_code.specs.declared.instr.ScalarInstr.{ScalarInstr}
use Rattle.isp_code.specs.declared.instr.ScalarInstr.TheVariants as scalar
use Rattle.isp_code.specs.declared.instr.VectorInstr.{VectorInstr}
use Rattle.isp_code.specs.declared.instr.VectorInstr.TheVariants as vector
use Rattle.isp_code.specs.declared.register.Class.TheVariants as class
use Rattle.isp_code.specs.declared.register.Register.{Register}
use Rattle.isp_forms.specs.Tables.{form_or_kept}
use Rattle.isp_forms.specs.declared.form.Form.{Form}
use Rattle.isp_forms.specs.declared.form.Form.TheVariants.{Kept, KeptBy, FreeBy}
use Rattle.isp_constants.specs.declared.fact.Constants.{Constants}
use Rattle.isp_constants.specs.declared.fact.Fact.{Fact}
use Rattle.isp_constants.specs.declared.fact.Known.{Known}
use Rattle.isp_constants.specs.declared.fact.Known.TheVariants as known

-- the facts of each function, as lists
abbrev pub lists_in : Constants → List (List Fact)
lists_in t = map (λ v. v.items) t.functions.items

abbrev pub facts_at : List (List Fact) → ℕ → List Fact
facts_at lists f = slice_index_or lists f []

abbrev pub same_known : Known → Known → Bool
same_known (known.Scalar r n) (known.Scalar s m) = nat_eq r s && nat_eq n m
same_known (known.Vector r n) (known.Vector s m) = nat_eq r s && nat_eq n m
same_known (known.Full k) (known.Full j) = nat_eq k j
same_known a b = false

-- an instruction is in the range of a fact
abbrev pub is_in : Fact → ℕ → Bool
is_in x pc = nat_lt x.line pc && nat_le pc x.last

-- something is known before an instruction
abbrev pub is_told : ℕ → Known → Fact → Bool
is_told pc k x = is_in x pc && same_known x.known k

abbrev pub tells : List Fact → ℕ → Known → Bool
tells facts pc k = list_any (is_told pc k) facts

-- ---- the registers that an instruction writes

abbrev pub is_vector : Register → Bool
is_vector d = same_class d.class class.Vector

abbrev pub fills_scalar : Option Register → ℕ → Bool
fills_scalar None r = false
fills_scalar (Some d) r = not (is_vector d) && nat_eq r d.number

abbrev pub fills_vector : Option Register → ℕ → Bool
fills_vector None r = false
fills_vector (Some d) r = is_vector d && nat_eq r d.number

abbrev pub writes_scalar : Instr → ℕ → Bool
writes_scalar (instr.Scalar d i) r = nat_eq r d.number
writes_scalar (instr.Divide o d x y k q) r = fills_scalar (Some d) r
writes_scalar (instr.PackedStore d a i y k q) r = nat_eq r d.number
writes_scalar (instr.PackedLoad d a i y k q) r = nat_eq r d.number
writes_scalar (instr.Call k) r = fills_scalar k.result r
writes_scalar i r = false

abbrev pub writes_vector : Instr → ℕ → Bool
writes_vector (instr.Vector d i) r = nat_eq r d.number
writes_vector (instr.Divide o d x y k q) r = fills_vector (Some d) r
writes_vector (instr.PackedLoad d a i y k q) r = nat_eq r y.number
writes_vector (instr.Call k) r = fills_vector k.result r
writes_vector i r = false

abbrev pub writes_mask : Instr → ℕ → Bool
writes_mask (instr.Mask d i) r = nat_eq r d.number
writes_mask i r = false

abbrev pub writes : Instr → Known → Bool
writes i (known.Scalar r n) = writes_scalar i r
writes i (known.Vector r n) = writes_vector i r
writes i (known.Full k) = writes_mask i k

-- it jumps into the range of a fact
abbrev pub enters : Instr → Fact → Bool
enters (instr.Jump to) x = is_in x to
enters (instr.JumpIf t r to) x = is_in x to
enters i x = false

-- in the range of a fact its register is written, or a jump leads into it from elsewhere
abbrev pub breaks : Fact → ℕ → Instr → Bool
breaks x pc i = if is_in x pc then writes i x.known else enters i x

abbrev pub lines_keep : Fact → ℕ → List Instr → Bool
lines_keep x pc [] = true
lines_keep x pc (i ∷ is) = not (breaks x pc i) && lines_keep x (suc pc) is

-- ---- the line by which something is known

abbrev pub settles_scalar : Routine → Register → ScalarInstr → Known → Bool
settles_scalar h d (scalar.Constant z) (known.Scalar r n) = same_class d.class class.Scalar && (nat_eq r d.number && nat_eq n (wrap (elem_of h d) z))
settles_scalar h d i x = false

abbrev pub settles_mask : Register → MaskInstr → Known → Bool
settles_mask d mask.Full (known.Full k) = nat_eq k d.number
settles_mask d i x = false

module _ (facts : List Fact) where
  abbrev pub settles_vector : ℕ → Register → VectorInstr → Known → Bool
  settles_vector pc d (vector.Splat s k) (known.Vector r n) = nat_eq r d.number && (tells facts pc (known.Scalar s.number n) && tells facts pc (known.Full k.number))
  settles_vector pc d i x = false

  module _ (forms : List Form) (h : Routine) where
    abbrev pub settles_by : ℕ → Instr → Known → Bool
    settles_by pc (instr.Scalar d i) x = settles_scalar h d i x
    settles_by pc (instr.Vector d i) x = settles_vector pc d i x
    settles_by pc (instr.Mask d i) x = settles_mask d i x
    settles_by pc i x = false

    abbrev pub settles_at : Option Instr → Fact → Bool
    settles_at None x = false
    settles_at (Some i) x = settles_by x.line i x.known

    abbrev pub is_kept : Form → Bool
    is_kept Kept = true
    is_kept form = false

    abbrev pub fact_passes : Fact → Bool
    fact_passes x = is_kept (form_or_kept forms x.line) && (settles_at (slice_get h.code x.line) x && lines_keep x 0 h.code)

    -- an operand that a form tells is known
    abbrev pub has_amount : ℕ → Instr → ℕ → Bool
    has_amount pc (instr.Vector d (vector.Binary o x y k)) b = tells facts pc (known.Vector y.number b)
    has_amount pc i b = true

    abbrev pub form_passes : ℕ → Instr → Form → Bool
    form_passes pc i (KeptBy b) = has_amount pc i b
    form_passes pc i (FreeBy b) = has_amount pc i b
    form_passes pc i form = true

    abbrev pub amounts_pass : ℕ → List Instr → Bool
    amounts_pass pc [] = true
    amounts_pass pc (i ∷ is) = form_passes pc i (form_or_kept forms pc) && amounts_pass (suc pc) is

    abbrev pub function_passes : Bool
    function_passes = list_all fact_passes facts && amounts_pass 0 h.code

abbrev pub functions_pass : List (List Fact) → List (List Form) → ℕ → List Routine → Bool
functions_pass lists forms f [] = true
functions_pass lists forms f (h ∷ hs) = function_passes (facts_at lists f) (slice_index_or forms f []) h && functions_pass lists forms (suc f) hs
