-- A kernel that opens an array, and calls a function that opens another one: each finds zeros, and neither the other's elements.
use Rattle.std.proofs.Common.{◌≡◌, ℕ, List, [], ◌∷◌, Option, Some, None, true, false, refl}
use Rattle.std.specs.Prelude.{pos, codes}
use Rattle.isp_base.specs.Values.{wrap_to}
use Rattle.isp_base.specs.declared.types.Elem.TheVariants.{I32, I64}
use Rattle.isp_base.specs.declared.types.Gang.TheVariants.{W4}
use Rattle.isp_code.specs.Listing.{Listing, Routine}
use Rattle.isp_code.specs.declared.function.Local.{Local}
use Rattle.isp_code.specs.declared.function.Returns.TheVariants.{Scalar as GivesScalar}
use Rattle.isp_code.specs.declared.function.Sharing.TheVariants.{Shared}
use Rattle.isp_code.specs.declared.instr.Instr.{Instr}
use Rattle.isp_code.specs.declared.instr.Instr.TheVariants as instr
use Rattle.isp_code.specs.declared.instr.Plain.TheVariants as plain
use Rattle.isp_code.specs.declared.instr.ScalarInstr.TheVariants as scalar
use Rattle.isp_verify.specs.Faults.{code_fault}
use Rattle.isp_wasm_meaning.specs.Digits.{digit, packed}
use Rattle.isp_wasm_meaning.specs.Meaning.{State, Result, Returned, Trapped, called}
use Rattle.isp_wasm_meaning.specs.Module.{code_in}
use Rattle.isp_wasm.specs.Brighten.{s, m, a}
use Rattle.isp_wasm.specs.Module.{is_covered, module_of}

-- so many elements of 32 bits
abbrev pub i32s : ℕ → Local
i32s n = record { sharing = Shared; elem = I32; size = n }

-- element 1 of its array, and 5 more there, for the caller to find if it were its own
abbrev pub inner_code : List Instr
inner_code =
    instr.Scalar (s 0) (scalar.Constant (pos 1)) ∷ instr.Scalar (s 1) (scalar.Load (a 0) (s 0) (m 0) 0)
    ∷ instr.Scalar (s 2) (scalar.Constant (pos 5)) ∷ instr.Scalar (s 2) (scalar.Binary plain.Add (s 1) (s 2)) ∷ instr.Store (a 0) (s 0) (s 2) (m 0) 0
    ∷ instr.Return (Some (s 2)) ∷ []

-- 7 in element 1 of its own; two calls, and the sum of all three
abbrev pub kernel_code : List Instr
kernel_code =
    instr.Scalar (s 0) (scalar.Constant (pos 1)) ∷ instr.Scalar (s 1) (scalar.Constant (pos 7)) ∷ instr.Store (a 0) (s 0) (s 1) (m 0) 0
    ∷ instr.Call (record { function = 1; result = Some (s 1); mask = m 0; place = 0; arguments = [] })
    ∷ instr.Call (record { function = 1; result = Some (s 2); mask = m 0; place = 0; arguments = [] })
    ∷ instr.Scalar (s 1) (scalar.Binary plain.Add (s 1) (s 2)) ∷ instr.Scalar (s 2) (scalar.Load (a 0) (s 0) (m 0) 0) ∷ instr.Scalar (s 1) (scalar.Binary plain.Add (s 1) (s 2))
    ∷ instr.Clear (a 0) (m 0) ∷ instr.Scalar (s 2) (scalar.Load (a 0) (s 0) (m 0) 0) ∷ instr.Scalar (s 1) (scalar.Binary plain.Add (s 1) (s 2))
    ∷ instr.Return (Some (s 1)) ∷ []

abbrev pub kernel : Routine
kernel = record { name = codes "sum"; exported = true; returns = GivesScalar I32; params = []; locals = i32s 2 ∷ []; scalars = I64 ∷ I32 ∷ I32 ∷ []; vectors = []; masks = 1; code = kernel_code }

abbrev pub inner : Routine
inner = record { name = codes "one"; exported = false; returns = GivesScalar I32; params = []; locals = i32s 3 ∷ []; scalars = I64 ∷ I32 ∷ I32 ∷ []; vectors = []; masks = 1; code = inner_code }

abbrev pub both : Listing
both = record { gang = W4; places = record { start = 0; end = 0 } ∷ []; texts = []; routines = kernel ∷ inner ∷ [] }

pub accepted : code_fault both ≡ None
accepted = refl

pub covers : is_covered both kernel ≡ true
covers = refl

-- what the call gives back, or that it traps and the host is told of nothing
abbrev pub seen : Result → Option (Option ℕ)
seen (Returned x u) = Some x
seen (Trapped None u) = Some None
seen r = None

-- a memory of so many bytes, none of them zero, where arrays lie from address 8 on
abbrev pub dirty : ℕ → State
dirty n = record { locals = λ x. 0; globals = λ x. 8; memory = λ b. 255; size = n; out = [] }

-- 5 + 5 + 7 + 0; the arrays have 20 bytes
pub summed : seen (called (code_in (module_of both)) 9 0 [] (dirty 29)) ≡ Some (Some 17)
unfolding packed digit wrap_to
summed = refl

pub no_room : seen (called (code_in (module_of both)) 9 0 [] (dirty 28)) ≡ Some None
unfolding packed digit wrap_to
no_room = refl
