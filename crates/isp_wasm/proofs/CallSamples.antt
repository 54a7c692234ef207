-- A kernel that calls and writes: `double` of a vector, its lanes written, and their sum given back.
use Rattle.std.proofs.Common.{◌≡◌, ℕ, List, [], ◌∷◌, Option, Some, None, true, false, refl}
use Rattle.std.specs.Prelude.{codes}
use Rattle.std.specs.Fmt.{digits}
use Rattle.isp_base.specs.Values.{wrap_to}
use Rattle.isp_base.specs.declared.types.Elem.TheVariants.{I32, I64}
use Rattle.isp_base.specs.declared.types.Gang.TheVariants.{W4}
use Rattle.isp_code.specs.Listing.{Listing, Routine}
use Rattle.isp_code.specs.declared.function.ParamKind.TheVariants as kind
use Rattle.isp_code.specs.declared.function.Returns.TheVariants.{Scalar as GivesScalar, Vector as GivesVector}
use Rattle.isp_code.specs.declared.instr.Instr.TheVariants as instr
use Rattle.isp_code.specs.declared.instr.Plain.TheVariants as plain
use Rattle.isp_code.specs.declared.instr.Reduction.TheVariants as reduction
use Rattle.isp_code.specs.declared.instr.ScalarInstr.TheVariants as scalar
use Rattle.isp_code.specs.declared.instr.VectorInstr.TheVariants as vector
use Rattle.isp_verify.specs.Faults.{code_fault}
use Rattle.isp_wasm_meaning.specs.Digits.{digit, packed}
use Rattle.isp_wasm_meaning.specs.Meaning.{State, Result, Returned, called}
use Rattle.isp_wasm_meaning.specs.Module.{code_in}
use Rattle.isp_wasm.specs.Brighten.{s, v, m}
use Rattle.isp_wasm.specs.Module.{is_covered, module_of}

abbrev pub kernel : Routine
kernel =
    record {
      name = codes "sum";
      exported = true;
      returns = GivesScalar I64;
      params = record { name = codes "x"; kind = kind.Scalar; elem = I32 } ∷ [];
      locals = [];
      scalars = I64 ∷ [];
      vectors = I32 ∷ I32 ∷ [];
      masks = 1;
      code =
          instr.Vector (v 0) (vector.Splat (s 0) (m 0))
          ∷ instr.Call (record { function = 1; result = Some (v 1); mask = m 0; place = 0; arguments = v 0 ∷ [] })
          ∷ instr.PrintVector (v 1) (m 0) ∷ instr.Scalar (s 1) (scalar.Reduce reduction.Add (v 1) (m 0)) ∷ instr.Return (Some (s 1)) ∷ [];
    }

abbrev pub double : Routine
double =
    record {
      name = codes "double";
      exported = false;
      returns = GivesVector I32;
      params = record { name = codes "x"; kind = kind.Vector; elem = I32 } ∷ [];
      locals = [];
      scalars = [];
      vectors = I32 ∷ [];
      masks = 1;
      code = instr.Vector (v 1) (vector.Binary plain.Add (v 0) (v 0) (m 0)) ∷ instr.Return (Some (v 1)) ∷ [];
    }

abbrev pub both : Listing
both = record { gang = W4; places = record { start = 0; end = 0 } ∷ []; texts = []; routines = kernel ∷ double ∷ [] }

pub accepted : code_fault both ≡ None
accepted = refl

pub covers : is_covered both kernel ≡ true
covers = refl

-- what the call gives back, and what was written
abbrev pub seen : Result → Option ℕ × List ℕ
seen (Returned x u) = (x, u.out)
seen r = (None, [])

abbrev pub page : State
page = record { locals = λ x. 0; globals = λ x. 0; memory = λ a. 0; size = 65536; out = [] }

-- of -7, in 32 bits
pub doubled : seen (called (code_in (module_of both)) 9 0 (4294967289 ∷ []) page) ≡ (Some 18446744073709551560, codes "[-14,-14,-14,-14]")
unfolding packed digit wrap_to digits
doubled = refl
