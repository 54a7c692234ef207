-- The locals that no caller passes, in two parts.
use Rattle.std.specs.Prelude.{ℕ, ◌+◌, List, ◌∷◌, ◌++◌, length}
use Rattle.isp_code.specs.Listing.{Routine}
use Rattle.isp_code.specs.Registers.{param_elems, vectors_of}
use Rattle.isp_code.specs.declared.register.Class.TheVariants as class
use Rattle.isp_wasm_meaning.specs.Syntax as wasm
use Rattle.isp_wasm.specs.Locals.{row, vector_places, mask_places, array_places}
use Rattle.isp_wasm.specs.Places.{Place, Counter, Scalar, Fresh, Spare, Depth, Top, parts_for}

-- what is of use within one instruction, and the registers
abbrev pub register_places : ℕ → Routine → List Place
register_places lanes h =
    Counter ∷ Spare wasm.I32 0 ∷ Spare wasm.I32 1 ∷ Spare wasm.I64 0 ∷ row (parts_for lanes wasm.I64x2) Fresh
    ++ (row (length h.scalars) (λ r. Scalar (length (param_elems class.Scalar h.params) + r)) ++ (vector_places lanes (vectors_of h) 0 ++ mask_places h.masks 0))

-- how many calls wait, and the arrays
abbrev pub last_places : Routine → List Place
last_places h = Depth ∷ Top ∷ array_places (length h.locals) (length (param_elems class.Array h.params))
