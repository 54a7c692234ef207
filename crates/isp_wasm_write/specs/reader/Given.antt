-- What a caller passes, whoever it is: a host passes no vector.
use Rattle.std.specs.Prelude.{ℕ, suc, List, [], ◌∷◌, ◌++◌}
use Rattle.isp_base.specs.declared.types.Elem.{Elem}
use Rattle.isp_code.specs.declared.function.Param.{Param}
use Rattle.isp_code.specs.declared.function.ParamKind.{ParamKind}
use Rattle.isp_code.specs.declared.function.ParamKind.TheVariants as kind
use Rattle.isp_wasm_meaning.specs.Syntax as wasm
use Rattle.isp_wasm.specs.Locals.{row}
use Rattle.isp_wasm.specs.Places.{Place, Scalar, Vector, Mask, Base, Count, Depth, Top, shape_of, parts_for}
use Rattle.isp_wasm_write.specs.declared.kernel.Caller.{Caller}
use Rattle.isp_wasm_write.specs.declared.kernel.Caller.TheVariants.{Host, Function}

-- how many locals a vector is
abbrev pub vector_width : Caller → ℕ → Elem → ℕ
vector_width Host lanes t = 0
vector_width Function lanes t = parts_for lanes (shape_of t)

abbrev pub param_width : Caller → ℕ → ParamKind → Elem → ℕ
param_width c lanes kind.Scalar t = 1
param_width c lanes kind.Array t = 2
param_width c lanes kind.Vector t = vector_width c lanes t

-- the places of a parameter, and of those after it; so many scalars, vectors and arrays come before
abbrev pub giving : Caller → ℕ → ParamKind → Elem → (ℕ → ℕ → ℕ → List Place) → (scalars vectors arrays : ℕ) → List Place
giving c lanes kind.Scalar t more r v a = Scalar r ∷ more (suc r) v a
giving c lanes kind.Array t more r v a = Base a ∷ Count a ∷ more r v (suc a)
giving c lanes kind.Vector t more r v a = row (vector_width c lanes t) (Vector v) ++ more r (suc v) a

abbrev pub given_from : Caller → ℕ → List Param → (scalars vectors arrays : ℕ) → List Place
given_from c lanes [] r v a = []
given_from c lanes (p ∷ ps) r v a = giving c lanes p.kind p.elem (given_from c lanes ps) r v a

-- what a call passes before its arguments
abbrev pub call_places : Caller → ℕ → List Place
call_places Host lanes = []
call_places Function lanes = Depth ∷ Top ∷ row (parts_for lanes wasm.I8x16) (Mask 0)
