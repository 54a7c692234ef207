-- The numbers of a function's locals: its places in order, the parameters first.
use Rattle.std.specs.Prelude.{ℕ, zero, suc, ◌+◌, ◌*◌, List, [], ◌∷◌, ◌++◌, length, map, if◌then◌else◌, nat_eq}
use Rattle.isp_base.specs.declared.types.Elem.{Elem}
use Rattle.isp_code.specs.Listing.{Routine}
use Rattle.isp_code.specs.Registers.{param_elems, vectors_of}
use Rattle.isp_code.specs.declared.function.Param.{Param}
use Rattle.isp_code.specs.declared.function.ParamKind.{ParamKind}
use Rattle.isp_code.specs.declared.function.ParamKind.TheVariants as kind
use Rattle.isp_code.specs.declared.register.Class.TheVariants as class
use Rattle.isp_wasm_meaning.specs.Syntax as wasm
use Rattle.isp_wasm.specs.Places.{Place, Counter, Scalar, Vector, Mask, Base, Count, Fresh, Spare, Depth, Top, shape_of, parts_for}

-- ---- places in order

-- n of them
abbrev pub row : ℕ → (ℕ → Place) → List Place
row zero place = []
row (suc n) place = place 0 ∷ row n (λ j. place (suc j))

-- A parameter is a scalar, or where an array begins and its number of elements; so many scalars and arrays come before. What
-- is exported takes no vector.
abbrev pub passing : ParamKind → (ℕ → ℕ → List Place) → (scalars arrays : ℕ) → List Place
passing kind.Scalar more r a = Scalar r ∷ more (suc r) a
passing kind.Array more r a = Base a ∷ Count a ∷ more r (suc a)
passing kind.Vector more r a = more r a

abbrev pub params_from : List Param → (scalars arrays : ℕ) → List Place
params_from [] r a = []
params_from (p ∷ ps) r a = passing p.kind (params_from ps) r a

abbrev pub param_places : Routine → List Place
param_places h = params_from h.params 0 0

-- the parts of all vectors, from number r on, in a gang of so many lanes
abbrev pub vector_places : ℕ → List Elem → ℕ → List Place
vector_places lanes [] r = []
vector_places lanes (t ∷ ts) r = row (parts_for lanes (shape_of t)) (Vector r) ++ vector_places lanes ts (suc r)

-- each mask has two parts
abbrev pub mask_places : ℕ → ℕ → List Place
mask_places zero r = []
mask_places (suc n) r = Mask r 0 ∷ Mask r 1 ∷ mask_places n (suc r)

-- the arrays that it opens
abbrev pub array_places : ℕ → ℕ → List Place
array_places zero a = []
array_places (suc n) a = Base a ∷ Count a ∷ array_places n (suc a)

abbrev pub own_places : ℕ → Routine → List Place
own_places lanes h =
    let passed = length (param_elems class.Scalar h.params) in
    Counter ∷ Spare wasm.I32 0 ∷ Spare wasm.I32 1 ∷ Spare wasm.I64 0 ∷ row (parts_for lanes wasm.I64x2) Fresh
    ++ (row (length h.scalars) (λ r. Scalar (passed + r)) ++ (vector_places lanes (vectors_of h) 0 ++ (mask_places h.masks 0 ++ Depth ∷ Top ∷ array_places (length h.locals) (length (param_elems class.Array h.params)))))

-- What a function is given that another one calls: how many calls wait, where the next array lies, the mask of the call, and its parameters, a vector by
-- its parts. So many scalars, vectors and arrays come before.
abbrev pub taking : ℕ → ParamKind → Elem → (ℕ → ℕ → ℕ → List Place) → (scalars vectors arrays : ℕ) → List Place
taking lanes kind.Scalar t more r v a = Scalar r ∷ more (suc r) v a
taking lanes kind.Array t more r v a = Base a ∷ Count a ∷ more r v (suc a)
taking lanes kind.Vector t more r v a = row (parts_for lanes (shape_of t)) (Vector v) ++ more r (suc v) a

abbrev pub taken_from : ℕ → List Param → (scalars vectors arrays : ℕ) → List Place
taken_from lanes [] r v a = []
taken_from lanes (p ∷ ps) r v a = taking lanes p.kind p.elem (taken_from lanes ps) r v a

abbrev pub taken_places : ℕ → Routine → List Place
taken_places lanes h = Depth ∷ Top ∷ (row (parts_for lanes wasm.I8x16) (Mask 0) ++ taken_from lanes h.params 0 0 0)

-- ---- their numbers

-- two numbers in one
abbrev pub paired : ℕ → ℕ → ℕ
paired r j = (r + j) * (r + j) + j

-- two places have two names
abbrev pub name_of : Place → ℕ
name_of Counter = 0
name_of (Scalar r) = 9 * r + 1
name_of (Vector r j) = 9 * paired r j + 2
name_of (Mask r j) = 9 * paired r j + 3
name_of (Base a) = 9 * a + 4
name_of (Count a) = 9 * a + 5
name_of (Fresh j) = 9 * j + 6
name_of (Spare wasm.I32 j) = 9 * j + 7
name_of (Spare wasm.I64 j) = 9 * j + 8
name_of Depth = 9
name_of Top = 18

-- where a number stands first in a list; one that does not stand there is counted on past its end
abbrev pub position : List ℕ → ℕ → ℕ
position [] x = x
position (y ∷ ys) x = if nat_eq y x then 0 else suc (position ys x)

abbrev pub local_at : List Place → Place → ℕ
local_at qs p = position (map name_of qs) (name_of p)

-- Each place that accepted code names is in the list: in a function that a host calls, and in one that another one calls.
abbrev pub local_in : ℕ → Routine → Place → ℕ
local_in lanes h p = local_at (param_places h ++ own_places lanes h) p

abbrev pub inner_local : ℕ → Routine → Place → ℕ
inner_local lanes h p = local_at (taken_places lanes h ++ own_places lanes h) p
