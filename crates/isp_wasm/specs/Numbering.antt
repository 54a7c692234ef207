-- The numbers of locals as sums, for who writes them: what specs/Locals.antt says of a list, given place by place.
use Rattle.std.specs.Prelude.{◌≡◌, ℕ, zero, suc, ◌+◌, ◌*◌, ◌<◌, List, [], ◌∷◌, length, slice_index_or}
use Rattle.isp_base.specs.declared.types.Elem.{Elem}
use Rattle.isp_base.specs.declared.types.Elem.TheVariants.{Bool as Truth}
use Rattle.isp_code.specs.Listing.{Routine}
use Rattle.isp_code.specs.Registers.{param_elems, vectors_of}
use Rattle.isp_code.specs.declared.function.Param.{Param}
use Rattle.isp_code.specs.declared.function.ParamKind.{ParamKind}
use Rattle.isp_code.specs.declared.function.ParamKind.TheVariants as kind
use Rattle.isp_code.specs.declared.register.Class.TheVariants as class
use Rattle.isp_wasm_meaning.specs.Syntax as wasm
use Rattle.isp_wasm.specs.Places.{Counter, Scalar, Vector, Mask, Base, Count, Fresh, Spare, Depth, Top, shape_of, parts_for}
use Rattle.isp_wasm.specs.Locals.{param_places, local_in}

-- how many locals a parameter has
abbrev pub width_of : ParamKind → ℕ
width_of kind.Scalar = 1
width_of kind.Array = 2
width_of kind.Vector = 0

-- the number of the r-th scalar among the parameters, and of the a-th array's address
abbrev pub next_scalar : ParamKind → (ℕ → ℕ) → ℕ → ℕ
next_scalar kind.Scalar more zero = 0
next_scalar kind.Scalar more (suc r) = 1 + more r
next_scalar k more r = width_of k + more r

abbrev pub next_array : ParamKind → (ℕ → ℕ) → ℕ → ℕ
next_array kind.Array more zero = 0
next_array kind.Array more (suc a) = 2 + more a
next_array k more a = width_of k + more a

abbrev pub scalar_number : List Param → ℕ → ℕ
scalar_number [] r = 0
scalar_number (p ∷ ps) r = next_scalar p.kind (scalar_number ps) r

abbrev pub array_number : List Param → ℕ → ℕ
array_number [] a = 0
array_number (p ∷ ps) a = next_array p.kind (array_number ps) a

-- how many parts the first r vectors have
abbrev pub parts_before : ℕ → List Elem → ℕ → ℕ
parts_before lanes [] r = 0
parts_before lanes (t ∷ ts) zero = 0
parts_before lanes (t ∷ ts) (suc r) = parts_for lanes (shape_of t) + parts_before lanes ts r

module _ (lanes : ℕ) (h : Routine) where
  abbrev pub own_from : ℕ
  own_from = length (param_places h)

  abbrev pub scalars_from : ℕ
  scalars_from = own_from + 4 + parts_for lanes wasm.I64x2

  abbrev pub vectors_from : ℕ
  vectors_from = scalars_from + length h.scalars

  abbrev pub masks_from : ℕ
  masks_from = vectors_from + parts_before lanes (vectors_of h) (length (vectors_of h))

  pub record AreNumbered : Type 0 where
    pub params : (r : ℕ) → r < length (param_elems class.Scalar h.params) → local_in lanes h (Scalar r) ≡ scalar_number h.params r
    pub bases : (a : ℕ) → a < length (param_elems class.Array h.params) → local_in lanes h (Base a) ≡ array_number h.params a
    pub counts : (a : ℕ) → a < length (param_elems class.Array h.params) → local_in lanes h (Count a) ≡ array_number h.params a + 1
    pub counter : local_in lanes h Counter ≡ own_from
    pub spare : local_in lanes h (Spare wasm.I32 0) ≡ own_from + 1
    pub seen : local_in lanes h (Spare wasm.I32 1) ≡ own_from + 2
    pub long_spare : local_in lanes h (Spare wasm.I64 0) ≡ own_from + 3
    pub fresh : (j : ℕ) → j < parts_for lanes wasm.I64x2 → local_in lanes h (Fresh j) ≡ own_from + 4 + j
    pub scalars : (r : ℕ) → r < length h.scalars → local_in lanes h (Scalar (length (param_elems class.Scalar h.params) + r)) ≡ scalars_from + r
    pub vectors : (r j : ℕ) → r < length (vectors_of h) → j < parts_for lanes (shape_of (slice_index_or (vectors_of h) r Truth))
        → local_in lanes h (Vector r j) ≡ vectors_from + parts_before lanes (vectors_of h) r + j
    pub masks : (r j : ℕ) → r < h.masks → j < 2 → local_in lanes h (Mask r j) ≡ masks_from + 2 * r + j
    pub depth : local_in lanes h Depth ≡ masks_from + 2 * h.masks
    pub top : local_in lanes h Top ≡ masks_from + 2 * h.masks + 1

abbrev pub LocalsAreNumbered : Type 0
LocalsAreNumbered = (lanes : ℕ) (h : Routine) → AreNumbered lanes h
