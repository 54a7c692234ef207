-- Where the rows of a function's variables and result come first: the header is that of its parameters, and the result has its
-- row.
use Rattle.std.proofs.Common.{◌≡◌, ℕ, zero, suc, List, [], ◌∷◌, map, take, Option, Some, None, Bool, false, refl, sym, ap, ◌∙◌}
use Rattle.isp_base.specs.declared.signature.Parameter.{Parameter}
use Rattle.isp_base.specs.declared.types.Elem.{Elem}
use Rattle.isp_base.specs.declared.types.Rate.{Rate}
use Rattle.isp_base.specs.declared.types.Rate.TheVariants.{Uniform, Varying}
use Rattle.isp_base.specs.declared.types.Ty.{Ty}
use Rattle.isp_code.specs.Entries.{is_array, parameter_of}
use Rattle.isp_typed.specs.Fine.{IsParam, AreParams}
use Rattle.isp_typed.specs.Typed.{ty_of}
use Rattle.isp_typed.specs.declared.variable.Holds.{Holds}
use Rattle.isp_typed.specs.declared.variable.Holds.TheVariants as holds
use Rattle.isp_typed.specs.declared.variable.Variable.{Variable as Declared}
use Rattle.isp_lower_code.specs.FirstRows.{Begins, first_rows}
use Rattle.isp_lower_code.specs.Rows.{Result, Rows, elem_in, rows_at}
use Rattle.isp_lower_code.proofs.Lemmas.{result_at}
use Rattle.isp_lower_code.specs.Header.{value_kind, kind_of, elem_held, param_of, params_of}
use Rattle.isp_masks_code.specs.Made.{ResultRow}

-- ---- the header's parameters are the function's

value_passed : (r : Rate) → is_array (value_kind r) ≡ false
value_passed Uniform = refl
value_passed Varying = refl

parameter_same : (p : Parameter) (x : Holds) → IsParam p x → parameter_of (param_of p x) ≡ p
parameter_same p x i = made (elem_held x) (is_array (kind_of x)) (go x i).0 (go x i).1
  where
    go : (y : Holds) → IsParam p y → (p.elem ≡ elem_held y) × (p.is_array ≡ is_array (kind_of y))
    go (holds.Value t) i = (i.1, i.0 ∙ sym (value_passed t.rate))
    go (holds.Given e) i = (i.1, i.0)
    go (holds.Local t n) i = absurd i

    made : (e : Elem) (b : Bool) → p.elem ≡ e → p.is_array ≡ b → record { name = p.name; elem = e; is_array = b } ≡ p
    made e b he hb =
        let first : record { name = p.name; elem = e; is_array = b } ≡ record { name = p.name; elem = p.elem; is_array = b } = ap (λ z. record { name = p.name; elem = z; is_array = b }) (sym he) in
        let second : record { name = p.name; elem = p.elem; is_array = b } ≡ p = ap (λ z. record { name = p.name; elem = p.elem; is_array = z }) (sym hb) in
        first ∙ second

-- the first n of the variables are the parameters
pub parameters_same : (n : ℕ) (ps : List Parameter) (vs : List Declared) → AreParams ps (take n vs) → map parameter_of (params_of ps vs) ≡ ps
parameters_same n [] vs a = refl
parameters_same zero (p ∷ ps) vs a = absurd a
parameters_same (suc n) (p ∷ ps) [] a = absurd a
parameters_same (suc n) (p ∷ ps) (v ∷ vs) a =
    ap (λ z. z ∷ map parameter_of (params_of ps vs)) (parameter_same p v.holds a.0) ∙ ap (λ z. p ∷ z) (parameters_same n ps vs a.1)

-- ---- the result has a row

pub result_row : (vs : List Declared) (answer : Option Ty) (rows : Rows) → Begins (first_rows vs answer).scalars rows.scalars → Begins (first_rows vs answer).vectors rows.vectors → ResultRow rows answer
result_row vs None rows s v = tt
result_row vs (Some t) rows s v = go t.rate refl
  where
    go : (r : Rate) → t.rate ≡ r → elem_in (rows_at rows r) Result ≡ Some t.elem
    go Uniform e = result_at Uniform vs (Some t) t.elem rows.scalars (ap (λ z. Some (ty_of z t.elem)) e) s
    go Varying e = result_at Varying vs (Some t) t.elem rows.vectors (ap (λ z. Some (ty_of z t.elem)) e) v
