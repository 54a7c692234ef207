-- Rows that begin with those of a function have what trees of the function name.
use Rattle.std.proofs.Common.{List, ◌++◌, Option, refl, ap, ◌∙◌, arith}
use Rattle.isp_base.specs.declared.types.Elem.{Elem}
use Rattle.isp_base.specs.declared.types.Rate.{Rate}
use Rattle.isp_base.specs.declared.types.Rate.TheVariants.{Uniform, Varying}
use Rattle.isp_base.specs.declared.types.Ty.{Ty}
use Rattle.isp_typed.specs.Fine.{HoldsArray}
use Rattle.isp_typed.specs.Typed.{ty_of}
use Rattle.isp_typed.specs.declared.variable.ArrayVariable.{ArrayVariable}
use Rattle.isp_typed.specs.declared.variable.Holds.TheVariants as holds
use Rattle.isp_typed.specs.declared.variable.Variable as declared
use Rattle.isp_lower_code.specs.Asked.{BeginsWith}
use Rattle.isp_lower_code.specs.Asks.{Ask, Nothing, Both, Register, ArrayOf, LocalOf, MaskOf, Number, Loads}
use Rattle.isp_lower_code.specs.FirstRows.{Begins, first_rows, result_rows, value_rows}
use Rattle.isp_lower_code.specs.Own.{HasArrayRow, HasOwn, HasOwnRow, IsOwn, OwnRegister}
use Rattle.isp_lower_code.specs.Rows.{Name, Variable, Result, Spare, Place, Fresh, Kept, Rows, elem_in, rows_at}
use Rattle.isp_lower_code.proofs.FirstRows.{array_at, result_at, value_at}
use Rattle.isp_lower_code.proofs.Rows.{rows_stay}

module _ (vars : List declared.Variable) (answer : Option Ty) (rows : Rows) (first : BeginsWith (first_rows vars answer) rows) where
  values_begin : (r : Rate) → Begins (value_rows r 0 vars ++ result_rows r answer) (rows_at rows r)
  values_begin Uniform = first.scalars
  values_begin Varying = first.vectors

  row_is : (r : Rate) (x : Name) (t : Elem) → OwnRegister vars answer r x t → HasOwnRow rows r x t
  row_is r (Variable v) t own =
      let b = values_begin r in
      let has = value_at r vars (result_rows r answer) 0 v v (record { holds = holds.Value (ty_of r t); constant = own.constant }) t (omega arith) own.is refl in
      ap (λ z. elem_in z (Variable v)) b.is ∙ (rows_stay (value_rows r 0 vars ++ result_rows r answer) b.more (Variable v) t has).1
  row_is r Result t own = result_at r vars answer t (rows_at rows r) own (values_begin r)
  row_is r (Spare u j) t own = tt
  row_is r Place t own = tt
  row_is r (Fresh j) t own = tt
  row_is r (Kept u k) t own = tt

  array_is : (b : ArrayVariable) → HoldsArray vars b → HasArrayRow rows b
  array_is b own = ap (λ z. elem_in z (Variable b.number)) first.arrays.is ∙ array_at vars first.arrays.more 0 b.number b.number own.variable b.ty (omega arith) own.is own.ty

  pub own_rows : (a : Ask) → IsOwn vars answer a → HasOwn rows a
  own_rows Nothing own = tt
  own_rows (Both x y) own = (own_rows x own.0, own_rows y own.1)
  own_rows (Register r x t) own = row_is r x t own
  own_rows (ArrayOf b) own = array_is b own
  own_rows (LocalOf b) own = array_is b (record { variable = record { holds = holds.Local b.ty own.0; constant = b.constant }; is = own.1; ty = refl; constant = refl })
  own_rows (MaskOf k) own = tt
  own_rows (Number k) own = tt
  own_rows (Loads v) own = tt
