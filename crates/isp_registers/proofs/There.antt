-- What a walk reserved is all that code asks for, where the function at work has its own: from its beginning, or by then.
use Rattle.std.proofs.Common.{◌≡◌, List, ◌++◌, Option, refl, ap, ◌∙◌, subst, arith}
use Rattle.isp_base.specs.declared.types.Elem.{Elem}
use Rattle.isp_base.specs.declared.types.Rate.{Rate}
use Rattle.isp_base.specs.declared.types.Rate.TheVariants.{Uniform, Varying}
use Rattle.isp_base.specs.declared.types.Ty.{Ty}
use Rattle.isp_typed.specs.Fine.{HoldsArray}
use Rattle.isp_typed.specs.Typed.{ty_of}
use Rattle.isp_typed.specs.declared.variable.ArrayVariable.{ArrayVariable}
use Rattle.isp_typed.specs.declared.variable.Holds.TheVariants as holds
use Rattle.isp_typed.specs.declared.variable.Variable.{Variable as Declared}
use Rattle.isp_lower_code.specs.Asks.{Ask, Nothing, Both, Register, ArrayOf, LocalOf, MaskOf, Number, Loads}
use Rattle.isp_lower_code.specs.FirstRows.{Begins, value_rows, result_rows, first_rows}
use Rattle.isp_registers.specs.Growth.{Grows, HasArray, HasRow, rows_of}
use Rattle.isp_lower_code.specs.Own.{HasOwn, IsOwn, OwnRegister}
use Rattle.isp_registers.specs.Reserved.{Has, HasSpare, IsReserved}
use Rattle.isp_lower_code.specs.Rows.{Name, Variable, Result, Spare, Place, Fresh, Kept, Rows, elem_in, rows_at}
use Rattle.isp_registers.specs.declared.registers.Registers.{Registers}
use Rattle.isp_registers.specs.declared.reserve.Reserve.{Reserve}
use Rattle.isp_registers.proofs.Growing.{row_grows}
use Rattle.isp_lower_code.proofs.Lemmas.{array_at, result_at, rows_stay, stays_in, value_at}

-- ---- registers that begin with them

module _ (vars : List Declared) (answer : Option Ty) (first : Registers) (begun : rows_of first ≡ first_rows vars answer) where
  values_begin : (new : Registers) → Grows first new → (r : Rate) → Begins (value_rows r 0 vars ++ result_rows r answer) (rows_at (rows_of new) r)
  values_begin new g Uniform = subst (λ (z : Rows). Begins z.scalars (rows_of new).scalars) begun g.scalars
  values_begin new g Varying = subst (λ (z : Rows). Begins z.vectors (rows_of new).vectors) begun g.vectors

  row_is : (new : Registers) → Grows first new → (r : Rate) (x : Name) (t : Elem) → HasSpare new r x t → OwnRegister vars answer r x t → HasRow new r x t
  row_is new g r (Variable v) t s own =
      let b = values_begin new g r in
      let has = value_at r vars (result_rows r answer) 0 v v (record { holds = holds.Value (ty_of r t); constant = own.constant }) t (omega arith) own.is refl in
      ap (λ z. elem_in z (Variable v)) b.is ∙ (rows_stay (value_rows r 0 vars ++ result_rows r answer) b.more (Variable v) t has).1
  row_is new g r Result t s own = result_at r vars answer t (rows_at (rows_of new) r) own (values_begin new g r)
  row_is new g r (Spare u j) t s own = s
  row_is new g r Place t s own = s
  row_is new g r (Fresh j) t s own = s
  row_is new g r (Kept u k) t s own = s

  array_is : (new : Registers) → Grows first new → (b : ArrayVariable) → HoldsArray vars b → HasArray new b
  array_is new g b own =
      let begins = subst (λ (z : Rows). Begins z.arrays (rows_of new).arrays) begun g.arrays in
      ap (λ z. elem_in z (Variable b.number)) begins.is ∙ array_at vars begins.more 0 b.number b.number own.variable b.ty (omega arith) own.is own.ty

  -- what a walk reserved, and what is of the function, is all that is asked for
  pub all_there : (new : Reserve) → Grows first new.registers → (a : Ask) → IsReserved new a → IsOwn vars answer a → Has new a
  all_there new g Nothing f own = tt
  all_there new g (Both x y) f own = (all_there new g x f.0 own.0, all_there new g y f.1 own.1)
  all_there new g (Register r x t) f own = row_is new.registers g r x t f own
  all_there new g (ArrayOf b) f own = array_is new.registers g b own
  all_there new g (LocalOf b) f own =
      array_is new.registers g b (record { variable = record { holds = holds.Local b.ty own.0; constant = b.constant }; is = own.1; ty = refl; constant = refl })
  all_there new g (MaskOf k) f own = f
  all_there new g (Number k) f own = f
  all_there new g (Loads v) f own = f

-- what a walk reserved, and what the function at work had before, is all that is asked for
pub all_joined : (a b : Reserve) → Grows a.registers b.registers → (x : Ask) → IsReserved b x → HasOwn (rows_of a.registers) x → Has b x
all_joined a b g Nothing f own = tt
all_joined a b g (Both x y) f own = (all_joined a b g x f.0 own.0, all_joined a b g y f.1 own.1)
all_joined a b g (Register r (Variable v) t) f own = row_grows a.registers b.registers g r (Variable v) t own
all_joined a b g (Register r Result t) f own = row_grows a.registers b.registers g r Result t own
all_joined a b g (Register r (Spare u j) t) f own = f
all_joined a b g (Register r Place t) f own = f
all_joined a b g (Register r (Fresh j) t) f own = f
all_joined a b g (Register r (Kept u k) t) f own = f
all_joined a b g (ArrayOf v) f own = (stays_in (rows_of a.registers).arrays (rows_of b.registers).arrays (Variable v.number) v.ty.elem g.arrays own).1
all_joined a b g (LocalOf v) f own = (stays_in (rows_of a.registers).arrays (rows_of b.registers).arrays (Variable v.number) v.ty.elem g.arrays own).1
all_joined a b g (MaskOf k) f own = f
all_joined a b g (Number k) f own = f
all_joined a b g (Loads v) f own = f
