-- What is asked for is in the table of registers, and stays there.
use Rattle.std.proofs.Common.{ℕ, ◌≤◌, List, sym, subst, arith}
use Rattle.isp_base.specs.declared.types.Elem.{Elem}
use Rattle.isp_base.specs.declared.types.Rate.{Rate}
use Rattle.isp_base.specs.declared.types.Rate.TheVariants.{Uniform, Varying}
use Rattle.isp_code.specs.Listing.{Routine}
use Rattle.isp_typed.specs.declared.variable.Variable.{Variable as Declared}
use Rattle.isp_lower_code.specs.Asks.{Ask, Nothing, Both, Register, ArrayOf, LocalOf, MaskOf, Number, Loads, expr_asks, simple_asks}
use Rattle.isp_registers.specs.Growth.{Grows, HasRow, rows_of}
use Rattle.isp_registers.specs.Reserved.{Has}
use Rattle.isp_lower_code.specs.Rows.{Name, Variable, layout_of}
use Rattle.isp_lower_code.specs.Setting.{Setting}
use Rattle.isp_lower_code.specs.Tables.{IsNamedIn, Table}
use Rattle.isp_registers.specs.declared.reserve.Reserve.{Reserve}
use Rattle.isp_emitter_laws.specs.Fitting.{WrittenFits}
use Rattle.isp_emitter_laws.specs.OfRows.{IsOfRows}
use Rattle.isp_emitter_laws.specs.Staying.{ReservedStays}
use Rattle.isp_emitter_laws.proofs.Arrays.{AreHeld, expr_held, simple_held}
use Rattle.isp_emitter_laws.proofs.Rows.{named_in, row_stays, some_stays}

-- ---- the table of registers

module _ (h : Routine) (rates : ℕ → List Rate) (r : Reserve) (vars : List Declared) (named : (q : Rate) (x : Name) (t : Elem) → HasRow r.registers q x t → IsNamedIn h (layout_of rates (rows_of r.registers)) q x t) where
  table_of : (a : Ask) → AreHeld vars a → Has r a → Table h (layout_of rates (rows_of r.registers)) vars a
  table_of Nothing held f = tt
  table_of (Both x y) held f = (table_of x held.0 f.0, table_of y held.1 f.1)
  table_of (Register q x t) held f = named q x t f
  table_of (ArrayOf b) held f = held
  table_of (LocalOf b) held f = held
  table_of (MaskOf k) held f = tt
  table_of (Number k) held f = f
  table_of (Loads v) held f = f

in_table : (w : Setting) (r : Reserve) (a : Ask) → IsOfRows w (rows_of r.registers) → AreHeld w.function.variables a → Has r a → Table w.routine w.layout w.function.variables a
in_table w r a of held f =
    let named = named_in w.routine w.layout.rates (rows_of r.registers) of.scalars of.vectors in
    subst (λ l. Table w.routine l w.function.variables a) (sym of.layout) (table_of w.routine w.layout.rates r w.function.variables named a held f)

pub written_fits : WrittenFits
written_fits =
    record {
      exprs = λ w r x n of fine rated has. record { fine = fine; rated = rated; named = in_table w r (expr_asks x n) of (expr_held w.function.variables w.program.functions x n fine) has };
      simples = λ w r x n of fine rated has. record { fine = fine; rated = rated; named = in_table w r (simple_asks x n) of (simple_held w.function.variables w.program.functions x n fine) has };
    }

-- ---- what is there stays there

module _ (old new : Reserve) (grows : Grows old.registers new.registers) (masks : old.masks ≤ new.masks) where
  register_stays : (q : Rate) (x : Name) (t : Elem) → HasRow old.registers q x t → HasRow new.registers q x t
  register_stays Uniform x t f = row_stays (rows_of old.registers).scalars (rows_of new.registers).scalars x t grows.scalars f
  register_stays Varying x t f = row_stays (rows_of old.registers).vectors (rows_of new.registers).vectors x t grows.vectors f

  pub has_stays : (a : Ask) → Has old a → Has new a
  has_stays Nothing f = tt
  has_stays (Both x y) f = (has_stays x f.0, has_stays y f.1)
  has_stays (Register q x t) f = register_stays q x t f
  has_stays (ArrayOf b) f = row_stays (rows_of old.registers).arrays (rows_of new.registers).arrays (Variable b.number) b.ty.elem grows.arrays f
  has_stays (LocalOf b) f = row_stays (rows_of old.registers).arrays (rows_of new.registers).arrays (Variable b.number) b.ty.elem grows.arrays f
  has_stays (MaskOf k) f = omega (arith, f, masks)
  has_stays (Number k) f = f
  has_stays (Loads v) f = some_stays (rows_of old.registers).loaded (rows_of new.registers).loaded (Variable v) grows.loaded f

pub reserved_stays : ReservedStays
reserved_stays old new a grows masks f = has_stays old new grows masks a f
