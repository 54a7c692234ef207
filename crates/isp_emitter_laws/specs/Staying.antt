-- What an emitter reserved stays, and so does the code that was written with it, while registers and masks are added.
use Rattle.std.specs.Prelude.{◌≡◌, ◌≤◌, ℕ, List}
use Rattle.isp_base.specs.declared.types.Elem.{Elem}
use Rattle.isp_base.specs.declared.types.Rate.{Rate}
use Rattle.isp_typed.specs.Typed.{TExpr, TSimple}
use Rattle.isp_lower_code.specs.Asks.{Ask, expr_asks, simple_asks}
use Rattle.isp_lower_code.specs.Code.{expr_code}
use Rattle.isp_lower_code.specs.Found.{found}
use Rattle.isp_registers.specs.Growth.{Grows, rows_of}
use Rattle.isp_registers.specs.Reserved.{Has}
use Rattle.isp_lower_code.specs.Rows.{layout_of, with_fresh_from_at}
use Rattle.isp_lower_code.specs.Simple.{simple_code}
use Rattle.isp_registers.specs.declared.registers.Registers.{Registers}
use Rattle.isp_registers.specs.declared.reserve.Reserve.{Reserve}

-- what is there stays there
abbrev pub ReservedStays : Type 0
ReservedStays =
    (old new : Reserve) (a : Ask) → Grows old.registers new.registers → old.masks ≤ new.masks → Has old a → Has new a

-- registers are added where no row changes, where a fresh register is, and by two steps that add some
pub record RegistersGrow : Type 0 where
  pub same : (old new : Registers) → rows_of new ≡ rows_of old → Grows old new
  pub fresh : (old new : Registers) (n : ℕ) (r : Rate) (t : Elem) → rows_of new ≡ with_fresh_from_at n r t (rows_of old) → Grows old new
  pub on : (old mid new : Registers) → Grows old mid → Grows mid new → Grows old new

-- Registers are added, and the same variables are copied where they are read: those that packed loads write.
pub record KeepsPlaces (old new : Registers) : Type 0 where
  pub grows : Grows old new
  pub loaded : (rows_of new).loaded ≡ (rows_of old).loaded

-- the code is the same where registers lie as they did when it was written and where they lie now; so is the register of a value
pub record CodeStays : Type 0 where
  pub exprs : (rates : ℕ → List Rate) (old new : Reserve) (x : TExpr) (pc p k n : ℕ) → KeepsPlaces old.registers new.registers
      → Has old (expr_asks x n) → expr_code (layout_of rates (rows_of new.registers)) x pc p k n
      ≡ expr_code (layout_of rates (rows_of old.registers)) x pc p k n
  pub simples : (rates : ℕ → List Rate) (old new : Reserve) (x : TSimple) (pc p k n : ℕ) → KeepsPlaces old.registers new.registers
      → Has old (simple_asks x n) → simple_code (layout_of rates (rows_of new.registers)) x pc p k n
      ≡ simple_code (layout_of rates (rows_of old.registers)) x pc p k n
  pub values : (rates : ℕ → List Rate) (old new : Reserve) (x : TExpr) (n : ℕ) → KeepsPlaces old.registers new.registers → Has old (expr_asks x n)
      → found (layout_of rates (rows_of new.registers)) x n ≡ found (layout_of rates (rows_of old.registers)) x n
