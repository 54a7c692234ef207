-- What the laws ask of a tree is so of one whose registers an emitter reserved.
use Rattle.std.specs.Prelude.{ℕ}
use Rattle.isp_typed.specs.Fine.{FineExpr, FineSimple}
use Rattle.isp_typed.specs.Typed.{TExpr, TSimple}
use Rattle.isp_lower_code.specs.Asks.{expr_asks, simple_asks}
use Rattle.isp_registers.specs.Growth.{rows_of}
use Rattle.isp_lower_code.specs.Fits.{ExprFits, SimpleFits}
use Rattle.isp_lower_code.specs.Rated.{IsRated, SimpleRated}
use Rattle.isp_registers.specs.Reserved.{Has}
use Rattle.isp_lower_code.specs.Setting.{Setting}
use Rattle.isp_registers.specs.declared.reserve.Reserve.{Reserve}
use Rattle.isp_emitter_laws.specs.OfRows.{IsOfRows}

-- In a call whose routine has the registers of a reserve: names, types and rates accept the tree, and the reserve has what its code
-- asks for.
pub record WrittenFits : Type 0 where
  pub exprs : (w : Setting) (r : Reserve) (x : TExpr) (n : ℕ) → IsOfRows w (rows_of r.registers) → FineExpr w.program.functions w.function.variables x → IsRated w.program.functions x → Has r (expr_asks x n) → ExprFits w x n
  pub simples : (w : Setting) (r : Reserve) (x : TSimple) (n : ℕ) → IsOfRows w (rows_of r.registers) → FineSimple w.program.functions w.function.variables x → SimpleRated w.program.functions x → Has r (simple_asks x n) → SimpleFits w x n
