-- What the laws ask of a statement in a call: names and types accept it, its rates are as code asks, and what its code asks for is in
-- the table of registers.
use Rattle.std.specs.Prelude.{ℕ}
use Rattle.isp_typed.specs.Fine.{FineStmt, FineBlock}
use Rattle.isp_typed.specs.Typed.{TStmt, TBlock}
use Rattle.isp_lower_code.specs.Fits.{InTable}
use Rattle.isp_lower_code.specs.Layout.{is_fixed}
use Rattle.isp_lower_code.specs.Setting.{Setting}
use Rattle.isp_masks_code.specs.Asks.{stmt_asks, block_asks}
use Rattle.isp_masks_code.specs.Free.{StmtFree, BlockFree}
use Rattle.isp_masks_code.specs.Rated.{StmtRated, BlockRated}

module _ (w : Setting) where
  pub record StmtFits (x : TStmt) (n : ℕ) : Type 0 where
    pub fine : FineStmt w.program.functions w.function.variables w.frame.answer x
    pub rated : StmtRated w.program.functions w.frame.answer x
    pub named : InTable w (stmt_asks w.frame.answer x n)
    pub free : StmtFree (is_fixed w.layout) x

  pub record BlockFits (b : TBlock) (n : ℕ) : Type 0 where
    pub fine : FineBlock w.program.functions w.function.variables w.frame.answer b
    pub rated : BlockRated w.program.functions w.frame.answer b
    pub named : InTable w (block_asks w.frame.answer b n)
    pub free : BlockFree (is_fixed w.layout) b
