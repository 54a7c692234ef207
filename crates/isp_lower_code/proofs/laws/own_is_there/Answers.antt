use Rattle.isp_lower_code.specs.Asks.{expr_asks, simple_asks}
use Rattle.isp_lower_code.proofs.Own.{expr_own, simple_own}
use Rattle.isp_lower_code.proofs.OwnRows.{own_rows}
use Rattle.isp_lower_code.proofs.laws.own_is_there.Goals as goal

pub returns : goal.returns
returns c = record {
  exprs = λ fs vars answer rows x n first fine. own_rows vars answer rows first (expr_asks x n) (expr_own vars answer fs x n fine);
  simples = λ fs vars answer rows x n first fine. own_rows vars answer rows first (simple_asks x n) (simple_own vars answer fs x n fine);
}
