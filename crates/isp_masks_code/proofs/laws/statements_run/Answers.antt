use Rattle.isp_lower_code.proofs.Lemmas.{fixed_constant}
use Rattle.isp_masks_code.proofs.Fitting.{stmt_parts}
use Rattle.isp_masks_code.proofs.Stmts.{stmt_runs}
use Rattle.isp_masks_code.proofs.laws.statements_run.Goals as goal

pub returns : goal.returns
returns c = λ w ready x pc z spot q a s c1 fit has names three b.
    stmt_runs x w ready pc z spot q a s c1 (stmt_parts w x spot.slot (fixed_constant w ready) fit) has names three b
