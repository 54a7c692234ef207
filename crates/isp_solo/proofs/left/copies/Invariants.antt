use Rattle.std.proofs.Common.{◌≡◌, ◌++◌, drop}
use Rattle.std.specs.List.{All}
use Rattle.isp_base.specs.Arguments.{rows}
use Rattle.isp_base.specs.Rows.{Fit}
use Rattle.isp_solo.proofs.left.copies.Given as goal

abbrev pub invariant-loop-place : goal.invariant-loop-place
invariant-loop-place l = record { same : l.copies.items ++ rows (drop l.place l.arguments) ≡ rows l.arguments; fits : All (λ r. Fit r.elem r.bits) l.copies.items }
