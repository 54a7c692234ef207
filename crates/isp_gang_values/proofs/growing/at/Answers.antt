use Rattle.std.proofs.Common.{sym}
use Rattle.isp_gang_values.proofs.Vectors.{at_there, at_past}
use Rattle.isp_gang_values.proofs.growing.at.Goals as goal

pub returns-then-place-values : goal.returns-then-place-values
returns-then-place-values c = sym (at_there (λ x. x) 0 c.args.values.now c.args.place 0 c.if-place-values.true)

pub returns-else-place-values : goal.returns-else-place-values
returns-else-place-values c = sym (at_past (λ x. x) 0 c.args.values.now c.args.place c.if-place-values.false)
