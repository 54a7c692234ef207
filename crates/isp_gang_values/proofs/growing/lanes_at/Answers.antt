use Rattle.std.proofs.Common.{sym, ◌∙◌, []}
use Rattle.isp_base.specs.Maps.{lane_of}
use Rattle.isp_gang_values.proofs.Vectors.{at_there, at_past, zeros}
use Rattle.isp_gang_values.proofs.growing.lanes_at.Goals as goal

pub returns-then-place-values : goal.returns-then-place-values
returns-then-place-values c = sym (at_there lane_of (λ p. 0) c.args.values.now c.args.place [] c.if-place-values.true)

pub returns-else-place-values : goal.returns-else-place-values
returns-else-place-values c = zeros ∙ sym (at_past lane_of (λ p. 0) c.args.values.now c.args.place c.if-place-values.false)
