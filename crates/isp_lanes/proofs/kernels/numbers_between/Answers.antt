use Rattle.std.proofs.Common.{sym, ◌∙◌}
use Rattle.isp_lanes.proofs.Numbers.{int64_between, none_above}
use Rattle.isp_lanes.proofs.kernels.numbers_between.Goals as goal

pub returns-then-compare : goal.returns-then-compare
returns-then-compare c = λ p. int64_between c.args.start c.args.end p c.ranges.start.fits c.ranges.end.fits (sym c.compare.ensures ∙ c.if-compare.true)

pub returns-else-compare : goal.returns-else-compare
returns-else-compare c = λ p. none_above _ _ p (sym c.compare.ensures ∙ c.if-compare.false)
