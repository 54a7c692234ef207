use Rattle.std.proofs.Common.{subst, List}
use Rattle.std.specs.List.{All}
use Rattle.isp_base.specs.Arguments.{rows}
use Rattle.isp_base.specs.Rows.{Fit, Row}
use Rattle.isp_solo.proofs.Taking.{none_together}
use Rattle.isp_solo.proofs.together.Together.new.Goals as goal

pub returns-clause-none : goal.returns-clause-none
returns-clause-none c = λ run. none_together run (rows c.args.arguments.now) _ c.new.ensures.items c.in_ok-copies.ensures.same

pub returns-clause-fits : goal.returns-clause-fits
returns-clause-fits c = subst (λ (rs : List Row). All (λ (r : Row). Fit r.elem r.bits) rs) c.in_ok-copies.ensures.same c.in_ok-copies.ensures.fits
