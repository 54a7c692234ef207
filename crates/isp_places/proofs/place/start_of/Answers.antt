use Rattle.std.proofs.Common.{arith, rules, eq-eqb}
use Rattle.isp_places.proofs.Starts.{start_is}
use Rattle.isp_places.proofs.place.start_of.Goals as goal

pub returns-else-text-start-ne10-clause-start : goal.returns-else-text-start-ne10-clause-start
returns-else-text-start-ne10-clause-start c =
    start_is c.args.text.now c.args.at c.loop-start.start c.requires c.loop-start.invariant.0 c.loop-start.invariant.1
    (λ _. eq-eqb _ _ c.if-text-start-ne10.false)

pub returns-after-loop-start-clause-start : goal.returns-after-loop-start-clause-start
returns-after-loop-start-clause-start c =
    start_is c.args.text.now c.args.at c.loop-start.start c.requires c.loop-start.invariant.0 c.loop-start.invariant.1
    (λ h. absurd (omega (arith, h, c.loop-start-test.false)))
