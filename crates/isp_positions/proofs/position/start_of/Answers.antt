use Rattle.std.proofs.Common.{◌∙◌, sym, arith}
use Rattle.isp_positions.proofs.Ends.{start_is}
use Rattle.isp_positions.proofs.position.start_of.Goals as goal

pub returns-else-not-ends_line-clause-start : goal.returns-else-not-ends_line-clause-start
returns-else-not-ends_line-clause-start c =
    start_is c.args.text.now c.args.at c.loop-start.start c.requires c.loop-start.invariant.0 c.loop-start.invariant.1 (λ _. sym c.ends_line.ensures ∙ c.if-not-ends_line.false)

pub returns-after-loop-start-clause-start : goal.returns-after-loop-start-clause-start
returns-after-loop-start-clause-start c =
    start_is c.args.text.now c.args.at c.loop-start.start c.requires c.loop-start.invariant.0 c.loop-start.invariant.1
    (λ h. absurd (omega (arith, h, c.loop-start-test.false)))
