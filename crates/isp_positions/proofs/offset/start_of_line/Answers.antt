use Rattle.std.proofs.Common.{◌<◌, ◌+◌, ◌∙◌, ap, drop, length, sym, arith}
use Rattle.isp_positions.specs.Positions.{line_ends, start_of_line}
use Rattle.isp_positions.proofs.Ends.{ends_long, line_ends_here, line_goes_on, text_ends}
use Rattle.isp_positions.proofs.offset.start_of_line.Goals as goal
use Rattle.isp_positions.proofs.offset.start_of_line.Goals.{then-ends_line, else-ends_line}

pub loop-left-preserved : goal.loop-left-preserved
loop-left-preserved c =
    let text = c.args.text.now in
    let at = c.loop-left.at in
    let behind = drop (at + 1) (line_ends text) in
    let inside : at < length (line_ends text) = omega (arith, c.if-at-text.true, ends_long text) in
    elim c.if-ends_line.branch [
      | then-ends_line w ↦ (omega (arith, c.if-at-text.true), omega (arith, c.loop-left.invariant.1, line_ends_here (line_ends text) at c.loop-left.left inside c.loop-left-test.true (sym c.ends_line.ensures ∙ w.if-ends_line.true), ap (λ n. start_of_line n behind) w.left-is))
      | else-ends_line w ↦ (omega (arith, c.if-at-text.true), omega (arith, c.loop-left.invariant.1, line_goes_on (line_ends text) at c.loop-left.left inside c.loop-left-test.true (sym c.ends_line.ensures ∙ w.if-ends_line.false), ap (λ n. start_of_line n behind) w.left-is))
    ]

pub returns-else-at-text-clause-is : goal.returns-else-at-text-clause-is
returns-else-at-text-clause-is c =
    omega (arith, c.loop-left.invariant.1, text_ends (line_ends c.args.text.now) c.loop-left.at c.loop-left.left (omega (arith, c.if-at-text.false, ends_long c.args.text.now)))
