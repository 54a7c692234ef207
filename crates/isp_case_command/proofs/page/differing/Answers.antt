use Rattle.std.proofs.Common.{arith}
use Rattle.isp_case_command.proofs.Lines.{counted_next}
use Rattle.isp_case_command.proofs.page.differing.Goals as goal

pub loop-one-preserved : goal.loop-one-preserved
loop-one-preserved c = record {
  counted = counted_next c.args.tried.now c.loop-one.one-index c.one-item.result c.loop-one-test.true c.one-item.is c.loop-one.count _ _ c.unit_of-count.ensures.unit c.loop-one.invariant.counted;
  few = omega arith;
}
