use Rattle.std.proofs.Common.{arith}
use Rattle.isp_solo.proofs.Leaving.{copied_more, copied_all}
use Rattle.isp_solo.proofs.left.copy.Goals as goal

pub loop-place-preserved : goal.loop-place-preserved
loop-place-preserved c =
    copied_more c.args.array.now c.loop-place.copy c.push.new.self c.loop-place.place c.at.result (omega (arith, c.loop-place-test.true, c.len-place-end.ensures)) c.loop-place.invariant c.at.ensures.value c.in_ok-push.ensures.ok

pub returns-clause-same : goal.returns-clause-same
returns-clause-same c = copied_all c.args.array.now c.loop-place.copy c.loop-place.place (omega (arith, c.loop-place-test.false, c.len-place-end.ensures)) c.loop-place.invariant
