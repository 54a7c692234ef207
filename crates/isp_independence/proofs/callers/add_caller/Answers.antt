use Rattle.std.proofs.Common.{arith}
use Rattle.isp_independence.proofs.Turning.{caller_added}
use Rattle.isp_independence.proofs.callers.add_caller.Goals as goal

pub returns-in_ok-push : goal.returns-in_ok-push
returns-in_ok-push c =
    caller_added c.args.callers.now.items c.args.called c.index_mut.result.now c.push.new.self c.args.caller (omega (arith, c.if-called-len.true, c.len.ensures)) c.index_mut.ensures.value
    c.in_ok-push.ensures.items
