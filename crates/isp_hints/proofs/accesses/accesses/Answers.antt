use Rattle.std.proofs.Common.{rules}
use Rattle.isp_hints.proofs.More.{function_more}
use Rattle.isp_hints.proofs.accesses.accesses.Goals as goal

pub loop-number-preserved : goal.loop-number-preserved
loop-number-preserved c =
    function_more c.args.code.now c.functions-functions.result.now c.loop-number.number c.index-functions-number.result c.args.found.now.items c.loop-number.found.items c.push_hints.new.found.items
    (search rules) c.loop-number.invariant c.in_ok-push_hints.ensures
