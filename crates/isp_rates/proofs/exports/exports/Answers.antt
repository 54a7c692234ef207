use Rattle.isp_rates.proofs.Entries.{exports_step}
use Rattle.isp_rates.proofs.exports.exports.Goals as goal

pub loop-number-preserved : goal.loop-number-preserved
loop-number-preserved c =
    exports_step c.args.functions.now c.loop-number.number c.index-functions-number.result c.loop-number.numbers.items _ _ c.loop-number-test.true c.index-functions-number.is
    c.in_ok-push_export.ensures c.loop-number.invariant
