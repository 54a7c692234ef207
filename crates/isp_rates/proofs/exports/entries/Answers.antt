use Rattle.isp_rates.proofs.Entries.{entries_step}
use Rattle.isp_rates.proofs.exports.entries.Goals as goal

pub loop-number-preserved : goal.loop-number-preserved
loop-number-preserved c = λ w.
    entries_step w c.args.functions.now c.loop-number.number c.index-functions-number.result _ _ _ c.loop-number-test.true c.index-functions-number.is
    (c.in_ok-name_entry.ensures w) (c.loop-number.invariant w)
