use Rattle.std.proofs.Common.{length, arith}
use Rattle.isp_wasm_write.specs.reader.Given.{given_from}
use Rattle.isp_wasm_write.proofs.Passed.{param_step}
use Rattle.isp_wasm_write.proofs.limits.param_count.Goals as goal

pub loop-param-preserved : goal.loop-param-preserved
loop-param-preserved c =
    let i = c.loop-param.param-index in
    let ps = c.args.params.now in
    let is = c.param_width.ensures.is in
    let same = c.from-count.ensures in
    let step = param_step c.args.caller c.args.lanes ps i c.loop-param.count (length (given_from c.args.caller c.args.lanes ps 0 0 0)) c.param-item.result (omega arith) c.param-item.is c.loop-param.invariant.same in
    record { few = omega (arith, same, c.param_width.ensures.few, c.loop-param.invariant.few); same = omega (arith, step, is, same) }
