use Rattle.std.proofs.Common.{arith}
use Rattle.isp_forms.specs.Tables.{lists_of}
use Rattle.isp_wasm_module.proofs.Exported.{one_named, functions_end}
use Rattle.isp_wasm_module.proofs.Rungs.{step}
use Rattle.isp_wasm_module.proofs.exports.push_functions.Goals as goal

pub loop-number-preserved : goal.loop-number-preserved
loop-number-preserved c =
    step _ _ _ _ _ _ c.in_ok-push_function.ensures
    (one_named c.args.source.code.now (lists_of c.args.source.forms.now) c.loop-number.number (omega (arith, c.routine_count-number-end.ensures.is))) c.loop-number.invariant

pub returns : goal.returns
returns c = functions_end c.args.source.code.now (lists_of c.args.source.forms.now) c.loop-number.number _ _ (omega (arith, c.routine_count-number-end.ensures.is)) c.loop-number.invariant
