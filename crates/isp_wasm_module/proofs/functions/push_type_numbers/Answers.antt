use Rattle.std.proofs.Common.{arith}
use Rattle.isp_forms.specs.Tables.{lists_of}
use Rattle.isp_wasm_module.proofs.Written.{number_step}
use Rattle.isp_wasm_module.proofs.functions.push_type_numbers.Goals as goal

pub loop-number-preserved : goal.loop-number-preserved
loop-number-preserved c =
    number_step c.args.source.code.now (lists_of c.args.source.forms.now) c.loop-number.number _ _ _ _ (omega (arith, c.function_count-number-end.ensures)) c.in_ok-number_and.ensures c.in_ok-unsigned.ensures c.loop-number.invariant
