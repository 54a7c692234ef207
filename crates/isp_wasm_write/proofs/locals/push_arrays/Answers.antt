use Rattle.std.proofs.Common.{arith, refl}
use Rattle.isp_wasm_write.proofs.Listed.{array_step}
use Rattle.isp_wasm_write.proofs.locals.push_arrays.Goals as goal

pub loop-number-preserved : goal.loop-number-preserved
loop-number-preserved c =
    array_step _ _ _ _ c.args.count c.loop-number.number c.args.first _ _ (omega arith) refl refl c.in_ok-push.ensures.items c.in_ok-push-2.ensures.items c.loop-number.invariant
