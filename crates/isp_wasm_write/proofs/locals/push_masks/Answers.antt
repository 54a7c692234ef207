use Rattle.std.proofs.Common.{arith}
use Rattle.isp_wasm_write.proofs.Listed.{mask_step}
use Rattle.isp_wasm_write.proofs.locals.push_masks.Goals as goal

pub loop-mask-preserved : goal.loop-mask-preserved
loop-mask-preserved c =
    mask_step _ _ _ _ c.args.masks c.loop-mask.mask (omega arith) c.in_ok-push.ensures.items c.in_ok-push-2.ensures.items c.loop-mask.invariant
