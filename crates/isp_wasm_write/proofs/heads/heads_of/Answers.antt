use Rattle.std.proofs.Common.{◌≡◌, length, false, ap, ◌∙◌, arith}
use Rattle.std.specs.Prelude.{slice_index_or}
use Rattle.isp_wasm.specs.Module.{is_head}
use Rattle.isp_wasm_write.proofs.RungHeads.{head_step}
use Rattle.isp_wasm_write.proofs.heads.heads_of.Goals as goal

pub loop-number-preserved : goal.loop-number-preserved
loop-number-preserved c =
    let i = c.loop-number.number in
    let is = c.args.code.now in
    let there : c.is_marked-is_head.result ≡ is_head is i = c.is_marked-is_head.ensures ∙ ap (λ l. slice_index_or l i false) c.as_slice.ensures.value ∙ c.in_ok-marks.ensures.each i (omega arith) in
    let few = c.in_ok-push_head.ensures.few in
    record { few = omega (arith, few, c.loop-number.invariant.few); same = head_step is (length is) i _ _ _ _ (omega arith) there c.in_ok-push_head.ensures.items c.loop-number.invariant.same }
