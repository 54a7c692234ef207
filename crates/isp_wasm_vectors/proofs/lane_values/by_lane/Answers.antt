use Rattle.std.proofs.Common.{◌*◌, ◌++◌, ◌∙◌, ap, sym}
use Rattle.isp_wasm_binary.specs.Instructions.{expr_bytes}
use Rattle.isp_wasm_write.specs.Settings.{setting}
use Rattle.isp_wasm_vectors.specs.reader.Vectors.{laned_to, placed_tail}
use Rattle.isp_wasm_vectors.proofs.Chains.{two_more}
use Rattle.isp_wasm_vectors.proofs.CellBytes.{one_more}
use Rattle.isp_wasm_vectors.proofs.lane_values.by_lane.Goals as goal

pub loop-number-preserved : goal.loop-number-preserved
loop-number-preserved c =
    let w = setting c.args.kernel.now in
    let d = c.args.result_to in
    let i = c.args.instr.now in
    let first = c.args.part * c.count_of-count.result in
    let n = c.loop-number.number in
    let o = c.args.out.now in
    let tail = placed_tail w d i first n in
    c.in_ok-placed.ensures ∙ ap (λ bs. bs ++ tail) c.loop-number.invariant ∙ two_more o (expr_bytes (laned_to w d i first n)) tail
    ∙ ap (λ bs. o ++ bs) (sym (one_more w d i first n))
