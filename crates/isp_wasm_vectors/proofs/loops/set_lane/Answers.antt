use Rattle.std.proofs.Common.{◌++◌, ◌∙◌, ap, sym}
use Rattle.std.proofs.lemmas.Result.{on_ok_weaker}
use Rattle.isp_wasm_meaning.specs.Syntax.{Local}
use Rattle.isp_wasm_binary.specs.Instructions.{expr_bytes}
use Rattle.isp_wasm_write.specs.Places.{place_of}
use Rattle.isp_wasm_write.specs.Settings.{setting}
use Rattle.isp_wasm_vectors.specs.reader.Tails.{lane_head, lane_tail}
use Rattle.isp_wasm_vectors.proofs.Chains.{three_more}
use Rattle.isp_wasm_vectors.proofs.CellBytes.{lane_bytes}
use Rattle.isp_wasm_vectors.proofs.loops.set_lane.Goals as goal

pub returns : goal.returns
returns c =
    let w = setting c.args.kernel.now in
    let o = c.args.out.now in
    let x = Local (w.local (place_of c.args.from)) in
    let head = lane_head w c.args.result_to c.args.number in
    let tail = lane_tail w c.args.result_to c.args.number in
    on_ok_weaker c.end_lane.result
    (λ e. e ∙ ap (λ bs. bs ++ tail) (c.in_ok-get.ensures ∙ ap (λ bs. bs ++ expr_bytes x) c.in_ok-begin_lane.ensures)
    ∙ three_more o head (expr_bytes x) tail ∙ ap (λ bs. o ++ bs) (sym (lane_bytes w c.args.result_to c.args.number x)))
    c.end_lane.ensures
