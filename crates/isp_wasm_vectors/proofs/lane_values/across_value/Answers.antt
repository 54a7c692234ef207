use Rattle.std.proofs.Common.{◌++◌, ◌∙◌, ap, sym}
use Rattle.std.proofs.lemmas.Result.{on_ok_weaker}
use Rattle.isp_wasm_binary.specs.Instructions.{expr_bytes}
use Rattle.isp_wasm_write.specs.Settings.{setting}
use Rattle.isp_wasm_vectors.specs.reader.Across.{fold_expr, scan_fold}
use Rattle.isp_wasm_vectors.specs.reader.Vectors.{lane_of}
use Rattle.isp_wasm_vectors.proofs.Reductions.{scan_is}
use Rattle.isp_wasm_vectors.proofs.lane_values.across_value.Goals as goal

pub returns-in-Scan : goal.returns-in-Scan
returns-in-Scan c =
    let w = setting c.args.kernel.now in
    let o = c.args.out.now in
    let p = c.args.lane in
    let x = c.in-Scan.value in
    let k = c.in-Scan.mask in
    on_ok_weaker c.folded.result
    (λ e. e ∙ ap (λ t. o ++ expr_bytes (fold_expr w (scan_fold c.in-Scan.op t x k) p)) c.elem-elem.ensures
    ∙ ap (λ y. o ++ expr_bytes y) (scan_is w c.in-Scan.op x k p)
    ∙ ap (λ i. o ++ expr_bytes (lane_of w c.args.result_to i p)) (sym c.in-Scan.is))
    c.folded.ensures
