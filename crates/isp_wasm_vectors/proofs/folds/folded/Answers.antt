use Rattle.std.proofs.Common.{◌++◌, ◌∙◌, ap, sym}
use Rattle.isp_wasm_binary.specs.Instructions.{expr_bytes}
use Rattle.isp_wasm_write.specs.Settings.{setting}
use Rattle.isp_wasm_vectors.specs.reader.Across.{fold_expr, taken_expr}
use Rattle.isp_wasm_vectors.specs.reader.Tails.{join_tail}
use Rattle.isp_wasm_vectors.proofs.Chains.{three_more}
use Rattle.isp_wasm_vectors.proofs.FoldBytes.{one_more}
use Rattle.isp_wasm_vectors.proofs.folds.folded.Goals as goal

pub loop-number-preserved : goal.loop-number-preserved
loop-number-preserved c =
    let w = setting c.args.kernel.now in
    let f = c.args.fold.now in
    let n = c.loop-number.number in
    let o = c.args.out.now in
    let before = expr_bytes (fold_expr w f n) in
    let item = expr_bytes (taken_expr w f n) in
    let tail = join_tail f.op f.elem in
    c.in_ok-joined.ensures ∙ ap (λ bs. bs ++ tail) (c.in_ok-taken.ensures ∙ ap (λ bs. bs ++ item) c.loop-number.invariant)
    ∙ three_more o before item tail ∙ ap (λ bs. o ++ bs) (sym (one_more w f n))
