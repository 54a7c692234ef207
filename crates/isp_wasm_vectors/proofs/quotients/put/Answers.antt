use Rattle.std.proofs.Common.{◌++◌, ◌∙◌, ap, sym}
use Rattle.std.proofs.lemmas.Result.{on_ok_weaker}
use Rattle.isp_wasm_binary.specs.Instructions.{expr_bytes}
use Rattle.isp_wasm_write.specs.Settings.{setting}
use Rattle.isp_wasm_vectors.specs.reader.Quotients.{put_head, put_tail, signed}
use Rattle.isp_wasm_vectors.proofs.Chains.{three_more}
use Rattle.isp_wasm_vectors.proofs.CellBytes.{put_bytes}
use Rattle.isp_wasm_vectors.proofs.quotients.put.Goals as goal

pub returns : goal.returns
returns c =
    let w = setting c.args.kernel.now in
    let o = c.args.out.now in
    let x = signed w c.args.quotient.now in
    let head = put_head w c.args.to in
    let tail = put_tail w c.args.to in
    on_ok_weaker c.end_put.result
    (λ e. e ∙ ap (λ bs. bs ++ tail) (c.in_ok-signed.ensures ∙ ap (λ bs. bs ++ expr_bytes x) c.in_ok-begin_put.ensures)
    ∙ three_more o head (expr_bytes x) tail ∙ ap (λ bs. o ++ bs) (sym (put_bytes w c.args.to x)))
    c.end_put.ensures
