use Rattle.std.proofs.Common.{◌∙◌}
use Rattle.std.proofs.lemmas.Result.{on_ok_weaker}
use Rattle.isp_wasm_binary.proofs.Steps.{table_written}
use Rattle.isp_wasm_binary.proofs.bytes.Bytes.br_table.Goals as goal

pub returns : goal.returns
returns c =
    on_ok_weaker c.unsigned-2.result (λ e. e ∙ table_written c.args.count _ _ _ _ c.in_ok-byte.ensures c.in_ok-unsigned.ensures c.in_ok-labels.ensures)
    c.unsigned-2.ensures
