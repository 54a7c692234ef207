use Rattle.std.proofs.Common.{◌++◌, ◌∙◌, sym, ap, arith}
use Rattle.std.proofs.lemmas.Result.{on_ok_weaker}
use Rattle.isp_wasm_binary.proofs.Steps.{i64_is}
use Rattle.isp_wasm_binary.proofs.bytes.Bytes.signed64.Goals as goal

pub returns : goal.returns
returns c =
    on_ok_weaker c.signed.result (λ e. e ∙ ap (λ t. c.args.self.now ++ t) (sym (i64_is c.args.number (omega arith)))) c.signed.ensures
