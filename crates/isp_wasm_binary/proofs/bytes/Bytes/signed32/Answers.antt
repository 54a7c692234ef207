use Rattle.std.proofs.Common.{◌++◌, ◌∙◌, sym, ap, arith}
use Rattle.std.proofs.lemmas.Result.{on_ok_weaker}
use Rattle.isp_wasm_binary.specs.Numbers.{signed_groups}
use Rattle.isp_wasm_binary.proofs.Steps.{i32_is}
use Rattle.isp_wasm_binary.proofs.bytes.Bytes.signed32.Goals as goal

pub returns : goal.returns
returns c =
    on_ok_weaker c.signed.result
    (λ e. e ∙ ap (λ t. c.args.self.now ++ t) (ap (signed_groups 9 32) c.from.ensures ∙ sym (i32_is c.args.number (omega arith)))) c.signed.ensures
