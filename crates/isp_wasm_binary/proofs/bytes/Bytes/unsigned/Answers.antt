use Rattle.std.proofs.Common.{◌++◌, ◌∙◌, sym, ap, arith}
use Rattle.std.proofs.lemmas.Result.{on_ok_weaker}
use Rattle.isp_wasm_binary.proofs.Steps.{behind_byte, u32_one, u32_more}
use Rattle.isp_wasm_binary.proofs.bytes.Bytes.unsigned.Goals as goal

pub loop-rest-preserved : goal.loop-rest-preserved
loop-rest-preserved c =
    behind_byte _ _ _ _ c.in_ok-byte.ensures ∙ ap (λ t. c.loop-rest.self ++ t) (sym (u32_more c.loop-rest.rest (omega arith) c.loop-rest-test.true))
    ∙ c.loop-rest.invariant

pub returns : goal.returns
returns c =
    on_ok_weaker c.byte-2.result (λ e. e ∙ ap (λ t. c.loop-rest.self ++ t) (sym (u32_one c.loop-rest.rest c.loop-rest-test.false)) ∙ c.loop-rest.invariant)
    c.byte-2.ensures
