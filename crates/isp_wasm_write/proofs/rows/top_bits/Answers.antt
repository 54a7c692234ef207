use Rattle.std.proofs.Common.{◌++◌, ◌∙◌, ap}
use Rattle.std.proofs.lemmas.Result.{on_ok_weaker}
use Rattle.isp_wasm_binary.specs.Instructions.{Const128_word, word_bytes}
use Rattle.isp_wasm_write.proofs.Constants.{top_bits_are}
use Rattle.isp_wasm_write.proofs.rows.top_bits.Goals as goal

pub returns : goal.returns
returns c = on_ok_weaker c.const128.result (λ e. e ∙ ap (λ n. c.args.out.now ++ word_bytes (Const128_word n)) top_bits_are) c.const128.ensures
