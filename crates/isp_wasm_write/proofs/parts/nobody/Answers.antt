use Rattle.std.proofs.Common.{◌++◌, ◌∙◌, ap, sym}
use Rattle.std.proofs.lemmas.Result.{on_ok_weaker}
use Rattle.isp_wasm_binary.specs.Instructions.{Const128_word, word_bytes}
use Rattle.isp_wasm_write.proofs.PartBytes.{nobody_is}
use Rattle.isp_wasm_write.proofs.parts.nobody.Goals as goal

pub returns : goal.returns
returns c = on_ok_weaker c.write.result (λ e. e ∙ ap (λ n. c.args.out.now ++ word_bytes (Const128_word n)) (sym (nobody_is c.args.part))) c.write.ensures
