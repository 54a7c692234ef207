use Rattle.std.proofs.Common.{◌++◌, ◌+◌, ◌*◌, ◌∙◌, ap, arith}
use Rattle.std.specs.Prelude.{if◌then◌else◌, nat_lt}
use Rattle.std.proofs.lemmas.Result.{on_ok_weaker}
use Rattle.isp_wasm_binary.specs.Instructions.{Const128_word, word_bytes}
use Rattle.isp_wasm_write.proofs.PartBytes.{same_part}
use Rattle.isp_wasm_write.proofs.parts.numbers.Goals as goal

pub returns : goal.returns
returns c =
    on_ok_weaker c.const128.result
    (λ e. e ∙ ap (λ n. c.args.out.now ++ word_bytes (Const128_word n)) (same_part c.loop-lane.bytes (λ i. if nat_lt (c.args.part * 16 + i) c.args.lanes then c.args.part * 16 + i else 127) (λ k h. c.loop-lane.invariant.each k (omega (arith, h)))))
    c.const128.ensures
