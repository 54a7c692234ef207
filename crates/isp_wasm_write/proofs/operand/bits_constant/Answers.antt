use Rattle.std.proofs.Common.{◌++◌, ◌∷◌, ◌∙◌, ap, sym}
use Rattle.std.proofs.lemmas.Result.{on_ok_weaker}
use Rattle.isp_wasm_binary.specs.Instructions.{expr_bytes}
use Rattle.isp_wasm_binary.specs.Named as named
use Rattle.isp_wasm_binary.proofs.Folded.{same_i32}
use Rattle.isp_wasm.specs.Words.{constant}
use Rattle.isp_wasm_write.proofs.operand.bits_constant.Goals as goal

pub returns-in-I32 : goal.returns-in-I32
returns-in-I32 c =
    on_ok_weaker c.const32.result
    (λ e. e ∙ ap (λ bs. c.args.out.now ++ 0x41 ∷ bs) (same_i32 c.args.bits) ∙ ap (λ s. c.args.out.now ++ expr_bytes (constant (named.size s) c.args.bits)) (sym c.in-I32.is))
    c.const32.ensures
