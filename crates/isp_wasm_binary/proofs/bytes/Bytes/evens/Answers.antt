use Rattle.std.proofs.Common.{◌∙◌, ◌++◌, ap₂, append_assoc}
use Rattle.std.proofs.lemmas.Result.{on_ok_weaker}
use Rattle.isp_wasm_binary.proofs.bytes.Bytes.evens.Goals as goal

pub returns : goal.returns
returns c =
    on_ok_weaker c.all.result (λ e. e ∙ ap₂ (λ a b. a ++ b) c.in_ok-simd.ensures c.evens_bytes.ensures ∙ append_assoc c.args.self.now _ _) c.all.ensures
