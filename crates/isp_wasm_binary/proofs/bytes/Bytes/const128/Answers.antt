use Rattle.std.proofs.Common.{◌∙◌, ◌++◌, ap₂, sym, append_assoc}
use Rattle.std.proofs.lemmas.Result.{on_ok_weaker}
use Rattle.isp_wasm_binary.proofs.Steps.{v128_packed}
use Rattle.isp_wasm_binary.proofs.bytes.Bytes.const128.Goals as goal

pub returns : goal.returns
returns c =
    on_ok_weaker c.all.result
    (λ e. e ∙ ap₂ (λ a b. a ++ b) c.in_ok-simd.ensures (sym (v128_packed c.args.bytes.now c.told-bytes c.fits-bytes)) ∙ append_assoc c.args.self.now _ _)
    c.all.ensures
