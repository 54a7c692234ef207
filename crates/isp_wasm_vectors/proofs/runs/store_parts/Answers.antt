use Rattle.std.proofs.Common.{◌++◌, ◌∙◌, ap, sym}
use Rattle.isp_wasm.specs.Templates.{each}
use Rattle.isp_wasm_binary.specs.Instructions.{code_bytes}
use Rattle.isp_wasm_write.specs.Settings.{setting}
use Rattle.isp_wasm_vectors.specs.reader.Runs.{part_store}
use Rattle.isp_wasm_vectors.proofs.Chains.{two_more}
use Rattle.isp_wasm_vectors.proofs.Each.{one_more}
use Rattle.isp_wasm_vectors.proofs.runs.store_parts.Goals as goal

pub loop-part-preserved : goal.loop-part-preserved
loop-part-preserved c =
    let o = c.args.out.now in
    let n = c.loop-part.part in
    let body = part_store (setting c.args.kernel.now) c.args.run.now c.args.value in
    c.in_ok-part_store.ensures ∙ ap (λ bs. bs ++ code_bytes (body n)) c.loop-part.invariant ∙ two_more o (code_bytes (each n body)) (code_bytes (body n))
    ∙ ap (λ bs. o ++ bs) (sym (one_more n body))
