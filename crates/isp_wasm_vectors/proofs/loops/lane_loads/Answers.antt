use Rattle.std.proofs.Common.{◌≡◌, ◌++◌, ◌∙◌, ap, sym, arith}
use Rattle.isp_wasm.specs.Places.{gang}
use Rattle.isp_wasm.specs.Templates.{each}
use Rattle.isp_wasm_binary.specs.Instructions.{code_bytes}
use Rattle.isp_wasm_write.specs.Settings.{setting}
use Rattle.isp_wasm_vectors.specs.reader.Loops.{lane_load}
use Rattle.isp_wasm_vectors.proofs.Chains.{two_more}
use Rattle.isp_wasm_vectors.proofs.Each.{one_more}
use Rattle.isp_wasm_vectors.proofs.loops.lane_loads.Goals as goal

pub loop-number-preserved : goal.loop-number-preserved
loop-number-preserved c =
    let o = c.args.out.now in
    let n = c.loop-number.number in
    let body = lane_load (setting c.args.kernel.now) c.args.result_to c.args.elements.now in
    c.in_ok-lane_load.ensures ∙ ap (λ bs. bs ++ code_bytes (body n)) c.loop-number.invariant ∙ two_more o (code_bytes (each n body)) (code_bytes (body n))
    ∙ ap (λ bs. o ++ bs) (sym (one_more n body))

pub returns : goal.returns
returns c =
    let w = setting c.args.kernel.now in
    let body = lane_load w c.args.result_to c.args.elements.now in
    let all : c.loop-number.number ≡ gang w = omega (arith, c.lanes-number-end.ensures.is) in
    c.loop-number.invariant ∙ ap (λ n. c.args.out.now ++ code_bytes (each n body)) all
