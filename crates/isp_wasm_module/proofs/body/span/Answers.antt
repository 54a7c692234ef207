use Rattle.std.proofs.Common.{◌++◌, ◌∙◌, ap, arith}
use Rattle.isp_wasm.specs.Templates.{code_of}
use Rattle.isp_wasm_binary.specs.Instructions.{code_bytes}
use Rattle.isp_wasm_write.specs.Settings.{setting}
use Rattle.isp_wasm_module.proofs.Rungs.{step, one_line}
use Rattle.isp_wasm_module.proofs.body.span.Goals as goal

pub loop-number-preserved : goal.loop-number-preserved
loop-number-preserved c =
    step _ _ _ _ _ _
    (c.in_ok-line.ensures ∙ ap (λ f. c.loop-number.out ++ code_bytes (code_of (setting c.args.kernel.now) c.args.depth f c.instr.result.now)) c.form-form.ensures)
    (one_line (setting c.args.kernel.now) c.args.depth c.loop-number.number c.args.end c.instr.result.now (omega arith) c.instr.ensures) c.loop-number.invariant
