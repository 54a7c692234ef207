use Rattle.std.proofs.Common.{◌≡◌}
use Rattle.isp_wasm.specs.Module.{text_start}
use Rattle.isp_wasm_write.proofs.texts.text_start.Given as goal

abbrev pub invariant-loop-text : goal.invariant-loop-text
invariant-loop-text l = l.start ≡ text_start l.code.texts l.text
