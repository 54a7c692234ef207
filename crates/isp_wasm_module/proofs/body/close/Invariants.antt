use Rattle.std.proofs.Common.{◌≡◌, ◌++◌}
use Rattle.isp_wasm.specs.Templates as templates
use Rattle.isp_wasm_write.specs.Settings.{setting}
use Rattle.isp_wasm_module.specs.reader.Pieces.{closed}
use Rattle.isp_wasm_module.proofs.body.close.Given as goal

abbrev pub invariant-loop-number : goal.invariant-loop-number
invariant-loop-number l = l.out ≡ l.initial.out ++ closed (templates.rung (setting l.kernel)) l.number
