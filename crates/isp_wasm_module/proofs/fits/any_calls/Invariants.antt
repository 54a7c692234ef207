use Rattle.std.proofs.Common.{◌≡◌, drop}
use Rattle.std.specs.List.{list_any}
use Rattle.isp_wasm.specs.Module.{calls_function}
use Rattle.isp_wasm_module.proofs.fits.any_calls.Given as goal

-- it is as the others say
abbrev pub invariant-loop-instr : goal.invariant-loop-instr
invariant-loop-instr l = list_any (calls_function l.number) (drop l.instr-index l.code) ≡ list_any (calls_function l.number) l.code
