use Rattle.std.proofs.Common.{◌≡◌, drop}
use Rattle.std.specs.List.{list_any}
use Rattle.isp_wasm.specs.Stack.{has_call}
use Rattle.isp_wasm_module.proofs.fits.has_calls.Given as goal

-- it is as the others say
abbrev pub invariant-loop-number : goal.invariant-loop-number
invariant-loop-number l = list_any has_call (drop l.number l.code.routines) ≡ list_any has_call l.code.routines
