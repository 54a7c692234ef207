use Rattle.std.proofs.Common.{◌≡◌, drop}
use Rattle.std.specs.List.{list_any}
use Rattle.isp_wasm.specs.Module.{calls_function, is_called}
use Rattle.isp_wasm_module.proofs.fits.is_called.Given as goal

-- it is as the others say
abbrev pub invariant-loop-number : goal.invariant-loop-number
invariant-loop-number l = list_any (λ h. list_any (calls_function l.called) h.code) (drop l.number l.code.routines) ≡ is_called l.code l.called
