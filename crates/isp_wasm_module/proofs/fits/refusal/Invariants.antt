use Rattle.std.proofs.Common.{◌≡◌, drop}
use Rattle.isp_wasm_module.specs.Refused.{first_refusal, module_refusal}
use Rattle.isp_wasm_module.proofs.fits.refusal.Given as goal

-- it is one of the others
abbrev pub invariant-loop-number : goal.invariant-loop-number
invariant-loop-number l = first_refusal l.code l.number (drop l.number l.code.routines) ≡ module_refusal l.code
