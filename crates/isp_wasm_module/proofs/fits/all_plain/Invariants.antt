use Rattle.std.proofs.Common.{◌≡◌, drop}
use Rattle.std.specs.List.{list_all}
use Rattle.isp_wasm.specs.Module.{is_plain, all_plain}
use Rattle.isp_wasm_module.proofs.fits.all_plain.Given as goal

-- it is as the others say
abbrev pub invariant-loop-number : goal.invariant-loop-number
invariant-loop-number l = list_all (is_plain l.code) (drop l.number l.code.routines) ≡ all_plain l.code
