use Rattle.std.proofs.Common.{◌≡◌, drop}
use Rattle.std.specs.List.{list_all}
use Rattle.isp_code.specs.Writable.{register_fits}
use Rattle.isp_code.proofs.writable.all_fit.Given as goal

abbrev pub invariant-loop-register : goal.invariant-loop-register
invariant-loop-register l = list_all register_fits l.registers ≡ list_all register_fits (drop l.register-index l.registers)
