use Rattle.std.proofs.Common.{◌≡◌, drop}
use Rattle.std.specs.List.{list_all}
use Rattle.isp_code.specs.Writable.{constant_in, instr_fits}
use Rattle.isp_code.proofs.writable.instrs_fit.Given as goal

abbrev pub invariant-loop-instr : goal.invariant-loop-instr
invariant-loop-instr l =
    (list_all instr_fits l.code ≡ list_all instr_fits (drop l.instr-index l.code)) × (list_all constant_in l.code ≡ list_all constant_in (drop l.instr-index l.code))
