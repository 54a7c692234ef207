use Rattle.std.proofs.Common.{◌≡◌, drop}
use Rattle.std.specs.List.{list_all}
use Rattle.isp_code.specs.Writable.{local_fits}
use Rattle.isp_code.proofs.writable.locals_fit.Given as goal

abbrev pub invariant-loop-local : goal.invariant-loop-local
invariant-loop-local l = list_all local_fits l.locals ≡ list_all local_fits (drop l.local-index l.locals)
