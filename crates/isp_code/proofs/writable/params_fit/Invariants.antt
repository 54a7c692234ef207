use Rattle.std.proofs.Common.{◌≡◌, drop}
use Rattle.std.specs.List.{list_all}
use Rattle.isp_code.specs.Writable.{param_fits}
use Rattle.isp_code.proofs.writable.params_fit.Given as goal

abbrev pub invariant-loop-param : goal.invariant-loop-param
invariant-loop-param l = list_all param_fits l.params ≡ list_all param_fits (drop l.param-index l.params)
