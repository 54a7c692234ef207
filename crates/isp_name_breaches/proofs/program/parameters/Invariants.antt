use Rattle.std.proofs.Common.{◌≡◌, ◌++◌, drop, map}
use Rattle.isp_tree.specs.Views.{param_of as read_param}
use Rattle.isp_types.specs.Functions.{params_names}
use Rattle.isp_name_breaches.specs.reader.Programs.{parameters_faults, params_variables}
use Rattle.isp_name_breaches.proofs.program.parameters.Given as goal

abbrev pub invariant-loop-p : goal.invariant-loop-p
invariant-loop-p l = record {
  found : l.walk.found.items ++ parameters_faults l.walk.scope l.walk.variables.items (map read_param (drop l.p-index l.all))
      ≡ l.initial.walk.found.items ++ parameters_faults l.initial.walk.scope l.initial.walk.variables.items (map read_param l.all);
  names : params_names l.walk.scope l.walk.variables.items (map read_param (drop l.p-index l.all)) ≡ params_names l.initial.walk.scope l.initial.walk.variables.items (map read_param l.all);
  variables : params_variables l.walk.variables.items (map read_param (drop l.p-index l.all)) ≡ params_variables l.initial.walk.variables.items (map read_param l.all);
}
