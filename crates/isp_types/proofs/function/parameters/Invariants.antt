use Rattle.std.proofs.Common.{◌≡◌, take, map}
use Rattle.isp_tree.specs.Views.{param_of as read_param}
use Rattle.isp_types.specs.Functions.{parameter_of}
use Rattle.isp_types.proofs.function.parameters.Given as goal

abbrev pub invariant-loop-p : goal.invariant-loop-p
invariant-loop-p l = l.done.items ≡ map parameter_of (map read_param (take l.p-index l.all))
