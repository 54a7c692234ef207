use Rattle.std.proofs.Common.{◌≡◌, take, map}
use Rattle.isp_tree.specs.Views.{param_of as read_param}
use Rattle.isp_types.specs.Functions.{param_want}
use Rattle.isp_types.proofs.function.wants.Given as goal

abbrev pub invariant-loop-p : goal.invariant-loop-p
invariant-loop-p l = l.done.items ≡ map param_want (map read_param (take l.p-index l.all))
