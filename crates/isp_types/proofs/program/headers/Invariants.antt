use Rattle.std.proofs.Common.{◌≡◌, take, map}
use Rattle.isp_tree.specs.Views.{function_of as read_function}
use Rattle.isp_types.specs.Functions.{heading}
use Rattle.isp_types.proofs.program.headers.Given as goal

abbrev pub invariant-loop-f : goal.invariant-loop-f
invariant-loop-f l = l.done ≡ map heading (map read_function (take l.f-index l.all))
