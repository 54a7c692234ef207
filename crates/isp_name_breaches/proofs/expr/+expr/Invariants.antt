use Rattle.std.proofs.Common.{◌≡◌, ◌++◌, drop}
use Rattle.isp_tree.specs.Tree.{listed}
use Rattle.isp_tree.specs.Views.{arguments_of}
use Rattle.isp_name_breaches.specs.reader.Exprs.{arguments_faults}
use Rattle.isp_name_breaches.proofs.expr.+expr.Given as goal

abbrev pub invariant-arguments-loop-place : goal.invariant-arguments-loop-place
invariant-arguments-loop-place l =
    l.found.items ++ arguments_faults l.setting.gang l.setting.headers.now l.scope l.past (drop l.place l.wants) (listed (arguments_of (drop l.place l.all)))
    ≡ l.initial.found.items ++ arguments_faults l.setting.gang l.setting.headers.now l.scope l.past l.wants (listed (arguments_of l.all))
