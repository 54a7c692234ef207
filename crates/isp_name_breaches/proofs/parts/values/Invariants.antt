use Rattle.std.proofs.Common.{◌≡◌, ◌++◌, drop}
use Rattle.isp_tree.specs.Views.{exprs_of as read_exprs}
use Rattle.isp_name_breaches.specs.reader.Stmts.{values_faults}
use Rattle.isp_name_breaches.proofs.parts.values.Given as goal

abbrev pub invariant-loop-x : goal.invariant-loop-x
invariant-loop-x l =
    l.found.items ++ values_faults l.setting.gang l.setting.headers.now l.scope (read_exprs (drop l.x-index l.all))
    ≡ l.initial.found.items ++ values_faults l.setting.gang l.setting.headers.now l.scope (read_exprs l.all)
