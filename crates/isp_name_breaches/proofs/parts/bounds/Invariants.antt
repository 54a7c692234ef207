use Rattle.std.proofs.Common.{◌≡◌, ◌++◌, drop, map}
use Rattle.isp_tree.specs.Views.{range_of as read_range}
use Rattle.isp_name_breaches.specs.reader.Stmts.{bounds_faults}
use Rattle.isp_name_breaches.proofs.parts.bounds.Given as goal

abbrev pub invariant-loop-r : goal.invariant-loop-r
invariant-loop-r l =
    l.found.items ++ bounds_faults l.setting.gang l.setting.headers.now l.scope (map read_range (drop l.r-index l.all))
    ≡ l.initial.found.items ++ bounds_faults l.setting.gang l.setting.headers.now l.scope (map read_range l.all)
