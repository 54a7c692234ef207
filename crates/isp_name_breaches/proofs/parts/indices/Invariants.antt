use Rattle.std.proofs.Common.{◌≡◌, ◌++◌, drop, map}
use Rattle.isp_tree.specs.Views.{range_of as read_range}
use Rattle.isp_types.specs.Numbering.{range_names, range_variables}
use Rattle.isp_name_breaches.specs.reader.Stmts.{indices_faults}
use Rattle.isp_name_breaches.proofs.parts.indices.Given as goal

abbrev pub invariant-loop-r : goal.invariant-loop-r
invariant-loop-r l = record {
  found : l.walk.found.items ++ indices_faults l.start l.walk.scope l.walk.variables.items (map read_range (drop l.r-index l.all))
      ≡ l.initial.walk.found.items ++ indices_faults l.start l.initial.walk.scope l.initial.walk.variables.items (map read_range l.all);
  names : range_names l.walk.scope l.walk.variables.items (map read_range (drop l.r-index l.all)) ≡ range_names l.initial.walk.scope l.initial.walk.variables.items (map read_range l.all);
  variables : range_variables l.walk.variables.items (map read_range (drop l.r-index l.all)) ≡ range_variables l.initial.walk.variables.items (map read_range l.all);
}
