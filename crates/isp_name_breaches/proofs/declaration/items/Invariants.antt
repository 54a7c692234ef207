use Rattle.std.proofs.Common.{◌≡◌, ◌++◌, drop, map}
use Rattle.isp_tree.specs.Views.{item_of as read_item}
use Rattle.isp_types.specs.Numbering.{items_names, items_variables}
use Rattle.isp_name_breaches.specs.reader.Stmts.{items_faults}
use Rattle.isp_name_breaches.proofs.declaration.items.Given as goal

abbrev pub invariant-loop-x : goal.invariant-loop-x
invariant-loop-x l = record {
  found : l.walk.found.items ++ items_faults l.setting.gang l.setting.headers.now l.words l.start l.walk.scope l.walk.variables.items (map read_item (drop l.x-index l.all))
      ≡ l.initial.walk.found.items ++ items_faults l.setting.gang l.setting.headers.now l.words l.start l.initial.walk.scope l.initial.walk.variables.items (map read_item l.all);
  names : items_names l.setting.gang l.words l.walk.scope l.walk.variables.items (map read_item (drop l.x-index l.all))
      ≡ items_names l.setting.gang l.words l.initial.walk.scope l.initial.walk.variables.items (map read_item l.all);
  variables : items_variables l.setting.gang l.words l.walk.variables.items (map read_item (drop l.x-index l.all))
      ≡ items_variables l.setting.gang l.words l.initial.walk.variables.items (map read_item l.all);
}
