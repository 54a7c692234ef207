use Rattle.std.proofs.Common.{◌≡◌, drop, map}
use Rattle.isp_tree.specs.Views.{item_of as read_item}
use Rattle.isp_typed.specs.Verdicts.{made}
use Rattle.isp_types.specs.Numbering.{items_names, items_variables}
use Rattle.isp_types.specs.reader.Boxes.{listed_items}
use Rattle.isp_types.specs.Declarations.{items_typing}
use Rattle.isp_exprs.proofs.Gathered.{before}
use Rattle.isp_types.proofs.declaration.items.Given as goal

abbrev pub invariant-loop-x : goal.invariant-loop-x
invariant-loop-x l = record {
  value : before (made listed_items l.done) (items_typing l.setting.gang l.setting.headers.now l.words l.start l.scope l.variables.items (map read_item (drop l.x-index l.all))).verdict
      ≡ (items_typing l.setting.gang l.setting.headers.now l.words l.start l.initial.scope l.initial.variables.items (map read_item l.all)).verdict;
  names : items_names l.setting.gang l.words l.scope l.variables.items (map read_item (drop l.x-index l.all))
      ≡ items_names l.setting.gang l.words l.initial.scope l.initial.variables.items (map read_item l.all);
  variables : items_variables l.setting.gang l.words l.variables.items (map read_item (drop l.x-index l.all))
      ≡ items_variables l.setting.gang l.words l.initial.variables.items (map read_item l.all);
}
