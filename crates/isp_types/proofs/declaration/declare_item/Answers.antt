use Rattle.std.proofs.Common.{◌∙◌}
use Rattle.isp_tree.specs.Views.{item_of}
use Rattle.isp_types.proofs.ItemSteps.{item_is}
use Rattle.isp_types.proofs.declaration.declare_item.Goals as goal

pub returns-clause-value : goal.returns-clause-value
returns-clause-value c =
    c.in_ok-part.ensures
    ∙ item_is c.args.setting.now.gang c.args.setting.now.headers.now c.args.scope.now c.args.words c.args.start c.args.variables.now.items (item_of c.args.declared_item.now) _ _ _
    c.item_word-word.result.now c.twice-seen.ensures c.item_word-word.ensures (c.len-number.ensures ∙ c.args.variables.now.ok.0) c.or_nothing.ensures
