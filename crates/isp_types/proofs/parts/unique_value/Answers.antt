use Rattle.std.proofs.Common.{◌∙◌}
use Rattle.isp_tree.specs.Views.{expr_of as read_expr}
use Rattle.isp_typed.specs.Verdicts.{made}
use Rattle.isp_exprs.specs.reader.Parts.{boxed_of}
use Rattle.isp_types.proofs.Unique.{names_judged, variables_judged}
use Rattle.isp_types.proofs.parts.unique_value.Goals as goal

pub returns-clause-names : goal.returns-clause-names
returns-clause-names c =
    c.in_ok-push-2.ensures.ok
    ∙ names_judged c.args.setting.now.gang c.args.setting.now.headers.now c.args.scope.now c.args.variables.now.items c.args.word.now (read_expr c.args.value.now) (made boxed_of c.in_ok-found.found) _ _ _
    c.in_ok-found.ensures c.index_of-index.ensures (c.len-number.ensures ∙ c.args.variables.now.ok.0) c.known.ensures

pub returns-clause-variables : goal.returns-clause-variables
returns-clause-variables c =
    c.in_ok-push.ensures.items
    ∙ variables_judged c.args.setting.now.gang c.args.setting.now.headers.now c.args.scope.now c.args.variables.now.items (read_expr c.args.value.now) (made boxed_of c.in_ok-found.found) _ _
    c.in_ok-found.ensures c.index_of-index.ensures c.or_active.ensures
