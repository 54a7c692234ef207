use Rattle.std.proofs.Common.{◌≡◌, drop, map}
use Rattle.isp_tree.specs.Views.{expr_of as read_expr}
use Rattle.isp_typed.specs.Verdicts.{made}
use Rattle.isp_types.specs.reader.Boxes.{listed_exprs}
use Rattle.isp_types.specs.Statements.{values_typing}
use Rattle.isp_types.proofs.Joined.{joined}
use Rattle.isp_types.proofs.parts.values.Given as goal

abbrev pub invariant-loop-x : goal.invariant-loop-x
invariant-loop-x l =
    joined (made listed_exprs l.done) (values_typing l.setting.gang l.setting.headers.now l.scope (map read_expr (drop l.x-index l.all))).verdict
    ≡ (values_typing l.setting.gang l.setting.headers.now l.scope (map read_expr l.all)).verdict
