use Rattle.std.proofs.Common.{◌≡◌, drop}
use Rattle.isp_tree.specs.Tree.{listed}
use Rattle.isp_tree.specs.Views.{arguments_of}
use Rattle.isp_typed.specs.Verdicts.{made}
use Rattle.isp_exprs.specs.Rules.{arguments_typing}
use Rattle.isp_exprs.specs.reader.Parts.{list_passed}
use Rattle.isp_exprs.proofs.Gathered.{before}
use Rattle.isp_exprs.proofs.expressions.+expr.Given as goal

abbrev pub invariant-arguments-loop-place : goal.invariant-arguments-loop-place
invariant-arguments-loop-place l =
    before (made (λ v. list_passed v.items) l.done) (arguments_typing l.setting.gang l.setting.headers.now l.scope (listed (arguments_of (drop l.place l.all))) l.past (drop l.place l.wants)).verdict
    ≡ (arguments_typing l.setting.gang l.setting.headers.now l.scope (listed (arguments_of l.all)) l.past l.wants).verdict
