use Rattle.isp_gang_run.specs.Due.{own, value_due}
use Rattle.isp_gang_run.proofs.Progress.{then_none}
use Rattle.isp_gang_run.specs.Most.{one}
use Rattle.std.proofs.Common.{refl, sym, ap, ◌∙◌}
use Rattle.isp_base.specs.Sets.{any, flag_of}
use Rattle.isp_base.specs.Types.{gang_width}
use Rattle.isp_typed.specs.Views.{expr_of}
use Rattle.isp_gang_run.proofs.Nodes.{no_value}
use Rattle.isp_gang_run.proofs.state.Evaluator.unless_empty.Goals as goal

pub returns-in_ok-later-clause-ok : goal.returns-in_ok-later-clause-ok
returns-in_ok-later-clause-ok c =
    no_value c.args.self.now c.later.new.self _ (expr_of c.args.x.now) c.args.set c.args.after
    (ap (λ g. any (gang_width g) (flag_of c.args.set)) (sym c.gang.ensures) ∙ sym c.any.ensures ∙ c.if-any.false)
    c.in_ok-later.ensures.ok c.in_ok-later.ensures.rest refl c.nothing-self.ensures

pub returns-in_ok-later-clause-fewer : goal.returns-in_ok-later-clause-fewer
returns-in_ok-later-clause-fewer c =
    then_none c.args.self.now c.later.new.self c.later.new.self c.args.after (one (own c.args.self.now value_due (expr_of c.args.x.now))) c.in_ok-later.ensures.fewer refl
