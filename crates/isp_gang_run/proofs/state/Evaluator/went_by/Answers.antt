use Rattle.isp_typed.specs.Views.{stmts_of}
use Rattle.isp_gang_run.specs.declared.tasks.Statements.{Statements}
use Rattle.isp_gang_run.specs.Due.{all_due, due_now, own}
use Rattle.isp_gang_run.specs.declared.state.Evaluator.{Evaluator}
use Rattle.isp_gang_run.proofs.Progress.{leaves_as, same_leaves}
use Rattle.std.proofs.Common.{sym, ap, refl, ◌∙◌}
use Rattle.isp_base.specs.Sets.{any, flag_of}
use Rattle.isp_base.specs.Types.{gang_width}
use Rattle.isp_gang_run.proofs.Blocks.{others_run, nobody_went_on}
use Rattle.isp_gang_run.proofs.state.Evaluator.went_by.Goals as goal

pub returns-then-any-clause-ok : goal.returns-then-any-clause-ok
returns-then-any-clause-ok c =
    others_run c.args.self.now c.statements.new.self c.args.statements c.deref.result.now c.deref.result.now c.or-before.result c.deref.ensures c.deref.ensures
    (ap (λ g. any (gang_width g) (flag_of c.args.self.now.sets.went)) (sym c.gang.ensures) ∙ sym c.any.ensures ∙ c.if-any.true)
    (record { broke = c.or-before.ensures.broke; continued = c.or-before.ensures.continued; returned = c.or-before.ensures.returned }) c.in_ok-statements.ensures.ok

pub returns-clause-ok : goal.returns-clause-ok
returns-clause-ok c =
    nobody_went_on c.args.self.now c.leave.new.self c.args.statements c.deref.result.now _ c.or-before.result c.deref.ensures
    (ap (λ g. any (gang_width g) (flag_of c.args.self.now.sets.went)) (sym c.gang.ensures) ∙ sym c.any.ensures ∙ c.if-any.false)
    (record { broke = c.or-before.ensures.broke; continued = c.or-before.ensures.continued; returned = c.or-before.ensures.returned }) refl c.leave.ensures

pub returns-then-any-clause-fewer : goal.returns-then-any-clause-fewer
returns-then-any-clause-fewer c =
    leaves_as c.args.self.now c.statements.new.self c.args.self.now.left (ap (λ (d : Statements). own c.args.self.now all_due (stmts_of d.rest.now)) (sym c.deref.ensures)) c.in_ok-statements.ensures.fewer

pub returns-clause-fewer : goal.returns-clause-fewer
returns-clause-fewer c =
    same_leaves c.args.self.now c.leave.new.self (own c.args.self.now all_due (stmts_of c.args.statements.value.rest.now)) (ap (λ (e : Evaluator). due_now e) c.leave.ensures)
