use Rattle.isp_gang_run.proofs.Fewer.{false_fewer, true_fewer}
use Rattle.isp_gang_run.specs.Due.{branch_due, own, run_due, second_due}
use Rattle.isp_typed.specs.Views.{stmt_of}
use Rattle.isp_gang_run.proofs.Progress.{leaves_as, leaves_within}
use Rattle.isp_gang_run.specs.Most.{one}
use Rattle.std.proofs.Common.{ap, ◌∙◌, sym, ◌+◌}
use Rattle.isp_base.specs.Sets.{flag_of}
use Rattle.isp_gang_run.specs.declared.tasks.Branches.{Branches}
use Rattle.isp_gang_run.proofs.Branching.{true_branch, false_branch, first_branch}
use Rattle.isp_gang_run.proofs.state.Evaluator.branch.Goals as goal

pub returns-then-bits-ne0-clause-ok : goal.returns-then-bits-ne0-clause-ok
returns-then-bits-ne0-clause-ok c =
    true_branch c.args.self.now c.run_or_go.new.self c.args.branches c.deref.result.now c.deref.result.now c.in-One.bits c.deref.ensures c.deref.ensures c.in-One.is c.if-bits-ne0.true c.in_ok-run_or_go-in-One.ensures.ok

pub returns-in-One-clause-ok : goal.returns-in-One-clause-ok
returns-in-One-clause-ok c =
    false_branch c.args.self.now c.run_or_go-else-bits-ne0.new.self c.args.branches c.deref.result.now c.deref.result.now c.in-One.bits c.deref.ensures c.deref.ensures c.in-One.is c.if-bits-ne0.false c.in_ok-run_or_go-in-One-2.ensures.ok

pub returns-clause-ok : goal.returns-clause-ok
returns-clause-ok c =
    let e = c.in_ok-others-in-Each.ensures.ok in
    first_branch c.args.self.now c.perhaps.new.self c.args.branches c.in_ok-others-in-Each.others c.deref.result.now c.deref.result.now c.in-Each.row c.where_is-chosen.result c.deref.ensures c.deref.ensures c.in-Each.is c.where_is-chosen.ensures
    (ap (λ (x : Branches). x.otherwise) e ∙ ap (λ (x : Branches). x.otherwise) c.deref.ensures) (ap (λ (x : Branches). flag_of x.set) e ∙ c.without.ensures) c.in_ok-perhaps-in-Each.ensures.ok

pub returns-then-bits-ne0-clause-fewer : goal.returns-then-bits-ne0-clause-fewer
returns-then-bits-ne0-clause-fewer c =
    leaves_as c.args.self.now c.run_or_go.new.self c.args.self.now.left (ap (λ (b : Branches). own c.args.self.now branch_due b.then b.otherwise) (sym c.deref.ensures))
    (leaves_within c.args.self.now c.run_or_go.new.self c.args.self.now.left _ _ (true_fewer c.args.self.now c.deref.result.now.then c.deref.result.now.otherwise) c.in_ok-run_or_go-in-One.ensures.fewer)

pub returns-in-One-clause-fewer : goal.returns-in-One-clause-fewer
returns-in-One-clause-fewer c =
    leaves_as c.args.self.now c.run_or_go-else-bits-ne0.new.self c.args.self.now.left (ap (λ (b : Branches). own c.args.self.now branch_due b.then b.otherwise) (sym c.deref.ensures))
    (leaves_within c.args.self.now c.run_or_go-else-bits-ne0.new.self c.args.self.now.left _ _ (false_fewer c.args.self.now c.deref.result.now.then c.deref.result.now.otherwise) c.in_ok-run_or_go-in-One-2.ensures.fewer)

pub returns-clause-fewer : goal.returns-clause-fewer
returns-clause-fewer c =
    leaves_as c.args.self.now c.perhaps.new.self c.args.self.now.left (ap (λ (b : Branches). own c.args.self.now branch_due b.then b.otherwise) (sym c.deref.ensures)
    ∙ ap (λ (b : Branches). one (own c.args.self.now run_due (stmt_of c.deref.result.now.then.now)) + one (own c.args.self.now second_due b.otherwise)) (sym c.in_ok-others-in-Each.ensures.ok)) c.in_ok-perhaps-in-Each.ensures.fewer
