use Rattle.isp_typed.specs.declared.stmt.TypedStmt.{TypedStmt}
use Rattle.isp_typed.specs.Views.{stmt_of, stmts_of}
use Rattle.isp_gang_run.specs.Most.{two}
use Rattle.isp_gang_run.specs.Due.{all_due, due_now, own, run_due}
use Rattle.isp_gang_run.specs.declared.state.Evaluator.{Evaluator}
use Rattle.isp_gang_run.proofs.Progress.{leaves_as, same_leaves}
use Rattle.std.proofs.Common.{refl, ap, arith, List, sym, ◌∙◌}
use Rattle.isp_gang_run.specs.declared.tasks.Statements.{Statements}
use Rattle.isp_gang_run.proofs.Blocks.{block_ends, block_goes, headed, none_left}
use Rattle.isp_gang_run.proofs.state.Evaluator.statements.Goals as goal

pub returns-in-empty-clause-ok : goal.returns-in-empty-clause-ok
returns-in-empty-clause-ok c = block_ends c.args.self.now c.leave.new.self c.args.rest.now c.args.before c.args.set _ (none_left c.args.rest.now c.in-empty.len_below) refl c.leave.ensures

pub returns-in_ok-both-in-len1-up-clause-ok : goal.returns-in_ok-both-in-len1-up-clause-ok
returns-in_ok-both-in-len1-up-clause-ok c =
    let e = c.in_ok-others-in-len1-up.ensures.ok in
    let h = ap (λ (x : Statements). x.rest.now) e in
    block_goes c.args.self.now c.both.new.self c.args.rest.now _ _ c.in_ok-others-in-len1-up.others c.args.before c.args.set
    (headed c.args.rest.now c.next-item.result (omega (arith, c.in-len1-up.len_at_least)) c.next-item.is) h (ap (λ (x : Statements). x.before) e)
    c.in_ok-both-in-len1-up.ensures.ok

pub returns-in-empty-clause-fewer : goal.returns-in-empty-clause-fewer
returns-in-empty-clause-fewer c =
    same_leaves c.args.self.now c.leave.new.self (own c.args.self.now all_due (stmts_of c.args.rest.now)) (ap (λ (e : Evaluator). due_now e) c.leave.ensures)

pub returns-in_ok-both-in-len1-up-clause-fewer : goal.returns-in_ok-both-in-len1-up-clause-fewer
returns-in_ok-both-in-len1-up-clause-fewer c =
    leaves_as c.args.self.now c.both.new.self c.args.self.now.left (ap (λ (xs : List TypedStmt). own c.args.self.now all_due (stmts_of xs))
    (headed c.args.rest.now c.next-item.result (omega (arith, c.in-len1-up.len_at_least)) c.next-item.is)
    ∙ ap (λ (d : Statements). two (own c.args.self.now run_due (stmt_of c.next-item.result)) (own c.args.self.now all_due (stmts_of d.rest.now))) (sym c.in_ok-others-in-len1-up.ensures.ok)) c.in_ok-both-in-len1-up.ensures.fewer
