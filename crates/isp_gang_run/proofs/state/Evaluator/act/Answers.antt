use Rattle.isp_gang_run.proofs.Progress.{leaves_known, leaves_ok, same_leaves}
use Rattle.isp_gang_run.specs.Due.{due_now}
use Rattle.std.proofs.Common.{refl, sym, ap}
use Rattle.isp_base.specs.Sets.{flag_of}
use Rattle.isp_gang_run.specs.Tasks.{all_parts, does, rest, store_seen}
use Rattle.isp_gang_run.specs.declared.state.Evaluator.{Evaluator}
use Rattle.isp_gang_run.specs.declared.tasks.Task.TheVariants as task
use Rattle.isp_gang_run.proofs.Acting.{act_comes, act_does, comes_ok, does_ok, halts_err, traps_err, refused_err}
use Rattle.isp_gang_run.proofs.Branching.{leaves}
use Rattle.isp_gang_run.proofs.Counts.{work_of, counts_same}
use Rattle.isp_gang_run.proofs.state.Evaluator.act.Goals as goal

pub returns-in-Value-clause-ok : goal.returns-in-Value-clause-ok
returns-in-Value-clause-ok c = does_ok c.args.self.now c.value.new.self c.args.task _ c.in-Value.is c.value.result c.value.ensures.ok

pub returns-in-Value-clause-err : goal.returns-in-Value-clause-err
returns-in-Value-clause-err c = halts_err c.args.self.now c.value.new.self c.args.task _ c.in-Value.is c.value.result c.value.ensures.err

pub returns-in-Convert-clause-ok : goal.returns-in-Convert-clause-ok
returns-in-Convert-clause-ok c = act_does c.args.self.now c.convert.new.self c.args.task _ c.in-Convert.is c.convert.ensures.comes

pub returns-in-Unary-clause-ok : goal.returns-in-Unary-clause-ok
returns-in-Unary-clause-ok c = act_does c.args.self.now c.unary.new.self c.args.task _ c.in-Unary.is c.unary.ensures.comes

pub returns-in-Right-clause-ok : goal.returns-in-Right-clause-ok
returns-in-Right-clause-ok c = does_ok c.args.self.now c.right.new.self c.args.task _ c.in-Right.is c.right.result c.right.ensures.ok

pub returns-in-Right-clause-err : goal.returns-in-Right-clause-err
returns-in-Right-clause-err c = refused_err c.args.self.now c.right.new.self c.args.task c.right.result c.right.ensures.err

pub returns-in-Join-clause-ok : goal.returns-in-Join-clause-ok
returns-in-Join-clause-ok c = does_ok c.args.self.now c.join.new.self c.args.task _ c.in-Join.is c.join.result c.join.ensures.ok

pub returns-in-Join-clause-err : goal.returns-in-Join-clause-err
returns-in-Join-clause-err c = traps_err c.args.self.now c.join.new.self c.args.task _ c.in-Join.is c.join.result c.join.ensures.err

pub returns-in-Logic-clause-ok : goal.returns-in-Logic-clause-ok
returns-in-Logic-clause-ok c = does_ok c.args.self.now c.logic.new.self c.args.task _ c.in-Logic.is c.logic.result c.logic.ensures.ok

pub returns-in-Logic-clause-err : goal.returns-in-Logic-clause-err
returns-in-Logic-clause-err c = refused_err c.args.self.now c.logic.new.self c.args.task c.logic.result c.logic.ensures.err

pub returns-in-Settle-clause-ok : goal.returns-in-Settle-clause-ok
returns-in-Settle-clause-ok c = act_does c.args.self.now c.settle.new.self c.args.task _ c.in-Settle.is c.settle.ensures.comes

pub returns-in-Select-clause-ok : goal.returns-in-Select-clause-ok
returns-in-Select-clause-ok c = act_does c.args.self.now c.select.new.self c.args.task _ c.in-Select.is c.select.ensures.comes

pub returns-in-PackedStore-clause-ok : goal.returns-in-PackedStore-clause-ok
returns-in-PackedStore-clause-ok c = does_ok c.args.self.now c.packed_store.new.self c.args.task _ c.in-PackedStore.is c.packed_store.result c.packed_store.ensures.ok

pub returns-in-PackedStore-clause-err : goal.returns-in-PackedStore-clause-err
returns-in-PackedStore-clause-err c = halts_err c.args.self.now c.packed_store.new.self c.args.task _ c.in-PackedStore.is c.packed_store.result c.packed_store.ensures.err

pub returns-in-Call-clause-ok : goal.returns-in-Call-clause-ok
returns-in-Call-clause-ok c = does_ok c.args.self.now c.call.new.self c.args.task _ c.in-Call.is c.call.result c.call.ensures.ok

pub returns-in-Call-clause-err : goal.returns-in-Call-clause-err
returns-in-Call-clause-err c = refused_err c.args.self.now c.call.new.self c.args.task c.call.result c.call.ensures.err

pub returns-in-Simple-clause-ok : goal.returns-in-Simple-clause-ok
returns-in-Simple-clause-ok c = does_ok c.args.self.now c.simple.new.self c.args.task _ c.in-Simple.is c.simple.result c.simple.ensures.ok

pub returns-in-Simple-clause-err : goal.returns-in-Simple-clause-err
returns-in-Simple-clause-err c = halts_err c.args.self.now c.simple.new.self c.args.task _ c.in-Simple.is c.simple.result c.simple.ensures.err

pub returns-in-Assign-clause-ok : goal.returns-in-Assign-clause-ok
returns-in-Assign-clause-ok c = does_ok c.args.self.now c.assign.new.self c.args.task _ c.in-Assign.is c.assign.result c.assign.ensures.ok

pub returns-in-Assign-clause-err : goal.returns-in-Assign-clause-err
returns-in-Assign-clause-err c = halts_err c.args.self.now c.assign.new.self c.args.task _ c.in-Assign.is c.assign.result c.assign.ensures.err

pub returns-in-Items-clause-ok : goal.returns-in-Items-clause-ok
returns-in-Items-clause-ok c = does_ok c.args.self.now c.items.new.self c.args.task _ c.in-Items.is c.items.result c.items.ensures.ok

pub returns-in-Items-clause-err : goal.returns-in-Items-clause-err
returns-in-Items-clause-err c = refused_err c.args.self.now c.items.new.self c.args.task c.items.result c.items.ensures.err

pub returns-in-Declared-clause-ok : goal.returns-in-Declared-clause-ok
returns-in-Declared-clause-ok c = does_ok c.args.self.now c.declared.new.self c.args.task _ c.in-Declared.is c.declared.result c.declared.ensures.ok

pub returns-in-Declared-clause-err : goal.returns-in-Declared-clause-err
returns-in-Declared-clause-err c = refused_err c.args.self.now c.declared.new.self c.args.task c.declared.result c.declared.ensures.err

pub returns-in-Forget-clause-ok : goal.returns-in-Forget-clause-ok
returns-in-Forget-clause-ok c =
    act_comes c.args.self.now c.forget.new.self c.args.task task.Forget c.in-Forget.is (record {
      by = λ w. (w, sym (ap (λ (k : Evaluator). rest k (store_seen k w)) c.forget.ensures));
      counts = λ w k. counts_same c.args.self.now c.forget.new.self w (ap work_of c.forget.ensures) k;
    })

pub returns-in-Run-clause-ok : goal.returns-in-Run-clause-ok
returns-in-Run-clause-ok c = comes_ok c.args.self.now c.run.new.self c.args.task _ c.in-Run.is c.run.result c.run.ensures.ok

pub returns-in-Run-clause-err : goal.returns-in-Run-clause-err
returns-in-Run-clause-err c = halts_err c.args.self.now c.run.new.self c.args.task _ c.in-Run.is c.run.result c.run.ensures.err

pub returns-in-Statements-clause-ok : goal.returns-in-Statements-clause-ok
returns-in-Statements-clause-ok c = comes_ok c.args.self.now c.went_by.new.self c.args.task _ c.in-Statements.is c.went_by.result c.went_by.ensures.ok

pub returns-in-Statements-clause-err : goal.returns-in-Statements-clause-err
returns-in-Statements-clause-err c = refused_err c.args.self.now c.went_by.new.self c.args.task c.went_by.result c.went_by.ensures.err

pub returns-in-Branch-clause-ok : goal.returns-in-Branch-clause-ok
returns-in-Branch-clause-ok c = comes_ok c.args.self.now c.branch-self.new.self c.args.task _ c.in-Branch.is c.branch-self.result c.branch-self.ensures.ok

pub returns-in-Branch-clause-err : goal.returns-in-Branch-clause-err
returns-in-Branch-clause-err c = refused_err c.args.self.now c.branch-self.new.self c.args.task c.branch-self.result c.branch-self.ensures.err

pub returns-in-Second-clause-ok : goal.returns-in-Second-clause-ok
returns-in-Second-clause-ok c = comes_ok c.args.self.now c.second.new.self c.args.task _ c.in-Second.is c.second.result c.second.ensures.ok

pub returns-in-Second-clause-err : goal.returns-in-Second-clause-err
returns-in-Second-clause-err c = refused_err c.args.self.now c.second.new.self c.args.task c.second.result c.second.ensures.err

pub returns-in-Unite-clause-ok : goal.returns-in-Unite-clause-ok
returns-in-Unite-clause-ok c = act_comes c.args.self.now c.unite.new.self c.args.task _ c.in-Unite.is c.unite.ensures.comes

pub returns-in-Answer-clause-ok : goal.returns-in-Answer-clause-ok
returns-in-Answer-clause-ok c = act_comes c.args.self.now c.answer.new.self c.args.task _ c.in-Answer.is c.answer.ensures.comes

pub returns-in-Assert-clause-ok : goal.returns-in-Assert-clause-ok
returns-in-Assert-clause-ok c = comes_ok c.args.self.now c.assert.new.self c.args.task _ c.in-Assert.is c.assert.result c.assert.ensures.ok

pub returns-in-Assert-clause-err : goal.returns-in-Assert-clause-err
returns-in-Assert-clause-err c = halts_err c.args.self.now c.assert.new.self c.args.task _ c.in-Assert.is c.assert.result c.assert.ensures.err

pub returns-in-Went-clause-ok : goal.returns-in-Went-clause-ok
returns-in-Went-clause-ok c =
    let old = c.args.self.now in
    act_comes old c.leave.new.self c.args.task (task.Went c.in-Went.set) c.in-Went.is (leaves old c.leave.new.self (does old (task.Went c.in-Went.set)) c.all.result (all_parts (flag_of c.in-Went.set)) c.leave.ensures c.all.ensures (λ w. refl))

pub returns-in-Value-clause-fewer : goal.returns-in-Value-clause-fewer
returns-in-Value-clause-fewer c =
    leaves_ok c.args.self.now c.value.new.self c.args.task _ c.in-Value.is c.value.result c.value.ensures.fewer

pub returns-in-Convert-clause-fewer : goal.returns-in-Convert-clause-fewer
returns-in-Convert-clause-fewer c =
    leaves_known c.args.self.now c.convert.new.self c.args.task _ c.in-Convert.is c.convert.ensures.fewer

pub returns-in-Unary-clause-fewer : goal.returns-in-Unary-clause-fewer
returns-in-Unary-clause-fewer c =
    leaves_known c.args.self.now c.unary.new.self c.args.task _ c.in-Unary.is c.unary.ensures.fewer

pub returns-in-Right-clause-fewer : goal.returns-in-Right-clause-fewer
returns-in-Right-clause-fewer c =
    leaves_ok c.args.self.now c.right.new.self c.args.task _ c.in-Right.is c.right.result c.right.ensures.fewer

pub returns-in-Join-clause-fewer : goal.returns-in-Join-clause-fewer
returns-in-Join-clause-fewer c =
    leaves_ok c.args.self.now c.join.new.self c.args.task _ c.in-Join.is c.join.result c.join.ensures.fewer

pub returns-in-Logic-clause-fewer : goal.returns-in-Logic-clause-fewer
returns-in-Logic-clause-fewer c =
    leaves_ok c.args.self.now c.logic.new.self c.args.task _ c.in-Logic.is c.logic.result c.logic.ensures.fewer

pub returns-in-Settle-clause-fewer : goal.returns-in-Settle-clause-fewer
returns-in-Settle-clause-fewer c =
    leaves_known c.args.self.now c.settle.new.self c.args.task _ c.in-Settle.is c.settle.ensures.fewer

pub returns-in-Select-clause-fewer : goal.returns-in-Select-clause-fewer
returns-in-Select-clause-fewer c =
    leaves_known c.args.self.now c.select.new.self c.args.task _ c.in-Select.is c.select.ensures.fewer

pub returns-in-PackedStore-clause-fewer : goal.returns-in-PackedStore-clause-fewer
returns-in-PackedStore-clause-fewer c =
    leaves_ok c.args.self.now c.packed_store.new.self c.args.task _ c.in-PackedStore.is c.packed_store.result c.packed_store.ensures.fewer

pub returns-in-Call-clause-fewer : goal.returns-in-Call-clause-fewer
returns-in-Call-clause-fewer c =
    leaves_ok c.args.self.now c.call.new.self c.args.task _ c.in-Call.is c.call.result c.call.ensures.fewer

pub returns-in-Simple-clause-fewer : goal.returns-in-Simple-clause-fewer
returns-in-Simple-clause-fewer c =
    leaves_ok c.args.self.now c.simple.new.self c.args.task _ c.in-Simple.is c.simple.result c.simple.ensures.fewer

pub returns-in-Assign-clause-fewer : goal.returns-in-Assign-clause-fewer
returns-in-Assign-clause-fewer c =
    leaves_ok c.args.self.now c.assign.new.self c.args.task _ c.in-Assign.is c.assign.result c.assign.ensures.fewer

pub returns-in-Items-clause-fewer : goal.returns-in-Items-clause-fewer
returns-in-Items-clause-fewer c =
    leaves_ok c.args.self.now c.items.new.self c.args.task _ c.in-Items.is c.items.result c.items.ensures.fewer

pub returns-in-Declared-clause-fewer : goal.returns-in-Declared-clause-fewer
returns-in-Declared-clause-fewer c =
    leaves_ok c.args.self.now c.declared.new.self c.args.task _ c.in-Declared.is c.declared.result c.declared.ensures.fewer

pub returns-in-Forget-clause-fewer : goal.returns-in-Forget-clause-fewer
returns-in-Forget-clause-fewer c =
    leaves_known c.args.self.now c.forget.new.self c.args.task task.Forget c.in-Forget.is (same_leaves c.args.self.now c.forget.new.self 0 (ap (λ (e : Evaluator). due_now e) c.forget.ensures))

pub returns-in-Run-clause-fewer : goal.returns-in-Run-clause-fewer
returns-in-Run-clause-fewer c =
    leaves_ok c.args.self.now c.run.new.self c.args.task _ c.in-Run.is c.run.result c.run.ensures.fewer

pub returns-in-Statements-clause-fewer : goal.returns-in-Statements-clause-fewer
returns-in-Statements-clause-fewer c =
    leaves_ok c.args.self.now c.went_by.new.self c.args.task _ c.in-Statements.is c.went_by.result c.went_by.ensures.fewer

pub returns-in-Branch-clause-fewer : goal.returns-in-Branch-clause-fewer
returns-in-Branch-clause-fewer c =
    leaves_ok c.args.self.now c.branch-self.new.self c.args.task _ c.in-Branch.is c.branch-self.result c.branch-self.ensures.fewer

pub returns-in-Second-clause-fewer : goal.returns-in-Second-clause-fewer
returns-in-Second-clause-fewer c =
    leaves_ok c.args.self.now c.second.new.self c.args.task _ c.in-Second.is c.second.result c.second.ensures.fewer

pub returns-in-Unite-clause-fewer : goal.returns-in-Unite-clause-fewer
returns-in-Unite-clause-fewer c =
    leaves_known c.args.self.now c.unite.new.self c.args.task _ c.in-Unite.is c.unite.ensures.fewer

pub returns-in-Answer-clause-fewer : goal.returns-in-Answer-clause-fewer
returns-in-Answer-clause-fewer c =
    leaves_known c.args.self.now c.answer.new.self c.args.task _ c.in-Answer.is c.answer.ensures.fewer

pub returns-in-Assert-clause-fewer : goal.returns-in-Assert-clause-fewer
returns-in-Assert-clause-fewer c =
    leaves_ok c.args.self.now c.assert.new.self c.args.task _ c.in-Assert.is c.assert.result c.assert.ensures.fewer

pub returns-in-Went-clause-fewer : goal.returns-in-Went-clause-fewer
returns-in-Went-clause-fewer c =
    leaves_known c.args.self.now c.leave.new.self c.args.task (task.Went c.in-Went.set) c.in-Went.is (same_leaves c.args.self.now c.leave.new.self 0 (ap (λ (e : Evaluator). due_now e) c.leave.ensures))
