use Rattle.isp_gang_run.specs.Due.{own, simple_due}
use Rattle.isp_gang_run.proofs.Progress.{leaves_as}
use Rattle.std.proofs.Common.{refl, ap}
use Rattle.isp_typed.specs.Typed.{t_assign, t_update, t_step, TSimple}
use Rattle.isp_typed.specs.Views.{expr_of, place_of, simple_of}
use Rattle.isp_gang_run.specs.declared.places.Writing.TheVariants as writing
use Rattle.isp_gang_run.proofs.Assignments.{simple_value, simple_call, simple_target, simple_target_halts}
use Rattle.isp_gang_run.proofs.Results.{on_ok, if_err}
use Rattle.isp_gang_run.proofs.state.Evaluator.simple.Goals as goal

pub returns-in_ok-both-in-Value-clause-ok : goal.returns-in_ok-both-in-Value-clause-ok
returns-in_ok-both-in-Value-clause-ok c =
    simple_value c.args.self.now c.both.new.self c.tick.new.self c.tick.ensures c.args.simple c.args.set (record { ref_ptr = _; now = c.in-Value.x }) (ap simple_of c.in-Value.is) c.in_ok-both-in-Value.ensures.ok

pub returns-in_ok-both-in-Call-clause-ok : goal.returns-in_ok-both-in-Call-clause-ok
returns-in_ok-both-in-Call-clause-ok c =
    simple_call c.args.self.now c.both-in-Call.new.self c.tick.new.self c.tick.ensures c.args.simple c.args.set (record { ref_ptr = _; now = c.in-Call.call }) (ap simple_of c.in-Call.is) c.in_ok-both-in-Call.ensures.ok

pub returns-in-Assign-clause-ok : goal.returns-in-Assign-clause-ok
returns-in-Assign-clause-ok c =
    on_ok c.target.result
    (simple_target c.args.self.now c.target.new.self c.tick.new.self c.tick.ensures c.args.simple c.args.set (place_of c.in-Assign.target) (writing.Assign (record { ref_ptr = c.args.simple.ref_ptr; now = c.in-Assign.value }))
    (t_assign (place_of c.in-Assign.target) (expr_of c.in-Assign.value) c.in-Assign.span) (ap simple_of c.in-Assign.is) (λ k. refl))
    c.target.ensures.ok

pub returns-in-Assign-clause-err : goal.returns-in-Assign-clause-err
returns-in-Assign-clause-err c =
    if_err c.target.result
    (λ e h. simple_target_halts c.args.self.now c.target.new.self c.tick.new.self c.tick.ensures c.args.simple c.args.set (place_of c.in-Assign.target) (writing.Assign (record { ref_ptr = c.args.simple.ref_ptr; now = c.in-Assign.value }))
    (t_assign (place_of c.in-Assign.target) (expr_of c.in-Assign.value) c.in-Assign.span) e (ap simple_of c.in-Assign.is) (λ k. refl) h)
    c.target.ensures.err

pub returns-in-Update-clause-ok : goal.returns-in-Update-clause-ok
returns-in-Update-clause-ok c =
    on_ok c.target-in-Update.result
    (simple_target c.args.self.now c.target-in-Update.new.self c.tick.new.self c.tick.ensures c.args.simple c.args.set (place_of c.in-Update.target)
    (writing.Update (record { operator = c.in-Update.operator; elem = c.in-Update.elem; span = c.in-Update.span })
    (record { ref_ptr = c.args.simple.ref_ptr; now = c.in-Update.value }))
    (t_update c.in-Update.operator c.in-Update.elem (place_of c.in-Update.target) (expr_of c.in-Update.value) c.in-Update.span) (ap simple_of c.in-Update.is) (λ k. refl))
    c.target-in-Update.ensures.ok

pub returns-in-Update-clause-err : goal.returns-in-Update-clause-err
returns-in-Update-clause-err c =
    if_err c.target-in-Update.result
    (λ e h. simple_target_halts c.args.self.now c.target-in-Update.new.self c.tick.new.self c.tick.ensures c.args.simple c.args.set
    (place_of c.in-Update.target) (writing.Update (record { operator = c.in-Update.operator; elem = c.in-Update.elem; span = c.in-Update.span })
    (record { ref_ptr = c.args.simple.ref_ptr; now = c.in-Update.value }))
    (t_update c.in-Update.operator c.in-Update.elem (place_of c.in-Update.target) (expr_of c.in-Update.value) c.in-Update.span) e (ap simple_of c.in-Update.is) (λ k. refl) h)
    c.target-in-Update.ensures.err

pub returns-in-Step-clause-ok : goal.returns-in-Step-clause-ok
returns-in-Step-clause-ok c =
    on_ok c.target-in-Step.result
    (simple_target c.args.self.now c.target-in-Step.new.self c.tick.new.self c.tick.ensures c.args.simple c.args.set (place_of c.in-Step.target) (writing.Step (record { operator = c.in-Step.operator; elem = c.in-Step.elem; span = c.in-Step.span }))
    (t_step c.in-Step.operator c.in-Step.elem (place_of c.in-Step.target) c.in-Step.span) (ap simple_of c.in-Step.is) (λ k. refl))
    c.target-in-Step.ensures.ok

pub returns-in-Step-clause-err : goal.returns-in-Step-clause-err
returns-in-Step-clause-err c =
    if_err c.target-in-Step.result
    (λ e h. simple_target_halts c.args.self.now c.target-in-Step.new.self c.tick.new.self c.tick.ensures c.args.simple c.args.set
    (place_of c.in-Step.target) (writing.Step (record { operator = c.in-Step.operator; elem = c.in-Step.elem; span = c.in-Step.span }))
    (t_step c.in-Step.operator c.in-Step.elem (place_of c.in-Step.target) c.in-Step.span) e (ap simple_of c.in-Step.is) (λ k. refl) h)
    c.target-in-Step.ensures.err

pub returns-in_ok-both-in-Value-clause-fewer : goal.returns-in_ok-both-in-Value-clause-fewer
returns-in_ok-both-in-Value-clause-fewer c =
    leaves_as c.args.self.now c.both.new.self c.args.self.now.left (ap (λ (n : TSimple). own c.args.self.now simple_due n)
    (ap simple_of c.in-Value.is)) c.in_ok-both-in-Value.ensures.fewer

pub returns-in_ok-both-in-Call-clause-fewer : goal.returns-in_ok-both-in-Call-clause-fewer
returns-in_ok-both-in-Call-clause-fewer c =
    leaves_as c.args.self.now c.both-in-Call.new.self c.args.self.now.left (ap (λ (n : TSimple). own c.args.self.now simple_due n)
    (ap simple_of c.in-Call.is)) c.in_ok-both-in-Call.ensures.fewer

pub returns-in-Assign-clause-fewer : goal.returns-in-Assign-clause-fewer
returns-in-Assign-clause-fewer c =
    on_ok c.target.result (leaves_as c.args.self.now c.target.new.self c.args.self.now.left (ap (λ (n : TSimple). own c.args.self.now simple_due n)
    (ap simple_of c.in-Assign.is))) c.target.ensures.fewer

pub returns-in-Update-clause-fewer : goal.returns-in-Update-clause-fewer
returns-in-Update-clause-fewer c =
    on_ok c.target-in-Update.result (leaves_as c.args.self.now c.target-in-Update.new.self c.args.self.now.left (ap (λ (n : TSimple). own c.args.self.now simple_due n)
    (ap simple_of c.in-Update.is))) c.target-in-Update.ensures.fewer

pub returns-in-Step-clause-fewer : goal.returns-in-Step-clause-fewer
returns-in-Step-clause-fewer c =
    on_ok c.target-in-Step.result (leaves_as c.args.self.now c.target-in-Step.new.self c.args.self.now.left (ap (λ (n : TSimple). own c.args.self.now simple_due n)
    (ap simple_of c.in-Step.is))) c.target-in-Step.ensures.fewer
