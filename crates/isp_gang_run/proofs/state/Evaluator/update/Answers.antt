use Rattle.isp_gang_run.specs.Due.{due_now}
use Rattle.isp_gang_run.proofs.Progress.{same_leaves}
use Rattle.std.proofs.Common.{refl, sym, ap, subst, ◌∙◌}
use Rattle.isp_base.specs.Access.{is_zero}
use Rattle.isp_base.specs.Sets.{flag_of}
use Rattle.isp_base.specs.Traps.{trap}
use Rattle.isp_base.specs.Types.{gang_width}
use Rattle.isp_base.specs.Values.{op_bits}
use Rattle.isp_base.specs.declared.trap.TrapKind.TheVariants.{Index}
use Rattle.isp_base.specs.declared.types.Ty.{Ty}
use Rattle.isp_meaning.specs.Payloads.{converted, joined, mapped, offender}
use Rattle.isp_gang_values.specs.Seen.{payload_of}
use Rattle.isp_gang_run.specs.Tasks.{Does, Halts, does}
use Rattle.isp_gang_run.specs.declared.state.Evaluator.{Evaluator}
use Rattle.isp_gang_run.specs.declared.state.Stop.TheVariants as stop
use Rattle.isp_gang_run.specs.declared.tasks.Task.TheVariants as task
use Rattle.isp_gang_run.proofs.Assignments.{update_does, update_halts_outside, update_halts_zero}
use Rattle.isp_gang_run.proofs.Turns.{at_err}
use Rattle.isp_gang_run.proofs.state.Evaluator.update.Goals as goal

pub returns-clause-ok : goal.returns-clause-ok
returns-clause-ok c =
    let old = c.args.self.now in
    let right = payload_of old.value in
    let a = flag_of c.args.set in
    subst (λ (e : Evaluator). Does old e (task.Update c.args.operation c.args.place c.args.target c.args.set)) (sym c.forget.ensures)
    (update_does old c.args.operation c.args.place c.args.target c.args.set c.keep.new.self (payload_of c.held.result) (payload_of c.converted-value.result)
    (sym c.outside.ensures ∙ c.in_ok-checked.ensures.ok)
    (ap (λ g. offender (gang_width g) (is_zero c.args.operation.operator c.args.operation.elem) a right) (sym c.gang.ensures) ∙ sym c.dividing_by_zero-offender.ensures ∙ c.in_ok-checked-2.ensures.ok)
    c.held.ensures
    (c.converted-value.ensures ∙ ap (mapped (converted c.args.operation.elem c.ty-own.result.elem)) (c.binary.ensures ∙ ap (λ l. joined (op_bits c.args.operation.operator c.args.operation.elem) a l right) c.converted-left.ensures)
    ∙ ap (λ (t : Ty). mapped (converted c.args.operation.elem t.elem) (joined (op_bits c.args.operation.operator c.args.operation.elem) a (mapped (converted t.elem c.args.operation.elem) (payload_of c.held.result)) right)) c.ty-own.ensures)
    c.in_ok-keep.ensures.ok)

pub returns-in_err-checked-clause-err : goal.returns-in_err-checked-clause-err
returns-in_err-checked-clause-err c =
    let h = c.in_err-checked.ensures.err in
    at_err c.from_residual.result c.in_err-checked.field-0.0 (Halts c.args.self.now c.args.self.now (does c.args.self.now (task.Update c.args.operation c.args.place c.args.target c.args.set))) c.from_residual.ensures.1
    (update_halts_outside c.args.self.now c.args.operation c.args.place c.args.target c.args.set c.args.self.now c.in_err-checked.field-0.0 h.0 (sym c.outside.ensures ∙ h.1) refl (h.2 ∙ ap (λ s. stop.Trapped (trap Index s h.0)) c.span.ensures))

pub returns-in_err-checked-2-clause-err : goal.returns-in_err-checked-2-clause-err
returns-in_err-checked-2-clause-err c =
    let h = c.in_err-checked-2.ensures.err in
    at_err c.from_residual-in_err-checked-2.result c.in_err-checked-2.field-0.0
    (Halts c.args.self.now c.args.self.now (does c.args.self.now (task.Update c.args.operation c.args.place c.args.target c.args.set)))
    c.from_residual-in_err-checked-2.ensures.1
    (update_halts_zero c.args.self.now c.args.operation c.args.place c.args.target c.args.set c.args.self.now c.in_err-checked-2.field-0.0 h.0 (sym c.outside.ensures ∙ c.in_ok-checked.ensures.ok)
    (ap (λ g. offender (gang_width g) (is_zero c.args.operation.operator c.args.operation.elem) (flag_of c.args.set) (payload_of c.args.self.now.value)) (sym c.gang.ensures) ∙ sym c.dividing_by_zero-offender.ensures ∙ h.1) refl h.2)

pub returns-clause-fewer : goal.returns-clause-fewer
returns-clause-fewer c =
    same_leaves c.args.self.now c.forget.new.self 0 (ap (λ (e : Evaluator). due_now e) c.forget.ensures ∙ ap (λ (e : Evaluator). due_now e) c.in_ok-keep.ensures.ok.same)
