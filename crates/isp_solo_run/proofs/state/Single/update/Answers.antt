use Rattle.std.proofs.Common.{◌∙◌, ap, ℕ, subst}
use Rattle.std.specs.Prelude.{Result, Ok, Err}
use Rattle.isp_base.specs.Values.{op_bits}
use Rattle.isp_base.specs.declared.types.Span.{Span}
use Rattle.isp_base.specs.declared.types.Ty.{Ty}
use Rattle.isp_meaning.specs.Payloads.{converted}
use Rattle.isp_typed.specs.Views.{place_of}
use Rattle.isp_solo_run.specs.Seen.{spot_seen}
use Rattle.isp_solo_run.specs.Tasks.{Finds}
use Rattle.isp_solo_run.specs.declared.state.Stop.{Stop}
use Rattle.isp_solo_run.proofs.Results.{at_ok}
use Rattle.isp_solo_run.proofs.Writes.{update_traps, update_tells, update_stops}
use Rattle.isp_solo_run.proofs.state.Single.update.Goals as goal

pub returns-in-Err : goal.returns-in-Err
returns-in-Err c =
    let old = c.args.self.now in
    update_stops _ c.in-Err.stop old c.hold.new.self c.args.operator c.args.elem (place_of c.args.target.now) (spot_seen c.args.place) c.args.right c.args.span
    (subst (λ (s : Span). Finds (Err c.in-Err.stop) old c.hold.new.self s (spot_seen c.args.place)) c.span.ensures (subst (λ (q : Result ℕ Stop). Finds q old c.hold.new.self c.span.result (spot_seen c.args.place)) c.in-Err.is c.hold.ensures))

pub returns-then-is_zero : goal.returns-then-is_zero
returns-then-is_zero c =
    let old = c.args.self.now in
    update_traps old c.hold.new.self c.args.operator c.args.elem (place_of c.args.target.now) (spot_seen c.args.place) c.args.right c.in-Ok.bits c.args.span
    (subst (λ (s : Span). Finds (Ok c.in-Ok.bits) old c.hold.new.self s (spot_seen c.args.place)) c.span.ensures (subst (λ (q : Result ℕ Stop). Finds q old c.hold.new.self c.span.result (spot_seen c.args.place)) c.in-Ok.is c.hold.ensures))
    c.trap.result c.is_zero.result c.trap.ensures c.is_zero.ensures c.if-is_zero.true

pub returns-in-Ok-keep : goal.returns-in-Ok-keep
returns-in-Ok-keep c =
    let old = c.args.self.now in
    let t = c.args.elem in
    update_tells old c.hold.new.self c.args.operator t (place_of c.args.target.now) (spot_seen c.args.place) c.args.right c.in-Ok.bits c.args.span
    (subst (λ (s : Span). Finds (Ok c.in-Ok.bits) old c.hold.new.self s (spot_seen c.args.place)) c.span.ensures (subst (λ (q : Result ℕ Stop). Finds q old c.hold.new.self c.span.result (spot_seen c.args.place)) c.in-Ok.is c.hold.ensures))
    c.go_on.result c.keep.new.self c.go_on.new.self c.is_zero.result c.convert-2.result c.is_zero.ensures c.if-is_zero.false
    (c.convert-2.ensures ∙ ap (converted t c.ty-own.result.elem)
    (c.operated-bits.ensures ∙ ap (λ z. op_bits c.args.operator t z c.args.right) c.convert.ensures)
    ∙ ap (λ (u : Ty). converted t u.elem (op_bits c.args.operator t (converted u.elem t c.in-Ok.bits) c.args.right)) c.ty-own.ensures)
    (at_ok c.keep.result _ c.in-Ok-keep.is c.keep.ensures) c.go_on.ensures
