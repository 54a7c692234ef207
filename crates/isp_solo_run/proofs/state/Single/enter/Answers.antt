use Rattle.isp_solo_run.proofs.Handing.{enter_tells}
use Rattle.std.proofs.Common.{◌≡◌, ◌∙◌, ◌-◌, ap, map, suc, sym, arith, Bor}
use Rattle.std.specs.Prelude.{option_map, slice_get}
use Rattle.isp_typed.specs.declared.function.TypedFunction.{TypedFunction}
use Rattle.isp_solo_run.specs.Seen.{passed_seen}
use Rattle.isp_solo_run.specs.Tasks.{enters, store_seen}
use Rattle.isp_solo_run.proofs.Handing.{no_call_left, no_function, function_enters}
use Rattle.isp_solo_run.proofs.Nodes.{trap_tells}
use Rattle.isp_solo_run.proofs.Steps.{tells_by}
use Rattle.isp_solo_run.proofs.state.Single.enter.Goals as goal

pub returns-then-self-eq0 : goal.returns-then-self-eq0
returns-then-self-eq0 c =
    let old = c.args.self.now in
    trap_tells _ old (enters old c.args.function c.args.place (map passed_seen c.args.passed.now)) c.trap.result _ c.trap.ensures (no_call_left old (store_seen old) c.args.function c.args.place (map passed_seen c.args.passed.now) c.if-self-eq0.true)

pub returns-in-Some : goal.returns-in-Some
returns-in-Some c =
    let old = c.args.self.now in
    let more : old.left ≡ suc (old.left - 1) = omega (arith, c.if-self-eq0.false) in
    enter_tells c.begin.result old c.begin.new.self c.args.function c.args.place (map passed_seen c.args.passed.now) (old.left - 1) c.in-Some.function.now more
    (ap (λ xs. slice_get xs c.args.function) (sym c.as_slice.ensures.value) ∙ c.function_at.ensures ∙ ap (option_map (λ (z : Bor TypedFunction). z.now)) c.in-Some.is)
    c.begin.ensures

pub returns-in-None : goal.returns-in-None
returns-in-None c =
    let old = c.args.self.now in
    let more : old.left ≡ suc (old.left - 1) = omega (arith, c.if-self-eq0.false) in
    no_function old (store_seen old) c.args.function c.args.place (map passed_seen c.args.passed.now) (old.left - 1) more
    (ap (λ xs. slice_get xs c.args.function) (sym c.as_slice.ensures.value) ∙ c.function_at.ensures ∙ ap (option_map (λ (z : Bor TypedFunction). z.now)) c.in-None.is)
