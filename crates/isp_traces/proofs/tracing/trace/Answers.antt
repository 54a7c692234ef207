use Rattle.std.proofs.Common.{◌≡◌, sym, ap, ◌∙◌, subst, ℕ, suc, ◌+◌, ◌++◌, arith}
use Rattle.isp_code.specs.Listing.{Listing}
use Rattle.isp_machine.specs.Kept.{state}
use Rattle.isp_traces.specs.Steps.{line_between}
use Rattle.isp_traces.specs.Tracing.{MadeUpTo}
use Rattle.isp_traces.proofs.Parts.{Lined, in_any_case, lined_next, lined_over, made_behind, traced}
use Rattle.isp_traces.proofs.tracing.trace.Goals as goal

pub returns-in_default : goal.returns-in_default
returns-in_default g c =
    let old = c.args.machine.now in
    let first = c.steps-first.result.0 in
    let behind = c.steps-first.result.1 in
    let so = lined_over c.args.window.lanes first c.loop-number.number behind old c.loop-number.machine c.loop-number.stop c.loop-number.text.items c.in_default.not-Running (omega arith) c.loop-number.invariant in
    record {
      gives = traced c.args.window c.args.budget first behind old c.loop-number.machine c.loop-number.stop c.loop-number.text.items c.steps-first.ensures.first c.steps-first.ensures.behind so;
      refused = tt;
    }

pub returns-in_err-stop-2-clause-refused : goal.returns-in_err-stop-2-clause-refused
returns-in_err-stop-2-clause-refused g c =
    let old = c.args.machine.now in
    let now = c.push_step.new.machine in
    in_any_case c.from_residual-in_err-stop-2.result
    (subst (λ (k : ℕ). MadeUpTo k old now) c.steps-first.ensures.behind
    (made_behind c.loop-number.number c.steps-first.result.1 old c.loop-number.machine now c.loop-number-test.true c.loop-number.invariant.made c.in_err-stop-2.ensures.refused))

pub loop-number-preserved : goal.loop-number-preserved
loop-number-preserved g c =
    let old = c.args.machine.now in
    let mid = c.loop-number.machine in
    let now = c.push_step.new.machine in
    let m = c.loop-number.number in
    let lanes = c.args.window.lanes in
    let text = c.loop-number.text.items in
    let more = c.push_step.new.text.items in
    let same = c.loop-number.invariant.made.code_same ∙ c.requires in
    let is = c.in_ok-stop-2.ensures.line ∙ ap (λ (l : Listing). text ++ line_between l lanes m (state mid) (state now)) (sym same) in
    let z : suc m ≡ m + 1 = omega arith in
    subst (λ (k : ℕ). Lined lanes c.steps-first.result.0 k old now c.in_ok-stop-2.stop more) z
    (lined_next lanes c.steps-first.result.0 m old mid now c.loop-number.stop c.in_ok-stop-2.stop text more c.loop-number.invariant c.in_ok-stop-2.ensures.made c.in_ok-stop-2.ensures.stops is)
