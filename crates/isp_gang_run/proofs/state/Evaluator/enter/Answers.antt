use Rattle.isp_gang_run.proofs.Fewer.{enters_as}
use Rattle.isp_gang_run.proofs.Progress.{leaves_as}
use Rattle.std.proofs.Common.{◌≡◌, refl, ◌-◌, suc, map, sym, ap, ◌∙◌, arith}
use Rattle.std.specs.Prelude.{option_map, slice_get}
use Rattle.isp_base.specs.Cross.{or_zero}
use Rattle.isp_base.specs.Sets.{flag_of, lowest}
use Rattle.isp_base.specs.Types.{gang_width}
use Rattle.isp_gang_run.specs.Seen.{passed_seen}
use Rattle.isp_gang_run.proofs.Handing.{no_call_left, no_function, function_enters}
use Rattle.isp_gang_run.proofs.state.Evaluator.enter.Goals as goal

pub returns-then-self-eq0-clause-err : goal.returns-then-self-eq0-clause-err
returns-then-self-eq0-clause-err c =
    no_call_left c.args.self.now c.args.function c.args.place c.args.set (map passed_seen c.args.passed.now) _ c.first.result c.if-self-eq0.true (c.first.ensures ∙ ap (λ g. or_zero (lowest (gang_width g) (flag_of c.args.set))) c.gang.ensures) refl

pub returns-in_ok-begin-in-Some-clause-ok : goal.returns-in_ok-begin-in-Some-clause-ok
returns-in_ok-begin-in-Some-clause-ok c =
    let more : c.args.self.now.left ≡ suc (c.args.self.now.left - 1) = omega (arith, c.if-self-eq0.false) in
    function_enters c.args.self.now c.args.function c.args.place c.args.set (map passed_seen c.args.passed.now) c.begin.new.self (c.args.self.now.left - 1) c.in-Some.function.now more
    (ap (λ xs. slice_get xs c.args.function) (sym c.as_slice.ensures.value) ∙ c.function_at.ensures ∙ ap (option_map (λ f. f.now)) c.in-Some.is) c.in_ok-begin-in-Some.ensures.ok

pub returns-in-None-clause-err : goal.returns-in-None-clause-err
returns-in-None-clause-err c =
    let more : c.args.self.now.left ≡ suc (c.args.self.now.left - 1) = omega (arith, c.if-self-eq0.false) in
    no_function c.args.self.now c.args.function c.args.place c.args.set (map passed_seen c.args.passed.now) (c.args.self.now.left - 1) more
    (ap (λ xs. slice_get xs c.args.function) (sym c.as_slice.ensures.value) ∙ c.function_at.ensures ∙ ap (option_map (λ f. f.now)) c.in-None.is)

pub returns-in_ok-begin-in-Some-clause-fewer : goal.returns-in_ok-begin-in-Some-clause-fewer
returns-in_ok-begin-in-Some-clause-fewer c =
    let more : c.args.self.now.left ≡ suc (c.args.self.now.left - 1) = omega (arith, c.if-self-eq0.false) in
    leaves_as c.args.self.now c.begin.new.self c.args.self.now.left (enters_as c.args.self.now c.args.function (c.args.self.now.left - 1) c.in-Some.function.now more
    (ap (λ xs. slice_get xs c.args.function) (sym c.as_slice.ensures.value) ∙ c.function_at.ensures ∙ ap (option_map (λ f. f.now)) c.in-Some.is)) c.in_ok-begin-in-Some.ensures.fewer
