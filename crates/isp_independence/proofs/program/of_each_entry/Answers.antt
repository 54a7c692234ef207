use Rattle.std.proofs.Common.{◌≡◌, Vec, Global, List, ℕ, [], ◌∷◌, ◌++◌, refl, ap, ◌∙◌, arith}
use Rattle.std.specs.Prelude.{Option, map, length}
use Rattle.std.proofs.lemmas.List.{length-map}
use Rattle.isp_typed.specs.declared.function.TypedFunction.{TypedFunction}
use Rattle.isp_typed.specs.Views.{function_of, functions_of}
use Rattle.isp_independence.specs.declared.dependence.Dependence.{Dependence}
use Rattle.isp_independence.specs.Reaches.{function_calls}
use Rattle.isp_independence.specs.Tables.{lists_of}
use Rattle.isp_independence.specs.reader.Answers.{entry_answer, first_of, of_each}
use Rattle.isp_independence.specs.reader.Firsts.{function_answer}
use Rattle.isp_independence.specs.reader.Paths.{found_at}
use Rattle.isp_independence.proofs.Joined.{row_is}
use Rattle.isp_independence.proofs.Steps.{push_step}
use Rattle.isp_independence.proofs.program.of_each_entry.Goals as goal

pub loop-number-preserved : goal.loop-number-preserved
loop-number-preserved c =
    let fs = c.args.functions.now in
    let least = c.args.least.now in
    let n = c.loop-number.number in
    let f = c.index-functions-number.result in
    let seen = c.loop-number.answers.items in
    let long : length (lists_of c.args.calls.now) ≡ length (functions_of fs) = ap (λ (z : List (List ℕ)). length z) c.requires ∙ length-map (functions_of fs) function_calls in
    let same = length-map fs function_of in
    let rows = length-map c.args.calls.now (λ (v : Vec ℕ Global). v.items) in
    let row = row_is fs c.args.calls.now n f c.index-calls-number.result c.requires (omega (arith, long, same, rows, c.loop-number-test.true)) c.index-calls-number.is c.loop-number-test.true c.index-functions-number.is in
    push_step (λ (xs : List TypedFunction). map (function_answer least) (functions_of xs)) (λ (x : TypedFunction). function_answer least (function_of x)) (λ x xs. refl)
    fs n f seen c.push.new.self.items _ c.loop-number-test.true c.index-functions-number.is
    (c.in_ok-push.ensures.items
    ∙ ap (λ (o : Option Dependence). seen ++ o ∷ []) (c.of_entry.ensures ∙ ap (λ (r : List ℕ). first_of (entry_answer (function_of f)) (of_each (found_at least) r)) (c.as_slice.ensures.value ∙ row)))
    c.loop-number.invariant
