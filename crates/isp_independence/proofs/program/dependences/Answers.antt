use Rattle.std.proofs.Common.{List, ℕ, ◌∙◌, ap, subst}
use Rattle.std.specs.Prelude.{Option, map}
use Rattle.std.proofs.lemmas.Result.{IfOk-weaker}
use Rattle.isp_typed.specs.declared.function.TypedFunction.{TypedFunction}
use Rattle.isp_typed.specs.Views.{functions_of, program_of}
use Rattle.isp_independence.specs.declared.dependence.Dependence.{Dependence}
use Rattle.isp_independence.specs.Independent.{AreDependences}
use Rattle.isp_independence.specs.reader.Answers.{called_answer}
use Rattle.isp_independence.specs.reader.Firsts.{AreFirst, function_answer}
use Rattle.isp_independence.specs.Tables.{lists_of}
use Rattle.isp_independence.proofs.Joined.{answers_are}
use Rattle.isp_independence.proofs.program.dependences.Goals as goal

pub returns : goal.returns
returns c =
    let fs = c.args.program.now.functions.items in
    let own = c.deref.ensures.value ∙ (c.in_ok-own.ensures ∙ ap (λ (z : List TypedFunction). map called_answer (functions_of z)) c.as_slice-functions.ensures.value) in
    let least = c.in_ok-least.least.items in
    let all_first =
    subst (λ (t : List (List ℕ)). AreFirst t (map called_answer (functions_of fs)) least) c.requires
    (subst (λ (o : List (Option Dependence)). AreFirst (lists_of c.args.calls.now) o least) own c.in_ok-least.ensures)
    in
    IfOk-weaker c.of_each_entry.result _ (λ v. AreDependences (program_of c.args.program.now) v.items)
    (λ v e. answers_are (program_of c.args.program.now) least v.items all_first
    (e
    ∙ ap (λ (z : List (Option Dependence)). map (function_answer z) (functions_of c.as_slice-functions.result.now)) c.deref-2.ensures.value
    ∙ ap (λ (z : List TypedFunction). map (function_answer least) (functions_of z)) c.as_slice-functions.ensures.value))
    c.of_each_entry.ensures
