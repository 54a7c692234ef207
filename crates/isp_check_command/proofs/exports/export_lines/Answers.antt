use Rattle.std.proofs.Common.{ℕ, List, ◌++◌, ◌∙◌, ap, string_bytes, subst}
use Rattle.std.specs.Option.{IsSome}
use Rattle.std.specs.Prelude.{find}
use Rattle.isp_rates.specs.Exports.{is_entry}
use Rattle.isp_typed.specs.Views.{functions_of, program_of}
use Rattle.isp_typed.specs.declared.function.Program as rust_program
use Rattle.isp_typed.specs.declared.function.TypedFunction.{TypedFunction}
use Rattle.isp_check_command.specs.Pages.{ExportMessage, PageOf}
use Rattle.isp_check_command.proofs.Pages.{OfFunction, exports_of, found, next_item, of_exported, whole}
use Rattle.isp_check_command.proofs.exports.export_lines.Goals as goal

pub export_piece-requires : goal.export_piece-requires
export_piece-requires c = λ e.
    let items = c.deref-function-items.ensures.value ∙ ap (λ (p : rust_program.Program). p.functions.items) c.program-program.ensures.same in
    subst (λ (fs : List TypedFunction). IsSome (find (is_entry c.function-item.result.name) fs)) items
    (found c.deref-function-items.result.now c.loop-function.function-index c.function-item.result c.function-item.result c.loop-function-test.true c.function-item.is e)

pub loop-function-init : goal.loop-function-init
loop-function-init c = c.new-page.ensures.bytes

pub loop-function-preserved : goal.loop-function-preserved
loop-function-preserved c =
    let old = string_bytes c.loop-function.page in
    let grown = c.in_ok-push_str.ensures.bytes ∙ ap (λ (z : List ℕ). old ++ z) c.as_str.ensures.value in
    let said = OfFunction (ExportMessage c.args.request.now c.args.text.now (program_of c.args.checked.now)) in
    next_item said c.deref-function-items.result.now c.loop-function.function-index c.function-item.result old _ _ c.loop-function-test.true c.function-item.is c.loop-function.invariant c.in_ok-piece.ensures grown

pub returns : goal.returns
returns c =
    let told = ExportMessage c.args.request.now c.args.text.now (program_of c.args.checked.now) in
    let page = string_bytes c.loop-function.page in
    let all = whole (OfFunction told) c.deref-function-items.result.now c.loop-function.function-index page c.loop-function-test.false c.loop-function.invariant in
    let items = c.deref-function-items.ensures.value ∙ ap (λ (p : rust_program.Program). p.functions.items) c.program-program.ensures.same in
    subst (λ (fs : List TypedFunction). PageOf told (exports_of (functions_of fs)) page) items (of_exported told c.deref-function-items.result.now page all)
