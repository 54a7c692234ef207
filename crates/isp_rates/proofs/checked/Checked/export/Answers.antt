use Rattle.std.proofs.Common.{ap, ◌∙◌}
use Rattle.std.specs.Prelude.{Some, option_map}
use Rattle.isp_typed.specs.declared.function.Program.{Program}
use Rattle.isp_typed.specs.declared.function.TypedFunction.{TypedFunction}
use Rattle.isp_rates.specs.Exports.{exports_from}
use Rattle.isp_rates.proofs.Entries.{export_found}
use Rattle.isp_rates.proofs.checked.Checked.export.Goals as goal

pub returns-in-Some : goal.returns-in-Some
returns-in-Some c =
    let named = λ (f : TypedFunction). f.name in
    ap Some c.as_str.ensures
    ∙ ap (option_map named) (export_found c.args.self.now.functions.items c.deref.result.now c.deref-2.result.now c.args.k c.number_at.result _
    (c.deref.ensures.value ∙ ap (λ (p : Program). p.functions.items) c.program.ensures.same)
    (c.deref-2.ensures.value ∙ (c.self.invariant.2 ∙ ap (λ (p : Program). exports_from 0 p.functions.items) c.self.view_is))
    c.number_at.ensures c.in-Some.ensures)

pub returns-in-None : goal.returns-in-None
returns-in-None c =
    let named = λ (f : TypedFunction). f.name in
    ap (option_map named) (export_found c.args.self.now.functions.items c.deref.result.now c.deref-2.result.now c.args.k c.number_at.result _
    (c.deref.ensures.value ∙ ap (λ (p : Program). p.functions.items) c.program.ensures.same)
    (c.deref-2.ensures.value ∙ (c.self.invariant.2 ∙ ap (λ (p : Program). exports_from 0 p.functions.items) c.self.view_is))
    c.number_at.ensures c.in-None.ensures)
