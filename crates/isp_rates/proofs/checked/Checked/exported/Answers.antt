use Rattle.std.proofs.Common.{ap, ◌∙◌}
use Rattle.isp_typed.specs.declared.function.Program.{Program}
use Rattle.isp_rates.proofs.Entries.{entry_found}
use Rattle.isp_rates.proofs.checked.Checked.exported.Goals as goal

pub returns : goal.returns
returns c =
    entry_found c.args.entry.now c.args.self.now.functions.items c.deref.result.now c.entry.result _
    (c.deref.ensures.value ∙ ap (λ (p : Program). p.functions.items) c.program.ensures.same) c.entry.ensures c.function_at.ensures
