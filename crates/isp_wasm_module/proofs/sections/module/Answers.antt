use Rattle.std.proofs.Common.{sym, ◌∙◌}
use Rattle.isp_wasm_module.proofs.FirstRefused.{explained}
use Rattle.isp_wasm_module.proofs.sections.module.Goals as goal

pub returns-in-Some-clause-refused : goal.returns-in-Some-clause-refused
returns-in-Some-clause-refused c = explained c.args.code.now c.in-Some.refusal (sym c.refusal.ensures ∙ c.in-Some.is)
