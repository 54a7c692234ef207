use Rattle.std.proofs.Common.{sym, ◌∙◌}
use Rattle.isp_code.specs.Listing.{routine_of}
use Rattle.isp_wasm_module.proofs.FirstRefused.{kept, found}
use Rattle.isp_wasm_module.proofs.fits.refusal.Goals as goal

pub returns-in-Some : goal.returns-in-Some
returns-in-Some c =
    found c.args.code.now c.loop-number.number (routine_of c.function_of.result.0.now) c.in-Some.refusal _ c.function_of.ensures.found
    (sym c.function_refusal.ensures ∙ c.in-Some.is) c.loop-number.invariant

pub loop-number-preserved : goal.loop-number-preserved
loop-number-preserved c =
    kept c.args.code.now c.loop-number.number (routine_of c.function_of.result.0.now) _ c.function_of.ensures.found (sym c.function_refusal.ensures ∙ c.in-None.is) c.loop-number.invariant
