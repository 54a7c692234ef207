use Rattle.std.proofs.Common.{sym, ◌∙◌}
use Rattle.isp_code.specs.Listing.{routine_of}
use Rattle.isp_wasm_module.proofs.Covered.{no_call, a_call}
use Rattle.isp_wasm_module.proofs.fits.has_calls.Goals as goal

pub returns-then-has_call : goal.returns-then-has_call
returns-then-has_call c =
    sym (sym c.loop-number.invariant ∙ a_call c.args.code.now c.loop-number.number (routine_of c.function_of.result.0.now) c.function_of.ensures.found (sym c.has_call.ensures ∙ c.if-has_call.true))

pub loop-number-preserved : goal.loop-number-preserved
loop-number-preserved c =
    sym (no_call c.args.code.now c.loop-number.number (routine_of c.function_of.result.0.now) c.function_of.ensures.found (sym c.has_call.ensures ∙ c.if-has_call.false)) ∙ c.loop-number.invariant
