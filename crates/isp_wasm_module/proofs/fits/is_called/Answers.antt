use Rattle.std.proofs.Common.{◌≡◌, sym, ap, ◌∙◌}
use Rattle.std.specs.List.{list_any}
use Rattle.isp_code.specs.Listing.{routine_of}
use Rattle.isp_wasm.specs.Module.{calls_function}
use Rattle.isp_wasm_module.proofs.Covered.{not_here, here}
use Rattle.isp_wasm_module.proofs.fits.is_called.Goals as goal

pub returns-then-any_calls : goal.returns-then-any_calls
returns-then-any_calls c =
    let h = routine_of c.function_of.result.0.now in
    let said : c.any_calls.result ≡ list_any (calls_function c.args.called) h.code = c.any_calls.ensures ∙ ap (list_any (calls_function c.args.called)) c.deref.ensures.value in
    sym (sym c.loop-number.invariant ∙ here c.args.code.now c.args.called c.loop-number.number h c.function_of.ensures.found (sym said ∙ c.if-any_calls.true))

pub loop-number-preserved : goal.loop-number-preserved
loop-number-preserved c =
    let h = routine_of c.function_of.result.0.now in
    let said : c.any_calls.result ≡ list_any (calls_function c.args.called) h.code = c.any_calls.ensures ∙ ap (list_any (calls_function c.args.called)) c.deref.ensures.value in
    sym (not_here c.args.code.now c.args.called c.loop-number.number h c.function_of.ensures.found (sym said ∙ c.if-any_calls.false)) ∙ c.loop-number.invariant
