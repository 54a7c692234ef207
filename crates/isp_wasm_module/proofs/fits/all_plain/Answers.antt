use Rattle.std.proofs.Common.{◌≡◌, true, false, sym, ap, ◌∙◌}
use Rattle.isp_code.specs.Listing.{Listing, routine_of}
use Rattle.isp_wasm.specs.Module.{is_plain}
use Rattle.isp_wasm_module.proofs.Covered.{one_more_plain, not_plain}
use Rattle.isp_wasm_module.proofs.fits.all_plain.Goals as goal

pub returns-then-not-is_plain : goal.returns-then-not-is_plain
returns-then-not-is_plain c =
    let code = c.args.code.now in
    let h = routine_of c.function_of.result.0.now in
    let said : c.is_plain.result ≡ is_plain code h = c.is_plain.ensures ∙ ap (λ (l : Listing). is_plain l h) c.code.ensures.same in
    let no : c.is_plain.result ≡ false = c.if-not-is_plain.true in
    sym (sym c.loop-number.invariant ∙ not_plain code c.loop-number.number h c.function_of.ensures.found (sym said ∙ no))

pub loop-number-preserved : goal.loop-number-preserved
loop-number-preserved c =
    let code = c.args.code.now in
    let h = routine_of c.function_of.result.0.now in
    let said : c.is_plain.result ≡ is_plain code h = c.is_plain.ensures ∙ ap (λ (l : Listing). is_plain l h) c.code.ensures.same in
    let yes : c.is_plain.result ≡ true = c.if-not-is_plain.false in
    sym (one_more_plain code c.loop-number.number h c.function_of.ensures.found (sym said ∙ yes)) ∙ c.loop-number.invariant
