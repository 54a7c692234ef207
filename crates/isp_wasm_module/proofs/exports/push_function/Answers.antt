use Rattle.std.proofs.Common.{◌++◌, append-nil, ap, sym, ◌∙◌}
use Rattle.isp_code.specs.Listing.{routine_of}
use Rattle.isp_forms.specs.Tables.{lists_of}
use Rattle.isp_wasm_module.proofs.Exported.{hidden_bytes, shown_chain}
use Rattle.isp_wasm_module.proofs.exports.push_function.Goals as goal

pub returns : goal.returns
returns c =
    shown_chain c.args.source.code.now (lists_of c.args.source.forms.now) c.args.number (routine_of c.function_of.result.0.now) _ _ _ _ c.function_of.ensures.found c.if-not-function.false c.requires.fits
    c.in_ok-push_export.ensures c.as_str.ensures c.in_ok-index.ensures

pub returns-then-not-function : goal.returns-then-not-function
returns-then-not-function c =
    let nothing = hidden_bytes c.args.source.code.now (lists_of c.args.source.forms.now) c.args.number (routine_of c.function_of.result.0.now) c.function_of.ensures.found c.if-not-function.true in
    sym (append-nil c.args.out.now) ∙ ap (λ l. c.args.out.now ++ l) (sym nothing)
