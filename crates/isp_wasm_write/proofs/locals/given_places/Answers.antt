use Rattle.std.proofs.Common.{◌++◌, ◌∙◌, map, ap}
use Rattle.isp_code.specs.Listing.{routine_of}
use Rattle.isp_wasm_write.specs.Places.{place_of}
use Rattle.isp_wasm_write.specs.reader.Given.{call_places, given_from}
use Rattle.isp_wasm_write.proofs.Passed.{given_is}
use Rattle.isp_wasm_write.proofs.locals.given_places.Goals as goal

pub returns-clause-places : goal.returns-clause-places
returns-clause-places c =
    let first = call_places c.args.caller c.args.lanes in
    c.in_ok-push_params.ensures
    ∙ ap (λ l. l ++ given_from c.args.caller c.args.lanes c.deref.result.now 0 0 0) (c.in_ok-push_call.ensures ∙ ap (λ l. map place_of l ++ first) c.new-places.ensures.items)
    ∙ ap (λ l. first ++ given_from c.args.caller c.args.lanes l 0 0 0) c.deref.ensures.value ∙ given_is c.args.caller c.args.lanes (routine_of c.args.function.now)
