use Rattle.std.proofs.Common.{length, ap, arith}
use Rattle.isp_code.specs.Listing.{routine_of}
use Rattle.isp_wasm_write.specs.reader.Given.{given_from}
use Rattle.isp_wasm_write.proofs.Passed.{given_long}
use Rattle.isp_wasm_write.proofs.limits.given_count.Goals as goal

pub returns-clause-is : goal.returns-clause-is
returns-clause-is c =
    let whole = given_long c.args.caller c.args.lanes (routine_of c.args.function.now) in
    let same = ap (λ l. length (given_from c.args.caller c.args.lanes l 0 0 0)) c.deref.ensures.value in
    omega (arith, whole, same, c.call_width.ensures.is, c.param_count.ensures.is, c.from.ensures)
