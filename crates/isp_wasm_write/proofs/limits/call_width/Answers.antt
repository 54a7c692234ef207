use Rattle.std.proofs.Common.{length, ap, arith}
use Rattle.isp_wasm_meaning.specs.Syntax as wasm
use Rattle.isp_wasm.specs.Places.{parts_for}
use Rattle.isp_wasm_write.specs.reader.Given.{call_places}
use Rattle.isp_wasm_write.proofs.Passed.{call_long}
use Rattle.isp_wasm_write.proofs.limits.call_width.Goals as goal

pub returns-in-Function-clause-is : goal.returns-in-Function-clause-is
returns-in-Function-clause-is c =
    let long = call_long (parts_for c.args.lanes wasm.I8x16) in
    let same = ap (λ k. length (call_places k c.args.lanes)) c.in-Function.is in omega (arith, long, same, c.parts_for.ensures.is)
