use Rattle.isp_code.specs.Listing.{routine_of}
use Rattle.isp_verify.proofs.Exports.{export_at, none_at}
use Rattle.isp_verify.proofs.verified.exported.Goals as goal

pub loop-number-preserved : goal.loop-number-preserved
loop-number-preserved c =
    none_at c.args.code.now c.args.name.now c.functions-functions.result.now c.loop-number.number c.index-functions-number.result
    c.functions-functions.ensures.same c.loop-number-test.true c.index-functions-number.is c.if-is_export.ensures c.loop-number.invariant

pub returns-then-is_export-clause-found : goal.returns-then-is_export-clause-found
returns-then-is_export-clause-found c = (
  routine_of c.index-functions-number.result,
  export_at c.args.code.now c.args.name.now c.functions-functions.result.now c.loop-number.number
      c.index-functions-number.result c.functions-functions.ensures.same c.loop-number-test.true c.index-functions-number.is c.if-is_export.ensures,
)
