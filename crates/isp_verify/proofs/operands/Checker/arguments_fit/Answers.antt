use Rattle.std.proofs.Common.{sym}
use Rattle.isp_code.specs.Listing.{routine_of}
use Rattle.isp_verify.proofs.CallParts.{unlike}
use Rattle.isp_verify.proofs.operands.Checker.arguments_fit.Goals as goal

pub returns-then-params-arguments : goal.returns-then-params-arguments
returns-then-params-arguments c = sym (unlike (routine_of c.args.self.now.function.now) c.args.params.now c.args.arguments.now c.if-params-arguments.true)
