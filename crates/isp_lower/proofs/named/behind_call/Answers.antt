use Rattle.std.proofs.Common.{ap, arith}
use Rattle.isp_lower_code.specs.Named.{behind_registers}
use Rattle.isp_lower.proofs.Behind.{call_behind, call_behind_result}
use Rattle.isp_lower.proofs.named.behind_call.Goals as goal

pub returns-in-None-clause-is : goal.returns-in-None-clause-is
returns-in-None-clause-is c =
    call_behind c.args.class c.args.call.now c.max-passed.result
    (omega (arith, c.max-passed.ensures, c.behind.ensures.is, ap (behind_registers c.args.class) c.as_slice.ensures, c.behind-2.ensures.is)) c.in-None.is

pub returns-in-Some-clause-is : goal.returns-in-Some-clause-is
returns-in-Some-clause-is c =
    call_behind_result c.args.class c.args.call.now c.in-Some.d c.max-passed.result c.max.result
    (omega (arith, c.max-passed.ensures, c.behind.ensures.is, ap (behind_registers c.args.class) c.as_slice.ensures, c.behind-2.ensures.is))
    (omega (arith, c.max.ensures, c.behind-in-Some.ensures.is)) c.in-Some.is
