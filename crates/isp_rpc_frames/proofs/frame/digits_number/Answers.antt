use Rattle.std.proofs.Common.{arith}
use Rattle.isp_rpc_frames.proofs.Numerals.{next_digit}
use Rattle.isp_rpc_frames.proofs.frame.digits_number.Goals as goal

pub returns-in_err-tens-clause-none : goal.returns-in_err-tens-clause-none
returns-in_err-tens-clause-none c =
    let f = next_digit c.args.digits.now c.loop-digit.digit-index c.loop-digit.number c.loop-digit-test.true c.loop-digit.invariant.digits c.loop-digit.invariant.value in
    rw c.from_residual.ensures (omega (arith, f, c.in_err-tens.ensures))

pub returns-in_err-number-clause-none : goal.returns-in_err-number-clause-none
returns-in_err-number-clause-none c =
    let f = next_digit c.args.digits.now c.loop-digit.digit-index c.loop-digit.number c.loop-digit-test.true c.loop-digit.invariant.digits c.loop-digit.invariant.value in
    rw c.from_residual-in_err-number.ensures (omega (arith, f, c.in_ok-tens.ensures, c.in_err-number.ensures, c.from.ensures))
