use Rattle.std.proofs.Common.{ℕ, ◌+◌, ◌*◌, ◌<◌, get_or, sym, subst, arith}
use Rattle.std.specs.Char.{digit_value}
use Rattle.isp_files.specs.Reading.{longest}
use Rattle.isp_files.proofs.Steps.{digits_over}
use Rattle.isp_files.proofs.reader.value.Goals as goal

pub returns-in_err-number : goal.returns-in_err-number
returns-in_err-number c =
    let ds = c.args.digits.now in
    let l = c.loop-digit in
    let over : longest < l.number * 10 + digit_value (get_or ds l.digit-index 0) = omega (arith, c.in_err-number.ensures, c.digit_of-digit.ensures.value) in
    rw c.from_residual.ensures (subst (λ (n : ℕ). longest < n) (sym l.invariant.0) (digits_over l.number longest ds l.digit-index c.loop-digit-test.true over))
