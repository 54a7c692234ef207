use Rattle.std.proofs.Common.{refl, ◌∙◌}
use Rattle.isp_code.specs.Writable.{number_fits}
use Rattle.isp_asm.proofs.Numerals.{fits_below, fits_not, number_lt}
use Rattle.isp_asm.proofs.words.number.Goals as goal

pub returns-in-Ok-clause-ok : goal.returns-in-Ok-clause-ok
returns-in-Ok-clause-ok c =
    let k = fits_below c.in-Ok.number c.if-number-lt-NUMBER_LIMIT.true in
    c.in-Ok.ensures.tested number_fits ∙ (rw k refl)

pub returns-in-Ok-2-clause-err : goal.returns-in-Ok-2-clause-err
returns-in-Ok-2-clause-err c =
    let k = fits_not c.in-Ok.number c.if-number-lt-NUMBER_LIMIT.false in
    c.in-Ok.ensures.tested number_fits ∙ (rw k refl)

pub returns-in-Err-clause-err : goal.returns-in-Err-clause-err
returns-in-Err-clause-err c = c.in-Err.ensures.err number_fits number_lt
