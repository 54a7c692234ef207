use Rattle.std.proofs.Common.{◌≡◌, List, ℕ, false, sym, ap, ◌∙◌, arith}
use Rattle.std.specs.Prelude.{slice_index, ◌==◌}
use Rattle.std.proofs.lemmas.Result.{err_from_is_err_and}
use Rattle.isp_files.specs.Npy.{dim_at}
use Rattle.isp_files.specs.Reading.{past_blanks, sign_of}
use Rattle.isp_files.specs.declared.fault.Flaw.TheVariants.{TooDeep}
use Rattle.isp_files.proofs.Steps.{dims_bad, dims_deep, dims_last}
use Rattle.isp_files.proofs.entry.dims.Goals as goal

pub returns-in_err-length-clause-err : goal.returns-in_err-length-clause-err
returns-in_err-length-clause-err c =
    let l = c.loop-left in
    let p = err_from_is_err_and c.from_residual.result c.from_residual.ensures.1 in
    let other : (slice_index (past_blanks l.reader) 0 == 41) ≡ false = ap (λ (bs : List ℕ). slice_index bs 0 == 41) (sym c.blanks.ensures) ∙ sym c.sees.ensures.byte ∙ c.if-sees.false in
    rw (p.1, p.2)
    (λ known. l.invariant ∙ dims_bad l.left l.reader l.lengths.items c.in_err-length.field-0.0 c.loop-left-test.true other (ap dim_at (sym c.blanks.ensures) ∙ c.in_err-length.ensures.err))

pub returns-in_err-sign-clause-err : goal.returns-in_err-sign-clause-err
returns-in_err-sign-clause-err c =
    let l = c.loop-left in
    let p = err_from_is_err_and c.from_residual-in_err-sign.result c.from_residual-in_err-sign.ensures.1 in
    let none : l.left ≡ 0 = omega (arith, c.loop-left-test.false) in
    rw (p.1, p.2)
    (λ known. l.invariant ∙ dims_deep l.left l.reader l.lengths.items c.in_err-sign.field-0.0 none (ap (sign_of TooDeep 41) (sym c.blanks-2.ensures) ∙ c.in_err-sign.ensures.err))

pub returns-clause-ok : goal.returns-clause-ok
returns-clause-ok c =
    let l = c.loop-left in
    let none : l.left ≡ 0 = omega (arith, c.loop-left-test.false) in
    l.invariant ∙ dims_last l.left l.reader l.lengths.items c.sign.new.self none (ap (sign_of TooDeep 41) (sym c.blanks-2.ensures) ∙ c.in_ok-sign.ensures.ok)
