use Rattle.std.proofs.Common.{◌-◌, ap, sym, ◌∙◌}
use Rattle.std.proofs.lemmas.Result.{err_from_is_err_and}
use Rattle.isp_base.specs.Rows.{Row}
use Rattle.isp_files.specs.Endian.{number_in}
use Rattle.isp_files.specs.Reading.{ahead, numbers_of}
use Rattle.isp_files.proofs.Steps.{numbers_bad, numbers_next}
use Rattle.isp_files.proofs.numbers.numbers.Goals as goal

pub returns-in_err-bits-clause-err : goal.returns-in_err-bits-clause-err
returns-in_err-bits-clause-err c =
    let l = c.loop-left in
    let p = err_from_is_err_and c.from_residual.result c.from_residual.ensures.1 in
    rw (p.1, p.2)
    (λ other. l.invariant.0 ∙ ap (ahead l.array.bits) (numbers_bad (number_in c.args.endian) c.args.cell.size c.args.cell.most l.left l.reader c.in_err-bits.field-0.0 c.loop-left-test.true c.in_err-bits.ensures.err))

pub loop-left-preserved : goal.loop-left-preserved
loop-left-preserved c =
    let l = c.loop-left in
    let number = (number_in c.args.endian) in
    let a = c.args.cell in (
      l.invariant.0
          ∙ numbers_next number a.size a.most l.left l.reader c.number.new.reader c.in_ok-bits.bits l.array.bits c.loop-left-test.true c.in_ok-bits.ensures.ok
          ∙ ap (λ (r : Row). ahead r.bits (numbers_of number a.size a.most (l.left - 1) c.number.new.reader)) (sym c.in_ok-push.ensures.ok),
      ap (λ (r : Row). r.elem) c.in_ok-push.ensures.ok ∙ l.invariant.1,
    )
