use Rattle.std.proofs.lemmas.Result.{err_from_is_err_and}
use Rattle.isp_headline.proofs.Answered.{memory_of, refusal_of, report_of, source_refusal}
use Rattle.isp_headline.proofs.calls.run_as_meant.Goals as goal

pub returns-in_err-image-clause-answers : goal.returns-in_err-image-clause-answers
returns-in_err-image-clause-answers c =
    let p = err_from_is_err_and c.from_residual.result c.from_residual.ensures.1 in
    rw (p.1, p.2) (source_refusal c.args.gang c.args.text.now c.args.entry.now c.args.json.now c.args.budget _ c.in_err-image.ensures.refused)

pub returns-in_err-image-clause-only : goal.returns-in_err-image-clause-only
returns-in_err-image-clause-only c = λ xs k.
    let p = err_from_is_err_and c.from_residual.result c.from_residual.ensures.1 in
    rw (p.1, p.2) (c.in_err-image.ensures.only k.program k.source)

pub returns-in_err-report-clause-answers : goal.returns-in_err-report-clause-answers
returns-in_err-report-clause-answers c =
    let p = err_from_is_err_and c.from_residual-in_err-report.result c.from_residual-in_err-report.ensures.1 in
    let compiled = c.in_ok-image.ensures.compiled in
    rw (p.1, p.2) (refusal_of c.args.gang c.args.text.now c.in_ok-image.image compiled c.args.entry.now c.args.json.now c.args.budget _ (c.in_err-report.ensures.means c.args.gang c.args.text.now compiled))

pub returns-in_err-report-clause-only : goal.returns-in_err-report-clause-only
returns-in_err-report-clause-only c = λ xs k.
    let p = err_from_is_err_and c.from_residual-in_err-report.result c.from_residual-in_err-report.ensures.1 in
    rw (p.1, p.2) (memory_of c.args.gang c.args.text.now c.in_ok-image.image c.in_ok-image.ensures.compiled c.args.entry.now c.args.json.now c.args.budget _ c.in_err-report.ensures.machine xs k)

pub returns-clause-answers : goal.returns-clause-answers
returns-clause-answers c =
    let compiled = c.in_ok-image.ensures.compiled in
    report_of c.args.gang c.args.text.now c.in_ok-image.image compiled c.args.entry.now c.args.json.now c.args.budget c.in_ok-report.report c.in_ok-report.ensures.machine
    (c.in_ok-report.ensures.means c.args.gang c.args.text.now compiled)
