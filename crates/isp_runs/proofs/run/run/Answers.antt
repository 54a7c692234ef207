use Rattle.std.proofs.lemmas.Result.{err_from_is_err_and}
use Rattle.isp_runs.proofs.Sends.{answer_cut, cut, reported_as, wanting, whole}
use Rattle.isp_output.proofs.Streams.{some_made}
use Rattle.isp_runs.proofs.run.run.Goals as goal

pub returns-in_err-stop-clause-sends : goal.returns-in_err-stop-clause-sends
returns-in_err-stop-clause-sends g c = λ f h x.
    let p = err_from_is_err_and c.from_residual.result c.from_residual.ensures.1 in
    rw (p.1, p.2)
    (cut c.args.order.now.code.now c.args.order.now.entry.now c.args.bound.arguments.items c.args.order.now.budget c.in-Ok.machine _
    c.in-Ok.ensures.starts c.code-code.ensures.goes_on f h x c.args.order.now.signature.now.params.items c.in_err-stop.ensures.cut _ _ _
    c.in_err-stop.ensures.err)

pub returns-in_err-report-clause-sends : goal.returns-in_err-report-clause-sends
returns-in_err-report-clause-sends g c = λ f h x.
    let p = err_from_is_err_and c.from_residual-in_err-report.result c.from_residual-in_err-report.ensures.1 in
    rw (p.1, p.2)
    (wanting c.args.order.now.code.now c.args.order.now.entry.now c.args.bound.arguments.items c.args.order.now.budget c.in-Ok.machine _
    c.in-Ok.ensures.starts c.code-code.ensures.goes_on f h x c.args.order.now.signature.now.params.items
    (some_made _ _ _ _ c.in_ok-stop.ensures.ran) _ _ _ c.in_ok-stop.ensures.ok)

pub returns-in_err-write_answer-clause-sends : goal.returns-in_err-write_answer-clause-sends
returns-in_err-write_answer-clause-sends g c = λ f h x.
    let p = err_from_is_err_and c.from_residual-in_err-write_answer.result c.from_residual-in_err-write_answer.ensures.1 in
    rw (p.1, p.2)
    (answer_cut c.args.order.now.code.now c.args.order.now.entry.now c.args.bound.arguments.items c.args.order.now.budget c.in-Ok.machine _
    c.in-Ok.ensures.starts c.code-code.ensures.goes_on f h x c.args.order.now.signature.now.params.items _ c.in_ok-stop.ensures.ran
    c.in_ok-report.ensures.ran c.in_ok-report.report c.in_ok-report.ensures.reports _ _ _ _ _ c.in_ok-stop.ensures.ok
    c.in_err-write_answer.ensures.err)

pub returns-clause-reports : goal.returns-clause-reports
returns-clause-reports g c = λ f h x.
    reported_as c.args.order.now.code.now c.args.order.now.entry.now c.args.bound.arguments.items c.args.order.now.budget c.in-Ok.machine _
    c.in-Ok.ensures.starts c.code-code.ensures.goes_on f h x c.args.order.now.signature.now.params.items _ c.in_ok-stop.ensures.ran
    c.in_ok-report.ensures.ran c.in_ok-report.report c.in_ok-report.ensures.reports

pub returns-clause-sends : goal.returns-clause-sends
returns-clause-sends g c = λ f h x.
    whole c.args.order.now.code.now c.args.order.now.entry.now c.args.bound.arguments.items c.args.order.now.budget c.in-Ok.machine _
    c.in-Ok.ensures.starts c.code-code.ensures.goes_on f h x c.args.order.now.signature.now.params.items _ c.in_ok-stop.ensures.ran
    c.in_ok-report.ensures.ran c.in_ok-report.report c.in_ok-report.ensures.reports _ _ _ _ _ c.in_ok-stop.ensures.ok
    c.in_ok-write_answer.ensures.ok
