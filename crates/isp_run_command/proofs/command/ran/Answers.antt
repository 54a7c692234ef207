use Rattle.std.proofs.lemmas.Result.{err_from_is_err_and}
use Rattle.isp_run_command.proofs.Ends.{unwritten}
use Rattle.isp_run_command.proofs.Shows.{begun, never, ran_words, unbegun}
use Rattle.isp_run_command.proofs.command.ran.Goals as goal

pub report-requires : goal.report-requires
report-requires g c = let b = c.in_ok-image.ensures.ok.binds in (b.function, b.routine, b.entry)

pub returns-in_err-report-clause-err : goal.returns-in_err-report-clause-err
returns-in_err-report-clause-err g c =
    let p = err_from_is_err_and c.from_residual-in_err-report.result c.from_residual-in_err-report.ensures.1 in
    rw (p.1, p.2, c.in_err-report.ensures.err) tt

pub unreachable-requires : goal.unreachable-requires
unreachable-requires g c =
    never _ _ _ _ _ _ _ c.in_ok-image.ensures.ok (unbegun _ _ _ _ c.program.ensures.same (c.find-function.ensures.none c.in_default.is)) c.in_ok-report.ensures.means

pub returns-in_err-write_ended-clause-err : goal.returns-in_err-write_ended-clause-err
returns-in_err-write_ended-clause-err g c =
    let p = err_from_is_err_and c.from_residual-in_err-write_ended.result c.from_residual-in_err-write_ended.ensures.1 in
    let w = c.in_err-write_ended.ensures in
    let ran = ran_words _ _ _ _ _ _ _ _ c.in_ok-image.ensures.ok (begun _ _ _ _ _ c.program.ensures.same c.in-Some.ensures.some) c.in_ok-report.ensures.machine c.in_ok-report.ensures.means in
    rw (p.1, p.2) (unwritten (g.F.DataFiles.has_bytes c.args.files.now) c.args.request.now c.args.text.now (record { function = _; report = _; ran = ran; ends = w.0 }) _ w.1)

pub returns-clause-ok : goal.returns-clause-ok
returns-clause-ok g c =
    let found = rw c.in-Some.is at c.find-function.ensures.some in
    let ran = ran_words _ _ _ _ _ _ _ _ c.in_ok-image.ensures.ok (begun _ _ _ _ _ c.program.ensures.same found) c.in_ok-report.ensures.machine c.in_ok-report.ensures.means in
    record { function = _; report = _; ran = ran; page_is = rw (← c.deref-2.ensures.value) c.in_ok-shown_page.ensures.page; ends = c.in_ok-shown_page.ensures.end }
