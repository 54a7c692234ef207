use Rattle.std.proofs.Common.{Ok, Err, refl}
use Rattle.std.proofs.lemmas.Result.{err_from_is_err_and}
use Rattle.isp_commands.proofs.commands.run_image.Goals as goal

pub returns-in_err-report : goal.returns-in_err-report
returns-in_err-report g c =
    let p = err_from_is_err_and c.from_residual.result c.from_residual.ensures.1 in
    rw (p.1, p.2) (record { answer = Err c.in_err-report.field-0.0; runs = record { machine = c.in_err-report.ensures.machine; means = c.in_err-report.ensures.means; sends = c.in_err-report.ensures.sends }; ends = refl })

pub returns : goal.returns
returns g c = record { answer = Ok c.in_ok-report.report; runs = record { machine = c.in_ok-report.ensures.machine; means = c.in_ok-report.ensures.means; sends = c.in_ok-report.ensures.sends }; ends = c.end_of.ensures }
