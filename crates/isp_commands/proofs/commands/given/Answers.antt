use Rattle.std.proofs.Common.{refl}
use Rattle.std.proofs.lemmas.Result.{err_from_is_err_and}
use Rattle.isp_engine.proofs.Requests.{unread_first, unread_second}
use Rattle.isp_commands.proofs.Requests.{no_code}
use Rattle.isp_commands.proofs.commands.given.Goals as goal

pub returns-in_err-text-clause-err : goal.returns-in_err-text-clause-err
returns-in_err-text-clause-err g c =
    let p = err_from_is_err_and c.from_residual.result c.from_residual.ensures.1 in
    rw (p.1, p.2) (unread_first _ c.args.job.now _ c.in_err-text.ensures.err)

pub returns-in_err-json-clause-err : goal.returns-in_err-json-clause-err
returns-in_err-json-clause-err g c =
    let p = err_from_is_err_and c.from_residual-in_err-json.result c.from_residual-in_err-json.ensures.1 in
    rw (p.1, p.2) (unread_second _ c.args.job.now _ c.in_ok-text.ensures.ok _ c.in_err-json.ensures.err)

pub returns-in_err-image-clause-err : goal.returns-in_err-image-clause-err
returns-in_err-image-clause-err g c =
    let p = err_from_is_err_and c.from_residual-in_err-image.result c.from_residual-in_err-image.ensures.1 in
    rw (p.1, p.2) (no_code _ c.args.job.now (record { text = c.as_str.result.now; json = _; has_text = rw c.as_str.ensures.value c.in_ok-text.ensures.ok; has_json = c.in_ok-json.ensures.ok }) _ c.in_err-image.ensures.err)

pub returns-clause-ok : goal.returns-clause-ok
returns-clause-ok g c = record {
  files = record { text = c.as_str.result.now; json = _; has_text = rw c.as_str.ensures.value c.in_ok-text.ensures.ok; has_json = c.in_ok-json.ensures.ok };
  json_is = refl;
  image = c.in_ok-image.ensures.ok;
}
