use Rattle.std.proofs.lemmas.Result.{err_from_is_err_and}
use Rattle.std.proofs.Common.{refl}
use Rattle.isp_typed.specs.Views.{program_of}
use Rattle.isp_commands.proofs.Solos.{all_told, none_told, refused, unread_arguments, unread_source}
use Rattle.isp_commands.proofs.alone.answered.Goals as goal

pub returns-in_err-source-clause-err : goal.returns-in_err-source-clause-err
returns-in_err-source-clause-err g c =
    let p = err_from_is_err_and c.from_residual.result c.from_residual.ensures.1 in
    rw (p.1, p.2) (unread_source _ c.args.request.now _ c.in_err-source.ensures.err)

pub returns-in_err-json-clause-err : goal.returns-in_err-json-clause-err
returns-in_err-json-clause-err g c =
    let p = err_from_is_err_and c.from_residual-in_err-json.result c.from_residual-in_err-json.ensures.1 in
    rw (p.1, p.2) (unread_arguments _ c.args.request.now _ c.in_ok-source.ensures.ok _ c.in_err-json.ensures.err)

pub returns-in_err-checked-clause-err : goal.returns-in_err-checked-clause-err
returns-in_err-checked-clause-err g c =
    let p = err_from_is_err_and c.from_residual-in_err-checked.result c.from_residual-in_err-checked.ensures.1 in
    rw (p.1, p.2) (refused _ c.args.request.now (record { text = c.as_str.result.now; json = _; has_text = rw c.as_str.ensures.value c.in_ok-source.ensures.ok; has_json = c.in_ok-json.ensures.ok }) _ c.in_err-checked.ensures.refused)

pub returns-clause-ok : goal.returns-clause-ok
returns-clause-ok g c =
    all_told _ c.args.request.now (program_of c.in_ok-checked.checked) c.as_str-2.result.now
    (record {
      files = record { text = c.as_str.result.now; json = c.as_str-2.result.now; has_text = rw c.as_str.ensures.value c.in_ok-source.ensures.ok; has_json = rw c.as_str-2.ensures.value c.in_ok-json.ensures.ok };
      json_is = refl;
      is = c.in_ok-checked.ensures.accepted;
    })
    c.entered.result c.entered.ensures.ok

pub returns-clause-err : goal.returns-clause-err
returns-clause-err g c =
    none_told _ c.args.request.now (program_of c.in_ok-checked.checked) c.as_str-2.result.now
    (record {
      files = record { text = c.as_str.result.now; json = c.as_str-2.result.now; has_text = rw c.as_str.ensures.value c.in_ok-source.ensures.ok; has_json = rw c.as_str-2.ensures.value c.in_ok-json.ensures.ok };
      json_is = refl;
      is = c.in_ok-checked.ensures.accepted;
    })
    c.entered.result c.entered.ensures.err
