use Rattle.std.proofs.lemmas.Result.{err_from_is_err_and}
use Rattle.isp_run_command.proofs.Ends.{refused, uncalled, unloaded}
use Rattle.isp_run_command.proofs.command.prepared.Goals as goal

pub returns-in_err-words-clause-err : goal.returns-in_err-words-clause-err
returns-in_err-words-clause-err g c =
    let p = err_from_is_err_and c.from_residual.result c.from_residual.ensures.1 in
    rw (p.1, p.2) (unloaded (g.F.DataFiles.has_bytes c.args.files.now) c.args.request.now c.args.text.now _ c.in_err-words.ensures.err)

pub returns-in_err-checked-clause-err : goal.returns-in_err-checked-clause-err
returns-in_err-checked-clause-err g c =
    let p = err_from_is_err_and c.from_residual-in_err-checked.result c.from_residual-in_err-checked.ensures.1 in
    rw (p.1, p.2) (refused (g.F.DataFiles.has_bytes c.args.files.now) c.args.request.now c.args.text.now _ c.in_err-checked.ensures.err)

pub returns-in_err-image-clause-err : goal.returns-in_err-image-clause-err
returns-in_err-image-clause-err g c =
    let p = err_from_is_err_and c.from_residual-in_err-image.result c.from_residual-in_err-image.ensures.1 in
    rw (p.1, p.2) (refused (g.F.DataFiles.has_bytes c.args.files.now) c.args.request.now c.args.text.now _ c.in_err-image.ensures.err)

pub returns-in_err-call-clause-err : goal.returns-in_err-call-clause-err
returns-in_err-call-clause-err g c =
    let p = err_from_is_err_and c.from_residual-in_err-call.result c.from_residual-in_err-call.ensures.1 in
    rw (p.1, p.2)
    (uncalled (g.F.DataFiles.has_bytes c.args.files.now) c.args.request.now c.args.text.now _ _ c.in_ok-words.ensures.ok c.in_ok-image.ensures.ok _ c.in_err-call.ensures.err)

pub returns-clause-ok : goal.returns-clause-ok
returns-clause-ok g c = record {
  words = _;
  loaded = c.in_ok-words.ensures.ok;
  compiles = c.in_ok-image.ensures.ok;
  same = c.in_ok-checked.ensures.ok _ c.in_ok-image.ensures.ok.source;
  binds = c.in_ok-call.ensures.ok;
}
