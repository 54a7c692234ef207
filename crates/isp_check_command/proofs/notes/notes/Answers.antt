use Rattle.std.proofs.lemmas.Result.{err_from_is_err_and}
use Rattle.isp_check_command.proofs.notes.notes.Goals as goal

pub returns-in_err-checked-clause-memory : goal.returns-in_err-checked-clause-memory
returns-in_err-checked-clause-memory c =
    let p = err_from_is_err_and c.from_residual.result c.from_residual.ensures.1 in
    rw (p.1, p.2) (c.in_err-checked.ensures.only c.requires.0 c.requires.1)
