use Rattle.std.proofs.lemmas.Result.{err_from_is_err_and}
use Rattle.isp_typed.specs.Views.{program_of}
use Rattle.isp_code_commands.proofs.Stories.{none_compiled}
use Rattle.isp_explain_command.proofs.done.judged.Goals as goal

pub returns-in_err-checked-clause-err : goal.returns-in_err-checked-clause-err
returns-in_err-checked-clause-err c =
    let p = err_from_is_err_and c.from_residual.result c.from_residual.ensures.1 in
    rw (p.1, p.2) (none_compiled c.args.gang c.args.source.now _ c.in_err-checked.ensures.refused)

pub returns-clause-ok : goal.returns-clause-ok
returns-clause-ok c = record { program = program_of c.in_ok-checked.checked; is = c.in_ok-checked.ensures.accepted; checks = c.in_ok-text.ensures }
