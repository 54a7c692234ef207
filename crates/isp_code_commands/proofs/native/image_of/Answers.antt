use Rattle.std.proofs.lemmas.Result.{err_from_is_err_and}
use Rattle.isp_code_commands.proofs.Stories.{none_compiled, none_loaded}
use Rattle.isp_code_commands.proofs.native.image_of.Goals as goal

pub returns-in_err-compile-in-Some-clause-err : goal.returns-in_err-compile-in-Some-clause-err
returns-in_err-compile-in-Some-clause-err c =
    let p = err_from_is_err_and c.from_residual.result c.from_residual.ensures.1 in
    rw (c.in-Some.is, p.1, p.2) (none_compiled c.in-Some.gang c.args.text.now _ c.in_err-compile-in-Some.ensures.refused)

pub returns-in_err-load_code-in-None-clause-err : goal.returns-in_err-load_code-in-None-clause-err
returns-in_err-load_code-in-None-clause-err c =
    let p = err_from_is_err_and c.from_residual-in_err-load_code-in-None.result c.from_residual-in_err-load_code-in-None.ensures.1 in
    rw (c.in-None.is, p.1, p.2) (none_loaded c.args.text.now _ c.in_err-load_code-in-None.ensures.refused)

pub returns-in_ok-compile-in-Some-clause-ok : goal.returns-in_ok-compile-in-Some-clause-ok
returns-in_ok-compile-in-Some-clause-ok c = rw c.in-Some.is c.in_ok-compile-in-Some.ensures.compiled

pub returns-in_ok-load_code-in-None-clause-ok : goal.returns-in_ok-load_code-in-None-clause-ok
returns-in_ok-load_code-in-None-clause-ok c = rw c.in-None.is c.in_ok-load_code-in-None.ensures.loaded
