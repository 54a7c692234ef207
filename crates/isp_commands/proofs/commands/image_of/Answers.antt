use Rattle.std.proofs.lemmas.Result.{err_from_is_err_and}
use Rattle.isp_commands.proofs.Requests.{not_compiled, not_loaded}
use Rattle.isp_commands.proofs.commands.image_of.Goals as goal

pub returns-in_err-compile-in-Compiled-clause-err : goal.returns-in_err-compile-in-Compiled-clause-err
returns-in_err-compile-in-Compiled-clause-err c =
    let p = err_from_is_err_and c.from_residual.result c.from_residual.ensures.1 in
    rw (c.in-Compiled.is, p.1, p.2) (not_compiled c.in-Compiled.gang c.args.text.now _ c.in_err-compile-in-Compiled.ensures.refused)

pub returns-in_err-load_code-in-Loaded-clause-err : goal.returns-in_err-load_code-in-Loaded-clause-err
returns-in_err-load_code-in-Loaded-clause-err c =
    let p = err_from_is_err_and c.from_residual-in_err-load_code-in-Loaded.result c.from_residual-in_err-load_code-in-Loaded.ensures.1 in
    rw (c.in-Loaded.is, p.1, p.2) (not_loaded c.args.text.now _ c.in_err-load_code-in-Loaded.ensures.refused)

pub returns-in_ok-compile-in-Compiled-clause-ok : goal.returns-in_ok-compile-in-Compiled-clause-ok
returns-in_ok-compile-in-Compiled-clause-ok c = rw c.in-Compiled.is c.in_ok-compile-in-Compiled.ensures.compiled

pub returns-in_ok-load_code-in-Loaded-clause-ok : goal.returns-in_ok-load_code-in-Loaded-clause-ok
returns-in_ok-load_code-in-Loaded-clause-ok c = rw c.in-Loaded.is c.in_ok-load_code-in-Loaded.ensures.loaded
