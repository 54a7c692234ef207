use Rattle.std.proofs.lemmas.Result.{err_from_is_err_and}
use Rattle.isp_headline.proofs.calls.compile_as_meant.Goals as goal

pub returns-in_err-image-clause-only : goal.returns-in_err-image-clause-only
returns-in_err-image-clause-only c = λ program k.
    let p = err_from_is_err_and c.from_residual.result c.from_residual.ensures.1 in
    rw (p.1, p.2) (c.in_err-image.ensures.only program k)

pub returns-clause-faithful : goal.returns-clause-faithful
returns-clause-faithful c = c.headline.ensures c.args.gang c.args.text.now c.in_ok-image.image c.in_ok-image.ensures.compiled

pub returns-clause-bound : goal.returns-clause-bound
returns-clause-bound c = c.bound_headline.ensures c.args.gang c.args.text.now c.in_ok-image.image c.in_ok-image.ensures.compiled

pub returns-clause-in_module : goal.returns-clause-in_module
returns-clause-in_module c = c.module_headline.ensures c.args.gang c.args.text.now c.in_ok-image.image c.in_ok-image.ensures.compiled c.code-code.ensures.fine c.code-code.ensures.writable
