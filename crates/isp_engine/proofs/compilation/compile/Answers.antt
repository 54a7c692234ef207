use Rattle.isp_lex.specs.declared.fault.SourceFault.TheVariants.{Memory}
use Rattle.isp_front.proofs.Fronts.{err_is}
use Rattle.isp_engine.proofs.compilation.compile.Goals as goal

pub returns-in_err-checked-clause-only : goal.returns-in_err-checked-clause-only
returns-in_err-checked-clause-only c = λ program k.
    err_is c.from_residual.result _ Memory c.from_residual.ensures.1 (c.in_err-checked.ensures.only program k)
