use Rattle.std.proofs.Common.{subst}
use Rattle.isp_typed.specs.Views.{program_of}
use Rattle.isp_typed.specs.declared.function.Program.{Program}
use Rattle.isp_entry.specs.Entered.{NoneBegins}
use Rattle.isp_model.proofs.Evaluating.{worked}
use Rattle.isp_model.proofs.run.work.Goals as goal

pub returns-in_default-clause-err : goal.returns-in_default-clause-err
returns-in_default-clause-err c =
    subst (λ (p : Program). NoneBegins (program_of p) c.args.entry.now c.args.bound.now.arguments.items) c.program-program.ensures.same (c.find.ensures.none c.in_default.is)

pub returns-clause-ok : goal.returns-clause-ok
returns-clause-ok c =
    worked c.program-program.result.now c.args.checked.now c.program-program.ensures.same c.args.entry.now c.args.turns c.in-Some.function.now
    c.args.bound.now.arguments.items c.as_slice.result.now c.in_ok-done.done c.as_slice.ensures.value c.in-Some.ensures.some c.in_ok-done.ensures.ran
