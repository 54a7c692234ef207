use Rattle.std.proofs.Common.{subst, List}
use Rattle.std.specs.List.{All}
use Rattle.isp_base.specs.Arguments.{rows}
use Rattle.isp_base.specs.Rows.{Fit, Row}
use Rattle.isp_base.specs.declared.signature.Argument.{Argument}
use Rattle.isp_typed.specs.Views.{program_of}
use Rattle.isp_typed.specs.declared.function.Program.{Program}
use Rattle.isp_entry.specs.Entered.{NoneBegins}
use Rattle.isp_solo.specs.Came.{Came}
use Rattle.isp_solo.proofs.Reporting.{begins_there, entry_number, entry_there, reported, reported_fits}
use Rattle.isp_solo.proofs.instances.one_by_one.Goals as goal

pub returns-in_default-clause-err : goal.returns-in_default-clause-err
returns-in_default-clause-err c =
    subst (λ (p : Program). NoneBegins (program_of p) c.args.entry.now c.args.bound.now.arguments.items) c.program-program.ensures.same (c.find_number.ensures.none c.in_default.is)

pub independent-requires : goal.independent-requires
independent-requires c =
    entry_there c.program-program.result.now c.args.checked.now c.program-program.ensures.same c.args.entry.now c.in-Some.function c.args.bound.now.arguments.items c.program-program.ensures.accepted c.in-Some.ensures.some

pub returns-in-Err-clause-err : goal.returns-in-Err-clause-err
returns-in-Err-clause-err c = (
  c.in-Some.function,
  begins_there c.program-program.result.now c.args.checked.now c.program-program.ensures.same c.args.entry.now c.in-Some.function c.args.bound.now.arguments.items c.program-program.ensures.accepted c.in-Some.ensures.some,
  c.in-Err.ensures.err c.in-Some.function
      (entry_number c.program-program.result.now c.args.checked.now c.program-program.ensures.same c.args.entry.now c.in-Some.function c.args.bound.now.arguments.items c.program-program.ensures.accepted c.in-Some.ensures.some),
)

pub returns-clause-ok : goal.returns-clause-ok
returns-clause-ok c =
    reported c.program-program.result.now c.args.checked.now c.program-program.ensures.same c.args.entry.now c.in-Some.function c.args.bound.now.arguments.items c.program-program.ensures.accepted c.in-Some.ensures.some
    c.args.turns c.in_ok-report.report
    (c.in_default-independent.ensures.ok c.in-Some.function
    (entry_number c.program-program.result.now c.args.checked.now c.program-program.ensures.same c.args.entry.now c.in-Some.function c.args.bound.now.arguments.items c.program-program.ensures.accepted c.in-Some.ensures.some))
    (subst (λ (ys : List Argument). All (λ (r : Row). Fit r.elem r.bits) (rows ys)) c.as_slice.ensures.value c.in_ok-report.ensures.fits)
    (subst (λ (ys : List Argument). Came (program_of c.program-program.result.now) c.in-Some.function ys c.args.turns c.in_ok-report.report) c.as_slice.ensures.value c.in_ok-report.ensures.came)

pub returns-clause-fits : goal.returns-clause-fits
returns-clause-fits c =
    reported_fits c.program-program.result.now c.args.checked.now c.program-program.ensures.same c.args.entry.now c.in-Some.function c.args.bound.now.arguments.items c.program-program.ensures.accepted c.in-Some.ensures.some
    c.args.turns c.in_ok-report.report
    (c.in_default-independent.ensures.ok c.in-Some.function
    (entry_number c.program-program.result.now c.args.checked.now c.program-program.ensures.same c.args.entry.now c.in-Some.function c.args.bound.now.arguments.items c.program-program.ensures.accepted c.in-Some.ensures.some))
    (subst (λ (ys : List Argument). All (λ (r : Row). Fit r.elem r.bits) (rows ys)) c.as_slice.ensures.value c.in_ok-report.ensures.fits)
    (subst (λ (ys : List Argument). Came (program_of c.program-program.result.now) c.in-Some.function ys c.args.turns c.in_ok-report.report) c.as_slice.ensures.value c.in_ok-report.ensures.came)
