use Rattle.std.proofs.Common.{List, sym, subst}
use Rattle.std.specs.Prelude.{All}
use Rattle.std.proofs.lemmas.List.Elements.{All-push}
use Rattle.isp_case_command.specs.Testing.{IsTried}
use Rattle.isp_case_command.specs.declared.tried.Tried.{Tried}
use Rattle.isp_case_command.proofs.Tries.{case_next}
use Rattle.isp_case_command.proofs.tried.try_cases.Goals as goal

pub loop-case-preserved : goal.loop-case-preserved
loop-case-preserved c =
    let kernel = c.args.kernel.now in
    let done = c.loop-case.tried.items in
    let one = c.in_ok-one.one in
    record {
      order = case_next kernel.gang c.args.cases.now c.loop-case.case-index c.case-item.result c.loop-case-test.true c.case-item.is done _ one _ c.in_ok-one.ensures.place c.in_ok-push.ensures.items c.loop-case.invariant.order;
      tried = λ text compiled old.
          subst (λ (l : List Tried). All (IsTried text c.args.budget) l) (sym c.in_ok-push.ensures.items)
          (All-push (IsTried text c.args.budget) done one (c.loop-case.invariant.tried text compiled old) (c.in_ok-one.ensures.tried text compiled));
    }
