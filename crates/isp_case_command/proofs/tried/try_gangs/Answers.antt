use Rattle.std.proofs.Common.{◌≡◌, ◌++◌, map, sym, subst}
use Rattle.std.proofs.lemmas.List.Elements.{Contains-get_or}
use Rattle.std.proofs.lemmas.Result.{err_from_is_err_and}
use Rattle.isp_base.specs.declared.types.Gang.{Gang}
use Rattle.isp_base.specs.declared.types.Gang.TheVariants.{W4}
use Rattle.isp_runs.specs.Compilation.{IsCompilation}
use Rattle.isp_case_command.specs.Testing.{beside, place_of}
use Rattle.isp_case_command.proofs.Ends.{uncompiled}
use Rattle.isp_case_command.proofs.Tries.{gang_next}
use Rattle.isp_case_command.proofs.tried.try_gangs.Goals as goal

pub loop-gang-preserved : goal.loop-gang-preserved
loop-gang-preserved c =
    let text = c.args.text.now in
    let kernel = c.in_ok-kernel.kernel in
    let old = c.loop-gang.tried.items in
    let new = c.try_cases.new.tried.items in
    let grown = subst (λ (g : Gang). map place_of new ≡ map place_of old ++ map (beside g) c.args.cases.now) c.in_ok-kernel.ensures.gang c.in_ok-try_cases.ensures.order in
    let compiled = subst (λ (g : Gang). IsCompilation g text kernel.image) (sym c.in_ok-kernel.ensures.gang) c.in_ok-kernel.ensures.image in
    record {
      order = gang_next c.args.gangs.now c.args.cases.now c.loop-gang.gang-index W4 old new _ c.loop-gang-test.true grown c.loop-gang.invariant.order;
      tried = c.in_ok-try_cases.ensures.tried text compiled c.loop-gang.invariant.tried;
    }

pub returns-in_err-kernel-clause-err : goal.returns-in_err-kernel-clause-err
returns-in_err-kernel-clause-err c =
    let p = err_from_is_err_and c.from_residual.result c.from_residual.ensures.1 in
    let here = Contains-get_or c.args.gangs.now c.loop-gang.gang-index W4 c.loop-gang-test.true in
    rw (p.1, p.2) (uncompiled c.args.gangs.now _ c.args.text.now here _ c.in_err-kernel.ensures.err)
