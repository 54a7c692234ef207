use Rattle.std.proofs.lemmas.Result.{err_from_is_err_and}
use Rattle.isp_commands.proofs.Solos.{err_told, ok_told, signed, unbound, unreported, unsigned}
use Rattle.isp_commands.proofs.alone.entered.Goals as goal

pub returns-in_default-clause-err : goal.returns-in_default-clause-err
returns-in_default-clause-err c = unsigned c.args.checked.now c.args.entry.now c.in_default.ensures

pub returns-in_err-bound-clause-err : goal.returns-in_err-bound-clause-err
returns-in_err-bound-clause-err c =
    let p = err_from_is_err_and c.from_residual.result c.from_residual.ensures.1 in
    let g = signed c.args.checked.now c.args.entry.now c.in-Some.signature.now c.in-Some.ensures in
    rw (p.1, p.2) (unbound c.args.checked.now c.args.entry.now c.args.json.now c.args.turns c.in-Some.signature.now g _ c.in_err-bound.ensures.err)

pub returns-in_err-report-clause-err : goal.returns-in_err-report-clause-err
returns-in_err-report-clause-err c =
    let p = err_from_is_err_and c.from_residual-in_err-report.result c.from_residual-in_err-report.ensures.1 in
    let g = signed c.args.checked.now c.args.entry.now c.in-Some.signature.now c.in-Some.ensures in
    rw (p.1, p.2) (unreported c.args.checked.now c.args.entry.now c.args.json.now c.args.turns c.in-Some.signature.now g _ c.in_ok-bound.ensures.ok _ c.in_err-report.ensures.err)

pub returns-clause-ok : goal.returns-clause-ok
returns-clause-ok c =
    let g = signed c.args.checked.now c.args.entry.now c.in-Some.signature.now c.in-Some.ensures in
    ok_told c.args.checked.now c.args.entry.now c.args.json.now c.args.turns c.in-Some.signature.now g _ c.in_ok-bound.ensures.ok c.in_ok-report.report c.in_ok-report.ensures.ok c.told.result c.told.ensures.ok

pub returns-clause-err : goal.returns-clause-err
returns-clause-err c =
    let g = signed c.args.checked.now c.args.entry.now c.in-Some.signature.now c.in-Some.ensures in
    err_told c.args.checked.now c.args.entry.now c.args.json.now c.args.turns c.in-Some.signature.now g _ c.in_ok-bound.ensures.ok c.in_ok-report.report c.in_ok-report.ensures.ok c.told.result c.told.ensures.err
