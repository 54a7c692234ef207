use Rattle.std.proofs.Common.{rules}
use Rattle.std.proofs.lemmas.Result.{err_from_is_err_and}
use Rattle.isp_runs.proofs.Means.{means}
use Rattle.isp_runs.proofs.Runs.{refused}
use Rattle.isp_runs.proofs.Sends.{answers_of, sends_of}
use Rattle.isp_runs.proofs.run.run_to.Goals as goal

pub returns-in_default-clause-means : goal.returns-in_default-clause-means
returns-in_default-clause-means g c = λ ne gang text k. means k.program c.args.image.now k.accepted k.agrees c.args.entry.now c.args.json.now c.args.budget _ (search rules)

pub returns-in_err-bound-clause-machine : goal.returns-in_err-bound-clause-machine
returns-in_err-bound-clause-machine g c = λ ne.
    let s = c.in-Some.ensures.found in
    let p = err_from_is_err_and c.from_residual.result c.from_residual.ensures.1 in
    rw (← c.verified-code.ensures, p.1, p.2) (refused _ c.code-code.ensures.goes_on c.args.entry.now c.args.json.now c.args.budget s.0 s.1 s.2 _ s.3 c.in_err-bound.field-0.0 c.in_err-bound.ensures.err)

pub returns-in_err-bound-clause-means : goal.returns-in_err-bound-clause-means
returns-in_err-bound-clause-means g c = λ ne gang text k.
    means k.program c.args.image.now k.accepted k.agrees c.args.entry.now c.args.json.now c.args.budget _ (returns-in_err-bound-clause-machine g c ne)

pub returns-clause-machine : goal.returns-clause-machine
returns-clause-machine g c = λ ne.
    let s = c.in-Some.ensures.found in
    rw (← c.verified-code.ensures)
    (answers_of _ c.code-code.ensures.goes_on c.args.entry.now c.args.json.now c.args.budget s.0 s.1 s.2 _ s.3 c.in_ok-bound.bound.arguments.items
    c.in_ok-bound.ensures.ok _ _ _ c.run_for_gang.result c.run_for_gang.ensures.reports (c.run_for_gang.ensures.sends s.0 s.1 s.2) ne)

pub returns-clause-means : goal.returns-clause-means
returns-clause-means g c = λ ne gang text k. means k.program c.args.image.now k.accepted k.agrees c.args.entry.now c.args.json.now c.args.budget _ (returns-clause-machine g c ne)

pub returns-clause-sends : goal.returns-clause-sends
returns-clause-sends g c =
    let s = c.in-Some.ensures.found in
    rw (← c.verified-code.ensures)
    (sends_of _ c.code-code.ensures.goes_on c.args.entry.now c.args.json.now c.args.budget s.0 s.1 s.2 _ s.3 c.in_ok-bound.bound.arguments.items c.in_ok-bound.ensures.ok _ _ _ c.run_for_gang.result (c.run_for_gang.ensures.sends s.0 s.1 s.2))
