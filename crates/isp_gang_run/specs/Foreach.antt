-- What `foreach`, `foreach_active` and `foreach_unique` come to, in the words of the meaning.
use Rattle.std.specs.Prelude.{ℕ, List, ◌++◌}
use Rattle.std.proofs.Common.{Bor}
use Rattle.isp_base.specs.Sets.{Mask}
use Rattle.isp_base.specs.Types.{gang_width}
use Rattle.isp_base.specs.declared.types.Elem.{Elem}
use Rattle.isp_typed.specs.Typed.{TExpr, elem_of, TRange}
use Rattle.isp_typed.specs.declared.stmt.TypedStmt.{TypedStmt}
use Rattle.isp_typed.specs.Views.{stmt_of, program_of}
use Rattle.isp_meaning.specs.State.{State, Frame, tick}
use Rattle.isp_meaning.specs.Payloads.{spread}
use Rattle.isp_meaning.specs.Outcomes.{Res, with_value}
use Rattle.isp_meaning.specs.Rounds.{Range, rounds, active_rounds, unique_rounds}
use Rattle.isp_meaning.specs.Statements.{ranges}
use Rattle.isp_meaning.specs.Calls.{calls_at}
use Rattle.isp_gang_run.specs.Tasks.{Store, Goes, ran, value_at, rounds_from, run_in}
use Rattle.isp_gang_run.specs.declared.state.Evaluator.{Evaluator}

-- all bounds were found
abbrev pub begins : Evaluator → List Range → Bor TypedStmt → Mask → Store → Goes
begins e xs body a r = ran r (rounds_from (program_of e.program.now) e.turns r.frame r.left (stmt_of body.now) a xs r.state)

-- the bounds that are left, and then the runs
abbrev pub bounds_in : Evaluator → List TRange → List Range → Bor TypedStmt → Mask → Frame → ℕ → State → Res
bounds_in e rs before body a fr l s =
    with_value (ranges (gang_width e.program.now.gang) fr (calls_at (program_of e.program.now) e.turns l) rs a s)
    (λ xs s1. rounds_from (program_of e.program.now) e.turns fr l (stmt_of body.now) a (before ++ xs) s1)

abbrev pub bounds_from : Evaluator → List TRange → List Range → Bor TypedStmt → Mask → Store → Goes
bounds_from e rs before body a r = ran r (bounds_in e rs before body a r.frame r.left r.state)

-- a `foreach`, a `foreach_active`, and a `foreach_unique`: each counts
abbrev pub foreaches : Evaluator → List TRange → Bor TypedStmt → Mask → Store → Goes
foreaches e rs body a r =
    ran r (with_value (ranges (gang_width e.program.now.gang) r.frame (calls_at (program_of e.program.now) e.turns r.left) rs a (tick r.state))
    (λ xs s1. rounds_from (program_of e.program.now) e.turns r.frame r.left (stmt_of body.now) a xs s1))

abbrev pub actives : Evaluator → ℕ → Bor TypedStmt → Mask → Store → Goes
actives e index body a r =
    ran r (rounds (run_in (program_of e.program.now) e.turns r.frame r.left (stmt_of body.now)) a
    (active_rounds (gang_width e.program.now.gang) index a) (tick r.state))

abbrev pub uniques : Evaluator → ℕ → Elem → TExpr → Bor TypedStmt → Mask → Store → Goes
uniques e index t x body a r =
    ran r (with_value (value_at (program_of e.program.now) e.turns r x a (tick r.state))
    (λ m s. rounds (run_in (program_of e.program.now) e.turns r.frame r.left (stmt_of body.now)) a
    (unique_rounds (gang_width e.program.now.gang) (elem_of x) t index (spread a m)) s))
