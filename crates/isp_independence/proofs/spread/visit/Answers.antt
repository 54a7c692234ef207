use Rattle.std.proofs.Common.{sym, subst, take, get_or}
use Rattle.std.specs.Prelude.{ℕ, List, [], ◌∷◌}
use Rattle.std.proofs.lemmas.List.{take_more}
use Rattle.isp_independence.specs.reader.Visits.{Visits}
use Rattle.isp_independence.proofs.Visiting.{visits_then}
use Rattle.isp_independence.proofs.spread.visit.Goals as goal

pub loop-function-preserved : goal.loop-function-preserved
loop-function-preserved c =
    let i = c.loop-function.function-index in
    subst (λ (xs : List ℕ). Visits xs c.args.dependence c.args.found.now.items c.visit_one.new.found.items c.args.waiting.now.items c.visit_one.new.waiting.items)
    (sym (take_more c.args.row.now i 0 c.loop-function-test.true))
    (visits_then (take i c.args.row.now) (get_or c.args.row.now i 0 ∷ []) c.args.dependence _ _ _ _ _ _ c.loop-function.invariant c.in_ok-visit_one.ensures)
