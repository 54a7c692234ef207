use Rattle.std.proofs.Common.{ℕ, List, Some, [], ◌∷◌, sym, ap, subst, set, ◌∙◌, arith}
use Rattle.std.specs.Prelude.{Option}
use Rattle.isp_independence.specs.declared.dependence.Dependence.{Dependence}
use Rattle.isp_independence.specs.reader.Paths.{found_at}
use Rattle.isp_independence.specs.reader.Visits.{Visits}
use Rattle.isp_independence.proofs.Visiting.{visits_new}
use Rattle.isp_independence.proofs.spread.visit_one.Goals as goal

pub returns-in_ok-push-in-None : goal.returns-in_ok-push-in-None
returns-in_ok-push-in-None c =
    let n = c.args.function in
    let d = c.args.dependence in
    let old = c.args.found.now.items in
    let waiting = c.args.waiting.now.items in
    let free = sym (c.in-None.ensures ∙ ap (λ (xs : List (Option Dependence)). found_at xs n) c.as_slice.ensures.value) in
    subst (λ (w : List ℕ). Visits (n ∷ []) d old (set old n (Some d)) waiting w) (sym c.in_ok-push-in-None.ensures.items)
    (visits_new n d old waiting (omega (arith, c.if-function-len.false, c.len.ensures)) free)
