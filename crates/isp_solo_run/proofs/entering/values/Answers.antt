use Rattle.std.proofs.Common.{ℕ, List, ◌+◌, map, sym, subst, arith}
use Rattle.isp_solo_run.specs.Entering.{passed_at}
use Rattle.isp_solo_run.specs.Seen.{passed_seen}
use Rattle.isp_solo_run.proofs.Begun.{Listed, listed_none, listed_more, all_passed}
use Rattle.isp_solo_run.proofs.entering.values.Goals as goal

pub loop-place-init : goal.loop-place-init
loop-place-init c =
    let f = passed_at c.args.rate c.args.variables.now (map passed_seen c.args.passed.now) in
    subst (λ xs. Listed (λ x. x) 0 f xs 0) (sym c.new-values.ensures.items) (listed_none (λ x. x) 0 f)

pub loop-place-preserved : goal.loop-place-preserved
loop-place-preserved c =
    let f = passed_at c.args.rate c.args.variables.now (map passed_seen c.args.passed.now) in
    subst (λ xs. Listed (λ x. x) 0 f xs (c.loop-place.place + 1)) (sym {A = List ℕ} c.in_ok-push.ensures.items)
    (listed_more (λ x. x) 0 f c.loop-place.values.items c.value_passed.result c.loop-place.place c.loop-place.invariant c.value_passed.ensures)

pub returns : goal.returns
returns c = all_passed c.args.rate c.args.variables.now (map passed_seen c.args.passed.now) c.loop-place.values.items c.loop-place.place c.loop-place.invariant (omega (arith, c.loop-place-test.false))
