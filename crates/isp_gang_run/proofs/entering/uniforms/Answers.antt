use Rattle.std.proofs.Common.{◌+◌, map, sym, subst, arith}
use Rattle.isp_gang_run.specs.Entering.{one_at}
use Rattle.isp_gang_run.specs.Seen.{passed_seen}
use Rattle.isp_gang_run.proofs.Begun.{Listed, listed_none, listed_more, all_ones}
use Rattle.isp_gang_run.proofs.entering.uniforms.Goals as goal

pub loop-place-init : goal.loop-place-init
loop-place-init c =
    let f = one_at c.args.variables.now (map passed_seen c.args.passed.now) in
    subst (λ xs. Listed (λ x. x) 0 f xs 0) (sym c.new-values.ensures.items) (listed_none (λ x. x) 0 f)

pub loop-place-preserved : goal.loop-place-preserved
loop-place-preserved c =
    let f = one_at c.args.variables.now (map passed_seen c.args.passed.now) in
    subst (λ xs. Listed (λ x. x) 0 f xs (c.loop-place.place + 1)) (sym c.in_ok-push.ensures.items)
    (listed_more (λ x. x) 0 f c.loop-place.values.items c.one_passed.result c.loop-place.place c.loop-place.invariant c.one_passed.ensures)

pub returns : goal.returns
returns c = all_ones c.args.variables.now (map passed_seen c.args.passed.now) c.loop-place.values.items c.loop-place.place c.loop-place.invariant (omega (arith, c.loop-place-test.false))
