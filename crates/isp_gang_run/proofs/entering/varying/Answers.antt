use Rattle.std.proofs.Common.{◌+◌, map, sym, subst, arith}
use Rattle.isp_base.specs.Maps.{Lanes, lane_of}
use Rattle.isp_base.specs.Sets.{flag_of}
use Rattle.isp_gang_run.specs.Entering.{each_at}
use Rattle.isp_gang_run.specs.Seen.{passed_seen}
use Rattle.isp_gang_run.proofs.Begun.{Listed, listed_none, listed_more, all_lanes}
use Rattle.isp_gang_run.proofs.entering.varying.Goals as goal

pub loop-place-init : goal.loop-place-init
loop-place-init c =
    let f = each_at c.args.variables.now (map passed_seen c.args.passed.now) (flag_of c.args.set.now) in
    subst (λ xs. Listed {B = Lanes} lane_of (λ p. 0) f xs 0) (sym c.new-values.ensures.items) (listed_none {B = Lanes} lane_of (λ p. 0) f)

pub loop-place-preserved : goal.loop-place-preserved
loop-place-preserved c =
    let f = each_at c.args.variables.now (map passed_seen c.args.passed.now) (flag_of c.args.set.now) in
    subst (λ xs. Listed {B = Lanes} lane_of (λ p. 0) f xs (c.loop-place.place + 1)) (sym c.in_ok-push.ensures.items)
    (listed_more {B = Lanes} lane_of (λ p. 0) f c.loop-place.values.items c.each_passed.result c.loop-place.place c.loop-place.invariant c.each_passed.ensures)

pub returns : goal.returns
returns c =
    all_lanes c.args.variables.now (map passed_seen c.args.passed.now) (flag_of c.args.set.now) c.loop-place.values.items c.loop-place.place c.loop-place.invariant (omega (arith, c.loop-place-test.false))
