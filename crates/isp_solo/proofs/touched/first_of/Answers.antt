use Rattle.std.proofs.Common.{subst}
use Rattle.isp_solo.specs.Touched.{FirstAt, touched_at}
use Rattle.isp_solo.proofs.Joining.{first_here, none_here, none_past}
use Rattle.isp_solo.proofs.touched.first_of.Goals as goal

pub returns-in-Some : goal.returns-in-Some
returns-in-Some c = first_here c.args.touched.now c.loop-store.store c.loop-store.invariant c.index-touched-store.result c.loop-store-test.true c.index-touched-store.is c.in-Some.element c.in-Some.ensures

pub loop-store-preserved : goal.loop-store-preserved
loop-store-preserved c =
    none_here c.args.touched.now c.loop-store.store c.loop-store.invariant c.index-touched-store.result c.loop-store-test.true c.index-touched-store.is
    (subst (λ o. FirstAt (touched_at c.index-touched-store.result) o) c.in_default.is c.first_clash.ensures)

pub returns : goal.returns
returns c = none_past c.args.touched.now c.loop-store.store c.loop-store.invariant c.loop-store-test.false
