use Rattle.std.proofs.Common.{◌∙◌, sym}
use Rattle.isp_solo.specs.Places.{array_place}
use Rattle.isp_solo.proofs.Placing.{place_found, place_later, place_past}
use Rattle.isp_solo.proofs.ending.place_of.Goals as goal

pub returns-in-None : goal.returns-in-None
returns-in-None c =
    place_found c.args.arguments.now c.loop-place.place c.loop-place.left (array_place c.args.arguments.now c.args.store) c.loop-place.invariant
    c.index-arguments-place.result c.loop-place-test.true c.index-arguments-place.is (sym c.pass.ensures ∙ c.in-None.is)

pub loop-place-preserved : goal.loop-place-preserved
loop-place-preserved c =
    place_later c.args.arguments.now c.loop-place.place c.loop-place.left (array_place c.args.arguments.now c.args.store) c.loop-place.invariant
    c.index-arguments-place.result c.loop-place-test.true c.index-arguments-place.is c.in-Some.fewer (sym c.pass.ensures ∙ c.in-Some.is)

pub returns : goal.returns
returns c =
    place_past c.args.arguments.now c.loop-place.place c.loop-place.left (array_place c.args.arguments.now c.args.store) c.loop-place.invariant c.loop-place-test.false c.loop-place.auto.place-end
