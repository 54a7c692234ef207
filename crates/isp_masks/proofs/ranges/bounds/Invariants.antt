-- Whatever comes after the bounds that are left comes after all of them; and what these ask for is there.
use Rattle.std.proofs.Common.{drop}
use Rattle.isp_typed.specs.Views.{ranges_of}
use Rattle.isp_lower.specs.Emitted.{Appends, Present, layout}
use Rattle.isp_lower.specs.declared.types.Body.{Body}
use Rattle.isp_masks_code.specs.Asks.{bounds_asks}
use Rattle.isp_masks_code.specs.Ranges.{bounds_code, ranges_places}
use Rattle.isp_masks.proofs.ranges.bounds.Given as goal

abbrev pub invariant-loop-x : goal.invariant-loop-x
invariant-loop-x l =
    let all = ranges_of l.all in
    let left = ranges_of (drop l.x-index l.all) in
    let h = layout l.on in
    let k = l.mask.number in
    ((c : Body) → Appends l.b c (λ pc p. bounds_code h left pc p k l.at.number) (ranges_places h left) → Appends l.initial.b c (λ pc p. bounds_code h all pc p k l.initial.at.number) (ranges_places h all))
    × Present l.on (bounds_asks left l.at.number)
