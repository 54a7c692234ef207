use Rattle.std.proofs.Common.{◌≡◌, drop, map}
use Rattle.isp_typed.specs.Views.{items_of}
use Rattle.isp_alike.specs.Bare.{bare_item}
use Rattle.isp_alike.proofs.simple.same_items.Given as goal

abbrev pub invariant-loop-x : goal.invariant-loop-x
invariant-loop-x l = map bare_item (items_of (drop l.x-index l.xs)) ≡ map bare_item (items_of l.rest) → map bare_item (items_of l.xs) ≡ map bare_item (items_of l.ys)
