-- Whatever comes after the constants that are left comes after all of them; these are kept, and what they ask for is there.
use Rattle.std.proofs.Common.{◌≡◌, [], drop, true}
use Rattle.isp_lower.specs.Emitted.{Appends, Present, layout}
use Rattle.isp_lower.specs.declared.types.Body.{Body}
use Rattle.isp_masks_code.specs.Keeping.{Each, constants_asks, keep_code}
use Rattle.isp_masks.proofs.keeping.each.Given as goal

abbrev pub invariant-loop-x : goal.invariant-loop-x
invariant-loop-x l =
    ((h : Body) → Appends l.b h (λ pc p. keep_code (layout l.on) l.slot.number (drop l.x-index l.all)) [] → Appends l.initial.b h (λ pc p. keep_code (layout l.on) l.slot.number l.all) [])
    × Each (λ x. (layout l.on).kept x.rate x.elem x.bits ≡ true) (drop l.x-index l.all)
    × Present l.on (constants_asks l.slot.number (drop l.x-index l.all))
