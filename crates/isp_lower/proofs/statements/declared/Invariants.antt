use Rattle.std.proofs.Common.{drop}
use Rattle.isp_typed.specs.Views.{items_of}
use Rattle.isp_lower_code.specs.Asks.{items_asks}
use Rattle.isp_lower.specs.Emitted.{Appends, Present, layout}
use Rattle.isp_lower_code.specs.Items.{items_code, items_places}
use Rattle.isp_lower.specs.declared.types.Body.{Body}
use Rattle.isp_lower.proofs.statements.declared.Given as goal

-- whatever comes after the items that are left comes after all of them; and what they ask for is there
abbrev pub invariant-loop-x : goal.invariant-loop-x
invariant-loop-x l =
    ((c : Body) → Appends l.b c (λ pc p. items_code (layout l.on) (items_of (drop l.x-index l.items)) pc p l.site.mask.number l.site.slot.number)
    (items_places (layout l.on) (items_of (drop l.x-index l.items)))
    → Appends l.initial.b c (λ pc p. items_code (layout l.on) (items_of l.items) pc p l.site.mask.number l.site.slot.number)
    (items_places (layout l.on) (items_of l.items)))
    × Present l.on (items_asks l.site.slot.number (items_of (drop l.x-index l.items)))
