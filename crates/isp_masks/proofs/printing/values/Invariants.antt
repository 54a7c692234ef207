-- Whatever comes after the values that are left comes after all of them; what they ask for is there; and their rates and
-- registers stand after those of the values before.
use Rattle.std.proofs.Common.{◌≡◌, ◌++◌, drop}
use Rattle.isp_typed.specs.Views.{exprs_of}
use Rattle.isp_lower.specs.Emitted.{Appends, Present, layout}
use Rattle.isp_lower.specs.declared.types.Body.{Body}
use Rattle.isp_masks.specs.Printed.{rates_of, registers_of}
use Rattle.isp_masks_code.specs.Prints.{own_rates}
use Rattle.isp_masks_code.proofs.Lemmas.{asked}
use Rattle.isp_masks.proofs.Telling.{code_of, places_of, registers}
use Rattle.isp_masks.proofs.printing.values.Given as goal

abbrev pub invariant-loop-x : goal.invariant-loop-x
invariant-loop-x l =
    ((h : Body) → Appends l.b h (code_of (layout l.on) (drop l.x-index l.all) l.site.mask.number l.slot.number)
    (places_of (layout l.on) (drop l.x-index l.all))
    → Appends l.initial.b h (code_of (layout l.on) l.all l.site.mask.number l.site.slot.number) (places_of (layout l.on) l.all))
    × Present l.on (asked (drop l.x-index l.all) l.slot.number)
    × (rates_of l.shown.items ++ own_rates (exprs_of (drop l.x-index l.all)) ≡ own_rates (exprs_of l.all))
    × (registers_of l.shown.items ++ registers (layout l.on) (drop l.x-index l.all) l.slot.number ≡ registers (layout l.on) l.all l.site.slot.number)
