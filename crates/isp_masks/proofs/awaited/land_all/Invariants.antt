use Rattle.std.proofs.Common.{◌≡◌, drop, length}
use Rattle.isp_lower_code.specs.Instructions.{jump_off}
use Rattle.isp_masks.specs.Awaited.{set_all}
use Rattle.isp_masks.proofs.awaited.land_all.Given as goal

abbrev pub invariant-loop-at : goal.invariant-loop-at
invariant-loop-at l =
    (set_all l.b.code.items (drop l.at-index l.jumps) (jump_off l.k.number (length l.initial.b.code.items)) ≡ set_all l.initial.b.code.items l.jumps (jump_off l.k.number (length l.initial.b.code.items)))
    × (length l.b.code.items ≡ length l.initial.b.code.items)
    × (l.b.places ≡ l.initial.b.places)
    × (l.b.texts ≡ l.initial.b.texts)
