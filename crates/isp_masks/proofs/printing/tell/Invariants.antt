-- The rest is no longer than the text, and whoever writes what stands after the word that was said last has written all.
use Rattle.std.proofs.Common.{◌≡◌, ◌≤◌, drop, length}
use Rattle.isp_lower.specs.declared.types.Body.{Body}
use Rattle.isp_masks.specs.Printed.{first_word, told_at}
use Rattle.isp_masks_code.specs.Prints.{parts}
use Rattle.isp_masks.specs.Written.{Writes}
use Rattle.isp_masks.proofs.printing.tell.Given as goal

abbrev pub invariant-loop-end : goal.invariant-loop-end
invariant-loop-end l =
    (l.end ≡ length (first_word l.rest))
    × (length l.rest ≤ length l.text)
    × ((h : Body) → Writes l.b h (told_at (parts (drop l.end l.rest)) l.left l.k.number) → Writes l.fn.b h (told_at (parts l.text) l.shown l.k.number))

abbrev pub decreases-loop-end : goal.decreases-loop-end
decreases-loop-end l = length l.rest
