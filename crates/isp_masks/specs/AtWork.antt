-- Where a writer is at work: the masks and the slot that it is told, and the numbers of what the body so far would name next.
use Rattle.std.specs.Prelude.{ℕ, ◌+◌, length}
use Rattle.isp_lower.specs.Emitted.{texts_of}
use Rattle.isp_lower.specs.declared.types.Body.{Body}
use Rattle.isp_masks_code.specs.Spots.{Numbers, Spot}
use Rattle.isp_masks.specs.declared.masks.Spot as declared

abbrev pub spot_of : declared.Spot → Spot
spot_of x =
    record { on = x.masks.on.number; continued = x.masks.continued.number; returned = x.masks.returned.number; slot = x.slot.number }

-- the spot of the body of a loop whose masks are n, n + 1 and n + 2
abbrev pub own_spot : ℕ → declared.Spot
own_spot n =
    record { masks = record { on = record { number = n }; continued = record { number = n + 1 }; returned = record { number = n + 2 } }; slot = record { number = n + 3 } }

abbrev pub next_of : Body → Numbers
next_of b = record { place = length b.places.items; text = length (texts_of b) }
