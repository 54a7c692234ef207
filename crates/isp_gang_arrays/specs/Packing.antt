-- The elements of packed calls: of the members of a set, those that are among the first n.
use Rattle.std.specs.Prelude.{ℕ, ℤ, unsigned_abs, Option, Some, None, if◌then◌else◌}
use Rattle.isp_base.specs.Access.{is_beyond}
use Rattle.isp_base.specs.Cross.{packed_index}
use Rattle.isp_base.specs.Maps.{Map}
use Rattle.isp_base.specs.Sets.{Mask}

abbrev pub place_at : ℕ → ℤ → Option ℕ
place_at n i = if is_beyond n i then None else Some (unsigned_abs i)

abbrev pub places_at : ℕ → ℤ → Mask → Map
places_at n z a p = if a p then place_at n (packed_index z a p) else None
