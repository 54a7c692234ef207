-- Where the code of a statement works, and the numbers of what it names: of both it is given what is free.
use Rattle.std.specs.Prelude.{ℕ, ◌+◌, List, length}
use Rattle.isp_base.specs.declared.types.Span.{Span}

-- ---- three masks and the first free slot

-- Mask on has the set, and afterwards those that went on; masks continued and returned grow by those that continued and by
-- those that returned. Who broke is in none.
pub record Spot : Type 0 where
  pub on : ℕ
  pub continued : ℕ
  pub returned : ℕ
  pub slot : ℕ

-- a part under mask k, one slot on
abbrev pub under : ℕ → Spot → Spot
under k spot = record spot { on = k; slot = spot.slot + 1 }

-- a part where two masks are kept
abbrev pub widely : ℕ → Spot → Spot
widely k spot = record spot { on = k; slot = spot.slot + 1 + 1 }

-- the body of a loop whose masks are n, n + 1 and n + 2
abbrev pub body_spot : ℕ → Spot
body_spot n = record { on = n; continued = n + 1; returned = n + 2; slot = n + 3 }

-- the body of a function: mask 0 has those that called
abbrev pub first_spot : Spot
first_spot = record { on = 0; continued = 1; returned = 2; slot = 3 }

-- ---- the next place in the source, and the next text

pub record Numbers : Type 0 where
  pub place : ℕ
  pub text : ℕ

-- after some places
abbrev pub past : List Span → Numbers → Numbers
past ps z = record z { place = z.place + length ps }
