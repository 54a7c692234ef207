-- One note after another, as a search goes through them.
use Rattle.std.specs.Prelude.{ℕ, ◌&&◌, Bool, true, not, nat_lt, Option, Some, None, if◌then◌else◌}
use Rattle.isp_base.specs.declared.types.Span.{Span}
use Rattle.isp_known.specs.declared.note.Note.{Note}
use Rattle.isp_known.specs.declared.note.Note.TheVariants.{Value, Declared, Used, Index, Loaded}
use Rattle.isp_known.specs.declared.place.Valued.{Valued}
use Rattle.isp_known.specs.Places.{width}

abbrev pub covers : ℕ → Span → Bool
covers at s = not (nat_lt at s.start) && nat_lt at s.end

abbrev pub is_narrower : Span → Option Valued → Bool
is_narrower s None = true
is_narrower s (Some v) = nat_lt (width s) (width v.span)

-- the narrower of a note and the best so far
abbrev pub next_best : ℕ → Note → Option Valued → Option Valued
next_best at (Value s t) best = if covers at s && is_narrower s best then Some (record { span = s; ty = t }) else best
next_best at (Declared k x) best = best
next_best at (Used k x) best = best
next_best at (Index k x) best = best
next_best at (Loaded k x) best = best
