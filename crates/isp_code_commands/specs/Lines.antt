-- The places of code by the lines of its source in which they begin.
use Rattle.std.specs.Prelude.{◌≡◌, ℕ, ◌-◌, List, length, map}
use Rattle.isp_base.specs.declared.types.Span.{Span}
use Rattle.isp_places.specs.Lines.{line_of}
use Rattle.isp_traces.specs.declared.tallies.Grouping.{Grouping}

-- group k has the places of line k + 1, and there are as many groups as lines
pub record AreByLines (text : List ℕ) (places : List Span) (q : Grouping) : Type 0 where
  pub places_are : q.of_places.items ≡ map (λ p. line_of text p.start - 1) places
  pub count_is : q.count ≡ line_of text (length text)
