-- Functions as callers see them, without where they lie in memory.
use Rattle.std.specs.Prelude.{List, map}
use Rattle.isp_exprs.specs.declared.callee.Header.{Header}
use Rattle.isp_exprs.specs.Callees.{Heading}

abbrev pub heading_of : Header → Heading
heading_of h = record { name = h.name; answer = h.answer; wants = h.wants.items }

abbrev pub headings_of : List Header → List Heading
headings_of = map heading_of
