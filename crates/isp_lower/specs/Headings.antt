-- A heading, as lists.
use Rattle.isp_lower_code.specs.Header.{Heading}
use Rattle.isp_lower.specs.declared.header.Heading as rust

abbrev pub heading_in : rust.Heading → Heading
heading_in h =
    record { name = h.name; exported = h.exported; returns = h.returns; params = h.params.items; locals = h.locals.items }
