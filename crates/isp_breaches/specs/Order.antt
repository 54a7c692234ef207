-- The order in which breaches are told: by where their spans end, then by their rules, then by where their spans start.
use Rattle.std.specs.Prelude.{◌≡◌, ◌<◌, ◌⊎◌}
use Rattle.isp_lex.specs.declared.fault.Fault.{Fault}
use Rattle.isp_lex.specs.Faults.{number_of}

-- f is told before g
pub record Before (f g : Fault) : Type 0 where
  pub order : (f.span.end < g.span.end) ⊎ ((f.span.end ≡ g.span.end) × ((number_of f.rule < number_of g.rule) ⊎ ((number_of f.rule ≡ number_of g.rule) × (f.span.start < g.span.start))))
