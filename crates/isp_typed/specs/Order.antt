-- Which of two faults is answered: the one whose span ends first, a tie by the lower number.
use Rattle.std.specs.Prelude.{◌≡◌, ◌<◌, ◌≤◌, ◌⊎◌}
use Rattle.isp_lex.specs.declared.fault.Fault.{Fault}
use Rattle.isp_lex.specs.Faults.{number_of}

-- g is not answered before f
pub record NoLater (f g : Fault) : Type 0 where
  pub order : (f.span.end < g.span.end) ⊎ ((f.span.end ≡ g.span.end) × (number_of f.rule ≤ number_of g.rule))
