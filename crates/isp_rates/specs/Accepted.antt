-- What every program is that names, types, rates, exits and exports accept.
use Rattle.isp_lex.specs.declared.fault.Fault.{Fault}
use Rattle.isp_typed.specs.Fine.{IsFine}
use Rattle.isp_typed.specs.Scoped.{IsScoped}
use Rattle.isp_typed.specs.Typed.{Program}
use Rattle.isp_rates.specs.Program.{ProgramBreach}

pub record IsAccepted (p : Program) : Type 0 where
  pub fine : IsFine p
  pub scoped : IsScoped p
  pub sound : (f : Fault) → ProgramBreach p f → ⊥
