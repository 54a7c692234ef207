-- Uniform expressions: over a set of instances one gives one value for all of them.
use Rattle.std.specs.Prelude.{◌≡◌, ℕ, List, Some, true, slice_get}
use Rattle.isp_base.specs.Sets.{Mask, any}
use Rattle.isp_base.specs.Types.{gang_width}
use Rattle.isp_base.specs.declared.types.Rate.TheVariants.{Uniform}
use Rattle.isp_lex.specs.declared.fault.Fault.{Fault}
use Rattle.isp_typed.specs.Fine.{FineExpr}
use Rattle.isp_typed.specs.Typed.{Program, TExpr, TFunction, rate_of}
use Rattle.isp_typed.specs.declared.variable.Variable.{Variable}
use Rattle.isp_rates.specs.Accepted.{IsAccepted}
use Rattle.isp_rates.specs.Rates.{ExprBreach}
use Rattle.isp_meaning.specs.State.{State, Frame}
use Rattle.isp_meaning.specs.Payloads.{Payload, One, Each}
use Rattle.isp_meaning.specs.Outcomes.{Val, Gives, Fails, Stops}
use Rattle.isp_meaning.specs.Expressions.{value}
use Rattle.isp_meaning.specs.Calls.{calls_at}
use Rattle.isp_type_laws.specs.Through.{ThroughBlock}

-- one value for all
abbrev pub Sole : Payload → Type 0
Sole (One x) = Unit {0}
Sole (Each x) = ⊥

-- where there is a value
abbrev pub SoleBy : Val Payload → Type 0
SoleBy (Gives m s) = Sole m
SoleBy (Fails trap s) = Unit {0}
SoleBy (Stops s) = Unit {0}

-- an expression that names, types and rates accept, in a program of these functions and over these variables
pub record IsAcceptedExpr (fs : List TFunction) (vars : List Variable) (x : TExpr) : Type 0 where
  pub fine : FineExpr fs vars x
  pub sound : (f : Fault) → ExprBreach fs x f → ⊥

-- Each expression in the body of a function of an accepted program is accepted, and so is each part of it.
abbrev pub BodiesAccepted : Type 0
BodiesAccepted =
    (program : Program) (k : ℕ) (h : TFunction)
    → IsAccepted program
    → slice_get program.functions k ≡ Some h
    → ThroughBlock (IsAcceptedExpr program.functions h.variables) h.body

-- A uniform expression that is accepted gives one value, over any set with a member in the gang and in any state, whatever
-- functions it calls. Over a set without members `&&`, `||` and `?:` may give a value in no instance.
abbrev pub UniformGivesOne : Type 0
UniformGivesOne =
    (program : Program) (vars : List Variable) (most left : ℕ) (frame : Frame) (x : TExpr) (a : Mask) (s : State)
    → IsAcceptedExpr program.functions vars x
    → rate_of x ≡ Uniform
    → any (gang_width program.gang) a ≡ true
    → SoleBy (value (gang_width program.gang) frame (calls_at program most left) x a s)
