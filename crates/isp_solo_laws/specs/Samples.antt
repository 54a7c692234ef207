-- The law of expressions on `a[programIndex]`, where a has 0, 10, 20 and 30: its premises are met.
use Rattle.std.specs.Prelude.{◌≡◌, ℕ, ◌*◌, List, [], ◌∷◌, Option, Some, None, false, ◌&&◌, nat_eq}
use Rattle.isp_base.specs.Sets.{everyone}
use Rattle.isp_base.specs.declared.types.Elem.TheVariants.{I32}
use Rattle.isp_base.specs.declared.types.Rate.TheVariants.{Uniform, Varying}
use Rattle.isp_base.specs.declared.types.Span.{Span}
use Rattle.isp_typed.specs.Scoped.{Scope}
use Rattle.isp_typed.specs.Typed.{TExpr, t_program_index, t_place, t_element, ty_of}
use Rattle.isp_typed.specs.declared.variable.Holds.TheVariants.{Given}
use Rattle.isp_typed.specs.declared.variable.Variable.{Variable}
use Rattle.isp_meaning.specs.State.{State}
use Rattle.isp_meaning.specs.Outcomes.{Val, Gives, Fails, Stops}
use Rattle.isp_meaning.specs.Payloads.{Payload, spread}
use Rattle.isp_meaning.specs.Expressions.{Calls, value}
use Rattle.isp_solo_meaning.specs.Answers.{Has}
use Rattle.isp_solo_meaning.specs.Runs.{fresh}
use Rattle.isp_solo_meaning.specs.Values.{OwnCalls, answer}
use Rattle.isp_solo_laws.specs.Stands.{World, TouchNothing, EndsWithin, Stands, AreSome}
use Rattle.isp_solo_laws.specs.Values.{CallsAgree}
use Rattle.isp_solo_laws.specs.Asked.{OpenArrays, AskedOf}

abbrev a_span : Span
a_span = record { start = 0; end = 1 }

abbrev pub element : TExpr
element = t_place (t_element (record { number = 0; ty = ty_of Uniform I32; constant = false }) (t_program_index a_span) (ty_of Varying I32) a_span)

abbrev pub vars : List Variable
vars = record { holds = Given I32; constant = false } ∷ []

abbrev tens : ℕ → ℕ → ℕ
tens b e = e * 10

-- each instance reads its own element
abbrev pub world : World
world =
    record {
      gang = 4;
      begin = tens;
      last = λ p. record fresh { read = λ b e. nat_eq b 0 && nat_eq e p };
      frame = record { named = λ v. 0; sizes = λ b. 4; opened = 1; own_sizes = λ v. 0; answer = None };
      callers = everyone 4;
    }

abbrev pub start : State
start = record { uniforms = λ v. 0; varying = λ v p. 0; own = λ v e p. 0; result = 0; results = λ p. 0; arrays = tens; out = []; work = 0 }

-- nothing is called
abbrev pub no_call : ℕ → Type 0
no_call k = ⊥

abbrev pub calls : Calls
calls f place a xs caller s = Stops s

abbrev pub own : ℕ → OwnCalls
own p f place xs caller s = Has 0 s

abbrev pub known : Scope
known k = nat_eq k 0

-- what instance 2 has
abbrev pub in_two : Val Payload → Option ℕ
in_two (Gives m s) = spread (everyone 4) m 2
in_two (Fails t s) = None
in_two (Stops s) = None

pub record AgreementOfSamples : Type 0 where
  pub touch : TouchNothing 4 world.last
  pub calls_agree : CallsAgree world [] no_call calls own
  pub open_arrays : OpenArrays world.frame vars
  pub asked : AskedOf [] vars known no_call element
  pub some : AreSome 4 (everyone 4)
  pub stands : Stands world start (λ p. fresh)
  pub ends : EndsWithin (world.last 2) (answer tens 2 world.frame (own 2) element fresh)
  -- and instance 2 has 20 in the gang
  pub gives : in_two (value 4 world.frame calls element (everyone 4) start) ≡ Some 20
