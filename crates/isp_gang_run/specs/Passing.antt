-- What is done with several values, what is handed to a call, and what begins with a first element.
use Rattle.std.specs.Prelude.{ℕ, ℤ, List, Some}
use Rattle.isp_base.specs.Sets.{Mask}
use Rattle.isp_base.specs.Types.{gang_width}
use Rattle.isp_base.specs.declared.types.Span.{Span}
use Rattle.isp_typed.specs.Typed.{TExpr, TArgument, TBase, TCall, TFunction}
use Rattle.isp_typed.specs.Views.{program_of}
use Rattle.isp_typed.specs.declared.variable.ArrayVariable.{ArrayVariable}
use Rattle.isp_meaning.specs.Calls.{called, calls_at}
use Rattle.isp_meaning.specs.Expressions.{Passed, base_array, first_element}
use Rattle.isp_meaning.specs.Outcomes.{bind}
use Rattle.isp_meaning.specs.Payloads.{Payload}
use Rattle.isp_gang_run.specs.Tasks.{Store, Goes, given, gather, gathered, hand, pack, calls_in}
use Rattle.isp_gang_run.specs.declared.state.Evaluator.{Evaluator}
use Rattle.isp_gang_run.specs.declared.tasks.Gathering.{Gathering}
use Rattle.isp_gang_run.specs.declared.tasks.Packing.{Packing}

-- the values that are left, and then what is done with all; and that, once all were found
abbrev pub gathers : Evaluator → Gathering → List TExpr → List Payload → Mask → Store → Goes
gathers e = gather (program_of e.program.now) e.turns

abbrev pub gathers_all : Evaluator → Gathering → Mask → List Payload → Store → Goes
gathers_all e g a ms r = gathered (program_of e.program.now) e.turns g a ms r r.state

-- the arguments that are left, and then the call
abbrev pub hands : Evaluator → TCall → List TArgument → List Passed → Mask → Store → Goes
hands e = hand (program_of e.program.now) e.turns

-- a call by the function's number, with what is handed over; and the function itself, with one level less
abbrev pub goes_in : Evaluator → ℕ → Span → Mask → List Passed → Store → Goes
goes_in e f span a ps r = given r (calls_in (program_of e.program.now) e.turns r f span a ps r.frame r.state)

abbrev pub does_call : Evaluator → ℕ → TFunction → Mask → List Passed → Store → Goes
does_call e left f a ps r =
    given r (called (program_of e.program.now) e.turns (calls_at (program_of e.program.now) e.turns left) (Some f) a ps r.frame r.state)

-- a packed call
abbrev pub packs : Evaluator → Packing → TBase → Span → Mask → Store → Goes
packs e p b span a r =
    given r (bind (first_element (gang_width e.program.now.gang) r.frame (calls_in (program_of e.program.now) e.turns r) b a r.state)
    (λ z s. pack (program_of e.program.now) e.turns p (base_array b) z span a r.frame r.left s))

abbrev pub packs_from : Evaluator → Packing → ArrayVariable → ℤ → Span → Mask → Store → Goes
packs_from e p b z span a r = given r (pack (program_of e.program.now) e.turns p b z span a r.frame r.left r.state)
