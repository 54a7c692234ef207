-- Verdicts: what is found, or the fault that is answered, the earliest by its end.
use Rattle.std.specs.Prelude.{Bool, true, false, cond, ◌&&◌, ◌||◌, ◌==◌, nat_lt, Option, Some, None, Result, Ok, Err}
use Rattle.isp_lex.specs.declared.fault.Fault.{Fault}
use Rattle.isp_lex.specs.Faults.{number_of}

abbrev pub is_earlier : Fault → Fault → Bool
is_earlier g f = nat_lt g.span.end f.span.end || (g.span.end == f.span.end && nat_lt (number_of g.rule) (number_of f.rule))

abbrev pub earlier : Fault → Fault → Fault
earlier f g = cond (is_earlier g f) g f

abbrev pub first_of : Option Fault → Option Fault → Option Fault
first_of None o = o
first_of (Some f) None = Some f
first_of (Some f) (Some g) = Some (earlier f g)

abbrev pub both : {A B : Type 0} → Result A Fault → Result B Fault → Result (A × B) Fault
both (Ok a) (Ok b) = Ok (a, b)
both (Ok a) (Err g) = Err g
both (Err f) (Ok b) = Err f
both (Err f) (Err g) = Err (earlier f g)

abbrev pub made : {A B : Type 0} → (A → B) → Result A Fault → Result B Fault
made make (Ok a) = Ok (make a)
made make (Err e) = Err e

abbrev pub found : {A B : Type 0} → (A → Result B Fault) → Result A Fault → Result B Fault
found rule (Ok a) = rule a
found rule (Err e) = Err e

abbrev pub fault_unless : Bool → Fault → Option Fault
fault_unless true f = None
fault_unless false f = Some f

-- what is found, with a fault that stands beside it
abbrev pub beside : {A : Type 0} → Option Fault → Result A Fault → Result A Fault
beside None v = v
beside (Some e) (Ok a) = Err e
beside (Some e) (Err f) = Err (earlier e f)

-- what may be left out
abbrev pub perhaps : {A B : Type 0} → (A → Result B Fault) → Option A → Result (Option B) Fault
perhaps judge None = Ok None
perhaps judge (Some a) = made (λ b. Some b) (judge a)
