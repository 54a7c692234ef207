-- Dependences by the numbers of their rules, which of two is answered, and those of parts put together.
use Rattle.std.specs.Prelude.{◌≡◌, ℕ, ◌<◌, ◌≤◌, ◌⊎◌, Bool, false, List, [], ◌∷◌, Option, Some, None}
use Rattle.isp_base.specs.declared.types.Span.{Span}
use Rattle.isp_independence.specs.declared.dependence.Dependence.{Dependence}
use Rattle.isp_independence.specs.declared.dependence.Restriction.{Restriction}
use Rattle.isp_independence.specs.declared.dependence.Restriction.TheVariants.{Crossing, Printing, SharedArray, Outside, Turned, Foreach, Return}

abbrev pub at : Restriction → Span → Dependence
at r s = record { rule = r; span = s }

abbrev pub number_of : Restriction → ℕ
number_of Crossing = 1
number_of Printing = 2
number_of SharedArray = 3
number_of Outside = 4
number_of Turned = 5
number_of Foreach = 6
number_of Return = 7

-- e is not answered before d: the one that starts first is answered, a tie by the lower number
pub record NotAfter (d e : Dependence) : Type 0 where
  pub order : (d.span.start < e.span.start) ⊎ ((d.span.start ≡ e.span.start) × (number_of d.rule ≤ number_of e.rule))

-- a dependence of which none comes before
abbrev pub IsFirst : Dependence → (Dependence → Type 0) → Type 0
IsFirst d B = B d × ((e : Dependence) → B e → NotAfter d e)

-- a test that has to hold, and the breach where it does not
abbrev pub Unmet : Bool → Dependence → Dependence → Type 0
Unmet test e d = (test ≡ false) × (d ≡ e)

-- of what may be left out, and of one of several
abbrev pub OfAny : {A : Type 0} → (A → Dependence → Type 0) → Option A → Dependence → Type 0
OfAny B None d = ⊥
OfAny B (Some a) d = B a d

abbrev pub OfEach : {A : Type 0} → (A → Dependence → Type 0) → List A → Dependence → Type 0
OfEach B [] d = ⊥
OfEach B (a ∷ rest) d = B a d ⊎ OfEach B rest d

-- what is answered of the breaches B: nothing where there is none, else one of which none comes before
abbrev pub AnsweredBy : Option Dependence → (Dependence → Type 0) → Type 0
AnsweredBy None B = (d : Dependence) → B d → ⊥
AnsweredBy (Some d) B = IsFirst d B

pub record Answered (o : Option Dependence) (B : Dependence → Type 0) : Type 0 where
  pub by : AnsweredBy o B
