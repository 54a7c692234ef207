-- Breaches of parts put together, and the one that is answered.
use Rattle.std.specs.Prelude.{◌≡◌, ◌⊎◌, Bool, false, List, [], ◌∷◌, Option, Some, None}
use Rattle.isp_lex.specs.declared.fault.Fault.{Fault}
use Rattle.isp_typed.specs.Order.{NoLater}

-- a test that has to hold, and the breach where it does not
abbrev pub Unmet : Bool → Fault → Fault → Type 0
Unmet test e f = (test ≡ false) × (f ≡ e)

-- of what may be left out
abbrev pub OfAny : {A : Type 0} → (A → Fault → Type 0) → Option A → Fault → Type 0
OfAny B None f = ⊥
OfAny B (Some a) f = B a f

-- of one of several
abbrev pub OfEach : {A : Type 0} → (A → Fault → Type 0) → List A → Fault → Type 0
OfEach B [] f = ⊥
OfEach B (a ∷ rest) f = B a f ⊎ OfEach B rest f

-- what is answered of the breaches B: nothing where there is none, else one of which none comes before
abbrev pub LeastBy : Option Fault → (Fault → Type 0) → Type 0
LeastBy None B = (f : Fault) → B f → ⊥
LeastBy (Some e) B = B e × ((f : Fault) → B f → NoLater e f)

pub record Least (o : Option Fault) (B : Fault → Type 0) : Type 0 where
  pub by : LeastBy o B
