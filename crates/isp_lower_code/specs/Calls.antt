-- What a `call` instruction does, by what its call means: what is handed over stands in its registers, and what is given back
-- comes into one.
use Rattle.std.specs.Prelude.{◌≡◌, ◌≤◌, ◌<◌, ℕ, ◌+◌, ◌*◌, ◌^◌, List, [], ◌∷◌, Option, Some, None}
use Rattle.isp_base.specs.Sets.{Mask, nobody}
use Rattle.isp_base.specs.declared.types.Ty.{Ty}
use Rattle.isp_code.specs.Conf.{Conf}
use Rattle.isp_code.specs.Lines.{next, set_scalar, set_vector}
use Rattle.isp_code.specs.Listing.{Listing}
use Rattle.isp_code.specs.declared.instr.Call.{Call}
use Rattle.isp_code.specs.declared.register.Class.{Class}
use Rattle.isp_code.specs.declared.register.Class.TheVariants as class
use Rattle.isp_code.specs.declared.register.Register.{Register}
use Rattle.isp_typed.specs.declared.variable.Holds.{Holds as Held}
use Rattle.isp_typed.specs.declared.variable.Holds.TheVariants as holds
use Rattle.isp_typed.specs.declared.variable.Variable.{Variable}
use Rattle.isp_meaning.specs.Expressions.{Passed, Values, Store}
use Rattle.isp_meaning.specs.Outcomes.{Val, Gives, Fails, Stops}
use Rattle.isp_meaning.specs.Payloads.{Payload, sole, spread}
use Rattle.isp_meaning.specs.State.{State}
use Rattle.isp_lower_code.specs.Held.{Holds}
use Rattle.isp_lower_code.specs.Layout.{class_at}
use Rattle.isp_lower_code.specs.Steps.{ComesIn, FailedIn, StoppedIn}

-- ---- what is handed over: a value stands in a register of the parameter's rate, an array is an open store that is not too
-- large

abbrev pub IsHanded : Mask → Conf → Held → Passed → Register → Type 0
IsHanded a c (holds.Value t) (Values m) x = (x.class ≡ class_at t.rate) × Holds t.rate a x.number m c
IsHanded a c (holds.Given t) (Store b) x =
    (x.class ≡ class.Array) × (c.home.named x.number ≡ b) × (b < c.home.opened) × (c.home.sizes b ≤ 2 ^ 63)
IsHanded a c y z x = ⊥

-- to some parameters, in order
abbrev pub AreHanded : Mask → Conf → List Variable → List Passed → List Register → Type 0
AreHanded a c [] [] [] = Unit {0}
AreHanded a c (v ∷ vs) (z ∷ zs) (x ∷ xs) = IsHanded a c v.holds z x × AreHanded a c vs zs xs
AreHanded a c vs zs xs = ⊥

-- ---- what is given back

-- a register of its rate is there for it, where there is a value
abbrev pub Takes : Option Ty → Option Register → Type 0
Takes None None = Unit {0}
Takes (Some t) (Some d) = d.class ≡ class_at t.rate
Takes t d = ⊥

-- a scalar register has the value, a vector register has it in the members that called; control goes on
abbrev pub given_in : Class → Register → Payload → Conf → Conf
given_in class.Vector d m c = set_vector c d (spread nobody m)
given_in r d m c = set_scalar c d (sole m)

abbrev pub given_back : Option Register → Payload → Conf → Conf
given_back None m c = next c
given_back (Some d) m c = given_in d.class d m c

-- ---- the call: all else is the caller's, as it was

module _ (code : Listing) (turns : ℕ) where
  pub record CameBack (c : Conf) (k : Call) (q : ℕ) (m : Payload) (s : State) : Type 0 where
    pub steps : ℕ
    pub comes : ComesIn code c steps (given_back k.result m (record c { arrays = s.arrays; out = s.out }))
    pub bound : steps + q ≤ 32 * s.work

  abbrev pub CallRuns : Conf → Call → ℕ → Val Payload → Type 0
  CallRuns c k q (Gives m s) = CameBack c k q m s
  CallRuns c k q (Fails t s) = FailedIn code c q t s
  CallRuns c k q (Stops s) = StoppedIn code turns c q s
