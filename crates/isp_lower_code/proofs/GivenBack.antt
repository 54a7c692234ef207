-- What a call gives: one value, or one in each member that called; and the caller's variables are as they were.
use Rattle.std.proofs.Common.{◌≡◌, ℕ, zero, suc, Option, Some, refl, sym, ap, subst}
use Rattle.std.specs.Prelude.{slice_get, List}
use Rattle.isp_base.specs.Sets.{Mask}
use Rattle.isp_base.specs.declared.types.Rate.{Rate}
use Rattle.isp_base.specs.declared.types.Rate.TheVariants.{Uniform, Varying}
use Rattle.isp_base.specs.declared.types.Span.{Span}
use Rattle.isp_base.specs.declared.types.Ty.{Ty}
use Rattle.isp_code.specs.Conf.{Conf}
use Rattle.isp_typed.specs.Typed.{Program, TFunction}
use Rattle.isp_meaning.specs.Calls.{answer_at, answer_of, resumed, ended, called, calls_at}
use Rattle.isp_meaning.specs.Expressions.{Passed}
use Rattle.isp_meaning.specs.Outcomes.{Val, Gives, Fails, Stops, Res, Went, Trapped, Cut}
use Rattle.isp_meaning.specs.Payloads.{Payload, Each}
use Rattle.isp_meaning.specs.State.{State, Frame}
use Rattle.isp_lower_code.specs.Calls.{given_back}
use Rattle.isp_lower_code.specs.Layout.{register}
use Rattle.isp_lower_code.specs.Held.{at_rate}
use Rattle.isp_lower_code.proofs.Lines.{set_at}
use Rattle.isp_lower_code.proofs.Rates.{Filled, filled_on}

pub record GivesBack (t : Option Ty) (caller : Frame) (a : Mask) (s : State) (m : Payload) (s1 : State) : Type 0 where
  pub last : State
  pub value : m ≡ answer_of t a last
  pub state : s1 ≡ resumed caller s last

abbrev pub GivesBackBy : Option Ty → Frame → Mask → State → Val Payload → Type 0
GivesBackBy t caller a s (Gives m s1) = GivesBack t caller a s m s1
GivesBackBy t caller a s (Fails p s1) = Unit {0}
GivesBackBy t caller a s (Stops s1) = Unit {0}

ended_gives : (t : Option Ty) (caller : Frame) (a : Mask) (s : State) (v : Res) → GivesBackBy t caller a s (ended t caller a s v)
ended_gives t caller a s (Went s1 g b c r) = record { last = s1; value = refl; state = refl }
ended_gives t caller a s (Trapped p s1) = tt
ended_gives t caller a s (Cut s1) = tt

pub call_gives : (program : Program) (most left f : ℕ) (sp : Span) (a : Mask) (ps : List Passed) (caller : Frame) (s : State) (g : TFunction)
    → slice_get program.functions f ≡ Some g → GivesBackBy g.answer caller a s (calls_at program most left f sp a ps caller s)
call_gives program most zero f sp a ps caller s g e = tt
call_gives program most (suc left) f sp a ps caller s g e =
    subst (λ o. GivesBackBy g.answer caller a s (called program most (calls_at program most left) o a ps caller s)) (sym e) (ended_gives g.answer caller a s _)

-- ---- as a register holds it

pub answer_held : (r : Rate) (a : Mask) (s : State) → at_rate r a (answer_at r a s) ≡ answer_at r a s
answer_held Uniform a s = refl
answer_held Varying a s = refl

pub answer_filled : (r : Rate) (a : Mask) (s : State) → Filled r a (answer_at r a s)
answer_filled Uniform a s = refl
answer_filled Varying a s = λ old. ap Each (filled_on a s.results old)

pub given_is : (r : Rate) (d : ℕ) (m : Payload) (c : Conf) → given_back (Some (register r d)) m c ≡ set_at r c d m
given_is Uniform d m c = refl
given_is Varying d m c = refl
