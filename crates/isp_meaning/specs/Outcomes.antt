-- What expressions and statements come to over a set of instances that is not empty, and how one goes on from another.
use Rattle.std.specs.Prelude.{ℕ, Option, Some, None, Bool, true, false}
use Rattle.isp_base.specs.Sets.{Mask, nobody, union, any}
use Rattle.isp_base.specs.Traps.{trap}
use Rattle.isp_base.specs.declared.types.Span.{Span}
use Rattle.isp_base.specs.declared.trap.Trap.{Trap}
use Rattle.isp_base.specs.declared.trap.TrapKind.{TrapKind}
use Rattle.isp_meaning.specs.Payloads.{Payload, nothing}
use Rattle.isp_meaning.specs.State.{State}

-- an expression gives a value, traps, or is cut short, each with the state reached
pub data Val (A : Type 0) : Type 0 where
  Gives : (x : A) (s : State) → Val A
  Fails : (trap : Trap) (s : State) → Val A
  Stops : (s : State) → Val A

-- a statement: the members that went on, broke, continued, returned; or a trap, or a cut
pub data Res : Type 0 where
  Went : (s : State) (went broke continued returned : Mask) → Res
  Trapped : (trap : Trap) (s : State) → Res
  Cut : (s : State) → Res

-- what all of the set did, and went on
abbrev pub Done : Type 0
Done = Unit {0}

-- ---- going on with a value

abbrev pub bind : {A B : Type 0} → Val A → (A → State → Val B) → Val B
bind (Gives x s) go = go x s
bind (Fails t s) go = Fails t s
bind (Stops s) go = Stops s

abbrev pub with_value : {A : Type 0} → Val A → (A → State → Res) → Res
with_value (Gives x s) go = go x s
with_value (Fails t s) go = Trapped t s
with_value (Stops s) go = Cut s

-- a value, or a trap where there is an offender
abbrev pub checked : {A : Type 0} → Option ℕ → TrapKind → Span → State → A → Val A
checked None kind place s x = Gives x s
checked (Some p) kind place s x = Fails (trap kind place p) s

-- ---- going on from where a statement went

abbrev pub go_on : Res → (State → Mask → Mask → Mask → Mask → Res) → Res
go_on (Went s g b c r) go = go s g b c r
go_on (Trapped t s) go = Trapped t s
go_on (Cut s) go = Cut s

-- all of the set went on
abbrev pub went_all : Mask → State → Res
went_all a s = Went s a nobody nobody nobody

-- one after the other: the second over those that went on from the first
abbrev pub then_run : Res → (Mask → State → Res) → Res
then_run first second =
    go_on first (λ s g b c r. go_on (second g s) (λ s' g' b' c' r'. Went s' g' (union b b') (union c c') (union r r')))

-- both sides of a choice
abbrev pub both_sides : Res → (State → Res) → Res
both_sides first second =
    go_on first (λ s g b c r. go_on (second s) (λ s' g' b' c' r'. Went s' (union g g') (union b b') (union c c') (union r r')))

-- ---- sets that may be empty: nothing happens for no instance

abbrev pub if_so : {A : Type 0} → Bool → (State → A) → (State → A) → State → A
if_so true does other s = does s
if_so false does other s = other s

module _ (gang : ℕ) where
  abbrev pub unless_empty : Mask → State → (Mask → State → Res) → Res
  unless_empty a s does = if_so (any gang a) (does a) (went_all a) s

  abbrev pub value_unless_empty : Mask → State → (Mask → State → Val Payload) → Val Payload
  value_unless_empty a s gives = if_so (any gang a) (gives a) (Gives nothing) s
