-- What expressions and statements come to in one instance, and how one goes on from another.
use Rattle.std.specs.Prelude.{Bool, true, false, ℕ}
use Rattle.isp_base.specs.Traps.{trap}
use Rattle.isp_base.specs.declared.trap.Trap.{Trap}
use Rattle.isp_base.specs.declared.trap.TrapKind.{TrapKind}
use Rattle.isp_base.specs.declared.types.Span.{Span}
use Rattle.isp_solo_meaning.specs.Alone.{Alone}

-- an expression has a value, traps, or takes longer than it may, each with the state reached
pub data Answer (A : Type 0) : Type 0 where
  Has : (x : A) (s : Alone) → Answer A
  Bad : (trap : Trap) (s : Alone) → Answer A
  Long : (s : Alone) → Answer A

-- how a statement is left
pub data How : Type 0 where
  Going : How
  Broke : How
  Continued : How
  Returned : How

-- a statement is left, traps, or takes longer than it may
pub data End : Type 0 where
  Does : (s : Alone) (how : How) → End
  Dies : (trap : Trap) (s : Alone) → End
  Lasts : (s : Alone) → End

-- the state that was reached
abbrev pub reached : {A : Type 0} → Answer A → Alone
reached (Has x s) = s
reached (Bad t s) = s
reached (Long s) = s

-- what is done for its effect alone
abbrev pub Done : Type 0
Done = Unit {0}

-- ---- going on

abbrev pub and_then : {A B : Type 0} → Answer A → (A → Alone → Answer B) → Answer B
and_then (Has x s) go = go x s
and_then (Bad t s) go = Bad t s
and_then (Long s) go = Long s

abbrev pub with_answer : {A : Type 0} → Answer A → (A → Alone → End) → End
with_answer (Has x s) go = go x s
with_answer (Bad t s) go = Dies t s
with_answer (Long s) go = Lasts s

-- a value, or a trap of instance p
abbrev pub unless : {A : Type 0} → Bool → TrapKind → Span → ℕ → Alone → A → Answer A
unless true kind place p s x = Bad (trap kind place p) s
unless false kind place p s x = Has x s

-- one of two by a test; only the chosen one is computed
abbrev pub choose : {A : Type 0} → Bool → (Alone → A) → (Alone → A) → Alone → A
choose true does other s = does s
choose false does other s = other s

-- the next statement, where the one before went on
abbrev pub then_on : End → (Alone → End) → End
then_on (Does s Going) next = next s
then_on (Does s how) next = Does s how
then_on (Dies t s) next = Dies t s
then_on (Lasts s) next = Lasts s

-- the next, however the one before was left
abbrev pub then_always : End → (Alone → End) → End
then_always (Does s how) next = next s
then_always (Dies t s) next = Dies t s
then_always (Lasts s) next = Lasts s
