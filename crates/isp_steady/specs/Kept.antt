-- What is known of variables stays so under code that sets none of them, and under fewer members. In an `unmasked` other instances
-- take part, and of those nothing is known.
use Rattle.std.specs.Prelude.{◌≡◌, ℕ, List, Bool, true, false}
use Rattle.isp_base.specs.Sets.{Mask}
use Rattle.isp_typed.specs.Typed.{TStmt, TStmts}
use Rattle.isp_typed.specs.declared.variable.Variable.{Variable}
use Rattle.isp_meaning.specs.State.{State}
use Rattle.isp_meaning.specs.Outcomes.{Res, Went, Trapped, Cut}
use Rattle.isp_steady.specs.Known.{Known, is_known, IsPart, AreAsKnown}
use Rattle.isp_steady.specs.Code.{Where, run_of, run_list}
use Rattle.isp_steady.specs.Assigns.{assigns, all_assign}

-- no known variable is among these
abbrev pub AreUnset : (ℕ → Known) → (ℕ → Bool) → Type 0
AreUnset known sets = (v : ℕ) → is_known (known v) ≡ true → sets v ≡ false

abbrev pub KnownBy : (State → Type 0) → Res → Type 0
KnownBy P (Went s1 g b c r) = P s1
KnownBy P (Trapped t s1) = Unit {0}
KnownBy P (Cut s1) = Unit {0}

-- Code runs over any set, of those members or of others.
pub record StaysKnown : Type 0 where
  pub statement : (w : Where) (vars : List Variable) (known : ℕ → Known) (scalars : ℕ → ℕ) (x : TStmt) (a b : Mask) (s : State)
      → AreUnset known (assigns x) → AreAsKnown vars known scalars a s → KnownBy (AreAsKnown vars known scalars a) (run_of w x b s)
  pub statements : (w : Where) (vars : List Variable) (known : ℕ → Known) (scalars : ℕ → ℕ) (xs : TStmts) (a b : Mask) (s : State)
      → AreUnset known (all_assign xs) → AreAsKnown vars known scalars a s → KnownBy (AreAsKnown vars known scalars a) (run_list w xs b s)
  -- and of each part of the members
  pub part : (vars : List Variable) (known : ℕ → Known) (scalars : ℕ → ℕ) (a b : Mask) (s : State)
      → IsPart b a → AreAsKnown vars known scalars a s → AreAsKnown vars known scalars b s
