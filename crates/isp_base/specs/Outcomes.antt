-- How a run stands: it has ended, it has trapped, or it goes on. The output is what was written so far.
use Rattle.std.specs.Prelude.{ℕ, List, Option}
use Rattle.isp_base.specs.Rows.{Row}
use Rattle.isp_base.specs.declared.types.Value.{Value}
use Rattle.isp_base.specs.declared.trap.Trap.{Trap}

pub data Outcome : Type 0 where
  Ends : (arrays : List Row) (answer : Option Value) (out : List ℕ) → Outcome
  Traps : (trap : Trap) (arrays : List Row) (out : List ℕ) → Outcome
  GoesOn : (out : List ℕ) → Outcome

abbrev pub out_of : Outcome → List ℕ
out_of (Ends arrays answer out) = out
out_of (Traps trap arrays out) = out
out_of (GoesOn out) = out

-- it goes on no more
abbrev pub IsOver : Outcome → Type 0
IsOver (Ends arrays answer out) = Unit {0}
IsOver (Traps trap arrays out) = Unit {0}
IsOver (GoesOn out) = ⊥
