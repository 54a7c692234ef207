-- A text is at most one program, and no program is refused.
use Rattle.std.specs.Prelude.{◌≡◌, ℕ, List}
use Rattle.isp_base.specs.declared.types.Gang.{Gang}
use Rattle.isp_lex.specs.declared.fault.Fault.{Fault}
use Rattle.isp_typed.specs.Typed.{Program}
use Rattle.isp_front.specs.Front.{IsFaulty, IsSource}

abbrev pub OneProgram : Type 0
OneProgram = (gang : Gang) (text : List ℕ) (p q : Program) → IsSource gang text p → IsSource gang text q → p ≡ q

abbrev pub NoneRefused : Type 0
NoneRefused = (gang : Gang) (text : List ℕ) (program : Program) (f : Fault) → IsSource gang text program → IsFaulty gang text f → ⊥
