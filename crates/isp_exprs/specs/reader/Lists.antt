-- What further functions of the code give. No part of the promise.
use Rattle.std.specs.Prelude.{List, [], ◌∷◌, ◌++◌, Option, Some, None, Result, Ok, Err}
use Rattle.isp_lex.specs.declared.fault.Fault.{Fault}

-- one more after the others
abbrev pub and_one : {A : Type 0} → List A × A → List A
and_one p = p.0 ++ p.1 ∷ []

-- the fault of a verdict, if it has one
abbrev pub fault_of : {A : Type 0} → Result A Fault → Option Fault
fault_of (Ok a) = None
fault_of (Err f) = Some f
