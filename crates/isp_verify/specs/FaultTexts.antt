-- The numbers and names of the rules, and how faults are shown.
use Rattle.std.specs.Prelude.{ℕ, List, ◌++◌, codes}
use Rattle.std.specs.Fmt.{decimal}
use Rattle.isp_verify.specs.declared.fault.Fault.{Fault}
use Rattle.isp_verify.specs.declared.fault.Rule.{Rule}
use Rattle.isp_verify.specs.declared.fault.Rule.TheVariants.{BadRegister, BadKind, BadJump, BadCall, BadEntry, FallsOff}
use Rattle.isp_verify.specs.declared.fault.VerifyFault.{VerifyFault}
use Rattle.isp_verify.specs.declared.fault.VerifyFault.TheVariants.{Memory, Refused}

-- a rule's number
abbrev pub number_of : Rule → ℕ
number_of BadRegister = 40
number_of BadKind = 41
number_of BadJump = 42
number_of BadCall = 43
number_of BadEntry = 44
number_of FallsOff = 45

-- its name
abbrev pub name_of : Rule → List ℕ
name_of BadRegister = codes "BadRegister"
name_of BadKind = codes "BadKind"
name_of BadJump = codes "BadJump"
name_of BadCall = codes "BadCall"
name_of BadEntry = codes "BadEntry"
name_of FallsOff = codes "FallsOff"

-- how a rule is shown: `40 BadRegister`
abbrev pub rule_text : Rule → List ℕ
rule_text rule = decimal (number_of rule) ++ (codes " " ++ name_of rule)

-- and where it is broken: `42 BadJump in function 0, instruction 3`
abbrev pub fault_text : Fault → List ℕ
fault_text f = rule_text f.rule ++ codes " in function " ++ decimal f.function ++ codes ", instruction " ++ decimal f.instruction

abbrev pub refusal_text : VerifyFault → List ℕ
refusal_text Memory = codes "memory"
refusal_text (Refused f) = fault_text f
