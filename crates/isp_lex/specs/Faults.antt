-- The numbers and names of the rules.
use Rattle.std.specs.Prelude.{ℕ, List, ◌++◌, codes}
use Rattle.std.specs.Fmt.{decimal}
use Rattle.isp_base.specs.declared.types.Span.{Span}
use Rattle.isp_lex.specs.declared.fault.Rule.{Rule}
use Rattle.isp_lex.specs.declared.fault.Rule.TheVariants.{BadByte, BadNumber, BadText, OpenComment, TooLong, Unexpected, TooDeep, LeftOut, UnknownName, NameTwice, Mismatch}
use Rattle.isp_lex.specs.declared.fault.Rule.TheVariants.{Arguments, ConstAssigned, BadPrint, VaryingToUniform, BadExit, NestedForeach, BadExport}
use Rattle.isp_lex.specs.declared.fault.Fault.{Fault}

-- a rule's number
abbrev pub number_of : Rule → ℕ
number_of BadByte = 1
number_of BadNumber = 2
number_of BadText = 3
number_of OpenComment = 4
number_of TooLong = 5
number_of Unexpected = 10
number_of TooDeep = 11
number_of LeftOut = 12
number_of UnknownName = 20
number_of NameTwice = 21
number_of Mismatch = 22
number_of Arguments = 23
number_of ConstAssigned = 24
number_of BadPrint = 25
number_of VaryingToUniform = 30
number_of BadExit = 31
number_of NestedForeach = 32
number_of BadExport = 33

-- its name
abbrev pub name_of : Rule → List ℕ
name_of BadByte = codes "BadByte"
name_of BadNumber = codes "BadNumber"
name_of BadText = codes "BadText"
name_of OpenComment = codes "OpenComment"
name_of TooLong = codes "TooLong"
name_of Unexpected = codes "Unexpected"
name_of TooDeep = codes "TooDeep"
name_of LeftOut = codes "LeftOut"
name_of UnknownName = codes "UnknownName"
name_of NameTwice = codes "NameTwice"
name_of Mismatch = codes "Mismatch"
name_of Arguments = codes "Arguments"
name_of ConstAssigned = codes "ConstAssigned"
name_of BadPrint = codes "BadPrint"
name_of VaryingToUniform = codes "VaryingToUniform"
name_of BadExit = codes "BadExit"
name_of NestedForeach = codes "NestedForeach"
name_of BadExport = codes "BadExport"

-- how a rule is shown: `1 BadByte`
abbrev pub rule_text : Rule → List ℕ
rule_text rule = decimal (number_of rule) ++ (codes " " ++ name_of rule)

-- a rule broken at a place
abbrev pub fault : Rule → Span → Fault
fault rule place = record { rule = rule; span = place }
