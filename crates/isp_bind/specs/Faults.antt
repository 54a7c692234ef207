-- How a refusal is shown.
use Rattle.std.specs.Prelude.{ℕ, List, codes}
use Rattle.isp_bind.specs.declared.fault.BindFault.{BindFault}
use Rattle.isp_bind.specs.declared.fault.BindFault.TheVariants.{Memory, NotJson, NotObject, Missing, Extra, WrongKind, OutOfRange, TooLong}

abbrev pub fault_text : BindFault → List ℕ
fault_text Memory = codes "memory"
fault_text NotJson = codes "70 NotJson"
fault_text NotObject = codes "71 NotObject"
fault_text Missing = codes "72 Missing"
fault_text Extra = codes "73 Extra"
fault_text WrongKind = codes "74 WrongKind"
fault_text OutOfRange = codes "75 OutOfRange"
fault_text TooLong = codes "76 TooLong"
