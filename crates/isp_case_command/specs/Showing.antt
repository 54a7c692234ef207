-- What is shown of cases that were tried: a line for each that does not hold at a gang, and one that counts them.
--     NAME, gang 8: blurred[3]: 7, wanted 8
--     case 3, gang 8: trap index
--     5 cases at 4 gangs, 2 differ
use Rattle.std.specs.Prelude.{ℕ, ◌+◌, ◌==◌, List, [], ◌∷◌, ◌++◌, flat_map, codes, decimal, String, string_bytes, Option, Some, None, Result, Ok, Err, ⊤, if◌then◌else◌}
use Rattle.std.specs.declared.alloc.Global.{Global}
use Rattle.isp_base.specs.Types.{gang_width}
use Rattle.isp_base.specs.declared.types.Gang.{Gang}
use Rattle.isp_case_files.specs.declared.case.Case.{Case}
use Rattle.isp_case_files.specs.declared.case.Verdict.{Verdict}
use Rattle.isp_case_files.specs.declared.case.Verdict.TheVariants as verdict
use Rattle.isp_case_command.specs.declared.stop.TestStop.{TestStop}
use Rattle.isp_case_command.specs.declared.stop.TestStop.TheVariants.{Differs}
use Rattle.isp_case_command.specs.declared.tried.Tried.{Tried}

-- ---- lines

abbrev pub number_text : ℕ → List ℕ
number_text n = decimal n

abbrev pub title_from : ℕ → Option (String Global) → List ℕ
title_from n None = codes "case " ++ number_text n
title_from n (Some name) = string_bytes name

-- the name of a case, or its number
abbrev pub title_of : Case → List ℕ
title_of c = title_from c.number c.name

abbrev pub line_of : Gang → Case → List ℕ → List ℕ
line_of gang c what = title_of c ++ codes ", gang " ++ number_text (gang_width gang) ++ codes ": " ++ what ++ codes "\n"

abbrev pub lines_for : Gang → Case → Verdict → List ℕ
lines_for gang c verdict.Holds = []
lines_for gang c (verdict.Differs what) = line_of gang c (string_bytes what)

abbrev pub lines_of : Tried → List ℕ
lines_of t = lines_for t.gang t.case.now t.verdict

-- ---- the last line

abbrev pub unit_of : Verdict → ℕ
unit_of verdict.Holds = 0
unit_of (verdict.Differs what) = 1

-- how many do not hold
abbrev pub differing : List Tried → ℕ
differing [] = 0
differing (t ∷ ts) = unit_of t.verdict + differing ts

abbrev pub ending : ℕ → List ℕ
ending n = if n == 1 then [] else codes "s"

abbrev pub counted : ℕ → List ℕ → List ℕ
counted n word = number_text n ++ word ++ ending n

abbrev pub summary : ℕ → ℕ → ℕ → List ℕ
summary cases gangs n = counted cases (codes " case") ++ codes " at " ++ counted gangs (codes " gang") ++ codes ", " ++ number_text n ++ codes " differ\n"

-- ---- all

abbrev pub page_of : ℕ → ℕ → List Tried → List ℕ
page_of cases gangs ts = flat_map lines_of ts ++ summary cases gangs (differing ts)

-- well only where none differs
abbrev pub end_of : ℕ → Result ⊤ TestStop
end_of n = if n == 0 then Ok tt else Err Differs
