-- Why `ispx test` does not end well: the exit status of each reason.
use Rattle.std.specs.Prelude.{ℕ, Result, Ok, Err, ⊤}
use Rattle.isp_case_files.specs.declared.fault.CaseFault.{CaseFault}
use Rattle.isp_case_files.specs.declared.fault.CaseFault.TheVariants as fault
use Rattle.isp_case_command.specs.declared.stop.TestStop.{TestStop}
use Rattle.isp_case_command.specs.declared.stop.TestStop.TheVariants.{Differs, Source, NoList, NoSource, NoCases, NoOutput, Memory}

abbrev pub status_of : TestStop → ℕ
status_of Differs = 1
status_of (Source f) = 1
status_of (NoList f) = 5
status_of NoSource = 6
status_of NoCases = 6
status_of NoOutput = 6
status_of Memory = 7

abbrev pub end_status : Result ⊤ TestStop → ℕ
end_status (Ok u) = 0
end_status (Err s) = status_of s

-- a text that is no list of cases
abbrev pub case_stop : CaseFault → TestStop
case_stop fault.Memory = Memory
case_stop f = NoList f
