use Rattle.std.proofs.Common.{take, string_bytes}
use Rattle.isp_check_command.specs.Pages.{FaultMessage, PageOf}
use Rattle.isp_check_command.proofs.page.fault_page.Given as goal

abbrev pub invariant-loop-fault : goal.invariant-loop-fault
invariant-loop-fault l = PageOf (FaultMessage l.request l.text) (take l.fault-index l.faults) (string_bytes l.page)
