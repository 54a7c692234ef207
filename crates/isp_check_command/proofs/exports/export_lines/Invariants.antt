use Rattle.std.proofs.Common.{take, string_bytes}
use Rattle.isp_check_command.specs.Pages.{ExportMessage, PageOf}
use Rattle.isp_typed.specs.Views.{program_of}
use Rattle.isp_check_command.proofs.Pages.{OfFunction}
use Rattle.isp_check_command.proofs.exports.export_lines.Given as goal

abbrev pub invariant-loop-function : goal.invariant-loop-function
invariant-loop-function l = PageOf (OfFunction (ExportMessage l.request l.text (program_of l.checked))) (take l.function-index l.function-items) (string_bytes l.page)
