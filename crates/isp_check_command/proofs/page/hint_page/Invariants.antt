use Rattle.std.proofs.Common.{take, string_bytes}
use Rattle.isp_check_command.specs.Pages.{HintMessage, PageOf}
use Rattle.isp_check_command.proofs.page.hint_page.Given as goal

abbrev pub invariant-loop-hint : goal.invariant-loop-hint
invariant-loop-hint l = PageOf (HintMessage l.request l.text) (take l.hint-index l.hints) (string_bytes l.page)
