use Rattle.isp_check_command.proofs.Pages.{if_ok}
use Rattle.isp_check_command.proofs.page.hint_piece.Goals as goal

pub returns : goal.returns
returns c =
    let says = rw (c.source_of.ensures.name, c.source_of.ensures.text) at c.in_ok-message.ensures in
    if_ok c.shown.result c.shown.ensures (λ s h. (c.in_ok-message.message, says, h))
