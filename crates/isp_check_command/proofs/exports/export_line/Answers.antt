use Rattle.isp_check_command.proofs.Pages.{if_ok}
use Rattle.isp_check_command.proofs.exports.export_line.Goals as goal

pub returns : goal.returns
returns c =
    let says = rw (c.source_of-source.ensures.name, c.source_of-source.ensures.text, c.as_str-name.ensures) at c.in_ok-message.ensures in
    let is = rw c.as_str-name.ensures at c.verdict-breach.ensures in
    if_ok c.noted.result c.noted.ensures (λ s h. (c.verdict-breach.result, is, (c.in_ok-message.message, says, h)))
