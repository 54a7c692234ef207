use Rattle.std.proofs.Common.{inl, inr, sym}
use Rattle.isp_output.proofs.Written.{adds_nil}
use Rattle.isp_check_command.proofs.Lists.{is_empty, not_empty}
use Rattle.isp_check_command.proofs.command.tell_some.Goals as goal

pub returns : goal.returns
returns g c = inr (not_empty c.args.page.now c.is_empty.result c.is_empty.ensures c.if-is_empty.false, c.write_text.ensures)

pub returns-then-is_empty : goal.returns-then-is_empty
returns-then-is_empty g c = inl (is_empty c.args.page.now c.is_empty.result c.is_empty.ensures c.if-is_empty.true, (sym (adds_nil _), c.requires))
