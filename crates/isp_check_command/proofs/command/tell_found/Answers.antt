use Rattle.std.proofs.Common.{inl, inr}
use Rattle.isp_check_command.proofs.Lists.{is_empty, not_empty}
use Rattle.isp_check_command.proofs.command.tell_found.Goals as goal

pub returns : goal.returns
returns g c = inr (not_empty c.args.found.now c.is_empty.result c.is_empty.ensures c.if-is_empty.false, c.tell_faults.ensures)

pub returns-then-is_empty : goal.returns-then-is_empty
returns-then-is_empty g c = inl (is_empty c.args.found.now c.is_empty.result c.is_empty.ensures c.if-is_empty.true, c.tell_notes.ensures)
