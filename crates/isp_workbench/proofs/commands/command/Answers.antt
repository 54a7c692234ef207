use Rattle.std.proofs.Common.{inl}
use Rattle.isp_workbench.proofs.commands.command.Goals as goal

pub returns-in-Err : goal.returns-in-Err
returns-in-Err g c = inl (_, c.refuse.ensures)
