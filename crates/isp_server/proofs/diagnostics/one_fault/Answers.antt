use Rattle.std.proofs.Common.{rules}
use Rattle.isp_server.proofs.diagnostics.one_fault.Goals as goal

pub returns : goal.returns
returns c = (c.as_str.result.now, search rules)
