use Rattle.std.proofs.Common.{subst}
use Rattle.isp_lower_code.specs.Header.{IsSmall}
use Rattle.isp_lower.proofs.Headers.{small_at}
use Rattle.isp_lower.proofs.header.locals.Goals as goal

pub local_of-requires : goal.local_of-requires
local_of-requires c = subst IsSmall c.in-Local.is (small_at c.args.variables.now c.loop-variable.variable-index _ c.requires c.loop-variable-test.true)
