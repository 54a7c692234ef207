use Rattle.std.proofs.Common.{◌≡◌, None, drop}
use Rattle.isp_known.specs.Placed.{loaded_at}
use Rattle.isp_known.proofs.placed.loaded_at.Given as goal

abbrev pub invariant-loop-token : goal.invariant-loop-token
invariant-loop-token l = loaded_at l.end l.before (drop l.token-index l.tokens) ≡ loaded_at l.end None l.tokens
