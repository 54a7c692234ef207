use Rattle.std.proofs.Common.{map}
use Rattle.isp_solo_run.specs.Seen.{passed_seen}
use Rattle.isp_solo_run.proofs.Begun.{Opening}
use Rattle.isp_solo_run.proofs.entering.stores.Given as goal

abbrev pub invariant-loop-place : goal.invariant-loop-place
invariant-loop-place l = Opening l.variables (map passed_seen l.passed) l.initial.sizes.items l.sizes.items l.named.items l.place
