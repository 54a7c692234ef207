use Rattle.std.proofs.Common.{◌≡◌}
use Rattle.isp_solo_run.specs.Arrays.{wrote_seen}
use Rattle.isp_solo.proofs.Leaving.{first_over}
use Rattle.isp_solo.proofs.left.store_run.Given as goal

abbrev pub invariant-loop-store : goal.invariant-loop-store
invariant-loop-store l = l.arrays ≡ first_over l.store l.initial.arrays (wrote_seen l.run.stores.items)
