use Rattle.isp_solo_run.specs.Arrays.{wrote_seen}
use Rattle.isp_solo.proofs.Leaving.{StoredTo}
use Rattle.isp_solo.proofs.left.store_in.Given as goal

abbrev pub invariant-loop-place : goal.invariant-loop-place
invariant-loop-place l = StoredTo l.initial.array l.array (wrote_seen l.run.stores.items l.store) l.place
