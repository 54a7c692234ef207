use Rattle.std.proofs.Common.{◌≡◌, length}
use Rattle.isp_solo_run.proofs.Changed.{Fresh}
use Rattle.isp_solo_run.proofs.arrays.Arrays.begin.Given as goal

abbrev pub invariant-loop-store : goal.invariant-loop-store
invariant-loop-store l = record { fresh : Fresh l.self.stores.items l.store; long : length l.self.stores.items ≡ length l.initial.self.stores.items }
