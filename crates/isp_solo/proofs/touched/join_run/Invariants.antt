use Rattle.std.proofs.Common.{◌≡◌, length}
use Rattle.isp_solo.proofs.Joining.{Joined}
use Rattle.isp_solo.proofs.touched.join_run.Given as goal

abbrev pub invariant-loop-store : goal.invariant-loop-store
invariant-loop-store l =
    record {
      joined : Joined l.instance l.arrays.stores.items l.initial.touched.items l.touched.items l.store;
      long : length l.touched.items ≡ length l.initial.touched.items;
    }
