use Rattle.std.proofs.Common.{◌≡◌, length}
use Rattle.isp_solo_run.specs.Arrays.{wrote_seen, read_seen}
use Rattle.isp_solo_run.proofs.arrays.Arrays.reach.Given as goal

abbrev pub invariant-loop-next : goal.invariant-loop-next
invariant-loop-next l =
    record {
      wrote : wrote_seen l.self.stores.items ≡ wrote_seen l.initial.self.stores.items;
      read : read_seen l.self.stores.items ≡ read_seen l.initial.self.stores.items;
      long : length l.self.stores.items ≡ l._next;
    }
