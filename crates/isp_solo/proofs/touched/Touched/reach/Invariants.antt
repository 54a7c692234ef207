use Rattle.std.proofs.Common.{◌≡◌, length}
use Rattle.isp_solo.specs.Touched.{touched_at}
use Rattle.isp_solo.proofs.touched.Touched.reach.Given as goal

abbrev pub invariant-loop-next : goal.invariant-loop-next
invariant-loop-next l =
    record {
      same : touched_at l.self ≡ touched_at l.initial.self;
      others : l.self.others ≡ l.initial.self.others;
      long : length l.self.first.items ≡ l._next;
    }
