use Rattle.std.proofs.Common.{◌≡◌, length}
use Rattle.isp_gang_arrays.specs.Stores.{own_of}
use Rattle.isp_gang_arrays.proofs.stores.put_own.Given as goal

abbrev pub invariant-loop-next : goal.invariant-loop-next
invariant-loop-next l = record { same : own_of l.arrays.items ≡ own_of l.initial.arrays.items; long : length l.arrays.items ≡ l._next }
