use Rattle.std.proofs.Common.{◌≡◌, length}
use Rattle.isp_gang_arrays.specs.Stores.{stores_of}
use Rattle.isp_gang_arrays.proofs.stores.put_element.Given as goal

abbrev pub invariant-loop-next : goal.invariant-loop-next
invariant-loop-next l = record { same : stores_of l.stores.items ≡ stores_of l.initial.stores.items; long : length l.stores.items ≡ l._next }
