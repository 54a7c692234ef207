use Rattle.std.proofs.Common.{◌≡◌, ◌-◌, ◌++◌, map}
use Rattle.isp_frames.specs.Begun.{seen_array, stores_from}
use Rattle.isp_frames.proofs.passed.argument_arrays.Given as goal

abbrev pub invariant-loop-store : goal.invariant-loop-store
invariant-loop-store g l = stores_from 0 l.count ≡ map seen_array l.arrays.items ++ stores_from l.store (l.count - l.store)
