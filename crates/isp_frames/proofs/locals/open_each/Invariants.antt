use Rattle.std.proofs.Common.{◌≡◌, ◌++◌, List, length, drop, map}
use Rattle.isp_base.specs.Rows.{Row}
use Rattle.isp_frames.specs.Begun.{new_stores, local_arrays, seen_array}
use Rattle.isp_frames.proofs.locals.open_each.Given as goal

-- what is open and what is left makes all
abbrev pub invariant-loop-local : goal.invariant-loop-local
invariant-loop-local g l =
    record {
      params : l.stores.params ≡ l.initial.stores.params;
      behind : (some : List Row) × (l.stores.rows ≡ l.initial.stores.rows ++ some);
      stores : l.initial.stores.rows ++ new_stores l.locals ≡ l.stores.rows ++ new_stores (drop l.local-index l.locals);
      arrays : map seen_array l.initial.arrays.items ++ local_arrays (length l.initial.stores.rows) l.locals ≡ map seen_array l.arrays.items ++ local_arrays (length l.stores.rows) (drop l.local-index l.locals);
    }
