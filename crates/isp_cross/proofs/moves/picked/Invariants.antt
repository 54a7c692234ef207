use Rattle.std.proofs.Common.{◌≡◌, ℕ, ◌<◌, slice_index, length}
use Rattle.isp_base.specs.declared.types.Elem.TheVariants.{I32}
use Rattle.isp_base.specs.Values.{number}
use Rattle.isp_base.specs.Cross.{instance}
use Rattle.isp_cross.proofs.moves.picked.Given as goal

abbrev pub invariant-loop-p : goal.invariant-loop-p
invariant-loop-p g l = (length l.lanes ≡ g.row.N) × ((q : ℕ) → q < l.p → slice_index l.lanes q ≡ slice_index l.x (instance g.row.N (number I32 (slice_index l.index q))))
