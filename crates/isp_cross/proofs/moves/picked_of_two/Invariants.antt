use Rattle.std.proofs.Common.{◌≡◌, ℕ, ◌<◌, ◌*◌, Some, slice_index, length}
use Rattle.isp_base.specs.declared.types.Elem.TheVariants.{I32}
use Rattle.isp_base.specs.Values.{number}
use Rattle.isp_base.specs.Cross.{instance, of_two}
use Rattle.isp_cross.proofs.moves.picked_of_two.Given as goal

abbrev pub invariant-loop-p : goal.invariant-loop-p
invariant-loop-p g l = (length l.lanes ≡ g.row.N)
    × ((q : ℕ) → q < l.p → slice_index l.lanes q ≡ of_two g.row.N (λ r. Some (slice_index l.x r)) (λ r. Some (slice_index l.y r)) (instance (2 * g.row.N) (number I32 (slice_index l.index q))))
