-- Whatever comes after the indices that are left comes after all of them.
use Rattle.std.proofs.Common.{drop, []}
use Rattle.isp_lower.specs.Emitted.{Appends}
use Rattle.isp_lower.specs.declared.types.Body.{Body}
use Rattle.isp_masks.specs.Written.{index_codes}
use Rattle.isp_masks.proofs.ranges.outer_indices.Given as goal

abbrev pub invariant-loop-x : goal.invariant-loop-x
invariant-loop-x l =
    (c : Body) → Appends l.b c (λ pc p. index_codes l.k.number (drop l.x-index l.set)) [] → Appends l.initial.b c (λ pc p. index_codes l.k.number l.set) []
