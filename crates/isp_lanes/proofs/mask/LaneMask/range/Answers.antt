use Rattle.std.proofs.Common.{ap₂, ◌∙◌, ◌&&◌, nat_lt}
use Rattle.std.specs.List.{range_with_len}
use Rattle.std.specs.Simd.Lanes.{zip2}
use Rattle.std.proofs.lemmas.List.FromFn.{length-range_with_len}
use Rattle.isp_lanes.specs.Lanes.{is_on}
use Rattle.isp_lanes.proofs.Rows.{map_same}
use Rattle.isp_lanes.proofs.MaskLanes.{full_hits}
use Rattle.isp_lanes.proofs.mask.LaneMask.range.Goals as goal

pub returns : goal.returns
returns g c =
    let n = g.row.N in
    let count = c.numbers_between-count.result in
    c.nonzero.ensures ∙ ap₂ (zip2 (λ m b. m && is_on b)) c.full.ensures c.below.ensures
    ∙ full_hits (λ p. nat_lt p count) (range_with_len 0 n) n (length-range_with_len 0 n)
    ∙ map_same (λ _. Unit {0}) _ _ (λ p _. c.numbers_between-count.ensures p) (range_with_len 0 n) (λ _. tt)
