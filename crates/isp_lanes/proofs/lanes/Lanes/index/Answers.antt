use Rattle.std.proofs.Common.{sym, ap, ◌∙◌, List, ℕ, map, ◌%◌, ◌^◌}
use Rattle.std.specs.List.{range_with_len}
use Rattle.isp_lanes.specs.Lanes.{written}
use Rattle.isp_lanes.proofs.Fits.{numbers_fit}
use Rattle.isp_lanes.proofs.Truths.{all_low}
use Rattle.isp_lanes.proofs.lanes.Lanes.index.Goals as goal

pub returns : goal.returns
returns g c =
    let n = g.row.N in
    let low = all_low 32 (range_with_len 0 n) (numbers_fit n c.told.ensures.wide) in
    c.blend.ensures ∙ ap (λ (us : List ℕ). written c.args.mask.now us c.args.self.now) (c.cut.ensures ∙ ap (map (λ a. a % 2 ^ 32)) c.numbers.ensures ∙ sym low)
