use Rattle.std.proofs.Common.{ap, ◌∙◌, ◌&&◌, not, List, Bool}
use Rattle.std.specs.List.{list_any}
use Rattle.std.specs.Simd.Lanes.{zip2}
use Rattle.isp_lanes.proofs.MaskLanes.{none_off}
use Rattle.isp_lanes.proofs.mask.LaneMask.all.Goals as goal

pub returns : goal.returns
returns g c =
    let off : List Bool → Bool = λ ms. not (list_any (λ b. b) ms) in
    ap not c.any.ensures
    ∙ ap off (c.and_not.ensures ∙ ap (λ (ms : List Bool). zip2 (λ a b. a && not b) ms c.args.self.now) c.full.ensures)
    ∙ none_off g.row.N c.args.self.now c.told.ensures.long
