use Rattle.std.proofs.Common.{sym, ap, ◌∙◌, set, true}
use Rattle.isp_lanes.proofs.MaskLanes.{lowest_some, lowest_none}
use Rattle.isp_lanes.proofs.mask.LaneMask.lowest.Goals as goal

pub returns-in-Some : goal.returns-in-Some
returns-in-Some g c =
    c.set.ensures ∙ ap (λ m. set m c.in-Some.lane true) c.none-lone.ensures
    ∙ lowest_some g.row.N c.args.self.now c.in-Some.lane c.told.ensures.long (sym c.position.ensures.value ∙ c.in-Some.is)

pub returns-in_default : goal.returns-in_default
returns-in_default g c = c.none-lone.ensures ∙ lowest_none g.row.N c.args.self.now c.told.ensures.long (sym c.position.ensures.value ∙ c.in_default.is)
