use Rattle.std.proofs.Common.{ap, ◌∙◌, ℕ, List, get_or}
use Rattle.isp_base.specs.Rows.{Row}
use Rattle.isp_lanes.specs.Lanes.{written}
use Rattle.isp_cross.proofs.Written.{get_or-active}
use Rattle.isp_cross.proofs.moves.active.Goals as goal

pub returns-clause-value : goal.returns-clause-value
returns-clause-value g c p =
    let mask = c.args.mask.now in
    let xs = c.args.x.now.bits in
    ap (λ (bs : List ℕ). get_or bs p 0) (c.bits.ensures.value ∙ ap (λ (r : Row). r.bits) (c.copy.ensures ∙ ap (written mask xs) c.zero-lanes.ensures))
    ∙ get_or-active mask xs g.row.N c.told.ensures.long c.told-2.ensures.long p
