use Rattle.std.proofs.Common.{refl, sym, ap, ◌∙◌, false}
use Rattle.isp_base.specs.Maps.{lane_of}
use Rattle.isp_base.specs.Rows.{Row}
use Rattle.isp_base.specs.Sets.{flag_of}
use Rattle.isp_lanes.proofs.Failing.{all_fine}
use Rattle.isp_cells.specs.Cells.{found}
use Rattle.isp_cells.proofs.Found.{over_found}
use Rattle.isp_cells.proofs.gather.loaded.Goals as goal

pub unreachable-requires : goal.unreachable-requires
unreachable-requires g c =
    let a = c.args in
    let none = all_fine (λ x. false) (flag_of a.mask.now) (lane_of a.places.now) g.row.N (λ p h. refl) in
    let some = c.in-Err.ensures.lowest in
    let both = sym none ∙ some in
    cc

pub returns-clause-lanes : goal.returns-clause-lanes
returns-clause-lanes g c =
    let a = c.args in
    ap (λ (r : Row). lane_of r.bits) c.in-Ok.ensures.value ∙ over_found g.row.N a.mask.now (λ lane place. found g.C.Cell.find a.cells.now place lane) a.places.now a.into.now.bits c.told.ensures.long c.told-places c.told-2.ensures.long
