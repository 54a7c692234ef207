use Rattle.std.proofs.Common.{ap, ◌∙◌}
use Rattle.isp_base.specs.Access.{element}
use Rattle.isp_base.specs.Maps.{lane_of}
use Rattle.isp_base.specs.Rows.{Row}
use Rattle.isp_base.specs.declared.types.Elem.TheVariants.{I64}
use Rattle.isp_cells.specs.Cells.{found}
use Rattle.isp_cells.proofs.Found.{over_found}
use Rattle.isp_cells.proofs.gather.gathered.Goals as goal

pub returns-in-Ok-clause-lanes : goal.returns-in-Ok-clause-lanes
returns-in-Ok-clause-lanes g c =
    let a = c.args in
    ap (λ (r : Row). lane_of r.bits) c.in-Ok.ensures.value ∙ over_found g.row.N a.mask.now (λ lane place. found g.C.Cell.find a.cells.now (element I64 place) lane) a.places.now a.into.now.bits c.told.ensures.long c.told-places c.told-2.ensures.long
