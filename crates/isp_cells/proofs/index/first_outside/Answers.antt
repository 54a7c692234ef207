use Rattle.std.proofs.Common.{sym, arith}
use Rattle.isp_base.specs.Access.{is_outside}
use Rattle.isp_base.specs.Maps.{lane_of}
use Rattle.isp_base.specs.Sets.{flag_of}
use Rattle.isp_base.specs.declared.types.Elem.TheVariants.{I64}
use Rattle.isp_lanes.proofs.Failing.{all_fine}
use Rattle.isp_cells.proofs.Indices.{within}
use Rattle.isp_cells.proofs.index.first_outside.Goals as goal

pub returns-then-are_below : goal.returns-then-are_below
returns-then-are_below g c =
    let a = c.args in
    let below = c.are_below.ensures c.if-are_below.true in
    sym (all_fine (is_outside I64 a.count) (flag_of a.mask.now) (lane_of a.places.now) g.row.N (λ p h. within a.count c.limit.result c.limit.ensures (lane_of a.places.now p) (let b = below p h in omega (arith, b, c.limit.type_inv)) (below p h)))
