use Rattle.std.proofs.Common.{◌≡◌, sym, ap, ◌∙◌}
use Rattle.std.specs.Prelude.{IfOk}
use Rattle.isp_base.specs.Access.{element}
use Rattle.isp_base.specs.Maps.{lane_of, each1, on, over}
use Rattle.isp_base.specs.Sets.{flag_of}
use Rattle.isp_base.specs.declared.types.Elem.TheVariants.{I64}
use Rattle.isp_store.specs.LaneRows.{lists}
use Rattle.isp_store.specs.Own.{own}
use Rattle.isp_cells.proofs.Found.{along}
use Rattle.isp_store.proofs.Own.{own_rows}
use Rattle.isp_store.proofs.lane_array.LaneArray.gather_from.Goals as goal

pub returns-clause-lanes : goal.returns-clause-lanes
returns-clause-lanes g c =
    let a = c.args in
    let found = sym (own_rows c.self.inside.elem (lists c.self.inside.rows)) ∙ ap own c.self.view_is in
    along (λ j. IfOk c.gather.result (λ _. lane_of c.gather.new.into.bits ≡ over (λ p. each1 (λ x. found j (element I64 x) p) (on (flag_of a.mask.now) (lane_of a.places.now) p)) (lane_of a.into.now.bits))) c.gather.ensures.lanes
