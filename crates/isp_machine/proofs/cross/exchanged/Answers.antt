use Rattle.std.proofs.Common.{◌≡◌, sym, subst}
use Rattle.isp_base.specs.Maps.{lane_of, on, over}
use Rattle.isp_base.specs.Sets.{flag_of}
use Rattle.isp_base.specs.Values.{number}
use Rattle.isp_base.specs.declared.types.Elem.TheVariants.{I32}
use Rattle.isp_code.specs.Lines.{exchanged}
use Rattle.isp_code.specs.declared.instr.Exchange.{Exchange}
use Rattle.isp_machine.proofs.cross.exchanged.Goals as goal

pub returns-in-Broadcast-clause-lanes : goal.returns-in-Broadcast-clause-lanes
returns-in-Broadcast-clause-lanes g c =
    let a = c.args in
    let m = flag_of a.mask.now in
    subst (λ (e : Exchange). lane_of c.broadcast.new.out.bits ≡ over (on m (exchanged e g.row.N (on m (lane_of a.x.now.bits)) (number I32 a.count))) (lane_of a.value.now.bits)) (sym c.in-Broadcast.is) c.broadcast.ensures.lanes

pub returns-in-Rotate-clause-lanes : goal.returns-in-Rotate-clause-lanes
returns-in-Rotate-clause-lanes g c =
    let a = c.args in
    let m = flag_of a.mask.now in
    subst (λ (e : Exchange). lane_of c.rotate.new.out.bits ≡ over (on m (exchanged e g.row.N (on m (lane_of a.x.now.bits)) (number I32 a.count))) (lane_of a.value.now.bits)) (sym c.in-Rotate.is) c.rotate.ensures.lanes

pub returns-in-Shift-clause-lanes : goal.returns-in-Shift-clause-lanes
returns-in-Shift-clause-lanes g c =
    let a = c.args in
    let m = flag_of a.mask.now in
    subst (λ (e : Exchange). lane_of c.shift.new.out.bits ≡ over (on m (exchanged e g.row.N (on m (lane_of a.x.now.bits)) (number I32 a.count))) (lane_of a.value.now.bits)) (sym c.in-Shift.is) c.shift.ensures.lanes
