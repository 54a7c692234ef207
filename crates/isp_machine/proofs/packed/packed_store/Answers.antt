use Rattle.std.proofs.Common.{sym, ap, ◌∙◌, subst, ◌+◌, ◌<◌, ◌≤◌, ◌^◌, arith}
use Rattle.isp_base.specs.Maps.{lane_of}
use Rattle.isp_base.specs.Sets.{flag_of}
use Rattle.isp_base.specs.Values.{width}
use Rattle.isp_base.specs.declared.trap.Trap.{Trap}
use Rattle.isp_base.specs.declared.types.Elem.{Elem}
use Rattle.isp_code.specs.Registers.{elem_of}
use Rattle.isp_code.specs.declared.instr.Instr.TheVariants as instr
use Rattle.isp_frames.specs.Moves.{Fails}
use Rattle.isp_frames.specs.Rows.{FrameRows}
use Rattle.isp_machine.proofs.Consecutive.{goes_packed_store, fails_packed_store}
use Rattle.isp_machine.proofs.packed.packed_store.Goals as goal

pub returns-in-Ok-clause-ok : goal.returns-in-Ok-clause-ok
returns-in-Ok-clause-ok g c =
    let a = c.args in
    let few : c.in-Ok.count ≤ 64 = c.in-Ok.ensures.few in
    let small : c.in-Ok.count < 2 ^ width (elem_of a.here.now.routine a.d) = subst (λ (t : Elem). c.in-Ok.count < 2 ^ width t) (sym c.requires.operands.0.1) (omega (arith, few)) in
    goes_packed_store a.here.now a.stores.now a.frame.now a.access.array a.access.index a.access.mask a.access.place c.requires.operands.1.0.1 g.row.N
    c.store-store.result c.scalar-index.result (flag_of c.mask.result.now) c.requires.works.gang c.store-store.ensures.value c.store-store.ensures.size
    c.scalar-index.ensures.value c.mask.ensures c.requires.works.shaped c.requires.works.arrays a.y (lane_of c.vector-value.result.now.bits)
    c.vector-value.ensures.lanes a.d c.requires.operands.0.0 c.in-Ok.count small c.in-Ok.ensures.count c.pack_store.new.self c.next.new.self
    c.in-Ok.ensures.inside c.in-Ok.ensures.elements c.in-Ok.ensures.shapes
    (c.next.ensures ∙ ap (λ (z : FrameRows). record z { pc = z.pc + 1 }) c.set_scalar.ensures)

pub returns-in-Err-clause-err : goal.returns-in-Err-clause-err
returns-in-Err-clause-err g c =
    let a = c.args in
    subst (λ (t : Trap). Fails a.here.now (instr.PackedStore a.d a.access.array a.access.index a.y a.access.mask a.access.place) a.stores.now a.frame.now t) (sym c.trap.ensures)
    (fails_packed_store a.here.now a.stores.now a.frame.now a.access.array a.access.index a.access.mask a.access.place c.requires.operands.1.0.1
    g.row.N c.store-store.result c.scalar-index.result (flag_of c.mask.result.now) c.requires.works.gang c.store-store.ensures.value
    c.store-store.ensures.size c.scalar-index.ensures.value c.mask.ensures c.requires.works.shaped c.requires.works.arrays a.y a.d c.in-Err.trap.instance
    c.in-Err.ensures.lowest)
