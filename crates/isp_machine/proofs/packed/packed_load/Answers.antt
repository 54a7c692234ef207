use Rattle.std.proofs.Common.{sym, ap, ◌∙◌, subst, ◌+◌, ◌<◌, ◌≤◌, ◌^◌, unsigned_abs, arith}
use Rattle.std.specs.Prelude.{slice_set}
use Rattle.isp_base.specs.Cross.{packed_index}
use Rattle.isp_base.specs.Maps.{on, over}
use Rattle.isp_base.specs.Sets.{flag_of}
use Rattle.isp_base.specs.Values.{number, width}
use Rattle.isp_base.specs.declared.trap.Trap.{Trap}
use Rattle.isp_base.specs.declared.types.Elem.{Elem}
use Rattle.isp_base.specs.declared.types.Elem.TheVariants.{I64}
use Rattle.isp_code.specs.Registers.{elem_of}
use Rattle.isp_code.specs.declared.instr.Instr.TheVariants as instr
use Rattle.isp_store.specs.Held.{elements}
use Rattle.isp_frames.specs.Moves.{Fails}
use Rattle.isp_frames.specs.Rows.{FrameRows}
use Rattle.isp_machine.proofs.Consecutive.{goes_packed_load, fails_packed_load}
use Rattle.isp_machine.proofs.packed.packed_load.Goals as goal

pub returns-in-Ok-clause-ok : goal.returns-in-Ok-clause-ok
returns-in-Ok-clause-ok g c =
    let a = c.args in
    let few : c.in-Ok.count ≤ 64 = c.in-Ok.ensures.few in
    let small : c.in-Ok.count < 2 ^ width (elem_of a.here.now.routine a.d) = subst (λ (t : Elem). c.in-Ok.count < 2 ^ width t) (sym c.requires.operands.0.1) (omega (arith, few)) in
    let y = c.requires.operands.1.1.1.0.0 in
    goes_packed_load a.here.now a.stores.now a.frame.now a.access.array a.access.index a.access.mask a.access.place c.requires.operands.1.0.1 g.row.N
    c.store-store.result c.scalar-index.result (flag_of c.mask.result.now) c.requires.works.gang c.store-store.ensures.value c.store-store.ensures.size
    c.scalar-index.ensures.value c.mask.ensures c.requires.works.shaped c.requires.works.arrays a.y a.d c.requires.operands.0.0 y c.in-Ok.count small
    c.in-Ok.ensures.count c.pack_load.new.into (c.in-Ok.ensures.elem ∙ c.vector.ensures.elem)
    (c.in-Ok.ensures.lanes ∙ ap (over (on (flag_of c.mask.result.now)
    (λ p. elements a.stores.now c.store-store.result
    (unsigned_abs (packed_index (number I64 c.scalar-index.result) (flag_of c.mask.result.now) p))))) c.vector.ensures.lanes) c.next.new.self
    c.in-Ok.ensures.inside
    (c.next.ensures ∙ ap (λ (z : FrameRows). record z { pc = z.pc + 1 }) (c.set_scalar.ensures ∙ ap (λ (z : FrameRows). record z { scalars = slice_set z.scalars a.d.number c.in-Ok.count }) c.set_vector.ensures))

pub returns-in-Err-clause-err : goal.returns-in-Err-clause-err
returns-in-Err-clause-err g c =
    let a = c.args in
    subst (λ (t : Trap). Fails a.here.now (instr.PackedLoad a.d a.access.array a.access.index a.y a.access.mask a.access.place) a.stores.now a.frame.now t) (sym c.trap.ensures)
    (fails_packed_load a.here.now a.stores.now a.frame.now a.access.array a.access.index a.access.mask a.access.place c.requires.operands.1.0.1
    g.row.N c.store-store.result c.scalar-index.result (flag_of c.mask.result.now) c.requires.works.gang c.store-store.ensures.value
    c.store-store.ensures.size c.scalar-index.ensures.value c.mask.ensures c.requires.works.shaped c.requires.works.arrays a.y a.d c.in-Err.trap.instance
    c.in-Err.ensures.lowest)
