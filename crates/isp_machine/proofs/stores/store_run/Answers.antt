use Rattle.std.proofs.Common.{sym, subst}
use Rattle.isp_base.specs.Maps.{lane_of}
use Rattle.isp_base.specs.Sets.{flag_of}
use Rattle.isp_base.specs.declared.trap.Trap.{Trap}
use Rattle.isp_code.specs.declared.instr.Instr.TheVariants as instr
use Rattle.isp_frames.specs.Moves.{Fails}
use Rattle.isp_machine.proofs.Consecutive.{goes_run, fails_run}
use Rattle.isp_machine.proofs.stores.store_run.Goals as goal

pub returns-in-Ok-clause-ok : goal.returns-in-Ok-clause-ok
returns-in-Ok-clause-ok g c =
    let a = c.args in
    goes_run a.here.now a.stores.now a.frame.now a.access.array a.access.index a.access.mask a.access.place c.requires.operands.0.1 g.row.N
    c.store-store.result c.scalar-index.result (flag_of c.mask.result.now) c.requires.works.gang c.store-store.ensures.value c.store-store.ensures.size
    c.scalar-index.ensures.value c.mask.ensures c.requires.works.shaped c.requires.works.arrays a.y (lane_of c.vector-value.result.now.bits)
    c.vector-value.ensures.lanes c.store_run.new.self c.next.new.self c.in-Ok.ensures.inside c.in-Ok.ensures.elements c.in-Ok.ensures.shapes
    c.next.ensures

pub returns-in-Err-clause-err : goal.returns-in-Err-clause-err
returns-in-Err-clause-err g c =
    let a = c.args in
    subst (λ (t : Trap). Fails a.here.now (instr.StoreRun a.access.array a.access.index a.y a.access.mask a.access.place) a.stores.now a.frame.now t) (sym c.trap.ensures)
    (fails_run a.here.now a.stores.now a.frame.now a.access.array a.access.index a.access.mask a.access.place c.requires.operands.0.1 g.row.N
    c.store-store.result c.scalar-index.result (flag_of c.mask.result.now) c.requires.works.gang c.store-store.ensures.value c.store-store.ensures.size
    c.scalar-index.ensures.value c.mask.ensures c.requires.works.shaped c.requires.works.arrays a.y c.in-Err.trap.instance c.in-Err.ensures.lowest)
