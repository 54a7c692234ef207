use Rattle.std.proofs.Common.{refl, sym, subst, Err}
use Rattle.isp_base.specs.declared.trap.Trap.{Trap}
use Rattle.isp_code.specs.declared.instr.VectorInstr.TheVariants as vector
use Rattle.isp_frames.specs.Moves.{VectorIs}
use Rattle.isp_frames.specs.Views.{masks_at}
use Rattle.isp_machine.proofs.Consecutive.{run_loaded, run_not_loaded}
use Rattle.isp_machine.proofs.vectors.load_run.Goals as goal

pub returns-in-Ok-clause-ok : goal.returns-in-Ok-clause-ok
returns-in-Ok-clause-ok g c =
    let a = c.args in
    record {
      value = _;
      elem = c.in-Ok.ensures.elem;
      written = record {
        lanes = _;
        value = run_loaded a.here.now a.stores.now a.frame.now a.access.array a.access.index a.access.mask a.access.place c.requires.operands.1.0.1
            g.row.N c.store-store.result c.scalar-index.result (masks_at a.frame.now a.access.mask.number) c.requires.works.gang c.store-store.ensures.value
            c.store-store.ensures.size c.scalar-index.ensures.value refl a.d c.in-Ok.ensures.inside;
        bits = c.in-Ok.ensures.lanes;
      };
      now = c.in-Ok.ensures.others;
    }

pub returns-in-Err-clause-err : goal.returns-in-Err-clause-err
returns-in-Err-clause-err g c =
    let a = c.args in
    subst (λ (t : Trap). VectorIs a.here.now a.stores.now a.frame.now a.d (vector.LoadRun a.access.array a.access.index a.access.mask a.access.place) (Err t)) (sym c.trap.ensures)
    (run_not_loaded a.here.now a.stores.now a.frame.now a.access.array a.access.index a.access.mask a.access.place c.requires.operands.1.0.1 g.row.N
    c.store-store.result c.scalar-index.result (masks_at a.frame.now a.access.mask.number) c.requires.works.gang c.store-store.ensures.value
    c.store-store.ensures.size c.scalar-index.ensures.value refl a.d c.in-Err.trap.instance c.in-Err.ensures.lowest)
