use Rattle.std.proofs.Common.{sym, ◌∙◌, subst, Err, rules}
use Rattle.isp_base.specs.declared.trap.Trap.{Trap}
use Rattle.isp_code.specs.declared.instr.VectorInstr.TheVariants as vector
use Rattle.isp_frames.specs.Moves.{VectorIs}
use Rattle.isp_frames.proofs.Stored.{gathered, not_gathered}
use Rattle.isp_machine.proofs.Written.{array_low, array_there, array_elem_is, vector_elem_is}
use Rattle.isp_machine.proofs.vectors.gather.Goals as goal

pub gather-requires : goal.gather-requires
gather-requires g c =
    let a = c.args in
    let h = a.here.now.routine in
    let f = a.frame.now in
    let o = c.requires.operands in
    let there = o.1.0.0 in
    let shaped = c.requires.works.shaped in
    let opened = c.requires.works.arrays in
    let elem = vector_elem_is h f shaped a.d o.0.0 ∙ sym o.1.0.2 ∙ sym (array_elem_is h a.stores.now f shaped opened a.access.array there) in (
      search rules,
      (
        search rules,
        (
          array_low h a.stores.now f shaped opened a.access.array there,
          (
            search rules,
            (
              search rules,
              (
                array_there h a.stores.now f shaped opened a.access.array there,
                (vector_elem_is h f shaped a.access.index o.1.1.0.0 ∙ o.1.1.0.1, elem),
              ),
            ),
          ),
        ),
      ),
    )

pub returns-in-Ok-clause-ok : goal.returns-in-Ok-clause-ok
returns-in-Ok-clause-ok g c =
    let a = c.args in
    record {
      value = _;
      elem = c.in-Ok.ensures.elem;
      written = record {
        lanes = _;
        value = gathered a.here.now a.stores.now a.frame.now a.access.array a.access.index a.access.mask a.d
            a.access.place c.requires.works.arrays c.requires.operands.1.0.0 g.row.N c.requires.works.gang c.in-Ok.ensures.inside;
        bits = c.in-Ok.ensures.lanes;
      };
      now = c.in-Ok.ensures.others;
    }

pub returns-in-Err-clause-err : goal.returns-in-Err-clause-err
returns-in-Err-clause-err g c =
    let a = c.args in
    subst (λ (t : Trap). VectorIs a.here.now a.stores.now a.frame.now a.d (vector.Gather a.access.array a.access.index a.access.mask a.access.place) (Err t)) (sym c.trap.ensures)
    (not_gathered a.here.now a.stores.now a.frame.now a.access.array a.access.index a.access.mask a.d a.access.place c.requires.works.arrays c.requires.operands.1.0.0 g.row.N c.requires.works.gang c.in-Err.trap.instance c.in-Err.ensures.lowest)
