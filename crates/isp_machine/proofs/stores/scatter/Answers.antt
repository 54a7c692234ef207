use Rattle.std.proofs.Common.{sym, ap, ◌∙◌, subst, ◌+◌, rules}
use Rattle.isp_base.specs.declared.trap.Trap.{Trap}
use Rattle.isp_code.specs.Fine.{AllFine}
use Rattle.isp_code.specs.Operands.{operands}
use Rattle.isp_code.specs.declared.instr.Instr.{Instr}
use Rattle.isp_code.specs.declared.instr.Instr.TheVariants as instr
use Rattle.isp_frames.specs.Moves.{Fails}
use Rattle.isp_frames.specs.Rows.{FrameRows}
use Rattle.isp_machine.specs.Steps.{Comes}
use Rattle.isp_machine.specs.declared.stop.Step.{Step}
use Rattle.isp_machine.specs.declared.stop.Step.TheVariants.{Went}
use Rattle.isp_machine.proofs.Written.{array_low, array_there, array_elem_is, vector_elem_is, goes_scatter, fails_scatter}
use Rattle.isp_machine.proofs.stores.scatter.Goals as goal

pub scatter-requires : goal.scatter-requires
scatter-requires g c =
    let a = c.args in
    let h = a.here.now.routine in
    let f = a.frame.now in
    let i = c.in-Scatter in
    let o = subst (λ (z : Instr). AllFine a.here.now.code h (operands z)) i.is c.requires.operands in
    let there = o.0.0 in
    let shaped = c.requires.works.shaped in
    let elem = vector_elem_is h f shaped i.value o.1.1.0.0 ∙ o.1.1.0.1 ∙ sym (array_elem_is h a.stores.now f shaped c.requires.works.arrays i.array there) in (
      search rules,
      (
        array_low h a.stores.now f shaped c.requires.works.arrays i.array there,
        (
          search rules,
          (
            search rules,
            (
              search rules,
              (
                array_there h a.stores.now f shaped c.requires.works.arrays i.array there,
                (vector_elem_is h f shaped i.indices o.1.0.0 ∙ o.1.0.1, elem),
              ),
            ),
          ),
        ),
      ),
    )

pub returns-in-Ok : goal.returns-in-Ok
returns-in-Ok g c =
    let a = c.args in
    let i = c.in-Scatter in
    let o = subst (λ (z : Instr). AllFine a.here.now.code a.here.now.routine (operands z)) i.is c.requires.operands in
    subst (λ (d : Step). Comes a.here.now a.instr.now a.stores.now a.frame.now c.scatter.new.stores c.next.new.self d) (sym c.requires.went)
    (subst (λ (z : Instr). Comes a.here.now z a.stores.now a.frame.now c.scatter.new.stores c.next.new.self Went) (sym i.is)
    (goes_scatter a.here.now g.row.N c.requires.works.gang a.stores.now a.frame.now c.requires.works.shaped c.requires.works.arrays i.array i.indices i.value i.mask i.place o.0.0 _ _ _ c.in-Ok.ensures.inside c.in-Ok.ensures.written
    (c.next.ensures ∙ ap (λ (z : FrameRows). record z { pc = z.pc + 1 }) c.in-Ok.ensures.others)))

pub returns-in-Err : goal.returns-in-Err
returns-in-Err g c =
    let a = c.args in
    let i = c.in-Scatter in
    let o = subst (λ (z : Instr). AllFine a.here.now.code a.here.now.routine (operands z)) i.is c.requires.operands in (
      subst (λ (z : Instr). Fails a.here.now z a.stores.now a.frame.now c.trap.result) (sym i.is)
          (subst (λ (t : Trap). Fails a.here.now (instr.Scatter i.array i.indices i.value i.mask i.place) a.stores.now a.frame.now t) (sym c.trap.ensures)
          (fails_scatter a.here.now g.row.N c.requires.works.gang a.stores.now a.frame.now c.requires.works.shaped c.requires.works.arrays i.array i.indices i.value i.mask i.place o.0.0 c.in-Err.trap.instance c.in-Err.ensures.lowest)),
      c.in-Err.ensures.same_stores,
      c.in-Err.ensures.same,
    )
