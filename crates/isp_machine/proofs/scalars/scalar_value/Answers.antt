use Rattle.std.proofs.Common.{sym, subst, Ok}
use Rattle.isp_code.specs.declared.instr.ScalarInstr.{ScalarInstr}
use Rattle.isp_frames.specs.Moves.{ScalarIs}
use Rattle.isp_machine.proofs.scalars.scalar_value.Goals as goal

pub returns-in-Reduce-clause-value : goal.returns-in-Reduce-clause-value
returns-in-Reduce-clause-value g c =
    let a = c.args in
    subst (λ (i : ScalarInstr). ScalarIs a.here.now a.stores.now a.frame.now a.d i (Ok c.reduce.result)) (sym c.in-Reduce.is) (c.reduce.ensures.value a.stores.now)

pub returns-in-Extract-clause-value : goal.returns-in-Extract-clause-value
returns-in-Extract-clause-value g c =
    let a = c.args in
    subst (λ (i : ScalarInstr). ScalarIs a.here.now a.stores.now a.frame.now a.d i (Ok c.extract.result)) (sym c.in-Extract.is) (c.extract.ensures.value a.stores.now)
