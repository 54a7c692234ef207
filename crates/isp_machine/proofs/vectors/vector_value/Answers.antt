use Rattle.std.proofs.Common.{sym, subst, Err}
use Rattle.std.specs.Prelude.{IfErr}
use Rattle.isp_code.specs.declared.instr.VectorInstr.{VectorInstr}
use Rattle.isp_frames.specs.Moves.{VectorIs}
use Rattle.isp_machine.proofs.vectors.vector_value.Goals as goal

pub returns-in-Gather-clause-err : goal.returns-in-Gather-clause-err
returns-in-Gather-clause-err g c =
    subst (λ (i : VectorInstr). IfErr c.gather.result (λ t. VectorIs c.args.here.now c.args.stores.now c.args.frame.now c.args.d i (Err t))) (sym c.in-Gather.is) c.gather.ensures.err

pub returns-in-LoadRun-clause-err : goal.returns-in-LoadRun-clause-err
returns-in-LoadRun-clause-err g c =
    subst (λ (i : VectorInstr). IfErr c.load_run.result (λ t. VectorIs c.args.here.now c.args.stores.now c.args.frame.now c.args.d i (Err t))) (sym c.in-LoadRun.is) c.load_run.ensures.err
