use Rattle.std.proofs.Common.{◌≡◌, None}
use Rattle.std.proofs.lemmas.Result.{IfOk-weaker}
use Rattle.isp_typed.specs.Views.{program_of}
use Rattle.isp_verify.specs.Faults.{code_fault}
use Rattle.isp_masks_code.specs.Agreement.{Agrees}
use Rattle.isp_masks_code.specs.Lowered.{HasCode}
use Rattle.isp_masks_code.proofs.Lemmas.{lowered_agrees}
use Rattle.isp_masks.proofs.lowering.lower.Goals as goal

pub returns-clause-agrees : goal.returns-clause-agrees
returns-clause-agrees c =
    let p = program_of c.args.checked.now in
    IfOk-weaker c.program.result (λ code. HasCode p code) (λ code. Agrees p code)
    (λ code has. lowered_agrees.agrees p code c.program.ensures.accepted has) c.program.ensures.code

pub returns-clause-accepted : goal.returns-clause-accepted
returns-clause-accepted c =
    let p = program_of c.args.checked.now in
    IfOk-weaker c.program.result (λ code. HasCode p code) (λ code. code_fault code ≡ None)
    (λ code has. lowered_agrees.accepted p code c.program.ensures.accepted has) c.program.ensures.code
