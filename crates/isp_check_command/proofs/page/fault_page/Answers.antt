use Rattle.std.proofs.Common.{ℕ, List, ◌++◌, ◌∙◌, ap, string_bytes}
use Rattle.isp_check_command.specs.Pages.{FaultMessage}
use Rattle.isp_check_command.proofs.Pages.{next, whole}
use Rattle.isp_check_command.proofs.page.fault_page.Goals as goal

pub loop-fault-preserved : goal.loop-fault-preserved
loop-fault-preserved c =
    let old = string_bytes c.loop-fault.page in
    let grown = c.in_ok-push_str.ensures.bytes ∙ ap (λ (z : List ℕ). old ++ z) c.as_str.ensures.value in
    next (FaultMessage c.args.request.now c.args.text.now) c.args.faults.now c.loop-fault.fault-index _ old _ _ c.loop-fault-test.true c.loop-fault.invariant c.in_ok-piece.ensures grown

pub returns : goal.returns
returns c = whole (FaultMessage c.args.request.now c.args.text.now) c.args.faults.now c.loop-fault.fault-index _ c.loop-fault-test.false c.loop-fault.invariant
