use Rattle.std.proofs.Common.{ℕ, List, ◌++◌, ◌∙◌, ap, string_bytes}
use Rattle.isp_check_command.specs.Pages.{HintMessage}
use Rattle.isp_check_command.proofs.Pages.{next, whole}
use Rattle.isp_check_command.proofs.page.hint_page.Goals as goal

pub loop-hint-preserved : goal.loop-hint-preserved
loop-hint-preserved c =
    let old = string_bytes c.loop-hint.page in
    let grown = c.in_ok-push_str.ensures.bytes ∙ ap (λ (z : List ℕ). old ++ z) c.as_str.ensures.value in
    next (HintMessage c.args.request.now c.args.text.now) c.args.hints.now c.loop-hint.hint-index _ old _ _ c.loop-hint-test.true c.loop-hint.invariant c.in_ok-piece.ensures grown

pub returns : goal.returns
returns c = whole (HintMessage c.args.request.now c.args.text.now) c.args.hints.now c.loop-hint.hint-index _ c.loop-hint-test.false c.loop-hint.invariant
